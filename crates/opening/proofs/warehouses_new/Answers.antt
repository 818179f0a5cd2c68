use Rattle.model.specs.Opening.{warehouse_new}
use Rattle.rows.proofs.Loops.{all_over}
use mathlib.Core.Path.{refl}
use borrow.Author.Rules.{rules}
use Rattle.opening.proofs.warehouses_new.Goals as goal

pub returns : goal.returns
returns c = all_over c.args.book.now.dims.warehouses (warehouse_new c.args.book.now.dims c.args.book.now.nums.now c.args.names.now) c.all.ensures.ran refl (λ i t q k. (search rules, λ h. search rules))
