use Rattle.model.specs.Opening.{district_new}
use Rattle.rows.proofs.Loops.{all_over}
use mathlib.Core.Path.{refl}
use borrow.Author.Rules.{rules}
use Rattle.opening.proofs.districts_new.Goals as goal

pub returns : goal.returns
returns c = all_over 10 (district_new c.args.book.now.dims c.args.book.now.nums.now c.args.names.now c.args.w) c.all.ensures.ran refl (λ i t q k. (search rules, λ h. search rules))
