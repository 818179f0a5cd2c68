use Rattle.opening.proofs.Runs.{item-used}
use Rattle.model.specs.Used.{item_used}
use Rattle.rows.proofs.Runs.{item-run}
use Rattle.rows.proofs.Loops.{all_over}
use mathlib.Core.Path.{refl}
use native.Mathlib.Omega.{arith}
use borrow.Author.Rules.{rules}
use Rattle.std.proofs.lemmas.Iterator.{serves_from_Range}
use Rattle.opening.proofs.items_used.Goals as goal

pub all-requires-clause-callable : goal.all-requires-clause-callable
all-requires-clause-callable c = serves_from_Range (λ i q k. search rules) (λ i l h. let r = item-run c.args.book.now.dims i h in grind (arith, c.args.book.now.booked.dimsd, c.args.book.now.booked))

pub returns : goal.returns
returns c = all_over c.args.book.now.dims.items (item_used c.args.book.now.dims c.args.book.now.nums.now) c.all.ensures.ran refl (λ i t q k. (search rules, λ h. item-used c.args.book.now.dims c.args.book.now.nums.now i h c.item_at-base.ensures.0 (search rules)))
