use Rattle.opening.proofs.Runs.{customer_new_lem}
use Rattle.opening.specs.New.{customer_new}
use Rattle.rows.proofs.Runs.{customer-run}
use Rattle.rows.proofs.Loops.{all_over}
use mathlib.Core.Path.{refl}
use native.Mathlib.Omega.{arith}
use borrow.Author.Rules.{rules}
use Rattle.std.proofs.lemmas.Iterator.{serves_from_Range}
use Rattle.opening.proofs.new_customers.Goals as goal

pub all-requires-clause-callable : goal.all-requires-clause-callable
all-requires-clause-callable c = serves_from_Range (λ i q k. search rules) (λ i l h. let r = customer-run c.args.book.now.dims c.args.w c.args.k i c.requires.0 c.requires.1 h in grind (arith, c.args.book.now.booked.dimsd, c.args.book.now.booked))

pub returns : goal.returns
returns c = all_over c.args.book.now.dims.customers (customer_new c.args.book.now.dims c.args.book.now.nums.now c.args.w c.args.k) c.all.ensures.ran refl (λ i t q k. (search rules, λ h. customer_new_lem c.args.book.now.dims c.args.book.now.nums.now c.args.w c.args.k i c.requires.0 c.requires.1 h c.customer_at-base.ensures.0 (search rules)))
