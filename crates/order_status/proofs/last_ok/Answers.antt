use native.Mathlib.Omega.{arith}
use Rattle.order_status.proofs.Stages.{too_high}
use Rattle.model.proofs.TestLaws.{and_same}
use borrow.Author.Tests.{not-false}
use mathlib.Core.Bool.{true, false}
use mathlib.Core.Path.{refl, sym, ap, ◌∙◌}
use mathlib.Core.Bool.{not}
use Rattle.order_status.proofs.last_ok.Goals as goal

pub returns-then-order-book : goal.returns-then-order-book
returns-then-order-book c =
    and_same {s = true} (sym (not-false c.long_ok.result (ap not c.if-not-long_ok.false)) ∙ c.long_ok.ensures) (and_same {s = false} (too_high c.args.book.now.dims c.args.book.now.nums.now c.args.last.now c.args.w c.args.k c.args.c c.requires.1.1.1 (sym c.long_ok.ensures ∙ not-false c.long_ok.result (ap not c.if-not-long_ok.false)) c.requires.1.1.0 (omega (arith, c.last_of-order.ensures, c.if-order-book.true))) refl)
