use Rattle.model.proofs.Lifting.{lifts-not}
use Rattle.model.proofs.RuleLaws.{lifts_so, restock-keeps, restock-lifts}
use mathlib.Core.Path.{sym}
use native.Mathlib.Omega.{arith}
use Rattle.new_order_entering.proofs.restocked.Goals as goal

pub returns-then-margin-quantity : goal.returns-then-margin-quantity
returns-then-margin-quantity c =
    (sym (restock-keeps _ _ _ _ c.if-margin-quantity.true), (sym (lifts-not _ _ _ c.if-margin-quantity.true), omega arith))

pub returns : goal.returns
returns c =
    (sym (restock-lifts _ _ _ _ c.if-margin-quantity.false), (sym (lifts_so _ _ _ c.if-margin-quantity.false), omega (arith, c.requires.0.low, c.requires.0.both)))
