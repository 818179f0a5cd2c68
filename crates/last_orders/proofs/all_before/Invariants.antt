use Rattle.last_orders.proofs.Passing.{Found}
use Rattle.std.proofs.Common.{◌-◌, ◌≤◌}
use Rattle.last_orders.proofs.all_before.Given as goal

abbrev pub invariant-loop-i : goal.invariant-loop-i
invariant-loop-i l = (l.i ≤ l.turns) × Found l.last l.p l.next l.half l.low l.high l.i

abbrev pub decreases-loop-i : goal.decreases-loop-i
decreases-loop-i l = l.turns - l.i
