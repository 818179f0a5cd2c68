use Rattle.topup.proofs.Rows.{Kept}
use Rattle.std.proofs.Common.{◌-◌, ◌≤◌}
use Rattle.topup.proofs.rows_ok.Given as goal

abbrev pub invariant-loop-i : goal.invariant-loop-i
invariant-loop-i l = (l.i ≤ l.n) × Kept l.topup l.low l.high l.i

abbrev pub decreases-loop-i : goal.decreases-loop-i
decreases-loop-i l = l.n - l.i
