use Prim.Native.Nat.{min, max}
use Rattle.lookup.proofs.Extremes.{Kept}
use Prim.Native.Nat.{◌≤◌, ◌-◌}
use Rattle.lookup.proofs.District.names_ok.Given as goal

abbrev pub invariant-loop-i : goal.invariant-loop-i
invariant-loop-i l = (l.i ≤ l.self.count) × (Kept min 255 l.self.names.now l.self.base l.low l.i × Kept max 0 l.self.names.now l.self.base l.high l.i)

abbrev pub decreases-loop-i : goal.decreases-loop-i
decreases-loop-i l = l.self.count - l.i
