use Prim.Native.Nat.{◌≤◌, ◌-◌}
use mathlib.Core.Path.{◌≡◌}
use lib.ListN.{length, take, drop, replicate}
use Rattle.model.specs.Request.{no_line}
use Rattle.lines.proofs.Orders.{LinesRun}
use Rattle.lines.proofs.read_lines.Given as goal

abbrev pub invariant-loop-i : goal.invariant-loop-i
invariant-loop-i l = record { long : length l.lines ≡ 15; rest : drop l.i l.lines ≡ replicate (15 - l.i) no_line; run : LinesRun l.i l.s l.at l.next (take l.i l.lines); onward : 1 ≤ l.i → l.next ≤ length l.s }
