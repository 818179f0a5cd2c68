use mathlib.Core.Path.{◌≡◌}
use lib.ListN.{length, take}
use Rattle.lines.specs.Fields.{Run}
use Rattle.lines.proofs.numbers_at.Given as goal

abbrev pub invariant-loop-i : goal.invariant-loop-i
invariant-loop-i g l = record { long : length l.values ≡ g.row.N; run : Run l.i l.s l.at l.next (take l.i l.values) }
