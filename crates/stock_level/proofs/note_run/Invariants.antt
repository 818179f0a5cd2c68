use mathlib.Core.List.{[]}
use lib.ListN.{length}
use Rattle.stock_level.specs.Notes.{note_all, low_at, items_in}
use Prim.Native.Nat.{◌≤◌, ◌*◌}
use mathlib.Core.Path.{◌≡◌}
use Rattle.stock_level.proofs.note_run.Given as goal

abbrev pub invariant-loop-i : goal.invariant-loop-i
invariant-loop-i l = (length l.list ≤ 15 * l.i) × (l.list ≡ note_all (low_at l.b l.stock l.threshold) [] (items_in l.b l.run l.i))
