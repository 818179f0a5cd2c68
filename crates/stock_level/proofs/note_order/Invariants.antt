use Rattle.stock_level.specs.Notes.{note_all, low_at, item_in}
use Rattle.model.specs.Lists.{up_to}
use Rattle.model.specs.Store.{from}
use Rattle.model.specs.Numbers.{nat}
use lib.ListN.{length}
use Prim.Native.Nat.{◌≤◌, ◌+◌}
use mathlib.Core.Path.{◌≡◌}
use Rattle.stock_level.proofs.note_order.Given as goal

abbrev pub invariant-loop-j : goal.invariant-loop-j
invariant-loop-j l = (l.lines ≡ nat (from l.b l.p 3)) × ((length l.list ≤ length l.initial.list + l.j) × (l.list ≡ note_all (low_at l.b l.stock l.threshold) l.initial.list (up_to l.j (item_in l.b l.p))))
