use Prim.Native.Nat.{min, max}
use Rattle.rows.proofs.Rewriting.{Rewriting}
use mathlib.Core.Path.{◌≡◌}
use Prim.Native.Nat.{◌≤◌, ◌-◌, ◌+◌}
use lib.ListN.{get_or}
use Rattle.lookup.proofs.note_name.Given as goal

abbrev pub invariant-loop-j : goal.invariant-loop-j
invariant-loop-j l = (l.j ≤ 32)
    × (Rewriting 32 (λ i x y. y ≡ min x (get_or l.names (l.p + i) 0)) l.initial.low l.low l.j × Rewriting 32 (λ i x y. y ≡ max x (get_or l.names (l.p + i) 0)) l.initial.high l.high l.j)

abbrev pub decreases-loop-j : goal.decreases-loop-j
decreases-loop-j l = 32 - l.j
