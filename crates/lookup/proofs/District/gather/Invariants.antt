use Rattle.lookup.specs.Listed.{namesakes_from}
use lib.ListN.{length, take}
use Prim.Native.Nat.{◌≤◌, ◌-◌}
use mathlib.Core.Path.{◌≡◌}
use Rattle.lookup.proofs.District.gather.Given as goal

abbrev pub invariant-loop-c : goal.invariant-loop-c
invariant-loop-c l =
    (l.from ≤ l.self.count) × ((l.n ≤ l.from) × ((length l.list ≡ length l.initial.list) × (take l.n l.list ≡ namesakes_from l.self.names.now l.self.base l.name l.from)))

abbrev pub decreases-loop-c : goal.decreases-loop-c
decreases-loop-c l = l.self.count - l.from
