use Rattle.lookup.specs.Listed.{before_from, insert_place}
use lib.ListN.{length}
use Prim.Native.Nat.{◌≤◌, ◌-◌}
use Rattle.lookup.proofs.District.place_of.Given as goal

abbrev pub invariant-loop-low : goal.invariant-loop-low
invariant-loop-low l =
    (l.low ≤ insert_place (before_from l.self.names.now l.self.base) l.c l.list) × ((insert_place (before_from l.self.names.now l.self.base) l.c l.list ≤ l.high) × (l.high ≤ length l.list))

abbrev pub decreases-loop-low : goal.decreases-loop-low
decreases-loop-low l = l.high - l.low
