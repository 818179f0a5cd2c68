use Prim.Native.Nat.{◌≤◌, ◌<◌, ◌^◌}
use mathlib.Core.Path.{◌≡◌}
use lib.ListN.{length, drop}
use Rattle.text.specs.Fields.{number_read}
use Rattle.text.proofs.Walk.{digits_from}
use Rattle.text.proofs.number_of.Given as goal

abbrev pub invariant-loop-x : goal.invariant-loop-x
invariant-loop-x l =
    record { few : length l.f ≤ 10; small : l.v < 10 ^ l.x-index; same : number_read l.f ≡ digits_from l.v (drop l.x-index l.f) }
