-- `fill_districts`: the first k are filled.
use Rattle.std.proofs.Common.{◌≡◌, length}
use Rattle.desk.specs.Filling.{districts_to}
use Rattle.desk.proofs.fill_districts.Given as goal

abbrev pub invariant-loop-k : goal.invariant-loop-k
invariant-loop-k l = (length l.b ≡ length l.initial.b) × (l.b ≡ districts_to l.k l.initial.b)
