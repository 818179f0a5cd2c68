-- `fill_stocks`: the first k are filled.
use Rattle.std.proofs.Common.{◌≡◌, length}
use Rattle.desk.specs.Filling.{stocks_to}
use Rattle.desk.proofs.fill_stocks.Given as goal

abbrev pub invariant-loop-k : goal.invariant-loop-k
invariant-loop-k l = (length l.b ≡ length l.initial.b) × (l.b ≡ stocks_to l.k l.initial.b)
