-- `get_from`: the buffer keeps its length, and a failed read takes nothing from the reader.
use Rattle.std.proofs.Common.{◌≡◌, length}
use Rattle.std.specs.Io.KnownBytes.{Keeps}
use Rattle.stdio.proofs.get_from.Given as goal

abbrev pub invariant-loop : goal.invariant-loop
invariant-loop g l = (length l.buf ≡ length l.initial.buf) × Keeps (g.R.Read.remaining l.initial.input) (g.R.Read.remaining l.input)
