-- `put_to`: the writer has what stands before the rest, and the first turn finds nothing to write where there is nothing.
use Rattle.std.proofs.Common.{◌≡◌, ℕ, List, ◌++◌, length}
use Rattle.std.specs.Io.KnownBytes.{Appends}
use Rattle.stdio.proofs.put_to.Given as goal

abbrev pub invariant-loop : goal.invariant-loop
invariant-loop g l =
    (length l.bytes ≡ 0 → l.counter ≡ 0)
    × ((front : List ℕ) × (l.bytes ≡ front ++ l.rest) × Appends (g.W.Write.contents l.initial.out) (g.W.Write.contents l.out) front)
