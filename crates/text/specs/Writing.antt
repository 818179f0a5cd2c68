-- What a writer of bytes leaves.
-- Assumes nothing.
use Rattle.std.specs.Prelude.{◌≡◌, List, ℕ, ◌+◌, length}
use Rattle.std.proofs.lemmas.List.Edits.{sets}

-- bytes stored from a place on, and the place after them
pub record Wrote (old new : List ℕ) (at next : ℕ) (xs : List ℕ) : Type 0 where
  pub same : new ≡ sets old at xs
  pub place : next ≡ at + length xs
