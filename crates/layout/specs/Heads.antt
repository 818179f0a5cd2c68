-- What reading the head finds. No rule of the book is here: head_ok and dims are the model's.
-- Assumes nothing.
use Rattle.std.specs.Prelude.{◌≡◌, true, false, List, ℕ, ℤ, Result, Ok, Err}
use Rattle.model.specs.declared.Dims.{Dims}
use Rattle.model.specs.declared.Refused.{Refused}
use Rattle.model.specs.Head.{dims, head_ok}
use Rattle.model.proofs.Fields.{Shaped}

-- a book of dimensions d; n is the number of name bytes
pub record Read (b : List ℤ) (n : ℕ) (d : Dims) : Type 0 where
  pub same : d ≡ dims b
  pub fine : head_ok b n ≡ true
  pub shaped : Shaped d b n

abbrev pub HeadSays : List ℤ → ℕ → Result Dims Refused → Type 0
HeadSays b n (Ok d) = Read b n d
HeadSays b n (Err r) = (head_ok b n ≡ false) × (r ≡ Refused.Head)
