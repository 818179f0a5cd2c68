-- What writing a line answers and leaves.
-- Assumes nothing.
use Rattle.std.specs.Prelude.{◌≡◌, List, ℕ, Result, Err}
use Rattle.model.specs.declared.Refused.{Refused}
use Rattle.model.specs.declared.WriteAnswer.{WriteAnswer}
use Rattle.model.specs.Request.{Request}
use Rattle.model.specs.RequestLine.{write_answer, write_buffer, write_says}

-- a request's line written to the front of a buffer, or not
pub record Written (old new : List ℕ) (o : Result ℕ Refused) (r : Request) : Type 0 where
  pub says : write_says o ≡ write_answer old r
  pub leaves : new ≡ write_buffer old r

-- the answer where nothing is written
abbrev pub not_written : WriteAnswer
not_written = record { outcome = Err Refused.NoForm }
