-- One line answered, the program's book opened, and an answer that speaks of no damage.
-- Assumes nothing.
use Rattle.std.specs.Prelude.{◌≡◌, Bool, true, false, List, ◌∷◌, ◌≢◌, ℕ, ℤ, pos, length, Result, Ok, Err}
use Rattle.model.specs.Answer.{Answer, committed, refused}
use Rattle.model.specs.Opening.{opening_answer}
use Rattle.model.specs.Request.{Lent}
use Rattle.model.specs.Text.{text_of, on_front}
use Rattle.model.specs.RequestLine.{read_line}
use Rattle.model.specs.AnswerLine.{printed_for, left_after}
use Rattle.desk.specs.declared.Stopped.{Stopped}

-- of what is lent before, the line, the buffer before and after, the length that is answered, and what is lent after
pub record Stepped (s : Lent) (line old new : List ℕ) (n : ℕ) (left : Lent) : Type 0 where
  pub long : n ≡ length (printed_for s (read_line line))
  pub bytes : new ≡ on_front (printed_for s (read_line line)) old
  pub leaves : left ≡ left_after s (read_line line)

abbrev pub is_committed : Answer → Bool
is_committed (committed figures) = true
is_committed (refused r) = false

-- whether opening accepted the program's book
abbrev pub was_opened : Result Unit Stopped → Bool
was_opened (Ok x) = true
was_opened (Err (Stopped.Failed e)) = true
was_opened (Err (Stopped.Refused r)) = false

-- a program's book, names and table: opening accepts them where its answer is true
pub record Ran (b : List ℤ) (names : List ℕ) (topup : List ℤ) (r : Bool) : Type 0 where
  pub opened : r ≡ is_committed (opening_answer b names topup)

abbrev pub None239 : ℕ → Type 0
None239 n = (n ≢ 2) × ((n ≢ 3) × (n ≢ 9))

-- a printed line: a letter, then a number that is none of 2, 3 and 9
pub record Sound (line : List ℕ) : Type 0 where
  pub letter : ℕ
  pub number : ℕ
  pub others : List ℤ
  pub text : line ≡ text_of letter (pos number ∷ others)
  pub never : None239 number
