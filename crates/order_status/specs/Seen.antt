-- What the code finds out before it answers. No rule of the book is here.
-- Assumes nothing.
use Rattle.std.specs.Prelude.{◌≡◌, Bool, ◌&&◌, List, ℕ, ◌+◌, ◌≤◌, ℤ, length, Result, Ok, Err}
use Rattle.model.specs.declared.Dims.{Dims}
use Rattle.model.specs.declared.OrderStatus.{OrderStatus}
use Rattle.model.specs.declared.StatusFigures.{StatusFigures}
use Rattle.model.specs.declared.Part.{Part}
use Rattle.model.specs.declared.Refused.{Refused}
use Rattle.model.specs.Names.{Who}
use Rattle.model.specs.LastOrder.{last_long, last_ok, found_ok}
use Rattle.model.specs.Answer.{status_says}
use Rattle.model.specs.OrderStatus.{status_answer, status_part, empty_part}
use Rattle.order_status.specs.declared.Shown.{Shown}

-- 13's three tests, of the order with number o
abbrev pub last_tests : Dims → List ℤ → List ℤ → ℕ → ℕ → ℕ → Bool
last_tests d b last w k o = last_long d last && (last_ok d b last w k && found_ok d b w k o)

-- what is answered of what a status shows: a refused one shows an empty part
abbrev pub shown_of : Result (StatusFigures × Part) Refused → Shown
shown_of (Ok (f, p)) = record { outcome = Ok f; part = p }
shown_of (Err r) = record { outcome = Err r; part = empty_part }

-- the contract of Order-Status with the shown lines as a place in the book
pub record ShownCall (b : List ℤ) (names : List ℕ) (last : List ℤ) (q : OrderStatus) (who : Who) (r : Shown) : Type 0 where
  pub says : status_says r.outcome ≡ status_answer b names last q who
  pub within : r.part.from + r.part.count ≤ length b
  pub shows : r.part ≡ status_part b names last q who
