-- A request carried out as the model says: its answer, what stands beside it, and what it leaves of all that is lent.
-- Assumes nothing.
use Rattle.std.specs.Prelude.{◌≡◌, ℕ, ◌+◌, ◌≤◌, length}
use Rattle.model.specs.declared.RequestAnswer.{RequestAnswer}
use Rattle.model.specs.declared.RequestOutcome.{RequestOutcome}
use Rattle.model.specs.declared.RequestOutcome.TheVariants as RequestCase
use Rattle.model.specs.Answer.{request_says}
use Rattle.model.specs.Request.{Request, Lent, answer_of, orders_of, shown_part, after}
use Rattle.model.specs.RequestLine.{letter}

-- the letter of the requests that an outcome answers
abbrev pub lettered : RequestOutcome → ℕ
lettered (RequestCase.NewOrder o) = 78
lettered (RequestCase.Payment o) = 80
lettered (RequestCase.Delivery o) = 68
lettered (RequestCase.OrderStatus o) = 83
lettered (RequestCase.StockLevel o) = 76

-- of what is lent before, the request, the answer, and what is lent after; the shown part lies in the book left
pub record Carried (s : Lent) (q : Request) (r : RequestAnswer) (left : Lent) : Type 0 where
  pub kind : lettered r.outcome ≡ letter q
  pub says : request_says r.outcome ≡ answer_of s q
  pub orders : r.orders ≡ orders_of s q
  pub within : r.part.from + r.part.count ≤ length left.nums
  pub shows : r.part ≡ shown_part s q
  pub leaves : left ≡ after s q
