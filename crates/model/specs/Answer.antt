-- "In every answer the outcome is committed with its figures or refused with number and detail."
-- Assumes nothing.
use Rattle.std.specs.Prelude.{cond, List, [], ◌∷◌, eqb, ℤ, pos, Result, Ok, Err}
use Rattle.model.specs.Tests.{Refusal, bare}
use Rattle.model.specs.declared.Refused.{Refused}
use Rattle.model.specs.declared.NewOrderFigures.{NewOrderFigures}
use Rattle.model.specs.declared.PaymentFigures.{PaymentFigures}
use Rattle.model.specs.declared.DeliveryFigures.{DeliveryFigures}
use Rattle.model.specs.declared.QueueFigures.{QueueFigures}
use Rattle.model.specs.declared.StatusFigures.{StatusFigures}
use Rattle.model.specs.declared.StockLevelFigures.{StockLevelFigures}
use Rattle.model.specs.declared.RequestOutcome.{RequestOutcome}
use Rattle.model.specs.declared.RequestOutcome.TheVariants as RequestCase

pub data Answer : Type 0 where
  committed : List ℤ → Answer
  refused : Refusal → Answer

-- what a call answers and leaves, given the first refusal that fits: "nothing lent is changed and no other figure is returned"
abbrev pub answer_by : Refusal → List ℤ → Answer
answer_by f figures = cond (eqb f.number 0) (committed figures) (refused f)

module _ {A : Type 0} where
  abbrev pub left_by : Refusal → A → A → A
  left_by f after before = cond (eqb f.number 0) after before

-- the papers' number of each refusal, and its detail
abbrev pub numbered : Refused → Refusal
numbered Refused.NoForm = bare 1
numbered Refused.Head = bare 2
numbered Refused.NotNew = bare 3
numbered Refused.Warehouse = bare 4
numbered Refused.District = bare 5
numbered Refused.Customer = bare 6
numbered Refused.Date = bare 7
numbered (Refused.Range line) = record { number = 8; detail = line }
numbered Refused.Row = bare 9
numbered Refused.Nobody = bare 10
numbered Refused.Full = bare 11
numbered (Refused.Item line) = record { number = 12; detail = line }
numbered Refused.LastOrders = bare 13
numbered Refused.Notes = bare 14
numbered Refused.QueueFull = bare 15
numbered Refused.NotRun = bare 16
numbered Refused.TopUp = bare 17

module _ {A : Type 0} where
  -- the first refusal that a step of a call finds; number 0 where it finds none
  abbrev pub told : Result A Refused → Refusal
  told (Ok x) = bare 0
  told (Err r) = numbered r

-- document 01's values for each case of the code's answers
abbrev pub opening_says : Result Unit Refused → Answer
opening_says (Ok x) = committed []
opening_says (Err r) = refused (numbered r)

abbrev pub new_order_says : Result NewOrderFigures Refused → Answer
new_order_says (Ok f) = committed (pos f.order ∷ pos f.total ∷ pos f.lifts ∷ [])
new_order_says (Err r) = refused (numbered r)

abbrev pub payment_says : Result PaymentFigures Refused → Answer
payment_says (Ok f) = committed (pos f.customer ∷ f.balance ∷ [])
payment_says (Err r) = refused (numbered r)

abbrev pub delivery_says : Result DeliveryFigures Refused → Answer
delivery_says (Ok f) = committed (pos f.skipped ∷ pos f.mark ∷ [])
delivery_says (Err r) = refused (numbered r)

abbrev pub queue_says : Result QueueFigures Refused → Answer
queue_says (Ok f) = committed (pos f.before ∷ [])
queue_says (Err r) = refused (numbered r)

abbrev pub status_says : Result StatusFigures Refused → Answer
status_says (Ok f) = committed (pos f.customer ∷ f.balance ∷ pos f.order ∷ pos f.date ∷ pos f.carrier ∷ [])
status_says (Err r) = refused (numbered r)

abbrev pub stock_level_says : Result StockLevelFigures Refused → Answer
stock_level_says (Ok f) = committed (pos f.count ∷ [])
stock_level_says (Err r) = refused (numbered r)

-- that of a request of any kind
abbrev pub request_says : RequestOutcome → Answer
request_says (RequestCase.NewOrder o) = new_order_says o
request_says (RequestCase.Payment o) = payment_says o
request_says (RequestCase.Delivery o) = delivery_says o
request_says (RequestCase.OrderStatus o) = status_says o
request_says (RequestCase.StockLevel o) = stock_level_says o
