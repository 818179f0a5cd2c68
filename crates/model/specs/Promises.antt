-- What each call's contract says: its answer, what stands beside it, and what it leaves of all that is lent to be written; for every book and every
-- request, refused ones included. What is lent to be read only is left as it is.
-- Assumes nothing.
use Rattle.std.specs.Prelude.{◌≡◌, List, ℕ, ◌+◌, ◌*◌, ℤ, Result}
use Rattle.model.specs.declared.Line.{Line}
use Rattle.model.specs.declared.NewOrder.{NewOrder}
use Rattle.model.specs.declared.Payment.{Payment}
use Rattle.model.specs.declared.Delivery.{Delivery}
use Rattle.model.specs.declared.Waiting.{Waiting}
use Rattle.model.specs.declared.Queue.{Queue}
use Rattle.model.specs.declared.OrderStatus.{OrderStatus}
use Rattle.model.specs.declared.StockLevel.{StockLevel}
use Rattle.model.specs.declared.OpeningAnswer.{OpeningAnswer}
use Rattle.model.specs.declared.NewOrderAnswer.{NewOrderAnswer}
use Rattle.model.specs.declared.PaymentAnswer.{PaymentAnswer}
use Rattle.model.specs.declared.DeliveryAnswer.{DeliveryAnswer}
use Rattle.model.specs.declared.QueueAnswer.{QueueAnswer}
use Rattle.model.specs.declared.Refused.{Refused}
use Rattle.model.specs.declared.StatusFigures.{StatusFigures}
use Rattle.model.specs.declared.StockLevelAnswer.{StockLevelAnswer}
use Rattle.model.specs.Names.{Who}
use Rattle.model.specs.Answer.{opening_says, new_order_says, payment_says, delivery_says, queue_says, status_says, stock_level_says}
use Rattle.model.specs.Opening.{opening_answer}
use Rattle.model.specs.NewOrder.{new_order_answer, new_order_book, new_order_last}
use Rattle.model.specs.Payment.{payment_answer, payment_book, payment_notes}
use Rattle.model.specs.Delivery.{delivery_answer, delivery_orders, delivery_book}
use Rattle.model.specs.Queue.{queue_answer, queue_after, run_answer, run_orders, run_book, run_queue, run_buffer}
use Rattle.model.specs.OrderStatus.{status_answer, status_part, status_lines}
use Rattle.model.specs.StockLevel.{stock_level_answer}

-- "Opening writes nothing."
pub record OpeningCall (b : List ℤ) (names : List ℕ) (topup : List ℤ) (r : OpeningAnswer) : Type 0 where
  pub says : opening_says r.outcome ≡ opening_answer b names topup

-- left: the numbers as the call leaves them; noted: the last orders
pub record NewOrderCall (b : List ℤ) (names : List ℕ) (last topup : List ℤ) (q : NewOrder) (lines : List Line) (r : NewOrderAnswer) (left noted : List ℤ) : Type 0 where
  pub says : new_order_says r.outcome ≡ new_order_answer b names last topup q lines
  pub leaves : left ≡ new_order_book b names last topup q lines
  pub notes : noted ≡ new_order_last b names last topup q lines

-- written: the texts as the call leaves them
pub record PaymentCall (b : List ℤ) (names notes : List ℕ) (q : Payment) (who : Who) (r : PaymentAnswer) (left : List ℤ) (written : List ℕ) : Type 0 where
  pub says : payment_says r.outcome ≡ payment_answer b names notes q who
  pub leaves : left ≡ payment_book b names notes q who
  pub writes : written ≡ payment_notes b names notes q who

-- "Delivery's ten numbers stand beside it"
pub record DeliveryCall (b : List ℤ) (names : List ℕ) (q : Delivery) (r : DeliveryAnswer) (left : List ℤ) : Type 0 where
  pub says : delivery_says r.outcome ≡ delivery_answer b names q
  pub orders : r.orders ≡ delivery_orders b names q
  pub leaves : left ≡ delivery_book b names q

-- kept: the waiting list as the call leaves it
pub record QueueCall (q : Queue) (x : Waiting) (r : QueueAnswer) (kept : Queue) : Type 0 where
  pub says : queue_says r.outcome ≡ queue_answer q x
  pub keeps : kept ≡ queue_after q x

-- written: the buffer as the run leaves it
pub record RunCall (b : List ℤ) (names : List ℕ) (q : Queue) (date : ℕ) (buffer : List ℕ) (r : DeliveryAnswer) (left : List ℤ) (kept : Queue) (written : List ℕ) : Type 0 where
  pub says : delivery_says r.outcome ≡ run_answer b names q date buffer
  pub orders : r.orders ≡ run_orders b names q date buffer
  pub leaves : left ≡ run_book b names q date buffer
  pub keeps : kept ≡ run_queue q buffer
  pub writes : written ≡ run_buffer b names q date buffer

-- "its lines are shown as that part of the lent book, not copied": the returned slice lies in the lent one, 8 bytes a number
pub record StatusCall (b : List ℤ) (names : List ℕ) (last : List ℤ) (q : OrderStatus) (who : Who) (outcome : Result StatusFigures Refused) (shown : List ℤ) (book at : ℕ × ℕ) : Type 0 where
  pub says : status_says outcome ≡ status_answer b names last q who
  pub shows : shown ≡ status_lines b names last q who
  pub lies : at ≡ (book.0, book.1 + 8 * (status_part b names last q who).from)

pub record StockLevelCall (b : List ℤ) (names : List ℕ) (q : StockLevel) (r : StockLevelAnswer) : Type 0 where
  pub says : stock_level_says r.outcome ≡ stock_level_answer b names q
