-- What the contract of each exported function says: the numbers put out, and what is left of the slices lent to be written; every book and every request,
-- refused ones included.
-- Assumes nothing.
use Rattle.std.specs.Prelude.{◌≡◌, List, [], ◌++◌, ℕ, ◌+◌, ◌-◌, ◌≤◌, ℤ, length, get_or, replicate}
use Rattle.model.specs.declared.Dims.{Dims}
use Rattle.model.specs.declared.Line.{Line}
use Rattle.model.specs.declared.NewOrder.{NewOrder}
use Rattle.model.specs.declared.Payment.{Payment}
use Rattle.model.specs.declared.Delivery.{Delivery}
use Rattle.model.specs.declared.Waiting.{Waiting}
use Rattle.model.specs.declared.Queue.{Queue}
use Rattle.model.specs.declared.OrderStatus.{OrderStatus}
use Rattle.model.specs.declared.StockLevel.{StockLevel}
use Rattle.model.specs.Names.{Who, by_number, by_name}
use Rattle.model.specs.Opening.{opening_answer}
use Rattle.model.specs.NewOrder.{new_order_answer, new_order_book, new_order_last}
use Rattle.model.specs.Payment.{payment_answer, payment_book, payment_notes}
use Rattle.model.specs.Delivery.{delivery_answer, delivery_orders, delivery_book}
use Rattle.model.specs.Queue.{queue_answer, queue_after, run_answer, run_orders, run_book, run_queue, run_buffer}
use Rattle.model.specs.OrderStatus.{status_answer, status_part}
use Rattle.model.specs.StockLevel.{stock_level_answer}
use Rattle.model.specs.Request.{Request, new_order, payment, delivery, order_status, stock_level, no_line}
use Rattle.model.specs.RequestLine.{Reading, read, no_form, read_fault, write_answer, write_buffer}
use Rattle.lines.specs.Fields.{lines_beside}
use Rattle.flat.specs.Flat.{bare_out, one_out, two_out, three_out, balance_out, status_out}
use Rattle.flat.specs.FlatLines.{read_out}
use Rattle.places.specs.declared.Spot.{Spot}
use Rattle.places.specs.Places.{places_out}

pub record OpeningC (b : List ℤ) (names : List ℕ) (topup : List ℤ) (out : List ℕ) : Type 0 where
  pub answers : out ≡ bare_out (opening_answer b names topup)

pub record NewOrderC (b : List ℤ) (names : List ℕ) (last topup : List ℤ) (q : NewOrder) (lines : List Line) (out : List ℕ) (left noted : List ℤ) : Type 0 where
  pub answers : out ≡ three_out (new_order_answer b names last topup q lines)
  pub leaves : left ≡ new_order_book b names last topup q lines
  pub notes : noted ≡ new_order_last b names last topup q lines

pub record PaymentC (b : List ℤ) (names notes : List ℕ) (q : Payment) (who : Who) (out : List ℕ) (balance left : List ℤ) (written : List ℕ) : Type 0 where
  pub answers : out ≡ one_out (payment_answer b names notes q who)
  pub balances : balance ≡ balance_out (payment_answer b names notes q who)
  pub leaves : left ≡ payment_book b names notes q who
  pub writes : written ≡ payment_notes b names notes q who

pub record DeliveryC (b : List ℤ) (names : List ℕ) (q : Delivery) (out orders : List ℕ) (left : List ℤ) : Type 0 where
  pub answers : out ≡ two_out (delivery_answer b names q)
  pub numbers : orders ≡ delivery_orders b names q
  pub leaves : left ≡ delivery_book b names q

-- kept: the waiting list as the call leaves it
pub record QueueC (q : Queue) (x : Waiting) (out : List ℕ) (kept : Queue) : Type 0 where
  pub answers : out ≡ one_out (queue_answer q x)
  pub keeps : kept ≡ queue_after q x

-- written: the buffer as the run leaves it
pub record RunC (b : List ℤ) (names : List ℕ) (q : Queue) (date : ℕ) (buffer out orders : List ℕ) (left : List ℤ) (kept : Queue) (written : List ℕ) : Type 0 where
  pub answers : out ≡ two_out (run_answer b names q date buffer)
  pub numbers : orders ≡ run_orders b names q date buffer
  pub leaves : left ≡ run_book b names q date buffer
  pub keeps : kept ≡ run_queue q buffer
  pub writes : written ≡ run_buffer b names q date buffer

-- the last two numbers name the part of the book that is shown, which lies in the book
pub record StatusC (b : List ℤ) (names : List ℕ) (last : List ℤ) (q : OrderStatus) (who : Who) (out : List ℕ) (balance : List ℤ) : Type 0 where
  pub answers : out ≡ status_out (status_answer b names last q who) (status_part b names last q who)
  pub balances : balance ≡ balance_out (status_answer b names last q who)
  pub within : get_or out 6 0 + get_or out 7 0 ≤ length b

pub record StockLevelC (b : List ℤ) (names : List ℕ) (q : StockLevel) (out : List ℕ) : Type 0 where
  pub answers : out ≡ one_out (stock_level_answer b names q)

-- the last name that was read
abbrev pub name_in : Who → List ℕ
name_in (by_number c) = []
name_in (by_name name) = name

abbrev pub name_read : Reading → List ℕ
name_read (read (new_order q lines)) = []
name_read (read (payment q who)) = name_in who
name_read (read (delivery q)) = []
name_read (read (order_status q who)) = name_in who
name_read (read (stock_level q)) = []
name_read no_form = []

-- what reading answers, in numbers, and beside it the lines and the last name, 0 where they have no part in the request
pub record ReadC (r : Reading) (out : List ℕ) (lines : List Line) (name : List ℕ) : Type 0 where
  pub answers : out ≡ read_out (read_fault r) r
  pub lines_are : lines ≡ lines_beside r ++ replicate (15 - length (lines_beside r)) no_line
  pub name_is : name ≡ name_read r ++ replicate (16 - length (name_read r)) 0

-- a request's line written to the front of a buffer
pub record WriteC (buffer : List ℕ) (r : Request) (out left : List ℕ) : Type 0 where
  pub answers : out ≡ one_out (write_answer buffer r)
  pub leaves : left ≡ write_buffer buffer r

-- the places in a book of sizes d
pub record PlacesC (d : Dims) (s : Spot) (out : List ℕ) : Type 0 where
  pub answers : out ≡ places_out d s
