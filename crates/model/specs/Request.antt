-- A request of any kind, and what carrying it out answers and leaves.
-- Assumes nothing.
use Rattle.std.specs.Prelude.{List, ℕ, ℤ, take, replicate}
use Rattle.model.specs.declared.Delivery.{Delivery}
use Rattle.model.specs.declared.Form.{Form}
use Rattle.model.specs.declared.Lines.{Lines}
use Rattle.model.specs.declared.Line.{Line}
use Rattle.model.specs.declared.NewOrder.{NewOrder}
use Rattle.model.specs.declared.OrderStatus.{OrderStatus}
use Rattle.model.specs.declared.Part.{Part}
use Rattle.model.specs.declared.Payment.{Payment}
use Rattle.model.specs.Tests.{Refusal}
use Rattle.model.specs.declared.StockLevel.{StockLevel}
use Rattle.model.specs.Names.{Who, who_of}
use Rattle.model.specs.Answer.{Answer}
use Rattle.model.specs.NewOrder.{new_order_fault, new_order_answer, new_order_book, new_order_last}
use Rattle.model.specs.Payment.{payment_fault, payment_answer, payment_book, payment_notes}
use Rattle.model.specs.Delivery.{delivery_fault, delivery_answer, delivery_orders, delivery_book}
use Rattle.model.specs.OrderStatus.{empty_part, part_of, status_fault, status_answer, status_part}
use Rattle.model.specs.StockLevel.{stock_level_fault, stock_level_answer}

pub data Request : Type 0 where
  new_order : NewOrder → List Line → Request
  payment : Payment → Who → Request
  delivery : Delivery → Request
  order_status : OrderStatus → Who → Request
  stock_level : StockLevel → Request

-- a request as code holds it: its form, with the lines beside
abbrev pub request_of : Form → List Line → Request
request_of (Form.NewOrder q) lines = new_order q lines
request_of (Form.Payment q s) lines = payment q (who_of s)
request_of (Form.Delivery q) lines = delivery q
request_of (Form.OrderStatus q s) lines = order_status q (who_of s)
request_of (Form.StockLevel q) lines = stock_level q

-- what stands for a line past the last
abbrev pub no_line : Line
no_line = record { item = 0; supply = 0; quantity = 0 }

-- the lines that an array of fixed length holds
abbrev pub lines_in : Lines → List Line
lines_in l = take l.count l.lines

-- what is lent through a list of calls
pub record Lent : Type 0 where
  -- the book's numbers
  pub nums : List ℤ
  -- name bytes, lent to be read only
  pub names : List ℕ
  -- R-1: the largest order number of each customer
  pub last : List ℤ
  -- R-4: the text of each customer
  pub notes : List ℕ
  -- R-6: margin and lift of each item, lent to be read only
  pub topup : List ℤ

abbrev pub lent : List ℤ → List ℕ → List ℤ → List ℕ → List ℤ → Lent
lent b names last notes topup = record { nums = b; names = names; last = last; notes = notes; topup = topup }

-- the first refusal that fits a request on what is lent; number 0 where it is committed
unfoldable pub fault_of : Lent → Request → Refusal
fault_of s (new_order q lines) = new_order_fault s.nums s.names s.last s.topup q lines
fault_of s (payment q who) = payment_fault s.nums s.names s.notes q who
fault_of s (delivery q) = delivery_fault s.nums s.names q
fault_of s (order_status q who) = status_fault s.nums s.names s.last q who
fault_of s (stock_level q) = stock_level_fault s.nums s.names q

unfoldable pub answer_of : Lent → Request → Answer
answer_of s (new_order q lines) = new_order_answer s.nums s.names s.last s.topup q lines
answer_of s (payment q who) = payment_answer s.nums s.names s.notes q who
answer_of s (delivery q) = delivery_answer s.nums s.names q
answer_of s (order_status q who) = status_answer s.nums s.names s.last q who
answer_of s (stock_level q) = stock_level_answer s.nums s.names q

-- beside the answer: Delivery's ten numbers, and where the lines are that a status shows
unfoldable pub orders_of : Lent → Request → List ℕ
orders_of s (new_order q lines) = replicate 10 0
orders_of s (payment q who) = replicate 10 0
orders_of s (delivery q) = delivery_orders s.nums s.names q
orders_of s (order_status q who) = replicate 10 0
orders_of s (stock_level q) = replicate 10 0

unfoldable pub shown_part : Lent → Request → Part
shown_part s (new_order q lines) = empty_part
shown_part s (payment q who) = empty_part
shown_part s (delivery q) = empty_part
shown_part s (order_status q who) = status_part s.nums s.names s.last q who
shown_part s (stock_level q) = empty_part

-- the lines themselves
abbrev pub shown_of : Lent → Request → List ℤ
shown_of s r = part_of (shown_part s r) s.nums

-- the book's numbers as a call leaves them
unfoldable pub nums_after : Lent → Request → List ℤ
nums_after s (new_order q lines) = new_order_book s.nums s.names s.last s.topup q lines
nums_after s (payment q who) = payment_book s.nums s.names s.notes q who
nums_after s (delivery q) = delivery_book s.nums s.names q
nums_after s (order_status q who) = s.nums
nums_after s (stock_level q) = s.nums

-- R-1: "New-Order maintains it and alone writes it"
unfoldable pub last_after : Lent → Request → List ℤ
last_after s (new_order q lines) = new_order_last s.nums s.names s.last s.topup q lines
last_after s (payment q who) = s.last
last_after s (delivery q) = s.last
last_after s (order_status q who) = s.last
last_after s (stock_level q) = s.last

-- R-4: "one and the same through a list of calls and written by Payment alone"
unfoldable pub notes_after : Lent → Request → List ℕ
notes_after s (new_order q lines) = s.notes
notes_after s (payment q who) = payment_notes s.nums s.names s.notes q who
notes_after s (delivery q) = s.notes
notes_after s (order_status q who) = s.notes
notes_after s (stock_level q) = s.notes

-- all that is lent as a call leaves it; names and table are only read
abbrev pub after : Lent → Request → Lent
after s r = record { nums = nums_after s r; names = s.names; last = last_after s r; notes = notes_after s r; topup = s.topup }
