-- R-5: "A waiting list of up to 16 Delivery requests with the date of queuing is one record": how many wait, and sixteen places, the oldest first.
-- Assumes nothing.
use Rattle.std.specs.Prelude.{List, [], ◌∷◌, ◌++◌, ℕ, ◌+◌, ◌-◌, leb, ltb, ℤ, pos, length, get_or, set, take, drop, replicate}
use Rattle.model.specs.declared.Delivery.{Delivery}
use Rattle.model.specs.declared.Queue.{Queue}
use Rattle.model.specs.Tests.{Refusal}
use Rattle.model.specs.declared.Waiting.{Waiting}
use Rattle.model.specs.Tests.{within, chk, fault}
use Rattle.model.specs.Numbers.{max_date}
use Rattle.model.specs.Text.{signeds, positives, line_text, on_front}
use Rattle.model.specs.Answer.{Answer, committed, refused, answer_by, left_by}
use Rattle.model.specs.Delivery.{delivery_answer, delivery_orders, delivery_book}

-- what a free place holds
abbrev pub free : Waiting
free = record { date = 0; warehouse = 0; carrier = 0 }

-- 15: "when the record counts 16 or more, before 7 for the queuing date, the queuing call's one other check"
unfoldable pub queue_fault : Queue → Waiting → Refusal
queue_fault q x = fault (chk (ltb q.count 16) 15 ∷ chk (within x.date 1 max_date) 7 ∷ [])

-- answered: how many stood before it
unfoldable pub queue_answer : Queue → Waiting → Answer
queue_answer q x = answer_by (queue_fault q x) (pos q.count ∷ [])

-- it takes the first place behind those that wait
unfoldable pub queue_after : Queue → Waiting → Queue
queue_after q x = left_by (queue_fault q x) (record { count = q.count + 1; waiting = set q.waiting q.count x }) q

-- 16: "when a run finds a count of 0 or above 16, or a result buffer under 400 bytes, before any other check of the run"
unfoldable pub run_fault : Queue → List ℕ → Refusal
run_fault q buffer = fault (chk (within q.count 1 16) 16 ∷ chk (leb 400 (length buffer)) 16 ∷ [])

-- "Running takes the oldest"
unfoldable pub first_in : Queue → Waiting
first_in q = get_or q.waiting 0 free

-- "Only the run counts as a Delivery, on the finishing date": the Delivery that it is
unfoldable pub run_request : Queue → ℕ → Delivery
run_request q date = record { warehouse = (first_in q).warehouse; carrier = (first_in q).carrier; date = date }

-- the others move one place forward and the last of their places is free; places beyond the count stay
abbrev pub moved_up : Queue → Queue
moved_up q = record { count = q.count - 1; waiting = take (q.count - 1) (drop 1 q.waiting) ++ (free ∷ drop q.count q.waiting) }

-- "A refused Delivery leaves the list too": 16 alone keeps it
unfoldable pub run_queue : Queue → List ℕ → Queue
run_queue q buffer = left_by (run_fault q buffer) (moved_up q) q

-- "carries it out", "it answers as that Delivery"
unfoldable pub run_answer : List ℤ → List ℕ → Queue → ℕ → List ℕ → Answer
run_answer b names q date buffer = left_by (run_fault q buffer) (delivery_answer b names (run_request q date)) (refused (run_fault q buffer))

unfoldable pub run_orders : List ℤ → List ℕ → Queue → ℕ → List ℕ → List ℕ
run_orders b names q date buffer = left_by (run_fault q buffer) (delivery_orders b names (run_request q date)) (replicate 10 0)

unfoldable pub run_book : List ℤ → List ℕ → Queue → ℕ → List ℕ → List ℤ
run_book b names q date buffer = left_by (run_fault q buffer) (delivery_book b names (run_request q date)) b

-- "skip count, ten order numbers"; "its line ends in the refusal number in place of skip count and orders"
abbrev pub ended : Answer → List ℕ → List ℤ
ended (committed figures) orders = take 1 figures ++ positives orders
ended (refused f) orders = pos f.number ∷ []

-- "queuing date, depot, carrier, finishing date (the run's)", then how it ended, "parted by tabs, then byte 10"
unfoldable pub result_line : Waiting → ℕ → Answer → List ℕ → List ℕ
result_line x date a orders = line_text (signeds (pos x.date ∷ pos x.warehouse ∷ pos x.carrier ∷ pos date ∷ ended a orders))

-- "writes one result line: .. the rest of the buffer kept"
unfoldable pub run_buffer : List ℤ → List ℕ → Queue → ℕ → List ℕ → List ℕ
run_buffer b names q date buffer =
    left_by (run_fault q buffer)
    (on_front (result_line (first_in q) date (delivery_answer b names (run_request q date)) (delivery_orders b names (run_request q date))) buffer)
    buffer
