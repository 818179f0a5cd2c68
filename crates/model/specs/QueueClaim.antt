-- R-5: what holds of every list in which Deliveries are queued and run among the other calls, on any book and from any waiting list. The result line is
-- written out anew, field by field.
-- Assumes nothing.
use Rattle.std.specs.Prelude.{◌≡◌, true, false, List, [], ◌∷◌, ◌++◌, ◌≢◌, ℕ, ◌-◌, ◌≤◌, ◌<◌, ℤ, pos, length, get_or, take, drop}
use Rattle.model.specs.declared.Delivery.{Delivery}
use Rattle.model.specs.declared.Queue.{Queue}
use Rattle.model.specs.declared.Waiting.{Waiting}
use Rattle.model.specs.Numbers.{max_date}
use Rattle.model.specs.Text.{decimal, signed}
use Rattle.model.specs.Head.{dims}
use Rattle.model.specs.Answer.{Answer, committed, refused}
use Rattle.model.specs.Opening.{Accepted}
use Rattle.model.specs.Delivery.{delivery_answer, delivery_orders}
use Rattle.model.specs.Queue.{free, queue_fault, queue_after, first_in, run_queue, run_book, result_line, run_buffer}
use Rattle.model.specs.Request.{lent, delivery, answer_of, orders_of, after}
use Rattle.model.specs.Tally.{opened_of, start, tally, after_all, done_all}
use Rattle.model.specs.Claim.{Claim, Never}
use Rattle.model.specs.Events.{Event, queue, Yard, takes, after_event, after_events, stand_as, done_events, Run, runs, queued, taken}

-- a request's Delivery on a date
abbrev pub delivery_for : Waiting → ℕ → Delivery
delivery_for x date = record { warehouse = x.warehouse; carrier = x.carrier; date = date }

-- "skip count, ten order numbers", or "the refusal number in place of skip count and orders"
abbrev pub end_for : Answer → List ℕ → List ℕ
end_for (committed figures) orders =
    signed (get_or figures 0 (pos 0))
    ++ (9 ∷ decimal (get_or orders 0 0)
    ++ (9 ∷ decimal (get_or orders 1 0)
    ++ (9 ∷ decimal (get_or orders 2 0)
    ++ (9 ∷ decimal (get_or orders 3 0)
    ++ (9 ∷ decimal (get_or orders 4 0)
    ++ (9 ∷ decimal (get_or orders 5 0)
    ++ (9 ∷ decimal (get_or orders 6 0)
    ++ (9 ∷ decimal (get_or orders 7 0)
    ++ (9 ∷ decimal (get_or orders 8 0)
    ++ (9 ∷ decimal (get_or orders 9 0)
    ++ (10 ∷ [])))))))))))
end_for (refused f) orders = decimal f.number ++ (10 ∷ [])

-- "queuing date, depot, carrier, finishing date (the run's)", then its end
abbrev pub line_for : Waiting → ℕ → Answer → List ℕ → List ℕ
line_for x date a orders =
    decimal x.date
    ++ (9 ∷ decimal x.warehouse
    ++ (9 ∷ decimal x.carrier
    ++ (9 ∷ decimal date
    ++ (9 ∷ end_for a orders))))

-- a run is a request's: it answered and left what the request's Delivery on the run's date does, and wrote the request's line, "the rest of the buffer
-- kept"
pub record Serves (x : Waiting) (r : Run) : Type 0 where
  pub answer : r.answer ≡ answer_of r.before (delivery (delivery_for x r.date))
  pub orders : r.orders ≡ orders_of r.before (delivery (delivery_for x r.date))
  pub leaves : r.after ≡ after r.before (delivery (delivery_for x r.date))
  pub line : r.left ≡ line_for x r.date r.answer r.orders ++ drop (length (line_for x r.date r.answer r.orders)) r.lent

-- stands where a list of runs is too short
abbrev pub no_run : Run
no_run = record { date = 0; before = lent [] [] [] [] []; after = lent [] [] [] [] []; answer = committed []; orders = []; lent = []; left = [] }

-- a request queued behind j others, after the runs rs that left q: run number j + 1 is its own; until then it waits, behind j less the runs so far
pub record InTurn (j : ℕ) (x : Waiting) (rs : List Run) (q : Queue) : Type 0 where
  pub served : j < length rs → Serves x (get_or rs j no_run)
  pub waits : length rs ≤ j → get_or q.waiting (j - length rs) free ≡ x
  pub counted : length rs ≤ j → j - length rs < q.count
  pub room : q.count ≤ 16

-- "A request queued behind j others is run by run number j + 1 after it, refusals by 16 uncounted, however many more are queued meanwhile."
abbrev pub RunInTurn : Type 0
RunInTurn =
    (y : Yard) (x : Waiting) → length y.queue.waiting ≡ 16 → (queue_fault y.queue x).number ≡ 0 → (es : List Event)
    → InTurn y.queue.count x (runs (after_event y (queue x)) es) (after_events (after_event y (queue x)) es).queue

-- the requests that wait, the oldest first
abbrev pub waiting_in : Queue → List Waiting
waiting_in q = take q.count q.waiting

-- first in, first out, none lost and none doubled: who waited and then who was queued are who was taken and then who waits
abbrev pub FirstInFirstOut : Type 0
FirstInFirstOut =
    (y : Yard) → length y.queue.waiting ≡ 16 → (es : List Event)
    → waiting_in y.queue ++ queued y es ≡ taken y es ++ waiting_in (after_events y es).queue

-- "A refused Delivery leaves the list too": after every run but one refused by 16 the others wait, whatever it answers
abbrev pub LeavesTheList : Type 0
LeavesTheList = (q : Queue) (buffer : List ℕ) → length q.waiting ≡ 16 → takes q buffer ≡ true → waiting_in q ≡ first_in q ∷ waiting_in (run_queue q buffer)

-- 15, 7 and 16 refuse nothing else: a request joins where there is room and its date is one, and a run takes one where one waits and the buffer fits
abbrev pub QueueServes : Type 0
QueueServes =
    ((q : Queue) (x : Waiting) → q.count < 16 → 1 ≤ x.date → x.date ≤ max_date → (queue_fault q x).number ≡ 0)
    × ((q : Queue) (buffer : List ℕ) → 1 ≤ q.count → q.count ≤ 16 → 400 ≤ length buffer → takes q buffer ≡ true)

-- by 15, 7 and 16 nothing changes
abbrev pub RefusedKeeps : Type 0
RefusedKeeps =
    ((q : Queue) (x : Waiting) → (queue_fault q x).number ≢ 0 → queue_after q x ≡ q)
    × ((b : List ℤ) (names : List ℕ) (q : Queue) (date : ℕ) (buffer : List ℕ) → takes q buffer ≡ false
    → (run_queue q buffer ≡ q) × ((run_book b names q date buffer ≡ b) × (run_buffer b names q date buffer ≡ buffer)))

-- the places stay sixteen, and a count within 16 stays within 16
abbrev pub PlacesStay : Type 0
PlacesStay =
    (y : Yard) (e : Event) → length y.queue.waiting ≡ 16
    → (length (after_event y e).queue.waiting ≡ 16) × (y.queue.count ≤ 16 → (after_event y e).queue.count ≤ 16)

-- "stands so, with the request it takes, in the lists of demand 3": a list leaves and answers what the list that it stands for does, so that every theorem
-- about lists of calls is one about these
abbrev pub RunsStand : Type 0
RunsStand =
    (y : Yard) (es : List Event)
    → ((after_events y es).lent ≡ after_all y.lent (stand_as y es)) × (done_events y es ≡ done_all y.lent (stand_as y es))

-- demand 3, from a book that opening has just accepted and any waiting list
abbrev pub DemandWithRuns : Type 0
DemandWithRuns =
    (y : Yard) → Accepted y.lent.nums y.lent.names → (es : List Event)
    → Claim (dims y.lent.nums) y.lent.nums y.lent.topup (tally (opened_of y.lent.nums y.lent.names) (done_events y es) start) (after_events y es).lent.nums
    × Never (done_events y es)

-- why 400 bytes: no result line is longer, whatever the record holds
abbrev pub LineFits : Type 0
LineFits =
    (b : List ℤ) (names : List ℕ) (x : Waiting) (date : ℕ)
    → length (result_line x date (delivery_answer b names (delivery_for x date)) (delivery_orders b names (delivery_for x date))) ≤ 400
