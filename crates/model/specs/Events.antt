-- R-5: lists in which Deliveries are queued and run among the other calls, and the lists of demand 3 that they stand for.
-- Assumes nothing.
use Rattle.std.specs.Prelude.{Bool, cond, List, [], ◌∷◌, ◌++◌, ℕ, eqb}
use Rattle.model.specs.declared.Queue.{Queue}
use Rattle.model.specs.declared.Waiting.{Waiting}
use Rattle.model.specs.Answer.{Answer, committed, refused}
use Rattle.model.specs.Queue.{queue_fault, queue_after, run_fault, first_in, run_request, run_queue, run_answer, run_orders, run_book, run_buffer}
use Rattle.model.specs.Request.{Request, delivery, Lent, lent, fault_of, after}
use Rattle.model.specs.Tally.{Done}

-- a call of such a list: one of those of demand 3, one that queues, one that runs on its finishing date into a lent buffer
pub data Event : Type 0 where
  call : Request → Event
  queue : Waiting → Event
  run : ℕ → List ℕ → Event

-- all that is lent, and the waiting list
pub record Yard : Type 0 where
  pub lent : Lent
  pub queue : Queue

-- a run that takes a request: one that is not refused by 16
abbrev pub takes : Queue → List ℕ → Bool
takes q buffer = eqb (run_fault q buffer).number 0

-- "changed where it is by the call that queues and the call that runs, by nobody else"
unfoldable pub after_event : Yard → Event → Yard
after_event y (call r) = record { lent = after y.lent r; queue = y.queue }
after_event y (queue x) = record { lent = y.lent; queue = queue_after y.queue x }
after_event y (run date buffer) = record {
  lent = lent (run_book y.lent.nums y.lent.names y.queue date buffer) y.lent.names y.lent.last y.lent.notes y.lent.topup;
  queue = run_queue y.queue buffer;
}

abbrev pub after_events : Yard → List Event → Yard
after_events y [] = y
after_events y (e ∷ es) = after_events (after_event y e) es

-- "stands so, with the request it takes, in the lists of demand 3": the calls of demand 3 that an event is
abbrev pub stands_as : Yard → Event → List Request
stands_as y (call r) = r ∷ []
stands_as y (queue x) = []
stands_as y (run date buffer) = cond (takes y.queue buffer) (delivery (run_request y.queue date) ∷ []) []

abbrev pub stand_as : Yard → List Event → List Request
stand_as y [] = []
stand_as y (e ∷ es) = stands_as y e ++ stand_as (after_event y e) es

-- what was answered: number 0 is committed
abbrev pub number_of : Answer → ℕ
number_of (committed figures) = 0
number_of (refused f) = f.number

-- what those calls were answered, a run by its own answer
abbrev pub done_as : Yard → Event → List Done
done_as y (call r) = record { request = r; number = (fault_of y.lent r).number } ∷ []
done_as y (queue x) = []
done_as y (run date buffer) =
    cond (takes y.queue buffer)
    (record { request = delivery (run_request y.queue date); number = number_of (run_answer y.lent.nums y.lent.names y.queue date buffer) } ∷ []) []

abbrev pub done_events : Yard → List Event → List Done
done_events y [] = []
done_events y (e ∷ es) = done_as y e ++ done_events (after_event y e) es

-- a run that took a request, as its caller saw it: its date, what was lent and left, its answer, the buffer lent and left
pub record Run : Type 0 where
  pub date : ℕ
  pub before : Lent
  pub after : Lent
  pub answer : Answer
  pub orders : List ℕ
  pub lent : List ℕ
  pub left : List ℕ

-- the runs of a list, "refusals by 16 uncounted"
abbrev pub ran : Yard → Event → List Run
ran y (call r) = []
ran y (queue x) = []
ran y (run date buffer) =
    cond (takes y.queue buffer) (record {
      date = date;
      before = y.lent;
      after = (after_event y (run date buffer)).lent;
      answer = run_answer y.lent.nums y.lent.names y.queue date buffer;
      orders = run_orders y.lent.nums y.lent.names y.queue date buffer;
      lent = buffer;
      left = run_buffer y.lent.nums y.lent.names y.queue date buffer;
    } ∷ []) []

abbrev pub runs : Yard → List Event → List Run
runs y [] = []
runs y (e ∷ es) = ran y e ++ runs (after_event y e) es

-- the requests that a list queues, refused ones left out, and those that its runs take
abbrev pub joins : Yard → Event → List Waiting
joins y (call r) = []
joins y (queue x) = cond (eqb (queue_fault y.queue x).number 0) (x ∷ []) []
joins y (run date buffer) = []

abbrev pub queued : Yard → List Event → List Waiting
queued y [] = []
queued y (e ∷ es) = joins y e ++ queued (after_event y e) es

abbrev pub leaves : Yard → Event → List Waiting
leaves y (call r) = []
leaves y (queue x) = []
leaves y (run date buffer) = cond (takes y.queue buffer) (first_in y.queue ∷ []) []

abbrev pub taken : Yard → List Event → List Waiting
taken y [] = []
taken y (e ∷ es) = leaves y e ++ taken (after_event y e) es
