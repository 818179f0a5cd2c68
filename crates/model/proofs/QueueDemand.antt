-- R-5: every list in which Deliveries are queued and run among the other calls, on any book and from any waiting list.
-- Assumes nothing.
use mathlib.Core.Path.{◌≡◌, refl, sym, ap, ◌∙◌, subst}
use mathlib.Core.Bool.{Bool, true, false, cond}
use mathlib.Core.List.{List, [], ◌∷◌, ◌++◌, append-nil, append_assoc}
use Prim.Native.Nat.{ℕ, zero, suc, ◌+◌, ◌-◌, ◌≤◌, ◌<◌}
use native.Mathlib.Omega.{arith}
use lib.Count.{ones}
use lib.ListN.{length, get_or, take, length-append, length-take, get_or-append}
use lib.Seq.{length-take-le, get_or-take, get_or-append-add, get_or_at}
use borrow.Author.Tests.{le-leb, lt-ltb, eq-eqb, ne_eqb, eqb-true}
use Rattle.model.specs.declared.Waiting.{Waiting}
use Rattle.model.specs.Numbers.{max_date}
use Rattle.model.specs.Lists.{up_to}
use Rattle.model.specs.Head.{dims}
use Rattle.model.specs.Delivery.{delivery_fault, oldest_ten, mark_of}
use Rattle.model.specs.Queue.{free, queue_fault, queue_after, run_fault, first_in, run_queue, run_book, result_line, run_buffer}
use Rattle.model.specs.Request.{Request, Lent, fault_of, after}
use Rattle.model.specs.Tally.{Done, after_all, done_all}
use Rattle.model.specs.Events.{Event, call, queue, run, Yard, takes, after_event, after_events, stands_as, stand_as, done_as, Run, runs, joins, queued, leaves, taken}
use Rattle.model.specs.QueueClaim.{delivery_for, Serves, no_run, RunInTurn, waiting_in, FirstInFirstOut, LeavesTheList, QueueServes, RefusedKeeps, PlacesStay, RunsStand, DemandWithRuns, LineFits}
use Rattle.model.proofs.Demand.{demand}
use Rattle.model.proofs.QueueLaws.{queue-room, run_room, first-leaves, moves, stands, by_answer, numbers_fit, run_of, serves}

-- ── who waits ──
-- sixteen places, and at most as many wait
pub places_stay : PlacesStay
places_stay y e h = let m = moves y e h in (m.places, m.room)

-- "A refused Delivery leaves the list too"
pub leaves_the_list : LeavesTheList
unfolding run_queue
leaves_the_list q buffer h e =
    let r = run_room q buffer (eqb-true _ _ e) in
    rw e (sym (append-nil (waiting_in q)) ∙ (first-leaves q h r.0 r.1).in_turn)

-- 15, 7 and 16 refuse nothing else
pub queue_serves : QueueServes
unfolding queue_fault run_fault
queue_serves = (
  λ q x r h k. rw (lt-ltb q.count 16 r, le-leb 1 x.date h, le-leb x.date max_date k),
  λ q buffer h k l. rw (le-leb 1 q.count h, le-leb q.count 16 k, le-leb 400 (length buffer) l),
)

-- by 15, 7 and 16 nothing changes
pub refused-keeps : RefusedKeeps
unfolding queue_after run_queue run_book run_buffer
refused-keeps = (λ q x n. rw (ne_eqb (queue_fault q x).number 0 n), λ b names q date buffer e. (rw e, (rw e, rw e)))

-- none is lost, doubled or overtaken
pub first_in_first_out : FirstInFirstOut
first_in_first_out y h [] = append-nil (waiting_in y.queue)
first_in_first_out y h (e ∷ es) =
    let m = moves y e h in
    let z = after_event y e in
    sym (append_assoc (waiting_in y.queue) (joins y e) (queued z es))
    ∙ ap (λ (l : List Waiting). l ++ queued z es) m.in_turn
    ∙ append_assoc (leaves y e) (waiting_in z.queue) (queued z es)
    ∙ ap (λ (l : List Waiting). leaves y e ++ l) (first_in_first_out z m.places es)
    ∙ sym (append_assoc (leaves y e) (taken z es) (waiting_in (after_events z es).queue))

-- ── runs are calls of demand 3 ──
-- two lists of calls, one after the other
after_append : (s : Lent) (rs qs : List Request) → after_all s (rs ++ qs) ≡ after_all (after_all s rs) qs
after_append s [] qs = refl
after_append s (r ∷ rs) qs = after_append (after s r) rs qs

done_append : (s : Lent) (rs qs : List Request) → done_all s (rs ++ qs) ≡ done_all s rs ++ done_all (after_all s rs) qs
done_append s [] qs = refl
done_append s (r ∷ rs) qs = ap (λ (l : List Done). record { request = r; number = (fault_of s r).number } ∷ l) (done_append (after s r) rs qs)

-- "stands so, with the request it takes, in the lists of demand 3"
pub runs_stand : RunsStand
runs_stand y [] = (refl, refl)
runs_stand y (e ∷ es) =
    let rs = stand_as (after_event y e) es in
    let h = stands y e in
    let k = runs_stand (after_event y e) es in (
      k.0 ∙ ap (λ (s : Lent). after_all s rs) h.0 ∙ sym (after_append y.lent (stands_as y e) rs),
      ap (λ (l : List Done). done_as y e ++ l) (k.1 ∙ ap (λ (s : Lent). done_all s rs) h.0)
          ∙ ap (λ (l : List Done). l ++ done_all (after_all y.lent (stands_as y e)) rs) h.1
          ∙ sym (done_append y.lent (stands_as y e) rs),
    )

-- .. so that demand 3 holds of them
pub demand_with_runs : DemandWithRuns
demand_with_runs y e es =
    let h = runs_stand y es in
    rw (h.0, h.1) (demand y.lent e (stand_as y es))

-- ── the buffer's 400 bytes ──
-- a result line has fifteen numbers at most
pub line-fits : LineFits
unfolding result_line oldest_ten up_to
line-fits b names x date =
    by_answer (λ a orders. length (result_line x date a orders) ≤ 400) b names (delivery_for x date)
    (omega (arith, numbers_fit x.date (x.warehouse ∷ x.carrier ∷ date ∷ ones (mark_of (oldest_ten (dims b) b x.warehouse)) ∷ oldest_ten (dims b) b x.warehouse)))
    (omega (arith, numbers_fit x.date (x.warehouse ∷ x.carrier ∷ date ∷ (delivery_fault b names (delivery_for x date)).number ∷ [])))

-- ── run in turn ──
-- as many runs as requests, each run the request's at its place
abbrev Served : List Waiting → List Run → Type 0
Served [] [] = Unit {0}
Served [] (r ∷ rs) = ⊥
Served (x ∷ xs) [] = ⊥
Served (x ∷ xs) (r ∷ rs) = Serves x r × Served xs rs

-- the runs of a list and the requests that they take
runs_serve : (y : Yard) (es : List Event) → Served (taken y es) (runs y es)
runs_serve y [] = tt
runs_serve y (call r ∷ es) = runs_serve (after_event y (call r)) es
runs_serve y (queue x ∷ es) = runs_serve (after_event y (queue x)) es
runs_serve y (run date buffer ∷ es) = go (takes y.queue buffer) refl (runs_serve (after_event y (run date buffer)) es)
  where
    xs : List Waiting
    xs = taken (after_event y (run date buffer)) es

    rs : List Run
    rs = runs (after_event y (run date buffer)) es

    go : (t : Bool) → takes y.queue buffer ≡ t → Served xs rs → Served (cond t (first_in y.queue ∷ []) [] ++ xs) (cond t (run_of y date buffer ∷ []) [] ++ rs)
    go true e h = (serves y date buffer e, h)
    go false e h = h

served-long : (xs : List Waiting) (rs : List Run) → Served xs rs → length rs ≡ length xs
served-long [] [] h = refl
served-long [] (r ∷ rs) h = absurd h
served-long (x ∷ xs) [] h = absurd h
served-long (x ∷ xs) (r ∷ rs) h = ap suc (served-long xs rs h.1)

served-at : (xs : List Waiting) (rs : List Run) → Served xs rs → (i : ℕ) → i < length rs → Serves (get_or xs i free) (get_or rs i no_run)
served-at [] [] h i l = absurd (omega arith)
served-at [] (r ∷ rs) h i l = absurd h
served-at (x ∷ xs) [] h i l = absurd h
served-at (x ∷ xs) (r ∷ rs) h zero l = h.0
served-at (x ∷ xs) (r ∷ rs) h (suc i) l = served-at xs rs h.1 i (omega arith)

-- a count within 16 stays so
room-stays : (y : Yard) → length y.queue.waiting ≡ 16 → y.queue.count ≤ 16 → (es : List Event) → (after_events y es).queue.count ≤ 16
room-stays y h k [] = k
room-stays y h k (e ∷ es) = let m = moves y e h in room-stays (after_event y e) m.places (m.room k) es

-- a request at place j of those taken and then those that wait: run number j + 1 is its own, or it waits behind j less the runs
module _ (j : ℕ) (x : Waiting) (ts ws : List Waiting) (n : ℕ) (rs : List Run) (s : Served ts rs) (here : get_or (ts ++ take n ws) j free ≡ x) (l : j < length (ts ++ take n ws)) where
  own-run : j < length rs → Serves x (get_or rs j no_run)
  own-run h =
      subst (λ (w : Waiting). Serves w (get_or rs j no_run)) (sym (get_or-append ts (take n ws) free j (omega (arith, served-long ts rs s))) ∙ here) (served-at ts rs s j h)

  before-n : length rs ≤ j → j - length rs < n
  before-n h = omega (arith, served-long ts rs s, length-append ts (take n ws), length-take n ws)

  waits_still : length rs ≤ j → get_or ws (j - length rs) free ≡ x
  waits_still h =
      let m : length ts + (j - length rs) ≡ j = omega (arith, served-long ts rs s) in
      sym (get_or-take n ws (j - length rs) free (before-n h))
      ∙ sym (get_or-append-add ts (take n ws) (j - length rs) free)
      ∙ ap (λ (i : ℕ). get_or (ts ++ take n ws) i free) m
      ∙ here

-- "A request queued behind j others is run by run number j + 1 after it"
pub run_in_turn : RunInTurn
unfolding after_event
run_in_turn y x h e es =
    let j = y.queue.count in
    let q = waiting_in y.queue in
    let z = after_event y (queue x) in
    let r = (after_events z es).queue in
    let l = queue-room y.queue x e in
    let long : length q ≡ j = length-take-le j y.queue.waiting (omega arith) in
    let all : q ++ (x ∷ queued z es) ≡ taken z es ++ waiting_in r =
    subst (λ (t : Bool). q ++ (cond t (x ∷ []) [] ++ queued z es) ≡ taken z es ++ waiting_in r) (eq-eqb _ _ e) (first_in_first_out y h (queue x ∷ es)) in
    let here : get_or (taken z es ++ waiting_in r) j free ≡ x = rw (← all) (get_or_at q x (queued z es) free j long) in
    let some : j < length (taken z es ++ waiting_in r) = rw (← all) (omega (arith, length-append q (x ∷ queued z es))) in
    let m = moves y (queue x) h in
    record {
      served = own-run j x (taken z es) r.waiting r.count (runs z es) (runs_serve z es) here some;
      waits = waits_still j x (taken z es) r.waiting r.count (runs z es) (runs_serve z es) here some;
      counted = before-n j x (taken z es) r.waiting r.count (runs z es) (runs_serve z es) here some;
      room = room-stays z m.places (m.room (omega arith)) es;
    }
