-- R-5: laws of one call that queues or runs: what it does to those that wait, to the book and in its result line.
-- Assumes nothing.
use mathlib.Core.Path.{◌≡◌, refl, sym, ap, ◌∙◌}
use mathlib.Core.Bool.{Bool, true, false, cond}
use mathlib.Core.List.{List, [], ◌∷◌, ◌++◌, append-nil, append_assoc}
use Prim.Native.Nat.{ℕ, zero, suc, ◌+◌, ◌-◌, ◌*◌, ◌≤◌, ◌<◌}
use native.Mathlib.Omega.{arith}
use native.Mathlib.Numerals.{add-one}
use lib.Dec.{leb, ltb, eqb}
use lib.IntN.{ℤ}
use lib.ListN.{length, get_or, set, take, drop, replicate, length-append, length-drop, length-set}
use lib.Seq.{take-suc-set, take-append-le, take-take, length-take-le}
use borrow.Author.Tests.{ltb-true, eqb-true}
use Rattle.model.specs.declared.Delivery.{Delivery}
use Rattle.model.specs.declared.Queue.{Queue}
use Rattle.model.specs.Tests.{Refusal}
use Rattle.model.specs.declared.Waiting.{Waiting}
use Rattle.model.specs.Tests.{within, chk}
use Rattle.model.specs.Numbers.{max_date}
use Rattle.model.specs.Text.{decimal, signeds, positives, tabbed, line_text}
use Rattle.model.specs.Lists.{up_to}
use Rattle.model.specs.Head.{dims}
use Rattle.model.specs.Answer.{Answer, committed, refused, answer_by}
use Rattle.model.specs.Delivery.{delivery_fault, oldest_ten, delivery_figures, delivery_answer, delivery_orders, delivery_book}
use Rattle.model.specs.Queue.{free, queue_fault, queue_after, run_fault, first_in, run_request, moved_up, run_queue, run_answer, run_orders, run_book, result_line, run_buffer}
use Rattle.model.specs.Request.{delivery, lent, fault_of, answer_of, orders_of, nums_after, last_after, notes_after}
use Rattle.model.specs.Tally.{Done, after_all, done_all}
use Rattle.model.specs.Events.{Event, call, queue, run, Yard, takes, after_event, stands_as, number_of, done_as, Run, joins, leaves}
use Rattle.model.specs.QueueClaim.{delivery_for, line_for, Serves, waiting_in}
use Rattle.model.proofs.TestLaws.{passed, within_in}
use Rattle.model.proofs.DecimalLaws.{dec_most}

-- ── the counts that 15 and 16 let through ──
pub queue-room : (q : Queue) (x : Waiting) → (queue_fault q x).number ≡ 0 → q.count < 16
unfolding queue_fault
queue-room q x e = ltb-true _ _ (passed (chk (ltb q.count 16) 15 ∷ chk (within x.date 1 max_date) 7 ∷ []) refl e).0

pub run_room : (q : Queue) (buffer : List ℕ) → (run_fault q buffer).number ≡ 0 → (1 ≤ q.count) × (q.count ≤ 16)
unfolding run_fault
run_room q buffer e = within_in q.count 1 16 (passed (chk (within q.count 1 16) 16 ∷ chk (leb 400 (length buffer)) 16 ∷ []) refl e).0

-- ── who waits ──
-- a call that leaves r of the waiting list q: who waited and then who joins are who leaves and then who waits; the places stay sixteen, a count within 16
-- stays within 16
pub record Moves (q : Queue) (ins outs : List Waiting) (r : Queue) : Type 0 where
  pub in_turn : waiting_in q ++ ins ≡ outs ++ waiting_in r
  pub places : length r.waiting ≡ 16
  pub room : q.count ≤ 16 → r.count ≤ 16

-- nothing has changed
stays : (q : Queue) → length q.waiting ≡ 16 → Moves q [] [] q
stays q h = record { in_turn = append-nil (waiting_in q); places = h; room = λ k. k }

-- one more stands last
joins-last : (q : Queue) (x : Waiting) → length q.waiting ≡ 16 → q.count < 16
    → Moves q (x ∷ []) [] (record { count = q.count + 1; waiting = set q.waiting q.count x })
joins-last q x h l = record {
  in_turn = sym (ap (λ (n : ℕ). take n (set q.waiting q.count x)) (add-one q.count) ∙ take-suc-set q.waiting q.count x (omega arith));
  places = length-set q.waiting q.count x ∙ h;
  room = λ k. omega arith;
}

-- the first has gone and the others have moved up
moved_list : (n : ℕ) (ws : List Waiting) → 1 ≤ n → n ≤ length ws
    → take n ws ≡ get_or ws 0 free ∷ take (n - 1) (take (n - 1) (drop 1 ws) ++ (free ∷ drop n ws))
moved_list zero ws h k = absurd (omega arith)
moved_list (suc n) [] h k = absurd (omega arith)
moved_list (suc n) (w ∷ ws) h k =
    let e : suc n - 1 ≡ n = omega arith in
    let l : length (take n ws) ≡ n = length-take-le n ws (omega arith) in
    rw e (ap (λ (xs : List Waiting). w ∷ xs) (sym (take-append-le n (take n ws) (free ∷ drop n ws) (omega arith) ∙ take-take n n ws (omega arith))))

moved_length : (n : ℕ) (ws : List Waiting) → 1 ≤ n → n ≤ length ws → length (take (n - 1) (drop 1 ws) ++ (free ∷ drop n ws)) ≡ length ws
moved_length n ws h k =
    let l : length (take (n - 1) (drop 1 ws)) ≡ n - 1 = length-take-le (n - 1) (drop 1 ws) (omega (arith, length-drop 1 ws)) in
    length-append (take (n - 1) (drop 1 ws)) (free ∷ drop n ws) ∙ omega (arith, length-drop n ws)

pub first-leaves : (q : Queue) → length q.waiting ≡ 16 → 1 ≤ q.count → q.count ≤ 16 → Moves q [] (first_in q ∷ []) (moved_up q)
unfolding first_in
first-leaves q h l k = record {
  in_turn = append-nil (waiting_in q) ∙ moved_list q.count q.waiting l (omega arith);
  places = moved_length q.count q.waiting l (omega arith) ∙ h;
  room = λ m. omega arith;
}

-- any call of a list
pub moves : (y : Yard) (e : Event) → length y.queue.waiting ≡ 16 → Moves y.queue (joins y e) (leaves y e) (after_event y e).queue
unfolding after_event queue_after run_queue
moves y (call r) h = stays y.queue h
moves y (queue x) h = go (eqb (queue_fault y.queue x).number 0) refl
  where
    go : (t : Bool) → eqb (queue_fault y.queue x).number 0 ≡ t
        → Moves y.queue (cond t (x ∷ []) []) [] (cond t (record { count = y.queue.count + 1; waiting = set y.queue.waiting y.queue.count x }) y.queue)
    go true e = joins-last y.queue x h (queue-room y.queue x (eqb-true _ _ e))
    go false e = stays y.queue h
moves y (run date buffer) h = go (takes y.queue buffer) refl
  where
    go : (t : Bool) → takes y.queue buffer ≡ t → Moves y.queue [] (cond t (first_in y.queue ∷ []) []) (cond t (moved_up y.queue) y.queue)
    go true e = let r = run_room y.queue buffer (eqb-true _ _ e) in first-leaves y.queue h r.0 r.1
    go false e = stays y.queue h

-- ── the calls of demand 3 ──
-- an answer's number is its refusal's
number_by : (f : Refusal) (figures : List ℤ) → number_of (answer_by f figures) ≡ f.number
number_by f figures = go (eqb f.number 0) refl
  where
    go : (t : Bool) → eqb f.number 0 ≡ t → number_of (cond t (committed figures) (refused f)) ≡ f.number
    go true e = sym (eqb-true _ _ e)
    go false e = refl

-- a call leaves and answers what those do that it stands for
pub stands : (y : Yard) (e : Event) → ((after_event y e).lent ≡ after_all y.lent (stands_as y e)) × (done_as y e ≡ done_all y.lent (stands_as y e))
unfolding after_event run_book run_answer delivery_answer fault_of nums_after last_after notes_after
stands y (call r) = (refl, refl)
stands y (queue x) = (refl, refl)
stands y (run date buffer) = go (takes y.queue buffer)
  where
    b : List ℤ
    b = y.lent.nums

    names : List ℕ
    names = y.lent.names

    done : ℕ → List Done
    done n = record { request = delivery (run_request y.queue date); number = n } ∷ []

    go : (t : Bool)
        → (lent (cond t (delivery_book b names (run_request y.queue date)) b) names y.lent.last y.lent.notes y.lent.topup ≡ after_all y.lent (cond t (delivery (run_request y.queue date) ∷ []) []))
        × (cond t (done (number_of (cond t (delivery_answer b names (run_request y.queue date)) (refused (run_fault y.queue buffer))))) []
        ≡ done_all y.lent (cond t (delivery (run_request y.queue date) ∷ []) []))
    go true = (refl, ap done (number_by (delivery_fault b names (run_request y.queue date)) (delivery_figures (dims b) b (run_request y.queue date))))
    go false = (refl, refl)

-- ── the result line ──
-- a line of fields is its first field and the others, each after a tab, then byte 10
abbrev tabs : List (List ℕ) → List ℕ
tabs [] = 10 ∷ []
tabs (f ∷ fs) = 9 ∷ f ++ tabs fs

tabs_end : (fs : List (List ℕ)) → tabbed fs ++ (10 ∷ []) ≡ tabs fs
unfolding tabbed
tabs_end [] = refl
tabs_end (f ∷ fs) = ap (λ (l : List ℕ). 9 ∷ l) (append_assoc f (tabbed fs) (10 ∷ []) ∙ ap (λ (l : List ℕ). f ++ l) (tabs_end fs))

line_tabs : (f : List ℕ) (fs : List (List ℕ)) → line_text (f ∷ fs) ≡ f ++ tabs fs
unfolding line_text
line_tabs f fs = append_assoc f (tabbed fs) (10 ∷ []) ∙ ap (λ (l : List ℕ). f ++ l) (tabs_end fs)

-- twenty digits a number at most, and a tab or byte 10
tabs_fit : (ns : List ℕ) → length (tabs (signeds (positives ns))) ≤ 21 * length ns + 1
tabs_fit [] = omega arith
tabs_fit (n ∷ ns) = omega (arith, length-append (decimal n) (tabs (signeds (positives ns))), dec_most n, tabs_fit ns)

pub numbers_fit : (n : ℕ) (ns : List ℕ) → length (line_text (signeds (positives (n ∷ ns)))) ≤ 21 * suc (length ns)
numbers_fit n ns = rw (line_tabs (decimal n) (signeds (positives ns))) (omega (arith, length-append (decimal n) (tabs (signeds (positives ns))), dec_most n, tabs_fit ns))

-- what holds of a committed Delivery's answer and numbers and of a refused one's holds of every Delivery's
pub by_answer : (P : Answer → List ℕ → Type 0) (b : List ℤ) (names : List ℕ) (q : Delivery) → P (committed (delivery_figures (dims b) b q)) (oldest_ten (dims b) b q.warehouse)
    → P (refused (delivery_fault b names q)) (replicate 10 0) → P (delivery_answer b names q) (delivery_orders b names q)
unfolding delivery_answer delivery_orders
by_answer P b names q h k = go (eqb (delivery_fault b names q).number 0)
  where
    go : (t : Bool) → P (cond t (committed (delivery_figures (dims b) b q)) (refused (delivery_fault b names q))) (cond t (oldest_ten (dims b) b q.warehouse) (replicate 10 0))
    go true = h
    go false = k

-- the model's line is the claim's
pub line-is : (b : List ℤ) (names : List ℕ) (x : Waiting) (date : ℕ)
    → result_line x date (delivery_answer b names (delivery_for x date)) (delivery_orders b names (delivery_for x date))
    ≡ line_for x date (delivery_answer b names (delivery_for x date)) (delivery_orders b names (delivery_for x date))
unfolding result_line oldest_ten up_to
line-is b names x date = by_answer (λ a orders. result_line x date a orders ≡ line_for x date a orders) b names (delivery_for x date) (line_tabs _ _) (line_tabs _ _)

-- ── a run that takes a request ──
-- .. as its caller sees it
abbrev pub run_of : Yard → ℕ → List ℕ → Run
run_of y date buffer = record {
  date = date;
  before = y.lent;
  after = (after_event y (run date buffer)).lent;
  answer = run_answer y.lent.nums y.lent.names y.queue date buffer;
  orders = run_orders y.lent.nums y.lent.names y.queue date buffer;
  lent = buffer;
  left = run_buffer y.lent.nums y.lent.names y.queue date buffer;
}

-- .. is the oldest one's
pub serves : (y : Yard) (date : ℕ) (buffer : List ℕ) → takes y.queue buffer ≡ true → Serves (first_in y.queue) (run_of y date buffer)
unfolding after_event run_book run_answer run_orders run_buffer run_request answer_of orders_of nums_after last_after notes_after
serves y date buffer e = record {
  answer = rw e;
  orders = rw e;
  leaves = rw e;
  line = rw e (ap (λ (l : List ℕ). l ++ drop (length l) buffer) (line-is y.lent.nums y.lent.names (first_in y.queue) date));
}
