-- What each step hands on is what the model says: a request that is queued or not, a run that is made or not, and those behind the first moved up.
-- Assumes nothing.
use mathlib.Core.Path.{◌≡◌, refl, sym, ap, ◌∙◌}
use mathlib.Core.Bool.{true, false}
use mathlib.Core.List.{List, [], ◌∷◌, ◌++◌}
use Prim.Native.Nat.{ℕ, suc, ◌+◌, ◌-◌, ◌≤◌, ◌<◌}
use native.Mathlib.Omega.{arith}
use lib.Dec.{leb, ltb}
use lib.IntN.{ℤ}
use lib.ListN.{length, get_or, set, take, drop, length-drop}
use lib.Seq.{length-take-le, drop-cons, set-append_seam}
use borrow.Rule.Slice.PartMut.{put_mid}
use Rattle.model.specs.declared.DeliveryAnswer.{DeliveryAnswer}
use Rattle.model.specs.declared.Queue.{Queue}
use Rattle.model.specs.declared.QueueAnswer.{QueueAnswer}
use Rattle.model.specs.declared.Refused.{Refused}
use Rattle.std.proofs.Common.{Ok}
use Rattle.model.specs.declared.Waiting.{Waiting}
use Rattle.model.specs.Tests.{within}
use Rattle.model.specs.Numbers.{max_date}
use Rattle.model.specs.Text.{tabbed, line_text, on_front}
use Rattle.model.specs.Answer.{delivery_says}
use Rattle.model.specs.Queue.{free, queue_fault, queue_answer, queue_after, run_fault, first_in, run_request, moved_up, run_queue, run_answer, run_orders, run_book, result_line, run_buffer}
use Rattle.model.specs.Promises.{DeliveryCall, QueueCall, RunCall}
use Rattle.text.specs.Writing.{Wrote}
use Rattle.text.proofs.Putting.{wrote_then}
use Rattle.queue.specs.declared.Ran.{Ran}
use Rattle.queue.specs.Steps.{not_queued, NotRun}

-- ── the call that queues ──
module _ (q : Queue) (x : Waiting) where
  pub full : ltb q.count 16 ≡ false → QueueCall q x (not_queued q Refused.QueueFull).answer q
  unfolding queue_fault queue_answer queue_after
  full e = record { says = rw e; keeps = rw e }

  pub misdated : ltb q.count 16 ≡ true → within x.date 1 max_date ≡ false → QueueCall q x (not_queued q Refused.Date).answer q
  unfolding queue_fault queue_answer queue_after
  misdated e d = record { says = rw (e, d); keeps = rw (e, d) }

  abbrev behind : QueueAnswer
  behind = record { outcome = Ok (record { before = q.count }) }

  pub joins : ltb q.count 16 ≡ true → within x.date 1 max_date ≡ true
      → QueueCall q x behind (record { count = q.count + 1; waiting = set q.waiting q.count x })
  unfolding queue_fault queue_answer queue_after
  joins e d = record { says = rw (e, d); keeps = rw (e, d) }

-- ── the call that runs ──
module _ (b : List ℤ) (names : List ℕ) (q : Queue) (date : ℕ) (buffer : List ℕ) where
  -- 16 by the count, and by the buffer
  pub uncounted : (r : Ran) → within q.count 1 16 ≡ false → NotRun q r → RunCall b names q date buffer r.answer b r.queue buffer
  unfolding run_fault run_answer run_orders run_book run_queue run_buffer
  uncounted r e n = record { says = rw e n.says; orders = rw e n.orders; leaves = rw e; keeps = rw e n.keeps; writes = rw e }

  pub cramped : (r : Ran) → within q.count 1 16 ≡ true → leb 400 (length buffer) ≡ false → NotRun q r → RunCall b names q date buffer r.answer b r.queue buffer
  unfolding run_fault run_answer run_orders run_book run_queue run_buffer
  cramped r e l n =
      record { says = rw (e, l) n.says; orders = rw (e, l) n.orders; leaves = rw (e, l); keeps = rw (e, l) n.keeps; writes = rw (e, l) }

  -- the first carried out, its line written, the others moved up
  pub carried : (a : DeliveryAnswer) (left : List ℤ) (written : List ℕ) → within q.count 1 16 ≡ true → leb 400 (length buffer) ≡ true
      → DeliveryCall b names (run_request q date) a left → written ≡ on_front (result_line (first_in q) date (delivery_says a.outcome) a.orders) buffer
      → RunCall b names q date buffer a left (moved_up q) written
  unfolding run_fault run_answer run_orders run_book run_queue run_buffer
  carried a left written e l d w =
      record {
        says = rw (e, l) d.says;
        orders = rw (e, l) d.orders;
        leaves = rw (e, l) d.leaves;
        keeps = rw (e, l);
        writes = rw (e, l) (w ∙ rw (d.says, d.orders));
      }

-- ── those behind the first moved up ──
-- a place stored where the moved ones end
put_at : (k : ℕ) (us ws : List Waiting) (x : Waiting) → k ≤ length us → k < length ws → set (take k us ++ drop k ws) k x ≡ take k us ++ (x ∷ drop (suc k) ws)
put_at k us ws x h l =
    ap (λ (vs : List Waiting). set (take k us ++ vs) k x) (drop-cons ws k free l)
    ∙ ap (λ (i : ℕ). set (take k us ++ (get_or ws k free ∷ drop (suc k) ws)) i x) (sym (length-take-le k us h))
    ∙ set-append_seam (take k us) (get_or ws k free) (drop (suc k) ws) x

-- their places written anew, and the last of them free
pub moved : (ws ys : List Waiting) (n : ℕ) → 1 ≤ n → n ≤ length ws → ys ≡ take (n - 1) (drop 1 ws)
    → set (put_mid 0 (n - 1) ws ys) (n - 1) free ≡ take (n - 1) (drop 1 ws) ++ (free ∷ drop n ws)
moved ws ys n lo hi e =
    let m : suc (n - 1) ≡ n = omega arith in
    ap (λ (zs : List Waiting). set (zs ++ drop (n - 1) ws) (n - 1) free) e
    ∙ put_at (n - 1) (drop 1 ws) ws free (omega (arith, length-drop 1 ws)) (omega arith)
    ∙ ap (λ (j : ℕ). take (n - 1) (drop 1 ws) ++ (free ∷ drop j ws)) m

-- ── the result line ──
-- a line of a first field, the others and byte 10
pub fields-line : (l m k : List ℕ) (p e : ℕ) (f : List ℕ) (fs : List (List ℕ)) → Wrote l m 0 p f → Wrote m k p e (tabbed fs) → Wrote l (set k e 10) 0 (e + 1) (line_text (f ∷ fs))
unfolding line_text
fields-line l m k p e f fs a b =
    wrote_then l k (set k e 10) 0 e (e + 1) (f ++ tabbed fs) (10 ∷ []) (wrote_then l m k 0 p e f (tabbed fs) a b) (record { same = refl; place = refl })
