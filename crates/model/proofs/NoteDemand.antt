-- R-4: the customers' texts after every list of the five calls, from any book and with any bytes lent.
-- Assumes nothing.
use mathlib.Core.Path.{◌≡◌, refl, sym, ap, ◌∙◌, subst}
use mathlib.Core.Logic.{◌≢◌}
use mathlib.Core.Bool.{Bool, true, false, cond}
use mathlib.Core.List.{List, [], ◌∷◌, ◌++◌, append_assoc}
use Prim.Native.Nat.{ℕ}
use native.Mathlib.Omega.{arith}
use lib.Dec.{eqb}
use lib.IntN.{ℤ, pos}
use lib.ListN.{length, take}
use borrow.Author.Tests.{eqb-true, eq-eqb}
use Rattle.model.specs.declared.Dims.{Dims}
use Rattle.model.specs.declared.Payment.{Payment}
use Rattle.model.specs.Tests.{Check, chk, staged}
use Rattle.model.specs.Numbers.{nat}
use Rattle.model.specs.Layout.{shapes}
use Rattle.model.specs.Store.{get}
use Rattle.model.specs.Rows.{customer_row}
use Rattle.model.specs.Head.{dims, head_ok}
use Rattle.model.specs.Names.{Who}
use Rattle.model.specs.Note.{note_place, text_at, note_bytes, notes_long, note_of, moved, replaced}
use Rattle.model.specs.NewOrder.{new_asked, new_used, new_order_fault}
use Rattle.model.specs.Payment.{pay_asked, pay_used, pay_first, payment_fault, payer, is_bad, note_commit, payment_notes}
use Rattle.model.specs.Delivery.{delivery_asked, delivery_used, delivery_fault}
use Rattle.model.specs.OrderStatus.{status_asked, status_used, status_fault}
use Rattle.model.specs.StockLevel.{level_asked, level_used, stock_level_fault}
use Rattle.model.specs.Request.{Request, new_order, payment, delivery, order_status, stock_level, Lent, fault_of, notes_after, after}
use Rattle.model.specs.Tally.{Opened, Tally, Paid, is2, is3, tally_order, tally_district, tally_payment, count, start, tally, opened_of, after_all, done_all, tallied}
use Rattle.model.specs.Claim.{R}
use Rattle.model.specs.NoteClaim.{note_for, paid_by, newest_first, is_payment, NewestFirst, ThenSpaces, NoneForGoodCredit, OthersUntouched, PaymentAlone, LengthStays, NotesServe}
use Rattle.model.proofs.TestLaws.{and_left, and_right, not_answered}
use Rattle.model.proofs.NumberLaws.{nat-pos, nat_small}
use Rattle.model.proofs.PaymentFacts.{PayReady, pay_ready}
use Rattle.model.proofs.Parts.{hit2}
use Rattle.model.proofs.Sane.{lines_leave}
use Rattle.model.proofs.Calls.{opened_at, counted}
use Rattle.model.proofs.Never.{avoids, avoided, unanswered}
use Rattle.model.proofs.Steady.{Steady, steady-call}
use Rattle.model.proofs.NoteLaws.{take_inner, note_is, newest_more, newest_none, length-replaced, length_moved, text-whole, text_in, text_spaces, length-text, text-own, text-other}

-- ── one Payment ──
hit3 : (P : ℕ → ℕ → ℕ → Type 0) (w₀ k₀ c₀ w k c : ℕ) → is3 w₀ k₀ c₀ w k c ≡ true → P w₀ k₀ c₀ → P w k c
hit3 P w₀ k₀ c₀ w k c e p =
    let ec = eqb-true c c₀ (and_left (eqb c c₀) (is2 w₀ k₀ w k) e) in
    subst (λ (x : ℕ). P w k x) (sym ec) (hit2 (λ w k. P w k c₀) w₀ k₀ w k (and_right (eqb c c₀) (is2 w₀ k₀ w k) e) p)

-- no note is put before a text
none_put : (D : Dims) (notes : List ℕ) (w k c : ℕ) (x : Bool) → text_at D notes w k c ≡ take 500 (cond x [] [] ++ text_at D notes w k c)
none_put D notes w k c true = sym (text-whole D notes w k c)
none_put D notes w k c false = sym (text-whole D notes w k c)

module _ (D : Dims) (b : List ℤ) (names notes : List ℕ) (q : Payment) (who : Who) (f : PayReady D b names notes q who) where
  -- the payer, its payment, its text with the note, and all texts with that
  abbrev w₀ : ℕ
  w₀ = q.custwarehouse

  abbrev k₀ : ℕ
  k₀ = q.custdistrict

  abbrev c₀ : ℕ
  c₀ = payer D names q who

  abbrev p : Paid
  p = record { request = q; customer = c₀ }

  abbrev put : List ℕ
  put = moved (note_of q c₀) (text_at D notes w₀ k₀ c₀)

  abbrev all : List ℕ
  all = replaced (note_place D w₀ k₀ c₀) put notes

  long_put : length put ≡ 500
  long_put = length_moved (note_of q c₀) (text_at D notes w₀ k₀ c₀) (length-text D w₀ k₀ c₀ f.asked.cw f.asked.ck f.used.c notes f.noted)

  commit_long : length (note_commit D b notes q c₀) ≡ length notes
  unfolding note_commit
  commit_long = go (is_bad D b w₀ k₀ c₀)
    where
      go : (x : Bool) → length (cond x all notes) ≡ length notes
      go true = length-replaced (note_place D w₀ k₀ c₀) put notes long_put (omega (arith, f.noted, text_in D w₀ k₀ c₀ f.asked.cw f.asked.ck f.used.c))
      go false = refl

  -- the payer's text and that of anybody else
  own : (x : Bool) → text_at D (cond x all notes) w₀ k₀ c₀ ≡ take 500 (cond x (note_for p) [] ++ text_at D notes w₀ k₀ c₀)
  unfolding moved
  own true =
      text-own D w₀ k₀ c₀ f.asked.cw f.asked.ck f.used.c notes f.noted put long_put
      ∙ ap (λ (l : List ℕ). take 500 (l ++ text_at D notes w₀ k₀ c₀)) (note_is q c₀)
  own false = none_put D notes w₀ k₀ c₀ true

  other : (w k c : ℕ) → R D.warehouses w → R 10 k → R D.customers c → paid_by w k c p ≡ false → (x : Bool) → text_at D (cond x all notes) w k c ≡ text_at D notes w k c
  other w k c r s u e true = text-other D w k c r s u notes f.noted w₀ k₀ c₀ f.asked.cw f.asked.ck f.used.c e put long_put
  other w k c r s u e false = refl

  commit_text : (w k c : ℕ) → R D.warehouses w → R 10 k → R D.customers c
      → text_at D (note_commit D b notes q c₀) w k c ≡ take 500 (cond (is_bad D b w k c) (cond (paid_by w k c p) (note_for p) []) [] ++ text_at D notes w k c)
  unfolding note_commit
  commit_text w k c r s u = go (paid_by w k c p) refl
    where
      go : (y : Bool) → paid_by w k c p ≡ y
          → text_at D (note_commit D b notes q c₀) w k c ≡ take 500 (cond (is_bad D b w k c) (cond y (note_for p) []) [] ++ text_at D notes w k c)
      go true e =
          hit3 (λ w k c. text_at D (note_commit D b notes q c₀) w k c ≡ take 500 (cond (is_bad D b w k c) (note_for p) [] ++ text_at D notes w k c)) w₀ k₀ c₀ w k c e
          (own (is_bad D b w₀ k₀ c₀))
      go false e = other w k c r s u e (is_bad D b w₀ k₀ c₀) ∙ none_put D notes w k c (is_bad D b w k c)

-- ── one call ──
-- "written by Payment alone"
pub payment_alone : PaymentAlone
unfolding notes_after
payment_alone s (new_order q ls) e = refl
payment_alone s (payment q who) e = let z : ◌≡◌ {A = ℕ} 0 1 = cc in absurd (omega arith)
payment_alone s (delivery q) e = refl
payment_alone s (order_status q who) e = refl
payment_alone s (stock_level q) e = refl

-- .. and counted by Payment alone
payments_stay : (o : Opened) (r : Request) (t : Tally) → is_payment r ≡ false → (count o r t).payments ≡ t.payments
unfolding count tally_order tally_district
payments_stay o (new_order q ls) t e = (lines_leave ls t).payments
payments_stay o (payment q who) t e = let z : ◌≡◌ {A = ℕ} 0 1 = cc in absurd (omega arith)
payments_stay o (delivery q) t e = refl
payments_stay o (order_status q who) t e = refl
payments_stay o (stock_level q) t e = refl

-- a list of calls so far: t is its tally, s what it left. The sizes D and whether the customer's credit is 1 are as at its start, and the customer's text is
-- its notes, if its credit is 1, followed by the text at the start
record Noted (D : Dims) (w k c : ℕ) (x : Bool) (text : List ℕ) (t : Tally) (s : Lent) : Type 0 where
  pub size : dims s.nums ≡ D
  pub credit : is_bad D s.nums w k c ≡ x
  pub reads : text_at D s.notes w k c ≡ take 500 (cond x (newest_first w k c t.payments) [] ++ text)

-- a payment more
notes-more : (w k c : ℕ) (x : Bool) (text : List ℕ) (ps : List Paid) (p : Paid)
    → take 500 (cond x (cond (paid_by w k c p) (note_for p) []) [] ++ take 500 (cond x (newest_first w k c ps) [] ++ text))
    ≡ take 500 (cond x (newest_first w k c (ps ++ (p ∷ []))) [] ++ text)
notes-more w k c false text ps p = take_inner 500 500 [] text (omega arith)
notes-more w k c true text ps p =
    let n : List ℕ = cond (paid_by w k c p) (note_for p) [] in
    take_inner 500 500 n (newest_first w k c ps ++ text) (omega arith)
    ∙ ap (take 500) (sym (append_assoc n (newest_first w k c ps) text) ∙ ap (λ (l : List ℕ). l ++ text) (sym (newest_more w k c ps p)))

module _ (D : Dims) (b₀ : List ℤ) (w k c : ℕ) (hw : R D.warehouses w) (hk : R 10 k) (hc : R D.customers c) (x : Bool) (text : List ℕ) where
  others-read : (t : Tally) (s : Lent) → Noted D w k c x text t s → (r : Request) → is_payment r ≡ false
      → text_at D (notes_after s r) w k c ≡ take 500 (cond x (newest_first w k c (counted D b₀ t s r).payments) [] ++ text)
  others-read t s n r e = rw (payment_alone s r e) (n.reads ∙ ap (λ (ps : List Paid). take 500 (cond x (newest_first w k c ps) [] ++ text)) (sym (go (eqb (fault_of s r).number 0))))
    where
      go : (y : Bool) → (cond y (count (opened_at D b₀ s.names) r t) t).payments ≡ t.payments
      go true = payments_stay (opened_at D b₀ s.names) r t e
      go false = refl

  payment-reads : (t : Tally) (s : Lent) → Noted D w k c x text t s → (q : Payment) (who : Who)
      → text_at D (notes_after s (payment q who)) w k c ≡ take 500 (cond x (newest_first w k c (counted D b₀ t s (payment q who)).payments) [] ++ text)
  unfolding notes_after payment_notes fault_of count tally_payment payer
  payment-reads t s n q who = go (eqb (payment_fault s.nums s.names s.notes q who).number 0) refl
    where
      p : Paid
      p = record { request = q; customer = payer D s.names q who }

      go : (y : Bool) → eqb (payment_fault s.nums s.names s.notes q who).number 0 ≡ y
          → text_at D (cond y (note_commit (dims s.nums) s.nums s.notes q (payer (dims s.nums) s.names q who)) s.notes) w k c
          ≡ take 500 (cond x (newest_first w k c (cond y (tally_payment q (payer D s.names q who) t) t).payments) [] ++ text)
      go false e = n.reads
      go true e =
          let f = subst (λ (d : Dims). PayReady d s.nums s.names s.notes q who) n.size (pay_ready s.nums s.names s.notes q who (eqb-true _ _ e)) in
          ap (λ (d : Dims). text_at D (note_commit d s.nums s.notes q (payer d s.names q who)) w k c) n.size
          ∙ commit_text D s.nums s.names s.notes q who f w k c hw hk hc
          ∙ rw (n.credit, n.reads) (notes-more w k c x text t.payments p)

  reads-call : (t : Tally) (s : Lent) → Noted D w k c x text t s → (r : Request)
      → text_at D (notes_after s r) w k c ≡ take 500 (cond x (newest_first w k c (counted D b₀ t s r).payments) [] ++ text)
  reads-call t s n (new_order q ls) = others-read t s n (new_order q ls) refl
  reads-call t s n (payment q who) = payment-reads t s n q who
  reads-call t s n (delivery q) = others-read t s n (delivery q) refl
  reads-call t s n (order_status q who) = others-read t s n (order_status q who) refl
  reads-call t s n (stock_level q) = others-read t s n (stock_level q) refl

  noted_call : (t : Tally) (s : Lent) → Noted D w k c x text t s → (r : Request) → Noted D w k c x text (counted D b₀ t s r) (after s r)
  unfolding is_bad
  noted_call t s n r =
      let h : Steady D s.nums (after s r).nums = subst (λ (d : Dims). Steady d s.nums (after s r).nums) n.size (steady-call s r) in
      record { size = h.head; credit = ap (λ (z : ℤ). eqb (nat z) 1) (h.credit w k c hw hk hc) ∙ n.credit; reads = reads-call t s n r }

  -- ── any list ──
  noted_list : (rs : List Request) (t : Tally) (s : Lent) → Noted D w k c x text t s → Noted D w k c x text (tally (opened_at D b₀ s.names) (done_all s rs) t) (after_all s rs)
  noted_list [] t s n = n
  noted_list (r ∷ rs) t s n = noted_list rs (counted D b₀ t s r) (after s r) (noted_call t s n r)

module _ (s : Lent) (rs : List Request) (w k c : ℕ) (hw : R (dims s.nums).warehouses w) (hk : R 10 k) (hc : R (dims s.nums).customers c) where
  -- any text at the start, whatever the credit is
  history-text : text_at (dims s.nums) (after_all s rs).notes w k c
      ≡ take 500 (cond (is_bad (dims s.nums) s.nums w k c) (newest_first w k c (tallied s rs).payments) [] ++ text_at (dims s.nums) s.notes w k c)
  unfolding opened_of start
  history-text =
      let D = dims s.nums in
      let x = is_bad D s.nums w k c in
      (noted_list D s.nums w k c hw hk hc x (text_at D s.notes w k c) rs start s (record { size = refl; credit = refl; reads = none_put D s.notes w k c x })).reads

-- credit 1, as the call tests it and as the claim reads it
bad_credit : (D : Dims) (b : List ℤ) (w k c : ℕ) → get (shapes D) b (customer_row w k c) ≡ pos 1 → is_bad D b w k c ≡ true
unfolding is_bad
bad_credit D b w k c e = eq-eqb _ 1 (ap nat e ∙ nat-pos 1)

credit_bad : (D : Dims) (b : List ℤ) (w k c : ℕ) → is_bad D b w k c ≡ true → get (shapes D) b (customer_row w k c) ≡ pos 1
unfolding is_bad
credit_bad D b w k c e =
    let h = eqb-true (nat (get (shapes D) b (customer_row w k c))) 1 e in
    nat_small (get (shapes D) b (customer_row w k c)) (omega arith) ∙ ap pos h

-- "the text is the first 500 bytes of their notes, newest first, followed by" what it was
pub newest_first_lem : NewestFirst
newest_first_lem s rs w k c r d u e =
    history-text s rs w k c r d u
    ∙ ap (λ (x : Bool). take 500 (cond x (newest_first w k c (tallied s rs).payments) [] ++ text_at (dims s.nums) s.notes w k c)) (bad_credit (dims s.nums) s.nums w k c e)

-- ".. followed by spaces"
pub then_spaces : ThenSpaces
then_spaces s h rs w k c r d u e =
    newest_first_lem s rs w k c r d u e
    ∙ ap (λ (l : List ℕ). take 500 (newest_first w k c (tallied s rs).payments ++ l)) (ap (λ (l : List ℕ). text_at (dims s.nums) l w k c) h ∙ text_spaces (dims s.nums) w k c r d u)

-- "to a customer with credit 1"
pub none_for_good_credit : NoneForGoodCredit
none_for_good_credit s rs w k c r d u ne = history-text s rs w k c r d u ∙ go (is_bad (dims s.nums) s.nums w k c) refl
  where
    go : (x : Bool) → is_bad (dims s.nums) s.nums w k c ≡ x
        → take 500 (cond x (newest_first w k c (tallied s rs).payments) [] ++ text_at (dims s.nums) s.notes w k c) ≡ text_at (dims s.nums) s.notes w k c
    go true e = absurd (ne (credit_bad (dims s.nums) s.nums w k c e))
    go false e = text-whole (dims s.nums) s.notes w k c

-- "Other customers' texts are untouched."
pub others_untouched : OthersUntouched
others_untouched s rs w k c r d u e =
    history-text s rs w k c r d u
    ∙ ap (λ (l : List ℕ). take 500 (cond (is_bad (dims s.nums) s.nums w k c) l [] ++ text_at (dims s.nums) s.notes w k c)) (newest_none w k c (tallied s rs).payments e)
    ∙ sym (none_put (dims s.nums) s.notes w k c (is_bad (dims s.nums) s.nums w k c))

-- ── the text's length ──
length-call : (s : Lent) (r : Request) → length (notes_after s r) ≡ length s.notes
unfolding notes_after payment_notes
length-call s (new_order q ls) = refl
length-call s (payment q who) = go (eqb (payment_fault s.nums s.names s.notes q who).number 0) refl
  where
    go : (x : Bool) → eqb (payment_fault s.nums s.names s.notes q who).number 0 ≡ x
        → length (cond x (note_commit (dims s.nums) s.nums s.notes q (payer (dims s.nums) s.names q who)) s.notes) ≡ length s.notes
    go false e = refl
    go true e = commit_long (dims s.nums) s.nums s.names s.notes q who (pay_ready s.nums s.names s.notes q who (eqb-true _ _ e))
length-call s (delivery q) = refl
length-call s (order_status q who) = refl
length-call s (stock_level q) = refl

pub length-stays : LengthStays
length-stays s [] = refl
length-stays s (r ∷ rs) = length-stays (after s r) rs ∙ length-call s r

-- ── 14 ──
-- a call without a test that 14 is the number of
not_14 : (s : Lent) (asked used : List Check) → avoids 14 (asked ++ used) ≡ true → (staged (head_ok s.nums (length s.names)) asked used).number ≢ 14
not_14 s asked used e = unanswered 14 (chk (head_ok s.nums (length s.names)) 2 ∷ asked ++ used) (omega arith) e

serves_call : (s : Lent) → length s.notes ≡ note_bytes (dims s.nums) → (r : Request) → (fault_of s r).number ≢ 14
unfolding fault_of new_order_fault payment_fault delivery_fault status_fault stock_level_fault new_asked new_used pay_asked pay_used delivery_asked delivery_used status_asked status_used level_asked level_used notes_long
serves_call s e (new_order q ls) = not_14 s (new_asked (dims s.nums) q ls) (new_used (dims s.nums) s.nums s.last s.topup q ls) refl
serves_call s e (payment q who) =
    let d = dims s.nums in
    not_answered 14 (chk (head_ok s.nums (length s.names)) 2 ∷ pay_first d s.notes q who ++ pay_used d s.nums s.names q who) (omega arith)
    (tt, λ _. (eq-eqb _ _ e, λ _. avoided 14 (pay_asked d q who ++ pay_used d s.nums s.names q who) refl))
serves_call s e (delivery q) = not_14 s (delivery_asked (dims s.nums) q) (delivery_used (dims s.nums) s.nums q) refl
serves_call s e (order_status q who) = not_14 s (status_asked (dims s.nums) q who) (status_used (dims s.nums) s.nums s.names s.last q who) refl
serves_call s e (stock_level q) = not_14 s (level_asked (dims s.nums) q) (level_used (dims s.nums) s.nums q) refl

-- a text of the right length is never answered 14
pub notes_serve : NotesServe
notes_serve s e [] = tt
notes_serve s e (r ∷ rs) =
    let e' = length-call s r ∙ e ∙ ap note_bytes (sym (steady-call s r).head) in
    (serves_call s e r, notes_serve (after s r) e' rs)
