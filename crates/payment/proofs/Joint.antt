-- What the code stores, having read everything before, is the model's list of changes done in turn; and the stages of a payment's tests.
-- Assumes nothing.
use mathlib.Core.Path.{◌≡◌, refl, sym, ◌∙◌, subst}
use mathlib.Core.Bool.{Bool, true, false, not}
use mathlib.Core.List.{List, [], ◌++◌}
use mathlib.Core.Logic.{◌≢◌}
use Prim.Native.Nat.{ℕ, suc, ◌+◌, ◌≤◌}
use native.Mathlib.Numerals.{add-one}
use native.Mathlib.Omega.{arith}
use borrow.Author.Tests.{eq-eqb, ne_eqb, not-false}
use lib.ListN.{length, set, length-set}
use lib.IntN.{ℤ, pos, ◌+ℤ◌, ◌-ℤ◌}
use Rattle.model.specs.declared.Dims.{Dims}
use Rattle.model.specs.declared.Payment.{Payment}
use Rattle.model.specs.Tests.{Refusal}
use Rattle.model.specs.Tests.{bare, fault}
use Rattle.std.specs.Prelude.{Result, Ok, Err}
use Rattle.model.specs.declared.PaymentFigures.{PaymentFigures}
use Rattle.model.specs.declared.Refused.{Refused}
use Rattle.model.specs.Answer.{numbered}
use Rattle.model.specs.Promises.{PaymentCall}
use Rattle.model.specs.Layout.{at, shapes, place, numbers, total}
use Rattle.model.specs.Store.{get, num}
use Rattle.model.specs.Names.{Who}
use Rattle.model.specs.Rows.{history_count, warehouse_ytd, district_ytd, balance, ytd_payment, payment_cnt, history_row}
use Rattle.model.specs.Note.{note_place, text_at, note_bytes, notes_long, note_of, moved, replaced}
use Rattle.model.specs.Payment.{pay_asked, pay_first, pay_used, payment_fault, payer, pay_ops, payment_commit, paid_balance, is_bad, note_commit, payment_answer, payment_book, payment_notes, history_numbers}
use Rattle.model.proofs.NumberLaws.{raised}
use Rattle.model.proofs.Fields.{v7, row_end, head-place, place_col}
use Rattle.model.proofs.Rewrite.{puts_row}
use Rattle.model.proofs.InTurn.{in_turn}
use Rattle.model.proofs.TestLaws.{passed_on, fault_then, fault-first}
use Rattle.model.proofs.AnswerLaws.{some-fits, nothing-fits}
use Rattle.layout.specs.Heads.{Read}
use Rattle.layout.proofs.Heads.{behind_head}
use Rattle.model.proofs.PaymentFacts.{PayAsked, PayReady, notes-long, pay_ready, pay_fine, pay_asked_lem, pay_asked_numbered}
use Rattle.payment.specs.Plan.{Payable, plan_of, store_plan, Small}

pub ready_payable : {d : Dims} {b : List ℤ} {names notes : List ℕ} {q : Payment} {who : Who} → PayReady d b names notes q who → Payable d b q (payer d names q who)
ready_payable r =
    let s = r.shaped in
    let a = r.asked in
    let u = r.used in
    record {
      dimsd = s.dimsd;
      long = s.long;
      six = s.six;
      w = a.w;
      k = a.k;
      cw = a.cw;
      ck = a.ck;
      rc = u.c;
      date_high = a.date.hi;
      amount_high = a.amount_high;
      warehouse = u.warehouse;
      district = u.district;
      customer = u.customer;
      room = u.room;
    }

pub payable_small : {d : Dims} {b : List ℤ} {q : Payment} {c : ℕ} → Payable d b q c → Small q c
payable_small r = omega (arith, r.dimsd, r.w, r.k, r.cw, r.ck, r.rc)

module _ (d : Dims) (b : List ℤ) (q : Payment) (c : ℕ) (r : Payable d b q c) where
  long : length b ≡ total (shapes d)
  unfolding numbers
  long = r.long

  room : place (shapes d) (history_row (suc (num (shapes d) b history_count))) + 7 ≤ length b
  room =
      let e = row_end (shapes d) 7 (suc (num (shapes d) b history_count)) 1 1 6 (v7 d (record { lo = omega arith; hi = omega (arith, r.room) }) 6 (omega arith)) refl in
      omega (arith, long, e)

  pub plan_run : store_plan b (plan_of d b q c) q c ≡ payment_commit d b q c
  unfolding store_plan plan_of payment_commit
  plan_run =
      let l = shapes d in
      let h = num l b history_count in
      let t = in_turn l (pay_ops h q c) b long (pay_fine d q h c r.w r.k r.cw r.ck r.rc r.room) refl in
      let h5 = place l (history_row (suc h)) in
      let b1 = set b (place l (warehouse_ytd q.warehouse)) (get l b (warehouse_ytd q.warehouse) +ℤ pos q.amount) in
      let b2 = set b1 (place l (district_ytd q.warehouse q.district)) (get l b (district_ytd q.warehouse q.district) +ℤ pos q.amount) in
      let b3 = set b2 (place l (balance q.custwarehouse q.custdistrict c)) (get l b (balance q.custwarehouse q.custdistrict c) -ℤ pos q.amount) in
      let b4 = set b3 (place l (ytd_payment q.custwarehouse q.custdistrict c)) (get l b (ytd_payment q.custwarehouse q.custdistrict c) +ℤ pos q.amount) in
      let b5 = set b4 (place l (payment_cnt q.custwarehouse q.custdistrict c)) (get l b (payment_cnt q.custwarehouse q.custdistrict c) +ℤ pos 1) in
      rw (
        raised (get (shapes d) b (warehouse_ytd q.warehouse)) q.amount (omega (arith, r.warehouse.ytd)),
        raised (get (shapes d) b (district_ytd q.warehouse q.district)) q.amount (omega (arith, r.district.ytd)),
        raised (get (shapes d) b (ytd_payment q.custwarehouse q.custdistrict c)) q.amount (omega (arith, r.customer.paid)),
        raised (get (shapes d) b (payment_cnt q.custwarehouse q.custdistrict c)) 1 (omega (arith, r.customer.payments)),
        raised (get (shapes d) b history_count) 1 (omega (arith, r.room, r.dimsd.histories_high)),
        add-one (num (shapes d) b history_count),
        puts_row (history_numbers q c) h5 b5 (simp length-set room),
      )
      (rw (head-place d) at t)

pub col : (d : Dims) (s x y z k : ℕ) → place (shapes d) (at s x y z 0) + k ≡ place (shapes d) (at s x y z k)
col d s x y z k = place_col (shapes d) [] s x y z k

pub noted-long : (d : Dims) (notes : List ℕ) {t : Bool} → t ≡ notes_long d notes → not t ≡ false → length notes ≡ note_bytes d
noted-long d notes {t} l s = notes-long d notes (sym l ∙ not-false t s)

-- ── a payment step by step ──
module _ (b : List ℤ) (names notes : List ℕ) (q : Payment) (who : Who) where
  refused_call : (r : Refused) {o : Result PaymentFigures Refused} → o ≡ Err r → numbered r ≡ payment_fault b names notes q who → PaymentCall b names notes q who (record { outcome = o }) b notes
  unfolding payment_answer payment_book payment_notes
  refused_call r e f =
      let z : (payment_fault b names notes q who).number ≢ 0 = some-fits r f in
      record { says = rw (e, ne_eqb _ _ z, f); leaves = rw (ne_eqb _ _ z); writes = rw (ne_eqb _ _ z) }

  -- behind 2 and 14
  module _ {d : Dims} (v : Read b (length names) d) {t : Bool} (l : t ≡ notes_long d notes) (s : not t ≡ false) where
    behind : {r : Refusal} → r ≡ fault (pay_asked d q who ++ pay_used d b names q who) → r ≡ payment_fault b names notes q who
    unfolding payment_fault
    behind e =
        behind_head b (length names) (λ x. pay_first x notes q who) (λ x. pay_used x b names q who) v
        (passed_on 14 (fault (pay_asked d q who ++ pay_used d b names q who)) l s e)

    pub refused_asked : (r : Refused) {o : Result PaymentFigures Refused} → o ≡ Err r → numbered r ≡ fault (pay_asked d q who) → PaymentCall b names notes q who (record { outcome = o }) b notes
    refused_asked r e f = refused_call r e (behind (f ∙ sym (fault-first (pay_asked d q who) (pay_used d b names q who) (some-fits r f))))

    module _ (a : bare 0 ≡ fault (pay_asked d q who)) where
      pub asked_in : PayAsked d q who
      asked_in = pay_asked_lem d q who (nothing-fits a)

      used_first : fault (pay_used d b names q who) ≡ payment_fault b names notes q who
      used_first = behind (sym (fault_then (pay_asked d q who) (pay_used d b names q who) (nothing-fits a) (pay_asked_numbered d q who)))

      pub refused_used : (r : Refused) {o : Result PaymentFigures Refused} → o ≡ Err r → numbered r ≡ fault (pay_used d b names q who) → PaymentCall b names notes q who (record { outcome = o }) b notes
      refused_used r e f = refused_call r e (f ∙ used_first)

      module _ (u : bare 0 ≡ fault (pay_used d b names q who)) {c : ℕ} (c-is : c ≡ payer d names q who) where
        none : (payment_fault b names notes q who).number ≡ 0
        none = nothing-fits (u ∙ used_first)

        pub pays : Payable d b q c
        pays =
            subst (λ (x : Dims). Payable x b q c) (sym v.same)
            (rw (c-is, v.same) (ready_payable (pay_ready b names notes q who none)))

        pub paid : {o : Result PaymentFigures Refused} {z : ℤ} {left : List ℤ} {written : List ℕ} → o ≡ Ok (record { customer = c; balance = z }) → z ≡ paid_balance d b q c
            → left ≡ payment_commit d b q c → written ≡ note_commit d b notes q c → PaymentCall b names notes q who (record { outcome = o }) left written
        unfolding payment_answer payment_book payment_notes
        paid eo ez el ew =
            record {
              says = rw (eo, ez, c-is, v.same, eq-eqb _ _ none);
              leaves = el ∙ rw (c-is, v.same, eq-eqb _ _ none);
              writes = ew ∙ rw (c-is, v.same, eq-eqb _ _ none);
            }

-- ── the note, by the credit that was read ──
module _ (d : Dims) (b : List ℤ) (notes : List ℕ) (q : Payment) (c : ℕ) {t : Bool} (e : t ≡ is_bad d b q.custwarehouse q.custdistrict c) where
  pub bad_noted : t ≡ true
      → replaced (note_place d q.custwarehouse q.custdistrict c) (moved (note_of q c) (text_at d notes q.custwarehouse q.custdistrict c)) notes
      ≡ note_commit d b notes q c
  unfolding note_commit
  bad_noted z = rw (← e, z)

  pub good_kept : t ≡ false → notes ≡ note_commit d b notes q c
  unfolding note_commit
  good_kept z = rw (← e, z)
