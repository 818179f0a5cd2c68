-- The tally's money is that of its payments, and a warehouse's is that of its ten districts.
-- Assumes nothing.
use mathlib.Core.Path.{◌≡◌, refl, sym, ap, ◌∙◌}
use mathlib.Core.Bool.{Bool, true, false, ◌&&◌}
use mathlib.Core.List.{List, [], ◌∷◌}
use Prim.Native.Nat.{ℕ, zero, suc, ◌+◌}
use lib.Dec.{eqb}
use borrow.Author.Tests.{eq-eqb, ne_eqb}
use Rattle.model.specs.declared.Line.{Line}
use Rattle.model.specs.declared.Payment.{Payment}
use Rattle.model.specs.Tally.{Tally, Order, Paid, is2, is3, add_if, start, tally_payment, tally_line, tally_lines, tally_order, tally_district, tally_districts}
use Rattle.model.specs.Claim.{R}
use Rattle.model.proofs.Parts.{amounts_by, is_payer, amounts-more, and_no}
use Rattle.model.proofs.Sums.{sum_up, sum_same, sum-zero, sum_rise}

abbrev pub is_paid_to : ℕ → Paid → Bool
is_paid_to w p = eqb w p.request.warehouse

abbrev pub is_paid_at : ℕ → ℕ → Paid → Bool
is_paid_at w k p = is2 p.request.warehouse p.request.district w k

pub record Booked (t : Tally) : Type 0 where
  pub warehouse : (w : ℕ) → t.warehouse w ≡ amounts_by (is_paid_to w) t.payments
  pub district : (w k : ℕ) → t.district w k ≡ amounts_by (is_paid_at w k) t.payments
  pub paid : (w k c : ℕ) → t.paid w k c ≡ amounts_by (is_payer w k c) t.payments
  pub ten : (w : ℕ) → t.warehouse w ≡ sum_up 10 (t.district w)

pub start-booked : Booked start
unfolding start
start-booked = record { warehouse = λ w. refl; district = λ w k. refl; paid = λ w k c. refl; ten = λ w. sym (sum-zero 10 (λ k. 0) (λ k r. refl)) }

-- one district's money rises with its warehouse's
ten_rise : (f : ℕ → ℕ) (k a m : ℕ) (x : Bool) → R 10 k → m ≡ sum_up 10 f → add_if x a m ≡ sum_up 10 (λ y. add_if (eqb y k && x) a (f y))
ten_rise f k a m false r e = e ∙ sum_same 10 f (λ y. add_if (eqb y k && false) a (f y)) (λ y u. ap (λ (b : Bool). add_if b a (f y)) (sym (and_no (eqb y k))))
ten_rise f k a m true r e =
    ap (λ (n : ℕ). n + a) e
    ∙ sym (sum_rise 10 k a f (λ y. add_if (eqb y k && true) a (f y)) r
    (λ y ne. ap (λ (b : Bool). add_if (b && true) a (f y)) (ne_eqb y k ne)) (ap (λ (b : Bool). add_if (b && true) a (f k)) (eq-eqb k k refl)))

pub booked_pay : (t : Tally) (q : Payment) (c : ℕ) → R 10 q.district → Booked t → Booked (tally_payment q c t)
unfolding tally_payment
booked_pay t q c r h =
    let p : Paid = record { request = q; customer = c } in
    record {
      warehouse = λ w. ap (λ (n : ℕ). add_if (eqb w q.warehouse) q.amount n) (h.warehouse w) ∙ sym (amounts-more (is_paid_to w) t.payments p);
      district = λ w k. ap (λ (n : ℕ). add_if (is2 q.warehouse q.district w k) q.amount n) (h.district w k) ∙ sym (amounts-more (is_paid_at w k) t.payments p);
      paid = λ w k x.
          ap (λ (n : ℕ). add_if (is3 q.custwarehouse q.custdistrict c w k x) q.amount n) (h.paid w k x) ∙ sym (amounts-more (is_payer w k x) t.payments p);
      ten = λ w. ten_rise (t.district w) q.district q.amount (t.warehouse w) (eqb w q.warehouse) r (h.ten w);
    }

pub booked-lines : (ls : List Line) (t : Tally) → Booked t → Booked (tally_lines ls t)
unfolding tally_line
booked-lines [] t h = h
booked-lines (l ∷ ls) t h = booked-lines ls (tally_line l t) (record { warehouse = h.warehouse; district = h.district; paid = h.paid; ten = h.ten })

pub booked-order : (w k : ℕ) (o : Order) (t : Tally) → Booked t → Booked (tally_order w k o t)
unfolding tally_order
booked-order w k o t h = record { warehouse = h.warehouse; district = h.district; paid = h.paid; ten = h.ten }

pub booked_districts : (w n : ℕ) (t : Tally) → Booked t → Booked (tally_districts w n t)
unfolding tally_district
booked_districts w zero t h = h
booked_districts w (suc n) t h =
    let r = booked_districts w n t h in
    record { warehouse = r.warehouse; district = r.district; paid = r.paid; ten = r.ten }
