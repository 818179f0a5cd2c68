-- Bounds of the tally: how large its sums can grow, from the slots that a book has.
-- Assumes nothing.
use mathlib.Core.Path.{◌≡◌, refl, ap, ◌∙◌}
use mathlib.Core.Bool.{Bool, true, false, ◌&&◌, cond}
use mathlib.Core.List.{List, [], ◌∷◌, ◌++◌}
use Prim.Native.Nat.{ℕ, zero, suc, ◌+◌, ◌*◌, ◌≤◌}
use native.Mathlib.Nat.{mul-le-mul}
use native.Mathlib.Omega.{arith}
use lib.Dec.{eqb}
use lib.ListN.{length, take, length-append}
use borrow.Author.Tests.{eq-eqb, ne_eqb}
use Rattle.model.specs.declared.Dims.{Dims}
use Rattle.model.specs.declared.Line.{Line}
use Rattle.model.specs.declared.NewOrder.{NewOrder}
use Rattle.model.specs.declared.Payment.{Payment}
use Rattle.model.specs.Tally.{Tally, Order, Paid, N, is2, is3, add_if, sums, worth, tally_payment, tally_line, tally_lines, tally_order, tally_district, tally_districts}
use Rattle.model.specs.Claim.{R}
use Rattle.model.proofs.ListLaws.{sum_le}
use Rattle.model.proofs.RowFacts.{AllIn}
use Rattle.model.proofs.OrderRows.{LineStep, Priced}
use Rattle.model.proofs.Parts.{and_no}
use Rattle.model.proofs.Sums.{sum_up, sum_same, sum_rise}

-- ── all orders of all districts ──
abbrev pub placed_of : Dims → (ℕ → ℕ → List Order) → ℕ
placed_of D orders = sum_up D.warehouses (λ w. sum_up 10 (λ k. length (orders w k)))

unfoldable pub placed : Dims → Tally → ℕ
placed D t = placed_of D t.orders

pub placed_le : (D : Dims) (t : Tally) → ((w k : ℕ) → N t w k ≤ D.orders) → placed D t ≤ D.orders * 10 * D.warehouses
unfolding placed
placed_le D t h = sum_le D.warehouses (D.orders * 10) (λ w. sum_up 10 (λ k. N t w k)) (λ w r. sum_le 10 D.orders (λ k. N t w k) (λ k s. h w k))

pub placed_kept : (D : Dims) (t t' : Tally) → t.orders ≡ t'.orders → placed D t ≡ placed D t'
unfolding placed
placed_kept D t t' e = ap (placed_of D) e

placed_join : (D : Dims) (t : Tally) (w k : ℕ) (o : Order) → R D.warehouses w → R 10 k → placed D (tally_order w k o t) ≡ placed D t + 1
unfolding placed tally_order
placed_join D t w k o r s =
    sum_rise D.warehouses w 1 (λ x. sum_up 10 (λ y. N t x y)) (λ x. sum_up 10 (λ y. N (tally_order w k o t) x y)) r
    (λ x ne. sum_same 10 (λ y. N (tally_order w k o t) x y) (λ y. N t x y) (λ y u. joined x y false (ap (λ (b : Bool). eqb y k && b) (ne_eqb x w ne) ∙ and_no (eqb y k))))
    (sum_rise 10 k 1 (λ y. N t w y) (λ y. N (tally_order w k o t) w y) s
    (λ y ne. joined w y false (ap (λ (b : Bool). b && eqb w w) (ne_eqb y k ne)))
    (joined w k true (rw (eq-eqb k k refl, eq-eqb w w refl)) ∙ length-append (t.orders w k) (o ∷ [])))
  where
    joined : (x y : ℕ) (e : Bool) → is2 w k x y ≡ e → length (cond (is2 w k x y) (t.orders x y ++ (o ∷ [])) (t.orders x y)) ≡ length (cond e (t.orders x y ++ (o ∷ [])) (t.orders x y))
    joined x y e p = ap (λ (b : Bool). length (cond b (t.orders x y ++ (o ∷ [])) (t.orders x y))) p

-- ── the bounds ──
-- an order has at most 15 lines of at most 10 at 99,999
abbrev pub max_sum : ℕ
max_sum = 14999850

abbrev pub Low : List Order → Type 0
Low [] = Unit {0}
Low (o ∷ os) = (o.sum ≤ max_sum) × Low os

low_append : (os : List Order) (o : Order) → Low os → o.sum ≤ max_sum → Low (os ++ (o ∷ []))
low_append [] o h q = (q, tt)
low_append (x ∷ os) o h q = (h.0, low_append os o h.1 q)

pub sums_le : (c : ℕ) (os : List Order) (m : ℕ) → Low os → sums c (take m os) ≤ max_sum * length os
sums_le c os zero h = omega arith
sums_le c [] (suc m) h = omega arith
sums_le c (o ∷ os) (suc m) h = go (eqb c o.customer) (sums_le c os m h.1)
  where
    go : (x : Bool) → sums c (take m os) ≤ max_sum * length os → cond x o.sum 0 + sums c (take m os) ≤ max_sum * suc (length os)
    go true ih = omega (arith, h.0)
    go false ih = omega arith

pub record Sane (D : Dims) (t : Tally) : Type 0 where
  pub warehouse : (w : ℕ) → t.warehouse w ≤ 500000 * length t.payments
  pub district : (w k : ℕ) → t.district w k ≤ 500000 * length t.payments
  pub paid : (w k c : ℕ) → t.paid w k c ≤ 500000 * length t.payments
  pub lots : (w i : ℕ) → t.lots w i ≤ 150 * placed D t
  pub low : (w k : ℕ) → Low (t.orders w k)

added : (x : Bool) (n m k : ℕ) → m ≤ 500000 * k → n ≤ 500000 → add_if x n m ≤ 500000 * (k + 1)
added true n m k h q = omega arith
added false n m k h q = omega arith

pub sane_pay : (D : Dims) (t : Tally) (q : Payment) (c : ℕ) → Sane D t → q.amount ≤ 500000 → Sane D (tally_payment q c t)
unfolding tally_payment placed
sane_pay D t q c s h =
    let p : Paid = record { request = q; customer = c } in
    let more = length-append t.payments (p ∷ []) in
    record {
      warehouse = λ w. rw more (added (eqb w q.warehouse) q.amount (t.warehouse w) (length t.payments) (s.warehouse w) h);
      district = λ w k. rw more (added (is2 q.warehouse q.district w k) q.amount (t.district w k) (length t.payments) (s.district w k) h);
      paid = λ w k x. rw more (added (is3 q.custwarehouse q.custdistrict c w k x) q.amount (t.paid w k x) (length t.payments) (s.paid w k x) h);
      lots = s.lots;
      low = s.low;
    }

pub sane-district : (D : Dims) (t : Tally) (w k : ℕ) → Sane D t → Sane D (tally_district w k t)
unfolding tally_district placed
sane-district D t w k s = record { warehouse = s.warehouse; district = s.district; paid = s.paid; lots = s.lots; low = s.low }

pub sane_districts : (D : Dims) (w n : ℕ) (t : Tally) → Sane D t → Sane D (tally_districts w n t)
sane_districts D w zero t s = s
sane_districts D w (suc n) t s = sane-district D (tally_districts w n t) w (suc n) (sane_districts D w n t s)

-- what the lines of an order leave as it was
pub record ButLots (t t' : Tally) : Type 0 where
  pub orders : t'.orders ≡ t.orders
  pub warehouse : t'.warehouse ≡ t.warehouse
  pub district : t'.district ≡ t.district
  pub paid : t'.paid ≡ t.paid
  pub payments : t'.payments ≡ t.payments

pub lines_leave : (ls : List Line) (t : Tally) → ButLots t (tally_lines ls t)
unfolding tally_line
lines_leave [] t = record { orders = refl; warehouse = refl; district = refl; paid = refl; payments = refl }
lines_leave (l ∷ ls) t =
    let r = lines_leave ls (tally_line l t) in
    record { orders = r.orders; warehouse = r.warehouse; district = r.district; paid = r.paid; payments = r.payments }

-- each line at most 10 of a kind
lots-lines : (D : Dims) (ls : List Line) → AllIn (LineStep D) ls → (t : Tally) (w i : ℕ) → (tally_lines ls t).lots w i ≤ t.lots w i + 10 * length ls
unfolding tally_line
lots-lines D [] r t w i = omega arith
lots-lines D (l ∷ ls) r t w i = go (is2 l.supply l.item w i) (lots-lines D ls r.1 (tally_line l t) w i)
  where
    go : (x : Bool) → (tally_lines ls (tally_line l t)).lots w i ≤ add_if x l.quantity (t.lots w i) + 10 * length ls
        → (tally_lines ls (tally_line l t)).lots w i ≤ t.lots w i + 10 * suc (length ls)
    go true h = omega (arith, r.0.quantity)
    go false h = omega arith

worth_le : (D : Dims) (pr : ℕ → ℕ) (ls : List Line) → AllIn (LineStep D) ls → AllIn (Priced pr) ls → worth pr ls ≤ 999990 * length ls
worth_le D pr [] r p = omega arith
worth_le D pr (l ∷ ls) r p = omega (arith, worth_le D pr ls r.1 p.1, mul-le-mul r.0.quantity.hi p.0.high)

pub sane_new : (D : Dims) (t : Tally) (q : NewOrder) (ls : List Line) (pr : ℕ → ℕ) → Sane D t → R D.warehouses q.warehouse → R 10 q.district → length ls ≤ 15
    → AllIn (LineStep D) ls → AllIn (Priced pr) ls
    → Sane D (tally_order q.warehouse q.district (record { customer = q.customer; sum = worth pr ls }) (tally_lines ls t))
unfolding tally_order
sane_new D t q ls pr s r r' hl lr lp = record {
  warehouse = λ w. rw (kept.warehouse, kept.payments) (s.warehouse w);
  district = λ w k. rw (kept.district, kept.payments) (s.district w k);
  paid = λ w k c. rw (kept.paid, kept.payments) (s.paid w k c);
  lots = λ w i.
      let e = placed_join D (tally_lines ls t) q.warehouse q.district o r r' in
      omega (arith, same_placed, lots-lines D ls lr t w i, s.lots w i);
  low = λ w k. lows w k (is2 q.warehouse q.district w k);
}
  where
    kept : ButLots t (tally_lines ls t)
    kept = lines_leave ls t

    same_placed : placed D (tally_lines ls t) ≡ placed D t
    same_placed = placed_kept D (tally_lines ls t) t kept.orders

    o : Order
    o = record { customer = q.customer; sum = worth pr ls }

    lows : (w k : ℕ) (x : Bool) → Low (cond x ((tally_lines ls t).orders w k ++ (o ∷ [])) ((tally_lines ls t).orders w k))
    lows w k false = rw kept.orders (s.low w k)
    lows w k true = rw kept.orders (low_append (t.orders w k) o (s.low w k) (omega (arith, worth_le D pr ls lr lp)))
