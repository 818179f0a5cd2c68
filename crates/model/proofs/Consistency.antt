-- TPC-C's consistency conditions of clause 3.3.2, by number, hold after any list of calls.
-- An ORDER row is an order before next; a NEW-ORDER row is one of these that waits; an ORDER-LINE row is a line of one of these, its item
-- not 0; a HISTORY row is one up to the history count.
-- Assumes nothing.
use mathlib.Core.Path.{◌≡◌, refl, sym, ap, ◌∙◌, subst}
use mathlib.Core.Bool.{Bool, true, false, not, ◌&&◌, cond}
use mathlib.Core.List.{List, [], ◌∷◌}
use Prim.Native.Nat.{ℕ, zero, suc, ◌+◌, ◌*◌, ◌-◌, ◌≤◌, ◌<◌}
use native.Mathlib.Omega.{arith}
use native.Mathlib.Decide.{dec_lt}
use lib.Dec.{eqb, leb, ltb, leb-suc-suc}
use lib.IntN.{ℤ, pos, ◌+ℤ◌, ◌-ℤ◌}
use lib.ListN.{length, get_or, take}
use borrow.Author.Tests.{le-leb, lt-leb, ltb-true, lt-ltb, le-ltb}
use Rattle.model.specs.declared.Dims.{Dims}
use Rattle.model.specs.Numbers.{nat}
use Rattle.model.specs.Layout.{shapes}
use Rattle.model.specs.Store.{get, num, row_of}
use Rattle.model.specs.Rows.{history_count, warehouse_ytd, district_ytd, next_order, balance, ytd_payment, payment_cnt, delivery_cnt, order_col, order_row, order_customer, carrier, line_count, history_col}
use Rattle.model.specs.Head.{dims}
use Rattle.model.specs.Lists.{largest}
use Rattle.model.specs.Used.{order_used}
use Rattle.model.specs.Delivery.{waits, oldest}
use Rattle.model.specs.Opening.{Accepted}
use Rattle.model.specs.Request.{Request, Lent}
use Rattle.model.specs.Tally.{Tally, Order, Paid, N, M, is2, is3, sums, charged, after_all, tallied}
use Rattle.model.specs.Claim.{R, no_paid}
use Rattle.model.proofs.ListLaws.{largest_here}
use Rattle.model.proofs.NumberLaws.{nat-pos}
use Rattle.model.proofs.OrderRows.{SlotIs}
use Rattle.model.proofs.Parts.{no_order, bal, bal_back, amounts_by, times_of, is_payer, orders_by, handed_to}
use Rattle.model.proofs.StepDeliver.{next-num, oldest-is}
use Rattle.model.proofs.Sums.{sum_up, one_if, how_many, sum-none, sum-last, sum_first, sum_same, sum-zero}
use Rattle.model.proofs.Booked.{is_paid_to, is_paid_at}
use Rattle.model.proofs.SlotLaws.{slot-waits, slot-customer, slot-lines, slot-used, slot-carrier, slot-dates, slot-amounts}
use Rattle.model.proofs.RowFacts.{in_order}
use Rattle.model.proofs.Calls.{Good}
use Rattle.model.proofs.Never.{orders_in}
use Rattle.model.proofs.Demand.{history_good}

-- ── rows ──
-- how many ORDER rows a district has: they are numbered 1 to this
abbrev pub order_count : Dims → List ℤ → ℕ → ℕ → ℕ
order_count d b w k = num (shapes d) b (next_order w k) - 1

-- column c of line j, from 1, of order o
abbrev pub line_num : Dims → List ℤ → ℕ → ℕ → ℕ → ℕ → ℕ → ℕ
line_num d b w k o j c = num (shapes d) b (order_col d w k o (1 + 5 * j + c))

-- line j is an ORDER-LINE row
abbrev pub is_line : Dims → List ℤ → ℕ → ℕ → ℕ → ℕ → Bool
is_line d b w k o j = not (eqb (line_num d b w k o j 0) 0)

-- its delivery date is not null
abbrev pub is_dated : Dims → List ℤ → ℕ → ℕ → ℕ → ℕ → Bool
is_dated d b w k o j = not (eqb (line_num d b w k o j 4) 0)

-- the carrier is null
abbrev pub is_free : Dims → List ℤ → ℕ → ℕ → ℕ → Bool
is_free d b w k o = eqb (num (shapes d) b (carrier d w k o)) 0

abbrev pub history_num : Dims → List ℤ → ℕ → ℕ → ℕ
history_num d b h c = num (shapes d) b (history_col h c)

-- HISTORY row h is a payment by the customer
abbrev pub is_payment : Dims → List ℤ → ℕ → ℕ → ℕ → ℕ → Bool
is_payment d b w k c h = is3 (history_num d b h 2) (history_num d b h 1) (history_num d b h 0) w k c

-- the amounts of the customer's ORDER-LINE rows with a delivery date, and of its HISTORY rows
abbrev pub delivered_amounts : Dims → List ℤ → ℕ → ℕ → ℕ → ℕ
delivered_amounts d b w k c =
    sum_up (order_count d b w k)
    (λ o. cond (eqb c (num (shapes d) b (order_customer d w k o))) (sum_up 15 (λ j. cond (is_line d b w k o j && is_dated d b w k o j) (line_num d b w k o j 3) 0)) 0)

abbrev pub paid_amounts : Dims → List ℤ → ℕ → ℕ → ℕ → ℕ
paid_amounts d b w k c = sum_up (num (shapes d) b history_count) (λ h. cond (is_payment d b w k c h) (history_num d b h 6) 0)

-- ── the conditions ──
pub record Consistent (d : Dims) (b : List ℤ) : Type 0 where
  -- 1: W_YTD = sum(D_YTD)
  pub one : (w : ℕ) → R d.warehouses w → num (shapes d) b (warehouse_ytd w) ≡ sum_up 10 (λ k. num (shapes d) b (district_ytd w k))
  -- 2: D_NEXT_O_ID − 1 = max(O_ID): the rows 1 to next − 1 are ORDER rows, in range; = max(NO_O_ID), where an order waits
  pub two_orders : (w k o : ℕ) → R d.warehouses w → R 10 k → R (order_count d b w k) o → order_used d b w k o ≡ true
  pub two : (w k o : ℕ) → R d.warehouses w → R 10 k → R (order_count d b w k) o → waits d b w k o ≡ true → largest (waits d b w k) (order_count d b w k) ≡ order_count d b w k
  -- 3: max(NO_O_ID) − min(NO_O_ID) + 1 = number of NEW-ORDER rows, where an order waits
  pub three : (w k o : ℕ) → R d.warehouses w → R 10 k → R (order_count d b w k) o → waits d b w k o ≡ true
      → largest (waits d b w k) (order_count d b w k) - oldest d b w k + 1 ≡ how_many (order_count d b w k) (waits d b w k)
  -- 4: sum(O_OL_CNT) = number of ORDER-LINE rows
  pub four : (w k : ℕ) → R d.warehouses w → R 10 k
      → sum_up (order_count d b w k) (λ o. num (shapes d) b (line_count d w k o)) ≡ sum_up (order_count d b w k) (λ o. how_many 15 (is_line d b w k o))
  -- 5: O_CARRIER_ID is null if and only if there is a NEW-ORDER row
  pub five : (w k o : ℕ) → R d.warehouses w → R 10 k → R (order_count d b w k) o → is_free d b w k o ≡ waits d b w k o
  -- 6: O_OL_CNT = number of ORDER-LINE rows of the order
  pub six : (w k o : ℕ) → R d.warehouses w → R 10 k → R (order_count d b w k) o → num (shapes d) b (line_count d w k o) ≡ how_many 15 (is_line d b w k o)
  -- 7: OL_DELIVERY_D is null if and only if O_CARRIER_ID is
  pub seven : (w k o j : ℕ) → R d.warehouses w → R 10 k → R (order_count d b w k) o → R 15 j → is_line d b w k o j ≡ true → not (is_dated d b w k o j) ≡ is_free d b w k o
  -- 8: W_YTD = sum(H_AMOUNT)
  pub eight : (w : ℕ) → R d.warehouses w
      → num (shapes d) b (warehouse_ytd w) ≡ sum_up (num (shapes d) b history_count) (λ h. cond (eqb w (history_num d b h 4)) (history_num d b h 6) 0)
  -- 9: D_YTD = sum(H_AMOUNT)
  pub nine : (w k : ℕ) → R d.warehouses w → R 10 k
      → num (shapes d) b (district_ytd w k) ≡ sum_up (num (shapes d) b history_count) (λ h. cond (is2 (history_num d b h 4) (history_num d b h 3) w k) (history_num d b h 6) 0)
  -- 10: C_BALANCE = sum(OL_AMOUNT) − sum(H_AMOUNT), of lines with a delivery date
  pub ten : (w k c : ℕ) → R d.warehouses w → R 10 k → R d.customers c
      → get (shapes d) b (balance w k c) ≡ pos (delivered_amounts d b w k c) -ℤ pos (paid_amounts d b w k c)
  -- 11, of a book that starts with no order: ORDER rows less NEW-ORDER rows are those with a carrier
  pub eleven : (w k : ℕ) → R d.warehouses w → R 10 k
      → order_count d b w k - how_many (order_count d b w k) (waits d b w k) ≡ how_many (order_count d b w k) (λ o. not (is_free d b w k o))
  -- 12: C_BALANCE + C_YTD_PAYMENT = sum(OL_AMOUNT), of lines with a delivery date
  pub twelve : (w k c : ℕ) → R d.warehouses w → R 10 k → R d.customers c
      → get (shapes d) b (balance w k c) +ℤ get (shapes d) b (ytd_payment w k c) ≡ pos (delivered_amounts d b w k c)
  -- beside these: C_PAYMENT_CNT and C_DELIVERY_CNT are the customer's HISTORY rows and delivered orders
  pub payment_counts : (w k c : ℕ) → R d.warehouses w → R 10 k → R d.customers c
      → num (shapes d) b (payment_cnt w k c) ≡ how_many (num (shapes d) b history_count) (is_payment d b w k c)
  pub delivery_counts : (w k c : ℕ) → R d.warehouses w → R 10 k → R d.customers c
      → num (shapes d) b (delivery_cnt w k c) ≡ how_many (order_count d b w k) (λ o. eqb c (num (shapes d) b (order_customer d w k o)) && not (waits d b w k o))

-- ── sums over lists, by place ──
before : (j : ℕ) → 1 ≤ j → suc j - 1 ≡ suc (j - 1)
before j h = omega arith

module _ {A : Type 0} where
  abbrev pub total_of : (A → ℕ) → List A → ℕ
  total_of g [] = 0
  total_of g (x ∷ xs) = g x + total_of g xs

  by_place : (x : A) (g : A → ℕ) (xs : List A) → sum_up (length xs) (λ h. g (get_or xs (h - 1) x)) ≡ total_of g xs
  by_place x g [] = sum-none (λ h. g (get_or [] (h - 1) x))
  by_place x g (y ∷ ys) =
      sum_first (length ys) (λ h. g (get_or (y ∷ ys) (h - 1) x))
      ∙ ap (λ (n : ℕ). g y + n)
      (sum_same (length ys) (λ j. g (get_or (y ∷ ys) (suc j - 1) x)) (λ j. g (get_or ys (j - 1) x)) (λ j r. ap (λ (i : ℕ). g (get_or (y ∷ ys) i x)) (before j r.lo)) ∙ by_place x g ys)

  -- the first m entries
  by_first : (x : A) (g : A → ℕ) (xs : List A) (m : ℕ) → sum_up (length xs) (λ h. cond (leb m (h - 1)) 0 (g (get_or xs (h - 1) x))) ≡ total_of g (take m xs)
  by_first x g [] zero = sum-none (λ h. cond (leb 0 (h - 1)) 0 (g (get_or [] (h - 1) x)))
  by_first x g [] (suc m) = sum-none (λ h. cond (leb (suc m) (h - 1)) 0 (g (get_or [] (h - 1) x)))
  by_first x g (y ∷ ys) zero =
      sum-zero (suc (length ys)) (λ h. cond (leb 0 (h - 1)) 0 (g (get_or (y ∷ ys) (h - 1) x)))
      (λ h r. ap (λ (b : Bool). cond b 0 (g (get_or (y ∷ ys) (h - 1) x))) (le-leb 0 (h - 1) (omega arith)))
  by_first x g (y ∷ ys) (suc m) =
      sum_first (length ys) (λ h. cond (leb (suc m) (h - 1)) 0 (g (get_or (y ∷ ys) (h - 1) x)))
      ∙ ap (λ (b : Bool). cond b 0 (g y) + sum_up (length ys) (λ j. cond (leb (suc m) (suc j - 1)) 0 (g (get_or (y ∷ ys) (suc j - 1) x)))) (lt-leb (suc m) 0 (omega arith))
      ∙ ap (λ (n : ℕ). g y + n)
      (sum_same (length ys) (λ j. cond (leb (suc m) (suc j - 1)) 0 (g (get_or (y ∷ ys) (suc j - 1) x))) (λ j. cond (leb m (j - 1)) 0 (g (get_or ys (j - 1) x)))
      (λ j r. ap (λ (i : ℕ). cond (leb (suc m) i) 0 (g (get_or (y ∷ ys) i x))) (before j r.lo) ∙ ap (λ (b : Bool). cond b 0 (g (get_or ys (j - 1) x))) (leb-suc-suc m (j - 1)))
      ∙ by_first x g ys m)

amounts-total : (f : Paid → Bool) (ps : List Paid) → amounts_by f ps ≡ total_of (λ p. cond (f p) p.request.amount 0) ps
amounts-total f [] = refl
amounts-total f (p ∷ ps) = ap (λ (n : ℕ). cond (f p) p.request.amount 0 + n) (amounts-total f ps)

times-total : (f : Paid → Bool) (ps : List Paid) → times_of f ps ≡ total_of (λ p. cond (f p) 1 0) ps
times-total f [] = refl
times-total f (p ∷ ps) = ap (λ (n : ℕ). cond (f p) 1 0 + n) (times-total f ps)

sums-total : (c : ℕ) (os : List Order) → sums c os ≡ total_of (λ o. cond (eqb c o.customer) o.sum 0) os
sums-total c [] = refl
sums-total c (o ∷ os) = ap (λ (n : ℕ). cond (eqb c o.customer) o.sum 0 + n) (sums-total c os)

orders-total : (c : ℕ) (os : List Order) → orders_by c os ≡ total_of (λ o. cond (eqb c o.customer) 1 0) os
orders-total c [] = refl
orders-total c (o ∷ os) = ap (λ (n : ℕ). cond (eqb c o.customer) 1 0 + n) (orders-total c os)

-- ── how many ──
above : (f : ℕ → Bool) (m n : ℕ) → ((o : ℕ) → R n o → f o ≡ ltb m o) → how_many n f ≡ n - m
above f m zero h = sum-none (λ o. cond (f o) 1 0) ∙ omega arith
above f m (suc n) h =
    sum-last n (λ o. cond (f o) 1 0)
    ∙ go (ltb m (suc n)) (dec_lt m (suc n)) (h (suc n) (record { lo = omega arith; hi = omega arith })) (above f m n (λ o r. h o (record { lo = r.lo; hi = omega (arith, r.hi) })))
  where
    go : (x : Bool) → Dec (m < suc n) → f (suc n) ≡ ltb m (suc n) → how_many n f ≡ n - m → how_many n f + cond (f (suc n)) 1 0 ≡ suc n - m
    go x (yes q) e ih =
        let a : one_if (f (suc n)) ≡ 1 = ap one_if (e ∙ lt-ltb m (suc n) q) in
        omega arith
    go x (no q) e ih =
        let a : one_if (f (suc n)) ≡ 0 = ap one_if (e ∙ le-ltb m (suc n) (omega arith)) in
        omega arith

others : (f : ℕ → Bool) (n : ℕ) → how_many n f + how_many n (λ o. not (f o)) ≡ n
others f zero = let a = sum-none (λ o. cond (f o) 1 0) in let b = sum-none (λ o. cond (not (f o)) 1 0) in omega arith
others f (suc n) = go (f (suc n)) refl (others f n)
  where
    go : (x : Bool) → f (suc n) ≡ x → how_many n f + how_many n (λ o. not (f o)) ≡ n → how_many (suc n) f + how_many (suc n) (λ o. not (f o)) ≡ suc n
    go true e ih =
        let a : one_if (f (suc n)) ≡ 1 = ap one_if e in
        let b : one_if (not (f (suc n))) ≡ 0 = ap (λ (b : Bool). one_if (not b)) e in
        omega (arith, sum-last n (λ o. cond (f o) 1 0), sum-last n (λ o. cond (not (f o)) 1 0))
    go false e ih =
        let a : one_if (f (suc n)) ≡ 0 = ap one_if e in
        let b : one_if (not (f (suc n))) ≡ 1 = ap (λ (b : Bool). one_if (not b)) e in
        omega (arith, sum-last n (λ o. cond (f o) 1 0), sum-last n (λ o. cond (not (f o)) 1 0))

swap : (x y : Bool) (s : ℕ) → cond x (cond y 0 s) 0 ≡ cond y 0 (cond x s 0)
swap true true s = refl
swap true false s = refl
swap false true s = refl
swap false false s = refl

both_conds : (x y : Bool) → one_if (x && not y) ≡ cond y 0 (one_if x)
both_conds true true = refl
both_conds true false = refl
both_conds false true = refl
both_conds false false = refl

-- ── from the tally to the rows ──
module _ (D : Dims) (b₀ : List ℤ) (t : Tally) (b : List ℤ) (g : Good D b₀ t b) where
  history-is : num (shapes D) b history_count ≡ length t.payments
  history-is = ap nat g.agrees.head.count ∙ nat-pos (length t.payments)

  pub record RowIsPaid (h : ℕ) : Type 0 where
    pub customer : history_num D b h 0 ≡ (get_or t.payments (h - 1) no_paid).customer
    pub custdistrict : history_num D b h 1 ≡ (get_or t.payments (h - 1) no_paid).request.custdistrict
    pub custwarehouse : history_num D b h 2 ≡ (get_or t.payments (h - 1) no_paid).request.custwarehouse
    pub district : history_num D b h 3 ≡ (get_or t.payments (h - 1) no_paid).request.district
    pub warehouse : history_num D b h 4 ≡ (get_or t.payments (h - 1) no_paid).request.warehouse
    pub amount : history_num D b h 6 ≡ (get_or t.payments (h - 1) no_paid).request.amount

  row-paid : (h : ℕ) → R (length t.payments) h → RowIsPaid h
  unfolding nat
  row-paid zero r = absurd (omega (arith, r.lo))
  row-paid (suc j) r =
      let at = g.agrees.history.rows j r.hi in
      let e : j ≡ suc j - 1 = omega arith in
      let p : ℕ → Paid = λ i. get_or t.payments i no_paid in
      record {
        customer = ap nat (at 0 (omega arith)) ∙ ap (λ (i : ℕ). (p i).customer) e;
        custdistrict = ap nat (at 1 (omega arith)) ∙ ap (λ (i : ℕ). (p i).request.custdistrict) e;
        custwarehouse = ap nat (at 2 (omega arith)) ∙ ap (λ (i : ℕ). (p i).request.custwarehouse) e;
        district = ap nat (at 3 (omega arith)) ∙ ap (λ (i : ℕ). (p i).request.district) e;
        warehouse = ap nat (at 4 (omega arith)) ∙ ap (λ (i : ℕ). (p i).request.warehouse) e;
        amount = ap nat (at 6 (omega arith)) ∙ ap (λ (i : ℕ). (p i).request.amount) e;
      }

  -- a sum over the HISTORY rows is one over the payments
  over_history : (f : ℕ → ℕ) (g' : Paid → ℕ) → ((h : ℕ) → R (length t.payments) h → f h ≡ g' (get_or t.payments (h - 1) no_paid))
      → sum_up (num (shapes D) b history_count) f ≡ total_of g' t.payments
  over_history f g' e =
      ap (λ (n : ℕ). sum_up n f) history-is
      ∙ sum_same (length t.payments) f (λ h. g' (get_or t.payments (h - 1) no_paid)) e
      ∙ by_place no_paid g' t.payments

  test_payer : (w k c h : ℕ) → R (length t.payments) h → is_payment D b w k c h ≡ is_payer w k c (get_or t.payments (h - 1) no_paid)
  test_payer w k c h r = let p = row-paid h r in rw (p.customer, p.custdistrict, p.custwarehouse)

  paid-is : (w k c : ℕ) → paid_amounts D b w k c ≡ t.paid w k c
  paid-is w k c =
      over_history (λ h. cond (is_payment D b w k c h) (history_num D b h 6) 0) (λ p. cond (is_payer w k c p) p.request.amount 0)
      (λ h r. ap (λ (x : Bool). cond x (history_num D b h 6) 0) (test_payer w k c h r)
      ∙ ap (λ (n : ℕ). cond (is_payer w k c (get_or t.payments (h - 1) no_paid)) n 0) (row-paid h r).amount)
      ∙ sym (g.booked.paid w k c ∙ amounts-total (is_payer w k c) t.payments)

  warehouse-is : (w : ℕ) → R D.warehouses w → num (shapes D) b (warehouse_ytd w) ≡ t.warehouse w
  warehouse-is w r = ap nat (g.agrees.warehouse.ytd w r) ∙ nat-pos (t.warehouse w)

  district-is : (w k : ℕ) → R D.warehouses w → R 10 k → num (shapes D) b (district_ytd w k) ≡ t.district w k
  district-is w k r s = ap nat (g.agrees.district.ytd w k r s) ∙ nat-pos (t.district w k)

  module _ (w k : ℕ) (r : R D.warehouses w) (s : R 10 k) where
    count_is : order_count D b w k ≡ N t w k
    count_is = omega (arith, next-num D b₀ t b g.agrees w k r s)

    at-order : (o : ℕ) → R (N t w k) o → SlotIs D (row_of (shapes D) b (order_row D w k o)) (get_or (t.orders w k) (o - 1) no_order) (leb (M t w k) (o - 1))
    at-order zero u = absurd (omega (arith, u.lo))
    at-order (suc j) u =
        let e : j ≡ suc j - 1 = omega arith in
        subst (λ (i : ℕ). SlotIs D (row_of (shapes D) b (order_row D w k (suc j))) (get_or (t.orders w k) i no_order) (leb (M t w k) i)) e (g.agrees.order.slots w k j r s u.hi)

    in_count : {o : ℕ} → R (order_count D b w k) o → R (N t w k) o
    in_count {o} u = subst (λ (n : ℕ). R n o) count_is u

    waits_wait : (o : ℕ) → R (N t w k) o → waits D b w k o ≡ leb (M t w k) (o - 1)
    unfolding waits
    waits_wait o u = slot-waits D (row_of (shapes D) b (order_row D w k o)) (get_or (t.orders w k) (o - 1) no_order) (leb (M t w k) (o - 1)) (at-order o u)

    waits-is : (o : ℕ) → R (N t w k) o → waits D b w k o ≡ ltb (M t w k) o
    waits-is zero u = absurd (omega (arith, u.lo))
    waits-is (suc j) u =
        let e : suc j - 1 ≡ j = omega arith in
        waits_wait (suc j) u ∙ ap (λ (i : ℕ). leb (M t w k) i) e ∙ sym (leb-suc-suc (M t w k) j)

    free-is : (o : ℕ) → R (N t w k) o → is_free D b w k o ≡ waits D b w k o
    free-is o u =
        slot-carrier D (row_of (shapes D) b (order_row D w k o)) (get_or (t.orders w k) (o - 1) no_order) (leb (M t w k) (o - 1)) (at-order o u) ∙ sym (waits_wait o u)

    lines_are : (o : ℕ) → R (N t w k) o → num (shapes D) b (line_count D w k o) ≡ how_many 15 (is_line D b w k o)
    lines_are o u = sym (slot-lines D (row_of (shapes D) b (order_row D w k o)) (get_or (t.orders w k) (o - 1) no_order) (leb (M t w k) (o - 1)) (at-order o u))

    dates_are : (o j : ℕ) → R (N t w k) o → R 15 j → is_line D b w k o j ≡ true → not (is_dated D b w k o j) ≡ is_free D b w k o
    dates_are o j u v e =
        let x = at-order o u in
        let rr = row_of (shapes D) b (order_row D w k o) in
        let oo = get_or (t.orders w k) (o - 1) no_order in
        let ww = leb (M t w k) (o - 1) in
        not-not (eqb (line_num D b w k o j 4) 0) ∙ slot-dates D rr oo ww x j (slot-used D rr oo ww x j v e) ∙ sym (slot-carrier D rr oo ww x)
      where
        not-not : (x : Bool) → not (not x) ≡ x
        not-not true = refl
        not-not false = refl

    some-waits : (o : ℕ) → R (N t w k) o → waits D b w k o ≡ true → M t w k < N t w k
    some-waits o u e = let q = ltb-true (M t w k) o (sym (waits-is o u) ∙ e) in omega (arith, u.hi)

    newest_is : M t w k < N t w k → largest (waits D b w k) (order_count D b w k) ≡ N t w k
    newest_is h =
        ap (λ (n : ℕ). largest (waits D b w k) n) count_is
        ∙ largest_here (waits D b w k) (N t w k) (waits-is (N t w k) (record { lo = omega arith; hi = omega arith }) ∙ lt-ltb (M t w k) (N t w k) h) (omega arith)

    waiting_are : how_many (order_count D b w k) (waits D b w k) ≡ N t w k - M t w k
    waiting_are = ap (λ (n : ℕ). how_many n (waits D b w k)) count_is ∙ above (waits D b w k) (M t w k) (N t w k) waits-is

    first-is : M t w k < N t w k → oldest D b w k ≡ suc (M t w k)
    first-is h = oldest-is D b₀ t b g.agrees w k r s ∙ ap (λ (x : Bool). cond x (suc (M t w k)) 0) (lt-ltb (M t w k) (N t w k) h)

    -- a sum over the ORDER rows where only delivered orders count is one over the tally's delivered orders
    over_orders : (f : ℕ → ℕ) (g' : Order → ℕ) → ((o : ℕ) → R (N t w k) o → f o ≡ cond (leb (M t w k) (o - 1)) 0 (g' (get_or (t.orders w k) (o - 1) no_order)))
        → sum_up (order_count D b w k) f ≡ total_of g' (take (M t w k) (t.orders w k))
    over_orders f g' e =
        ap (λ (n : ℕ). sum_up n f) count_is
        ∙ sum_same (N t w k) f (λ o. cond (leb (M t w k) (o - 1)) 0 (g' (get_or (t.orders w k) (o - 1) no_order))) e
        ∙ by_first no_order g' (t.orders w k) (M t w k)

    charged-is : (c : ℕ) → delivered_amounts D b w k c ≡ charged t w k c
    charged-is c =
        over_orders (λ o. cond (eqb c (num (shapes D) b (order_customer D w k o))) (sum_up 15 (λ j. cond (is_line D b w k o j && is_dated D b w k o j) (line_num D b w k o j 3) 0)) 0)
        (λ o. cond (eqb c o.customer) o.sum 0)
        (λ o u.
        let rr = row_of (shapes D) b (order_row D w k o) in
        let oo = get_or (t.orders w k) (o - 1) no_order in
        let ww = leb (M t w k) (o - 1) in
        let x = at-order o u in
        ap (λ (n : ℕ). cond (eqb c n) (sum_up 15 (λ j. cond (is_line D b w k o j && is_dated D b w k o j) (line_num D b w k o j 3) 0)) 0) (slot-customer D rr oo ww x)
        ∙ ap (λ (n : ℕ). cond (eqb c oo.customer) n 0) (slot-amounts D rr oo ww x)
        ∙ swap (eqb c oo.customer) ww oo.sum)
        ∙ sym (sums-total c (take (M t w k) (t.orders w k)))

    handed-is : (c : ℕ) → how_many (order_count D b w k) (λ o. eqb c (num (shapes D) b (order_customer D w k o)) && not (waits D b w k o)) ≡ handed_to t w k c
    handed-is c =
        over_orders (λ o. cond (eqb c (num (shapes D) b (order_customer D w k o)) && not (waits D b w k o)) 1 0) (λ o. cond (eqb c o.customer) 1 0)
        (λ o u.
        let rr = row_of (shapes D) b (order_row D w k o) in
        let oo = get_or (t.orders w k) (o - 1) no_order in
        let ww = leb (M t w k) (o - 1) in
        let x = at-order o u in
        ap (λ (n : ℕ). cond (eqb c n && not (waits D b w k o)) 1 0) (slot-customer D rr oo ww x)
        ∙ ap (λ (b : Bool). cond (eqb c oo.customer && not b) 1 0) (waits_wait o u)
        ∙ both_conds (eqb c oo.customer) ww)
        ∙ sym (orders-total c (take (M t w k) (t.orders w k)))

  pub good_consistent : Consistent D b
  good_consistent = record {
    one = λ w r.
        warehouse-is w r
        ∙ g.booked.ten w
        ∙ sym (sum_same 10 (λ k. num (shapes D) b (district_ytd w k)) (t.district w) (λ k s. district-is w k r s));
    two_orders = λ w k o r s u. in_order D b w k o (orders_in D b₀ t b g w k r s o u);
    two = λ w k o r s u e. newest_is w k r s (some-waits w k r s o (in_count w k r s u) e) ∙ sym (count_is w k r s);
    three = λ w k o r s u e.
        let h = some-waits w k r s o (in_count w k r s u) e in
        let a = newest_is w k r s h in
        let b = first-is w k r s h in
        let c = waiting_are w k r s in
        omega arith;
    four = λ w k r s. sum_same (order_count D b w k) (λ o. num (shapes D) b (line_count D w k o)) (λ o. how_many 15 (is_line D b w k o)) (λ o u. lines_are w k r s o (in_count w k r s u));
    five = λ w k o r s u. free-is w k r s o (in_count w k r s u);
    six = λ w k o r s u. lines_are w k r s o (in_count w k r s u);
    seven = λ w k o j r s u v e. dates_are w k r s o j (in_count w k r s u) v e;
    eight = λ w r.
        warehouse-is w r
        ∙ g.booked.warehouse w
        ∙ amounts-total (is_paid_to w) t.payments
        ∙ sym (over_history (λ h. cond (eqb w (history_num D b h 4)) (history_num D b h 6) 0) (λ p. cond (is_paid_to w p) p.request.amount 0)
        (λ h u. let p = row-paid h u in rw (p.warehouse, p.amount)));
    nine = λ w k r s.
        district-is w k r s
        ∙ g.booked.district w k
        ∙ amounts-total (is_paid_at w k) t.payments
        ∙ sym (over_history (λ h. cond (is2 (history_num D b h 4) (history_num D b h 3) w k) (history_num D b h 6) 0) (λ p. cond (is_paid_at w k p) p.request.amount 0)
        (λ h u. let p = row-paid h u in rw (p.warehouse, p.district, p.amount)));
    ten = λ w k c r s u.
        g.agrees.customer.bals w k c r s u
        ∙ ap (λ (n : ℕ). bal n (t.paid w k c)) (sym (charged-is w k r s c))
        ∙ ap (λ (n : ℕ). bal (delivered_amounts D b w k c) n) (sym (paid-is w k c));
    eleven = λ w k r s.
        let a : how_many (order_count D b w k) (λ o. not (is_free D b w k o)) ≡ how_many (order_count D b w k) (λ o. not (waits D b w k o)) =
        sum_same (order_count D b w k) (λ o. cond (not (is_free D b w k o)) 1 0) (λ o. cond (not (waits D b w k o)) 1 0)
        (λ o u. ap (λ (x : Bool). cond (not x) 1 0) (free-is w k r s o (in_count w k r s u))) in
        let c = others (waits D b w k) (order_count D b w k) in
        omega arith;
    twelve = λ w k c r s u.
        rw (g.agrees.customer.bals w k c r s u, g.agrees.customer.ytd w k c r s u) (bal_back (charged t w k c) (t.paid w k c)) ∙ ap pos (sym (charged-is w k r s c));
    payment_counts = λ w k c r s u.
        ap nat (g.agrees.customer.payments_are w k c r s u)
        ∙ nat-pos (times_of (is_payer w k c) t.payments)
        ∙ times-total (is_payer w k c) t.payments
        ∙ sym (over_history (λ h. cond (is_payment D b w k c h) 1 0) (λ p. cond (is_payer w k c p) 1 0) (λ h v. ap (λ (x : Bool). cond x 1 0) (test_payer w k c h v)));
    delivery_counts = λ w k c r s u.
        ap nat (g.agrees.customer.deliveries_are w k c r s u) ∙ nat-pos (handed_to t w k c) ∙ sym (handed-is w k r s c);
  }

-- after any list of calls from a book that opening accepts
pub consistent : (s : Lent) → Accepted s.nums s.names → (rs : List Request) → Consistent (dims s.nums) (after_all s rs).nums
consistent s e rs =
    good_consistent (dims s.nums) s.nums (tallied s rs) (after_all s rs).nums (history_good s e rs)
