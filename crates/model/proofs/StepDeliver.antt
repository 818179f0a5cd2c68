-- Delivery of one district: the lowest waiting order is handed over. Then the ten districts in turn.
-- Assumes nothing.
use mathlib.Core.Path.{◌≡◌, refl, sym, ap, ◌∙◌, subst, fun_ext}
use mathlib.Core.Bool.{Bool, true, false, ◌&&◌, cond}
use mathlib.Core.List.{List, [], ◌∷◌, ◌++◌}
use Prim.Native.Nat.{ℕ, zero, suc, ◌+◌, ◌-◌, ◌≤◌, ◌<◌}
use native.Mathlib.Nat.{zero-add, add-zero}
use native.Mathlib.Numerals.{add-one}
use native.Mathlib.Omega.{arith}
use native.Mathlib.Decide.{dec_lt, ℕ_discrete}
use lib.Dec.{eqb, leb, ltb}
use lib.IntN.{ℤ, pos, ◌+ℤ◌}
use lib.ListN.{length, get_or, take}
use lib.Seq.{take-suc}
use borrow.Author.Tests.{eq-eqb, ne_eqb, le-leb, lt-leb, lt-ltb, le-ltb, ltb-true}
use Rattle.model.specs.declared.Delivery.{Delivery}
use Rattle.model.specs.declared.Dims.{Dims}
use Rattle.model.specs.Numbers.{nat}
use Rattle.model.specs.Layout.{shapes, Addr, at}
use Rattle.model.specs.Store.{get, num, row_of, Op, run}
use Rattle.model.specs.Rows.{next_order, customer_row, discount, balance, ytd_payment, payment_cnt, delivery_cnt, slot, order_col, order_row}
use Rattle.model.specs.Lists.{sum_of, lowest}
use Rattle.model.specs.Delivery.{waits, oldest, line_amounts, deliver_ops, deliver_order, deliver_district, deliver_to}
use Rattle.model.specs.Tally.{Tally, Order, N, M, is2, add_if, sums, charged, tally_district, tally_districts}
use Rattle.model.specs.Claim.{R}
use Rattle.model.proofs.NumberLaws.{nat-pos}
use Rattle.model.proofs.Places.{Valid}
use Rattle.model.proofs.Frame.{seen, get-run, length_run}
use Rattle.model.proofs.Fields.{v3, v6, slot_in, slot_same}
use Rattle.model.proofs.DeliveryFacts.{DeliveryAsked, deliver_fine}
use Rattle.model.proofs.OrderRows.{SlotIs, slot-moved, handed, done-slot}
use Rattle.model.proofs.Parts.{Agrees, orders_by, handed_to, add_if_lem, bumped, hit2, and_no, and_yes, no_order, bal, bal_charge, head-same, warehouse-same, district-same, item-same, stock-same, history-same}

-- ── the lowest waiting order ──
low : (f : ℕ → Bool) (m n i : ℕ) → ((j : ℕ) → i ≤ j → j < i + n → f (suc j) ≡ leb m j) → i ≤ m → lowest f (suc i) n ≡ cond (ltb m (i + n)) (suc m) 0
unfolding lowest
low f m zero i h hi = rw (le-ltb m (i + 0) (omega arith))
low f m (suc n) i h hi = go (λ g q. low f m n (suc i) g q) (dec_lt i m)
  where
    go : (((j : ℕ) → suc i ≤ j → j < suc i + n → f (suc j) ≡ leb m j) → suc i ≤ m → lowest f (suc (suc i)) n ≡ cond (ltb m (suc i + n)) (suc m) 0)
        → Dec (i < m) → lowest f (suc i) (suc n) ≡ cond (ltb m (i + suc n)) (suc m) 0
    go rec (yes q) =
        let e1 : f (suc i) ≡ false = h i (omega arith) (omega arith) ∙ lt-leb m i q in
        let e2 : i + suc n ≡ suc i + n = omega arith in
        let ih : lowest f (suc (suc i)) n ≡ cond (ltb m (suc i + n)) (suc m) 0 = rec (λ j a b. h j (omega arith) (omega arith)) q in
        ap (λ (x : Bool). cond x (suc i) (lowest f (suc (suc i)) n)) e1 ∙ ih ∙ ap (λ (x : ℕ). cond (ltb m x) (suc m) 0) (sym e2)
    go rec (no q) =
        let e0 : i ≡ m = omega arith in
        let e1 : f (suc i) ≡ true = h i (omega arith) (omega arith) ∙ le-leb m i (omega arith) in
        ap (λ (x : Bool). cond x (suc i) (lowest f (suc (suc i)) n)) e1 ∙ ap suc e0 ∙ ap (λ (x : Bool). cond x (suc m) 0) (sym (lt-ltb m (i + suc n) (omega arith)))

leb-skip : (m j : ℕ) → ¬ (j ≡ m) → leb m j ≡ leb (suc m) j
leb-skip m j ne = go (dec_lt m j)
  where
    go : Dec (m < j) → leb m j ≡ leb (suc m) j
    go (yes h) = le-leb m j (omega arith) ∙ sym (le-leb (suc m) j h)
    go (no h) = lt-leb m j (omega arith) ∙ sym (lt-leb (suc m) j (omega arith))

flag_test : (x : Bool) → eqb (nat (pos (cond x 1 0))) 1 ≡ x
unfolding nat
flag_test true = refl
flag_test false = refl

pub next-num : (D : Dims) (b₀ : List ℤ) (t : Tally) (b : List ℤ) → Agrees D b₀ t b → (w k : ℕ) → R D.warehouses w → R 10 k
    → num (shapes D) b (next_order w k) ≡ suc (N t w k)
next-num D b₀ t b ag w k r s = ap nat (ag.district.next w k r s) ∙ nat-pos (suc (N t w k))

pub oldest-is : (D : Dims) (b₀ : List ℤ) (t : Tally) (b : List ℤ) → Agrees D b₀ t b → (w k : ℕ) → R D.warehouses w → R 10 k
    → oldest D b w k ≡ cond (ltb (M t w k) (N t w k)) (suc (M t w k)) 0
unfolding oldest waits
oldest-is D b₀ t b ag w k r s =
    let en : num (shapes D) b (next_order w k) - 1 ≡ N t w k = omega (arith, next-num D b₀ t b ag w k r s) in
    let e0 : 0 + N t w k ≡ N t w k = zero-add (N t w k) in
    ap (λ (n : ℕ). lowest (waits D b w k) 1 n) en
    ∙ low (waits D b w k) (M t w k) (N t w k) 0
    (λ j _ h. ap (λ (z : ℤ). eqb (nat z) 1) (ag.order.slots w k j r s (omega arith)).flag ∙ flag_test (leb (M t w k) j)) (omega arith)
    ∙ ap (λ (n : ℕ). cond (ltb (M t w k) n) (suc (M t w k)) 0) e0

-- ── sums ──
sums_append : (c : ℕ) (xs ys : List Order) → sums c (xs ++ ys) ≡ sums c xs + sums c ys
sums_append c [] ys = omega arith
sums_append c (x ∷ xs) ys = omega (arith, sums_append c xs ys)

sums_next : (c : ℕ) (os : List Order) (m : ℕ) → m < length os
    → sums c (take (suc m) os) ≡ sums c (take m os) + cond (eqb c (get_or os m no_order).customer) (get_or os m no_order).sum 0
sums_next c os m h =
    ap (sums c) (take-suc os m no_order h)
    ∙ sums_append c (take m os) (get_or os m no_order ∷ [])
    ∙ ap (λ (x : ℕ). sums c (take m os) + x) (add-zero _)

charge : (x : Bool) {z : ℤ} (a p s : ℕ) → z ≡ bal a p → cond x (z +ℤ pos s) z ≡ bal (a + cond x s 0) p
charge true a p s e = rw e (bal_charge a p s)
charge false a p s e = rw e (ap (λ (n : ℕ). bal n p) (sym (add-zero a)))

orders_append : (c : ℕ) (xs ys : List Order) → orders_by c (xs ++ ys) ≡ orders_by c xs + orders_by c ys
orders_append c [] ys = omega arith
orders_append c (x ∷ xs) ys = omega (arith, orders_append c xs ys)

orders-next : (c : ℕ) (os : List Order) (m : ℕ) → m < length os
    → orders_by c (take (suc m) os) ≡ orders_by c (take m os) + cond (eqb c (get_or os m no_order).customer) 1 0
orders-next c os m h =
    ap (orders_by c) (take-suc os m no_order h)
    ∙ orders_append c (take m os) (get_or os m no_order ∷ [])
    ∙ ap (λ (x : ℕ). orders_by c (take m os) + x) (add-zero _)

module _ (D : Dims) (b₀ : List ℤ) (t : Tally) (b : List ℤ) (ag : Agrees D b₀ t b) (q : Delivery) (f : DeliveryAsked D q) (k₀ : ℕ) (rk : R 10 k₀)
    (lt : M t q.warehouse k₀ < N t q.warehouse k₀) where
  unfoldable pub m₀ : ℕ
  m₀ = M t q.warehouse k₀

  unfoldable pub o : Order
  o = get_or (t.orders q.warehouse k₀) m₀ no_order

  -- the row as it was, and its count of lines
  abbrev pub r₀ : ℕ → ℤ
  r₀ = row_of (shapes D) b (order_row D q.warehouse k₀ (suc m₀))

  old : SlotIs D r₀ o true
  unfolding m₀ o
  old = subst (λ (x : Bool). SlotIs D r₀ o x) (le-leb m₀ m₀ (omega arith)) (ag.order.slots q.warehouse k₀ m₀ f.w rk lt)

  unfoldable pub ops : List Op
  ops = deliver_ops D q k₀ (suc m₀) o.customer o.sum (nat (r₀ 3))

  unfoldable pub b' : List ℤ
  b' = run (shapes D) ops b

  m_in : R D.orders (suc m₀)
  unfolding m₀
  m_in = record { lo = omega arith; hi = omega (arith, ag.order.nle q.warehouse k₀) }

  pub hand-look : (a : Addr) → Valid (shapes D) a → get (shapes D) b' a ≡ seen a ops (get (shapes D) b a)
  unfolding b' ops
  hand-look a v = get-run (shapes D) ops b a ag.head.len (deliver_fine D q k₀ (suc m₀) o.customer o.sum (nat (r₀ 3)) f.w rk m_in old.in_range) v

  j_in : (w k j : ℕ) → j < N t w k → R D.orders (suc j)
  j_in w k j h = record { lo = omega arith; hi = omega (arith, ag.order.nle w k) }

  other : (w k j : ℕ) → R D.warehouses w → R 10 k → R D.orders (suc j) → (eqb (suc j) (suc m₀) && is2 q.warehouse k₀ w k) ≡ false
      → (col : ℕ) → col < 81 → get (shapes D) b' (order_col D w k (suc j) col) ≡ get (shapes D) b (order_col D w k (suc j) col)
  unfolding ops
  other w k j r s u e col hc =
      hand-look (order_col D w k (suc j) col) (v6 D r s (slot_in D u) col hc)
      ∙ ap (λ (x : Bool). cond (x && is2 q.warehouse k₀ w k) (handed q.carrier q.date (nat (r₀ 3)) (row_of (shapes D) b (order_row D w k (suc j))) col) (get (shapes D) b (order_col D w k (suc j) col))) (slot_same D (suc j) (suc m₀) u m_in)
      ∙ ap (λ (x : Bool). cond x (handed q.carrier q.date (nat (r₀ 3)) (row_of (shapes D) b (order_row D w k (suc j))) col) (get (shapes D) b (order_col D w k (suc j) col))) e

  own : (col : ℕ) → col < 81 → get (shapes D) b' (order_col D q.warehouse k₀ (suc m₀) col) ≡ handed q.carrier q.date (nat (r₀ 3)) r₀ col
  unfolding ops
  own col hc =
      let me : (eqb (slot D (suc m₀)) (slot D (suc m₀)) && is2 q.warehouse k₀ q.warehouse k₀) ≡ true =
      rw (eq-eqb (slot D (suc m₀)) (slot D (suc m₀)) refl, eq-eqb k₀ k₀ refl, eq-eqb q.warehouse q.warehouse refl) in
      hand-look (order_col D q.warehouse k₀ (suc m₀) col) (v6 D f.w rk (slot_in D m_in) col hc)
      ∙ ap (λ (x : Bool). cond x (handed q.carrier q.date (nat (r₀ 3)) r₀ col) (r₀ col)) me

  kept_slot : (w k j : ℕ) → R D.warehouses w → R 10 k → j < N t w k → (eqb (suc j) (suc m₀) && is2 q.warehouse k₀ w k) ≡ false
      → SlotIs D (row_of (shapes D) b' (order_row D w k (suc j))) (get_or (t.orders w k) j no_order) (leb (M t w k) j)
  kept_slot w k j r s h e =
      slot-moved D (row_of (shapes D) b (order_row D w k (suc j))) (row_of (shapes D) b' (order_row D w k (suc j))) (get_or (t.orders w k) j no_order) (leb (M t w k) j)
      (λ col hc. other w k j r s (j_in w k j h) e col hc) (ag.order.slots w k j r s h)

  done : SlotIs D (row_of (shapes D) b' (order_row D q.warehouse k₀ (suc m₀))) o false
  done =
      slot-moved D (handed q.carrier q.date (nat (r₀ 3)) r₀) (row_of (shapes D) b' (order_row D q.warehouse k₀ (suc m₀))) o false (λ col hc. own col hc)
      (done-slot D q.carrier q.date r₀ o true f.carrier f.date old)

  risen : add_if (ltb m₀ (N t q.warehouse k₀)) 1 m₀ ≡ suc m₀
  unfolding m₀
  risen = ap (λ (x : Bool). cond x (m₀ + 1) m₀) (lt-ltb m₀ (N t q.warehouse k₀) lt) ∙ add-one m₀

  slot₀ : (j : ℕ) → j < N t q.warehouse k₀
      → SlotIs D (row_of (shapes D) b' (order_row D q.warehouse k₀ (suc j))) (get_or (t.orders q.warehouse k₀) j no_order) (leb (add_if (ltb m₀ (N t q.warehouse k₀)) 1 m₀) j)
  unfolding m₀ o
  slot₀ j h =
      subst (λ (x : ℕ). SlotIs D (row_of (shapes D) b' (order_row D q.warehouse k₀ (suc j))) (get_or (t.orders q.warehouse k₀) j no_order) (leb x j)) (sym risen) (go (ℕ_discrete j m₀))
    where
      go : Dec (j ≡ m₀) → SlotIs D (row_of (shapes D) b' (order_row D q.warehouse k₀ (suc j))) (get_or (t.orders q.warehouse k₀) j no_order) (leb (suc m₀) j)
      go (yes e) =
          let e1 : leb (suc m₀) m₀ ≡ false = lt-leb (suc m₀) m₀ (omega arith) in
          subst (λ (i : ℕ). SlotIs D (row_of (shapes D) b' (order_row D q.warehouse k₀ (suc i))) (get_or (t.orders q.warehouse k₀) i no_order) (leb (suc m₀) i)) (sym e) (rw e1 done)
      go (no ne) =
          let e1 : eqb (suc j) (suc m₀) ≡ false = ne_eqb (suc j) (suc m₀) (λ (x : suc j ≡ suc m₀). omega arith) in
          subst (λ (x : Bool). SlotIs D (row_of (shapes D) b' (order_row D q.warehouse k₀ (suc j))) (get_or (t.orders q.warehouse k₀) j no_order) x) (leb-skip m₀ j ne)
          (kept_slot q.warehouse k₀ j f.w rk h (ap (λ (x : Bool). x && is2 q.warehouse k₀ q.warehouse k₀) e1))

  slots : (w k j : ℕ) → R D.warehouses w → R 10 k → (e : Bool) → is2 q.warehouse k₀ w k ≡ e → j < N t w k
      → SlotIs D (row_of (shapes D) b' (order_row D w k (suc j))) (get_or (t.orders w k) j no_order) (leb (cond e (add_if (ltb (M t w k) (N t w k)) 1 (M t w k)) (M t w k)) j)
  unfolding m₀
  slots w k j r s false e h = kept_slot w k j r s h (ap (λ (x : Bool). eqb (suc j) (suc m₀) && x) e ∙ and_no (eqb (suc j) (suc m₀)))
  slots w k j r s true e h =
      hit2 (λ w k. j < N t w k → SlotIs D (row_of (shapes D) b' (order_row D w k (suc j))) (get_or (t.orders w k) j no_order) (leb (add_if (ltb (M t w k) (N t w k)) 1 (M t w k)) j))
      q.warehouse k₀ w k e (slot₀ j) h

  bals₀ : (c : ℕ) → R D.customers c
      → cond (eqb c o.customer) (get (shapes D) b (balance q.warehouse k₀ c) +ℤ pos o.sum) (get (shapes D) b (balance q.warehouse k₀ c))
      ≡ bal (sums c (take (add_if (ltb m₀ (N t q.warehouse k₀)) 1 m₀) (t.orders q.warehouse k₀))) (t.paid q.warehouse k₀ c)
  unfolding m₀ o
  bals₀ c u =
      charge (eqb c o.customer) (charged t q.warehouse k₀ c) (t.paid q.warehouse k₀ c) o.sum (ag.customer.bals q.warehouse k₀ c f.w rk u)
      ∙ ap (λ (x : ℕ). bal x (t.paid q.warehouse k₀ c))
      (sym (sums_next c (t.orders q.warehouse k₀) m₀ lt) ∙ ap (λ (x : ℕ). sums c (take x (t.orders q.warehouse k₀))) (sym risen))

  bals : (w k c : ℕ) → R D.warehouses w → R 10 k → R D.customers c → (e : Bool) → is2 q.warehouse k₀ w k ≡ e
      → cond (eqb c o.customer && e) (get (shapes D) b (balance w k c) +ℤ pos o.sum) (get (shapes D) b (balance w k c))
      ≡ bal (sums c (take (cond e (add_if (ltb (M t w k) (N t w k)) 1 (M t w k)) (M t w k)) (t.orders w k))) (t.paid w k c)
  unfolding m₀
  bals w k c r s u false e =
      ap (λ (x : Bool). cond x (get (shapes D) b (balance w k c) +ℤ pos o.sum) (get (shapes D) b (balance w k c))) (and_no (eqb c o.customer))
      ∙ ag.customer.bals w k c r s u
  bals w k c r s u true e =
      ap (λ (x : Bool). cond x (get (shapes D) b (balance w k c) +ℤ pos o.sum) (get (shapes D) b (balance w k c))) (and_yes (eqb c o.customer))
      ∙ hit2 (λ w k. cond (eqb c o.customer) (get (shapes D) b (balance w k c) +ℤ pos o.sum) (get (shapes D) b (balance w k c))
      ≡ bal (sums c (take (add_if (ltb (M t w k) (N t w k)) 1 (M t w k)) (t.orders w k))) (t.paid w k c)) q.warehouse k₀ w k e (bals₀ c u)

  counts₀ : (c : ℕ) → R D.customers c
      → cond (eqb c o.customer) (get (shapes D) b (delivery_cnt q.warehouse k₀ c) +ℤ pos 1) (get (shapes D) b (delivery_cnt q.warehouse k₀ c))
      ≡ pos (orders_by c (take (add_if (ltb m₀ (N t q.warehouse k₀)) 1 m₀) (t.orders q.warehouse k₀)))
  unfolding m₀ o
  counts₀ c u =
      bumped (eqb c o.customer) 1 (ag.customer.deliveries_are q.warehouse k₀ c f.w rk u)
      ∙ ap pos (sym (add_if_lem (eqb c o.customer) 1 (handed_to t q.warehouse k₀ c))
      ∙ sym (orders-next c (t.orders q.warehouse k₀) m₀ lt)
      ∙ ap (λ (x : ℕ). orders_by c (take x (t.orders q.warehouse k₀))) (sym risen))

  counts : (w k c : ℕ) → R D.warehouses w → R 10 k → R D.customers c → (e : Bool) → is2 q.warehouse k₀ w k ≡ e
      → cond (eqb c o.customer && e) (get (shapes D) b (delivery_cnt w k c) +ℤ pos 1) (get (shapes D) b (delivery_cnt w k c))
      ≡ pos (orders_by c (take (cond e (add_if (ltb (M t w k) (N t w k)) 1 (M t w k)) (M t w k)) (t.orders w k)))
  unfolding m₀
  counts w k c r s u false e =
      ap (λ (x : Bool). cond x (get (shapes D) b (delivery_cnt w k c) +ℤ pos 1) (get (shapes D) b (delivery_cnt w k c))) (and_no (eqb c o.customer))
      ∙ ag.customer.deliveries_are w k c r s u
  counts w k c r s u true e =
      ap (λ (x : Bool). cond x (get (shapes D) b (delivery_cnt w k c) +ℤ pos 1) (get (shapes D) b (delivery_cnt w k c))) (and_yes (eqb c o.customer))
      ∙ hit2 (λ w k. cond (eqb c o.customer) (get (shapes D) b (delivery_cnt w k c) +ℤ pos 1) (get (shapes D) b (delivery_cnt w k c))
      ≡ pos (orders_by c (take (add_if (ltb (M t w k) (N t w k)) 1 (M t w k)) (t.orders w k)))) q.warehouse k₀ w k e (counts₀ c u)

  mles : (w k : ℕ) (e : Bool) → cond e (add_if (ltb (M t w k) (N t w k)) 1 (M t w k)) (M t w k) ≤ N t w k
  mles w k false = ag.order.mle w k
  mles w k true = go (ltb (M t w k) (N t w k)) refl
    where
      go : (e : Bool) → ltb (M t w k) (N t w k) ≡ e → cond e (M t w k + 1) (M t w k) ≤ N t w k
      go true e = omega (arith, ltb-true (M t w k) (N t w k) e)
      go false e = ag.order.mle w k

  pub hand-agrees : Agrees D b₀ (tally_district q.warehouse k₀ t) b'
  unfolding tally_district ops b'
  hand-agrees = record {
    head = head-same D b b' t.payments (length_run (shapes D) ops b) (λ x y z k v. hand-look (at 0 x y z k) v) ag.head;
    warehouse = warehouse-same D b b' b₀ t.warehouse (λ x y z k v. hand-look (at 1 x y z k) v) ag.warehouse;
    district = district-same D b b' b₀ t.district t.orders (λ x y z k v. hand-look (at 2 x y z k) v) ag.district;
    customer = record {
      credit = λ w k c r s u. hand-look (customer_row w k c) (v3 D r s u 0 (omega arith)) ∙ ag.customer.credit w k c r s u;
      rate = λ w k c r s u. hand-look (discount w k c) (v3 D r s u 1 (omega arith)) ∙ ag.customer.rate w k c r s u;
      bals = λ w k c r s u. hand-look (balance w k c) (v3 D r s u 2 (omega arith)) ∙ bals w k c r s u (is2 q.warehouse k₀ w k) refl;
      ytd = λ w k c r s u. hand-look (ytd_payment w k c) (v3 D r s u 3 (omega arith)) ∙ ag.customer.ytd w k c r s u;
      payments_are = λ w k c r s u. hand-look (payment_cnt w k c) (v3 D r s u 4 (omega arith)) ∙ ag.customer.payments_are w k c r s u;
      deliveries_are = λ w k c r s u. hand-look (delivery_cnt w k c) (v3 D r s u 5 (omega arith)) ∙ counts w k c r s u (is2 q.warehouse k₀ w k) refl;
    };
    item = item-same D b b' b₀ (λ x y z k v. hand-look (at 4 x y z k) v) ag.item;
    stock = stock-same D b b' t.lots (λ x y z k v. hand-look (at 5 x y z k) v) ag.stock;
    order = record {
      mle = λ w k. mles w k (is2 q.warehouse k₀ w k);
      nle = ag.order.nle;
      slots = λ w k j r s h. slots w k j r s (is2 q.warehouse k₀ w k) refl h;
    };
    history = history-same D b b' t.payments ag.head.room (λ x y z k v. hand-look (at 7 x y z k) v) ag.history;
  }

  -- the changes as the call reads them out of the book
  pub handed-is : deliver_order D q k₀ (suc m₀) b ≡ b'
  unfolding deliver_order b' ops
  handed-is =
      ap (λ (c : ℕ). run (shapes D) (deliver_ops D q k₀ (suc m₀) c (sum_of (line_amounts r₀)) (nat (r₀ 3))) b) (ap nat old.customer ∙ nat-pos o.customer)
      ∙ ap (λ (s : ℕ). run (shapes D) (deliver_ops D q k₀ (suc m₀) o.customer s (nat (r₀ 3))) b) old.sum

-- nobody waits: the tally stays
pub idle : (t : Tally) (w₀ k₀ : ℕ) → ltb (M t w₀ k₀) (N t w₀ k₀) ≡ false → t ≡ tally_district w₀ k₀ t
unfolding tally_district
idle t w₀ k₀ e = λ i. record {
  orders = t.orders;
  delivered = fun_ext (λ w. fun_ext (λ k. same w k (is2 w₀ k₀ w k) refl)) i;
  lots = t.lots;
  warehouse = t.warehouse;
  district = t.district;
  paid = t.paid;
  payments = t.payments;
}
  where
    same : (w k : ℕ) (x : Bool) → is2 w₀ k₀ w k ≡ x → M t w k ≡ cond x (add_if (ltb (M t w k) (N t w k)) 1 (M t w k)) (M t w k)
    same w k false q = refl
    same w k true q = hit2 (λ w k. M t w k ≡ add_if (ltb (M t w k) (N t w k)) 1 (M t w k)) w₀ k₀ w k q (ap (λ (x : Bool). cond x (M t w₀ k₀ + 1) (M t w₀ k₀)) (sym e))

pub deliver_agrees : (D : Dims) (b₀ : List ℤ) (t : Tally) (b : List ℤ) → Agrees D b₀ t b → (q : Delivery) → DeliveryAsked D q → (k : ℕ) → R 10 k
    → Agrees D b₀ (tally_district q.warehouse k t) (deliver_district D q k b)
unfolding deliver_district deliver_order m₀
deliver_agrees D b₀ t b ag q f k s = go (ltb (M t q.warehouse k) (N t q.warehouse k)) refl
  where
    go : (e : Bool) → ltb (M t q.warehouse k) (N t q.warehouse k) ≡ e → Agrees D b₀ (tally_district q.warehouse k t) (deliver_order D q k (oldest D b q.warehouse k) b)
    go true e =
        let lt = ltb-true (M t q.warehouse k) (N t q.warehouse k) e in
        let el : oldest D b q.warehouse k ≡ suc (M t q.warehouse k) = oldest-is D b₀ t b ag q.warehouse k f.w s ∙ ap (λ (x : Bool). cond x (suc (M t q.warehouse k)) 0) e in
        subst (λ (x : List ℤ). Agrees D b₀ (tally_district q.warehouse k t) x)
        (sym (handed-is D b₀ t b ag q f k s lt) ∙ ap (λ (i : ℕ). deliver_order D q k i b) (sym el))
        (hand-agrees D b₀ t b ag q f k s lt)
    go false e =
        let el : oldest D b q.warehouse k ≡ 0 = oldest-is D b₀ t b ag q.warehouse k f.w s ∙ ap (λ (x : Bool). cond x (suc (M t q.warehouse k)) 0) e in
        subst (λ (i : ℕ). Agrees D b₀ (tally_district q.warehouse k t) (deliver_order D q k i b)) (sym el)
        (subst (λ (x : Tally). Agrees D b₀ x b) (idle t q.warehouse k e) ag)

-- districts 1, .., n in turn
pub delivers_agree : (D : Dims) (b₀ : List ℤ) (q : Delivery) → DeliveryAsked D q → (n : ℕ) → n ≤ 10 → (t : Tally) (b : List ℤ) → Agrees D b₀ t b
    → Agrees D b₀ (tally_districts q.warehouse n t) (deliver_to D q n b)
unfolding deliver_to
delivers_agree D b₀ q f zero h t b ag = ag
delivers_agree D b₀ q f (suc n) h t b ag =
    deliver_agrees D b₀ (tally_districts q.warehouse n t) (deliver_to D q n b) (delivers_agree D b₀ q f n (omega arith) t b ag) q f (suc n) (record { lo = omega arith; hi = h })
