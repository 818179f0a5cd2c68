-- What it means that a book agrees with a tally, one part for each section of the book, and the small laws that every step cites.
-- A part reads just the tally's functions that its section is judged by, and is kept where its section is.
-- Assumes nothing.
use mathlib.Core.Path.{◌≡◌, refl, sym, ap, ◌∙◌, subst}
use mathlib.Core.Bool.{Bool, true, false, ◌&&◌, cond}
use mathlib.Core.List.{List, [], ◌∷◌, ◌++◌}
use Prim.Native.Nat.{ℕ, zero, suc, ◌+◌, ◌≤◌, ◌<◌}
use native.Mathlib.Nat.{add-zero}
use native.Mathlib.Omega.{arith}
use lib.Dec.{eqb, leb}
use lib.IntN.{ℤ, pos, neg_ℤ, ◌+ℤ◌, ◌-ℤ◌, +ℤ_assoc, +ℤ_comm, neg_ℤ-+ℤ, -ℤ-+ℤ_cancel}
use lib.ListN.{length, get_or, take}
use borrow.Author.Tests.{eqb-true}
use Rattle.model.specs.declared.Dims.{Dims}
use Rattle.model.specs.Numbers.{nat, cell}
use Rattle.model.specs.Layout.{shapes, total, at, place, inside}
use Rattle.model.specs.Store.{get, num, row_of}
use Rattle.model.specs.Rows.{history_count, warehouse_tax, warehouse_ytd, district_tax, district_ytd, next_order, customer_row, discount, balance, ytd_payment, payment_cnt, delivery_cnt, price, on_hand, stock_ytd, order_cnt, remote_cnt, slot, order_row, history_col}
use Rattle.model.specs.Head.{dims}
use Rattle.model.specs.Payment.{history_numbers}
use Rattle.model.specs.Tally.{Tally, Order, Paid, M, is2, is3, add_if, charged}
use Rattle.model.specs.Claim.{R, no_paid}
use Rattle.model.proofs.TestLaws.{and_left, and_right}
use Rattle.model.proofs.NumberLaws.{nat-pos}
use Rattle.model.proofs.Places.{Valid}
use Rattle.model.proofs.Fields.{v0, v1, v2, v3, v4, v5, v6, v7, slot_in}
use Rattle.model.proofs.OrderRows.{SlotIs, slot-moved}

-- ── numbers ──
pub bumped : (t : Bool) {z : ℤ} {m : ℕ} (n : ℕ) → z ≡ pos m → cond t (z +ℤ pos n) z ≡ pos (add_if t n m)
bumped true n e = rw e
bumped false n e = e

-- a balance: charged less paid
abbrev pub bal : ℕ → ℕ → ℤ
bal a p = pos a -ℤ pos p

pub bal_pay : (a p n : ℕ) → bal a p -ℤ pos n ≡ bal a (p + n)
bal_pay a p n = +ℤ_assoc (pos a) (neg_ℤ (pos p)) (neg_ℤ (pos n)) ∙ ap (λ (z : ℤ). pos a +ℤ z) (sym (neg_ℤ-+ℤ (pos p) (pos n)))

pub bal_charge : (a p n : ℕ) → bal a p +ℤ pos n ≡ bal (a + n) p
bal_charge a p n =
    +ℤ_assoc (pos a) (neg_ℤ (pos p)) (pos n)
    ∙ ap (λ (z : ℤ). pos a +ℤ z) (+ℤ_comm (neg_ℤ (pos p)) (pos n))
    ∙ sym (+ℤ_assoc (pos a) (pos n) (neg_ℤ (pos p)))

pub bal_back : (a p : ℕ) → bal a p +ℤ pos p ≡ pos a
bal_back a p = -ℤ-+ℤ_cancel (pos a) (pos p)

pub paid-from : (t : Bool) {z : ℤ} (a p n : ℕ) → z ≡ bal a p → cond t (z -ℤ pos n) z ≡ bal a (add_if t n p)
paid-from true a p n e = rw e (bal_pay a p n)
paid-from false a p n e = e

-- a count of at most n
pub record Count (n : ℕ) (z : ℤ) : Type 0 where
  pub m : ℕ
  pub is : z ≡ pos m
  pub high : m ≤ n

pub counted : {n : ℕ} {z z' : ℤ} → z' ≡ z → Count n z → Count n z'
counted e h = record { m = h.m; is = e ∙ h.is; high = h.high }

pub count-nat : {n : ℕ} {z : ℤ} → Count n z → nat z ≤ n
count-nat h = rw (h.is, nat-pos h.m) h.high

pub count_is : {n : ℕ} {z : ℤ} → Count n z → z ≡ pos (nat z)
count_is h = h.is ∙ ap pos (sym (ap nat h.is ∙ nat-pos h.m))

-- the count rises by i where its bound rises by n
pub count-up : (t : Bool) {z : ℤ} {m : ℕ} (i n : ℕ) → i ≤ n → Count m z → Count (add_if t n m) (cond t (z +ℤ pos i) z)
count-up true i n h c = record { m = c.m + i; is = rw c.is; high = omega (arith, c.high) }
count-up false i n h c = c

-- the place is the one that is changed
pub hit2 : (P : ℕ → ℕ → Type 0) (w₀ k₀ w k : ℕ) → is2 w₀ k₀ w k ≡ true → P w₀ k₀ → P w k
hit2 P w₀ k₀ w k e p =
    let ew = eqb-true w w₀ (and_right (eqb k k₀) (eqb w w₀) e) in
    let ek = eqb-true k k₀ (and_left (eqb k k₀) (eqb w w₀) e) in
    subst (λ (x : ℕ). P x k) (sym ew) (subst (λ (y : ℕ). P w₀ y) (sym ek) p)

pub and_no : (a : Bool) → (a && false) ≡ false
and_no true = refl
and_no false = refl

pub and_yes : (a : Bool) → (a && true) ≡ a
and_yes true = refl
and_yes false = refl

-- stands where a list of orders is too short
abbrev pub no_order : Order
no_order = record { customer = 0; sum = 0 }

-- ── counts and sums that the tally's lists give ──
-- the payments of a list that pass a test: how many, and the sum of their amounts
abbrev pub times_of : (Paid → Bool) → List Paid → ℕ
times_of f [] = 0
times_of f (p ∷ ps) = cond (f p) 1 0 + times_of f ps

abbrev pub amounts_by : (Paid → Bool) → List Paid → ℕ
amounts_by f [] = 0
amounts_by f (p ∷ ps) = cond (f p) p.request.amount 0 + amounts_by f ps

abbrev pub is_payer : ℕ → ℕ → ℕ → Paid → Bool
is_payer w k c p = is3 p.request.custwarehouse p.request.custdistrict p.customer w k c

-- how many orders of a list are the customer's
abbrev pub orders_by : ℕ → List Order → ℕ
orders_by c [] = 0
orders_by c (o ∷ os) = cond (eqb c o.customer) 1 0 + orders_by c os

-- the delivered orders of a customer
abbrev pub handed_to : Tally → ℕ → ℕ → ℕ → ℕ
handed_to t w k c = orders_by c (take (M t w k) (t.orders w k))

pub add_if_lem : (x : Bool) (n m : ℕ) → m + cond x n 0 ≡ add_if x n m
add_if_lem true n m = refl
add_if_lem false n m = add-zero m

pub times_more : (f : Paid → Bool) (ps : List Paid) (p : Paid) → times_of f (ps ++ p ∷ []) ≡ add_if (f p) 1 (times_of f ps)
times_more f ps p = snoc ps ∙ add_if_lem (f p) 1 (times_of f ps)
  where
    snoc : (ps : List Paid) → times_of f (ps ++ p ∷ []) ≡ times_of f ps + cond (f p) 1 0
    snoc [] = omega arith
    snoc (x ∷ ps) = omega (arith, snoc ps)

pub amounts-more : (f : Paid → Bool) (ps : List Paid) (p : Paid) → amounts_by f (ps ++ p ∷ []) ≡ add_if (f p) p.request.amount (amounts_by f ps)
amounts-more f ps p = snoc ps ∙ add_if_lem (f p) p.request.amount (amounts_by f ps)
  where
    snoc : (ps : List Paid) → amounts_by f (ps ++ p ∷ []) ≡ amounts_by f ps + cond (f p) p.request.amount 0
    snoc [] = omega arith
    snoc (x ∷ ps) = omega (arith, snoc ps)

pub times_le : (f : Paid → Bool) (ps : List Paid) → times_of f ps ≤ length ps
times_le f [] = omega arith
times_le f (p ∷ ps) = go (f p) (times_le f ps)
  where
    go : (x : Bool) → times_of f ps ≤ length ps → cond x 1 0 + times_of f ps ≤ suc (length ps)
    go true h = omega arith
    go false h = omega arith

pub orders_by_le : (c : ℕ) (os : List Order) (m : ℕ) → orders_by c (take m os) ≤ length os
orders_by_le c os zero = omega arith
orders_by_le c [] (suc m) = omega arith
orders_by_le c (o ∷ os) (suc m) = go (eqb c o.customer) (orders_by_le c os m)
  where
    go : (x : Bool) → orders_by c (take m os) ≤ length os → cond x 1 0 + orders_by c (take m os) ≤ suc (length os)
    go true h = omega arith
    go false h = omega arith

-- ── the parts ──
-- section s is as it was
abbrev pub Kept : Dims → ℕ → List ℤ → List ℤ → Type 0
Kept D s b b' = (x y z k : ℕ) → Valid (shapes D) (at s x y z k) → get (shapes D) b' (at s x y z k) ≡ get (shapes D) b (at s x y z k)

pub record HeadPart (D : Dims) (payments : List Paid) (b : List ℤ) : Type 0 where
  pub len : length b ≡ total (shapes D)
  pub head : dims b ≡ D
  pub count : get (shapes D) b history_count ≡ pos (length payments)
  pub room : length payments ≤ D.histories

pub record WarehousePart (D : Dims) (b₀ : List ℤ) (money : ℕ → ℕ) (b : List ℤ) : Type 0 where
  pub tax : (w : ℕ) → R D.warehouses w → get (shapes D) b (warehouse_tax w) ≡ get (shapes D) b₀ (warehouse_tax w)
  pub ytd : (w : ℕ) → R D.warehouses w → get (shapes D) b (warehouse_ytd w) ≡ pos (money w)

pub record DistrictPart (D : Dims) (b₀ : List ℤ) (money : ℕ → ℕ → ℕ) (orders : ℕ → ℕ → List Order) (b : List ℤ) : Type 0 where
  pub tax : (w k : ℕ) → R D.warehouses w → R 10 k → get (shapes D) b (district_tax w k) ≡ get (shapes D) b₀ (district_tax w k)
  pub ytd : (w k : ℕ) → R D.warehouses w → R 10 k → get (shapes D) b (district_ytd w k) ≡ pos (money w k)
  pub next : (w k : ℕ) → R D.warehouses w → R 10 k → get (shapes D) b (next_order w k) ≡ pos (suc (length (orders w k)))

pub record CustomerPart (D : Dims) (b₀ : List ℤ) (charge handed paid : ℕ → ℕ → ℕ → ℕ) (payments : List Paid) (b : List ℤ) : Type 0 where
  pub credit : (w k c : ℕ) → R D.warehouses w → R 10 k → R D.customers c → get (shapes D) b (customer_row w k c) ≡ get (shapes D) b₀ (customer_row w k c)
  pub rate : (w k c : ℕ) → R D.warehouses w → R 10 k → R D.customers c → get (shapes D) b (discount w k c) ≡ get (shapes D) b₀ (discount w k c)
  pub bals : (w k c : ℕ) → R D.warehouses w → R 10 k → R D.customers c → get (shapes D) b (balance w k c) ≡ bal (charge w k c) (paid w k c)
  pub ytd : (w k c : ℕ) → R D.warehouses w → R 10 k → R D.customers c → get (shapes D) b (ytd_payment w k c) ≡ pos (paid w k c)
  pub payments_are : (w k c : ℕ) → R D.warehouses w → R 10 k → R D.customers c → get (shapes D) b (payment_cnt w k c) ≡ pos (times_of (is_payer w k c) payments)
  pub deliveries_are : (w k c : ℕ) → R D.warehouses w → R 10 k → R D.customers c → get (shapes D) b (delivery_cnt w k c) ≡ pos (handed w k c)

pub record ItemPart (D : Dims) (b₀ : List ℤ) (b : List ℤ) : Type 0 where
  pub prices : (i : ℕ) → R D.items i → get (shapes D) b (price i) ≡ get (shapes D) b₀ (price i)

pub record StockPart (D : Dims) (lots : ℕ → ℕ → ℕ) (b : List ℤ) : Type 0 where
  pub hand : (w i : ℕ) → R D.warehouses w → R D.items i → Count 9999 (get (shapes D) b (on_hand w i))
  pub ytd : (w i : ℕ) → R D.warehouses w → R D.items i → get (shapes D) b (stock_ytd w i) ≡ pos (lots w i)
  pub orders_to : (w i : ℕ) → R D.warehouses w → R D.items i → Count (lots w i) (get (shapes D) b (order_cnt w i))
  pub remotes_to : (w i : ℕ) → R D.warehouses w → R D.items i → Count (lots w i) (get (shapes D) b (remote_cnt w i))

pub record OrderPart (D : Dims) (orders : ℕ → ℕ → List Order) (delivered : ℕ → ℕ → ℕ) (b : List ℤ) : Type 0 where
  pub mle : (w k : ℕ) → delivered w k ≤ length (orders w k)
  pub nle : (w k : ℕ) → length (orders w k) ≤ D.orders
  pub slots : (w k j : ℕ) → R D.warehouses w → R 10 k → j < length (orders w k)
      → SlotIs D (row_of (shapes D) b (order_row D w k (suc j))) (get_or (orders w k) j no_order) (leb (delivered w k) j)

pub record HistoryPart (D : Dims) (payments : List Paid) (b : List ℤ) : Type 0 where
  pub rows : (j : ℕ) → j < length payments → (k : ℕ) → k < 7
      → get (shapes D) b (history_col (suc j) k) ≡ get_or (history_numbers (get_or payments j no_paid).request (get_or payments j no_paid).customer) k (pos 0)

-- b₀ is the opening book, t the tally of the list so far, b the book after it
pub record Agrees (D : Dims) (b₀ : List ℤ) (t : Tally) (b : List ℤ) : Type 0 where
  pub head : HeadPart D t.payments b
  pub warehouse : WarehousePart D b₀ t.warehouse b
  pub district : DistrictPart D b₀ t.district t.orders b
  pub customer : CustomerPart D b₀ (charged t) (handed_to t) t.paid t.payments b
  pub item : ItemPart D b₀ b
  pub stock : StockPart D t.lots b
  pub order : OrderPart D t.orders t.delivered b
  pub history : HistoryPart D t.payments b

-- ── a part is kept with its section ──
module _ (D : Dims) (b b' : List ℤ) where
  pub head-get : dims b ≡ record {
    warehouses = num (shapes D) b (at 0 1 1 1 0);
    customers = num (shapes D) b (at 0 1 1 1 1);
    items = num (shapes D) b (at 0 1 1 1 2);
    orders = num (shapes D) b (at 0 1 1 1 3);
    histories = num (shapes D) b (at 0 1 1 1 4);
  }
  unfolding dims cell get place inside
  head-get = refl

module _ (D : Dims) (b b' : List ℤ) where
  -- the first five numbers of the head
  pub dims-same : get (shapes D) b' (at 0 1 1 1 0) ≡ get (shapes D) b (at 0 1 1 1 0)
      → get (shapes D) b' (at 0 1 1 1 1) ≡ get (shapes D) b (at 0 1 1 1 1)
      → get (shapes D) b' (at 0 1 1 1 2) ≡ get (shapes D) b (at 0 1 1 1 2)
      → get (shapes D) b' (at 0 1 1 1 3) ≡ get (shapes D) b (at 0 1 1 1 3)
      → get (shapes D) b' (at 0 1 1 1 4) ≡ get (shapes D) b (at 0 1 1 1 4)
      → dims b ≡ D → dims b' ≡ D
  dims-same e0 e1 e2 e3 e4 e =
      head-get D b' b'
      ∙ (λ i. record { warehouses = nat (e0 i); customers = nat (e1 i); items = nat (e2 i); orders = nat (e3 i); histories = nat (e4 i) })
      ∙ sym (head-get D b b)
      ∙ e

  pub head-same : (payments : List Paid) → length b' ≡ length b → Kept D 0 b b' → HeadPart D payments b → HeadPart D payments b'
  head-same payments el e p = record {
    len = el ∙ p.len;
    head =
        dims-same (e 1 1 1 0 (v0 D 0 (omega arith))) (e 1 1 1 1 (v0 D 1 (omega arith))) (e 1 1 1 2 (v0 D 2 (omega arith))) (e 1 1 1 3 (v0 D 3 (omega arith)))
        (e 1 1 1 4 (v0 D 4 (omega arith))) p.head;
    count = e 1 1 1 5 (v0 D 5 (omega arith)) ∙ p.count;
    room = p.room;
  }

  pub warehouse-same : (b₀ : List ℤ) (f : ℕ → ℕ) → Kept D 1 b b' → WarehousePart D b₀ f b → WarehousePart D b₀ f b'
  warehouse-same b₀ f e p = record { tax = λ w r. e w 1 1 0 (v1 D r 0 (omega arith)) ∙ p.tax w r; ytd = λ w r. e w 1 1 1 (v1 D r 1 (omega arith)) ∙ p.ytd w r }

  pub district-same : (b₀ : List ℤ) (f : ℕ → ℕ → ℕ) (g : ℕ → ℕ → List Order) → Kept D 2 b b' → DistrictPart D b₀ f g b → DistrictPart D b₀ f g b'
  district-same b₀ f g e p = record {
    tax = λ w k r s. e w k 1 0 (v2 D r s 0 (omega arith)) ∙ p.tax w k r s;
    ytd = λ w k r s. e w k 1 1 (v2 D r s 1 (omega arith)) ∙ p.ytd w k r s;
    next = λ w k r s. e w k 1 2 (v2 D r s 2 (omega arith)) ∙ p.next w k r s;
  }

  pub customer-same : (b₀ : List ℤ) (f h g : ℕ → ℕ → ℕ → ℕ) (ps : List Paid) → Kept D 3 b b' → CustomerPart D b₀ f h g ps b → CustomerPart D b₀ f h g ps b'
  customer-same b₀ f h g ps e p = record {
    credit = λ w k c r s u. e w k c 0 (v3 D r s u 0 (omega arith)) ∙ p.credit w k c r s u;
    rate = λ w k c r s u. e w k c 1 (v3 D r s u 1 (omega arith)) ∙ p.rate w k c r s u;
    bals = λ w k c r s u. e w k c 2 (v3 D r s u 2 (omega arith)) ∙ p.bals w k c r s u;
    ytd = λ w k c r s u. e w k c 3 (v3 D r s u 3 (omega arith)) ∙ p.ytd w k c r s u;
    payments_are = λ w k c r s u. e w k c 4 (v3 D r s u 4 (omega arith)) ∙ p.payments_are w k c r s u;
    deliveries_are = λ w k c r s u. e w k c 5 (v3 D r s u 5 (omega arith)) ∙ p.deliveries_are w k c r s u;
  }

  pub item-same : (b₀ : List ℤ) → Kept D 4 b b' → ItemPart D b₀ b → ItemPart D b₀ b'
  item-same b₀ e p = record { prices = λ i r. e i 1 1 0 (v4 D r 0 (omega arith)) ∙ p.prices i r }

  pub stock-same : (f : ℕ → ℕ → ℕ) → Kept D 5 b b' → StockPart D f b → StockPart D f b'
  stock-same f e p = record {
    hand = λ w i r s. counted (e w i 1 0 (v5 D r s 0 (omega arith))) (p.hand w i r s);
    ytd = λ w i r s. e w i 1 1 (v5 D r s 1 (omega arith)) ∙ p.ytd w i r s;
    orders_to = λ w i r s. counted (e w i 1 2 (v5 D r s 2 (omega arith))) (p.orders_to w i r s);
    remotes_to = λ w i r s. counted (e w i 1 3 (v5 D r s 3 (omega arith))) (p.remotes_to w i r s);
  }

  pub order_same : (g : ℕ → ℕ → List Order) (m : ℕ → ℕ → ℕ) → Kept D 6 b b' → OrderPart D g m b → OrderPart D g m b'
  order_same g m e p = record {
    mle = p.mle;
    nle = p.nle;
    slots = λ w k j r s h.
        slot-moved D (row_of (shapes D) b (order_row D w k (suc j))) (row_of (shapes D) b' (order_row D w k (suc j))) (get_or (g w k) j no_order) (leb (m w k) j)
        (λ col hc. e w k (slot D (suc j)) col (v6 D r s (slot_in D (record { lo = omega arith; hi = omega (arith, p.nle w k) })) col hc))
        (p.slots w k j r s h);
  }

  pub history-same : (ps : List Paid) → length ps ≤ D.histories → Kept D 7 b b' → HistoryPart D ps b → HistoryPart D ps b'
  history-same ps room e p = record { rows = λ j h k hk. e (suc j) 1 1 k (v7 D (record { lo = omega arith; hi = omega arith }) k hk) ∙ p.rows j h k hk }
