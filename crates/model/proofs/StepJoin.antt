-- A new order joins: its slot is filled and the next order number rises.
-- Assumes nothing.
use mathlib.Core.Path.{◌≡◌, refl, sym, ap, ◌∙◌, subst}
use mathlib.Core.Bool.{Bool, true, false, ◌&&◌, cond}
use mathlib.Core.List.{List, [], ◌∷◌, ◌++◌}
use Prim.Native.Nat.{ℕ, suc, ◌≤◌, ◌<◌}
use native.Mathlib.Omega.{arith}
use native.Mathlib.Decide.{dec_lt}
use lib.Dec.{eqb, leb}
use lib.IntN.{ℤ, pos, ◌+ℤ◌}
use lib.ListN.{length, get_or, take, length-append, get_or-append}
use lib.Seq.{get_or-append_seam, take-append-le}
use borrow.Author.Tests.{eq-eqb, ne_eqb, le-leb}
use Rattle.model.specs.declared.Dims.{Dims}
use Rattle.model.specs.declared.Line.{Line}
use Rattle.model.specs.declared.NewOrder.{NewOrder}
use Rattle.model.specs.Layout.{shapes, Addr, at}
use Rattle.model.specs.Store.{get, row_of, run}
use Rattle.model.specs.Rows.{district_tax, district_ytd, next_order, slot, order_col, order_row}
use Rattle.model.specs.NewOrder.{join_ops, order_numbers}
use Rattle.model.specs.Tally.{Tally, Order, Paid, N, M, is2, worth, sums, charged, tally_order}
use Rattle.model.specs.Claim.{R}
use Rattle.model.proofs.Places.{Valid}
use Rattle.model.proofs.Frame.{seen, get-run, length_run}
use Rattle.model.proofs.Fields.{v2, v6, slot_in, slot_same}
use Rattle.model.proofs.NewOrderFacts.{join-fine}
use Rattle.model.proofs.RowFacts.{AllIn}
use Rattle.model.proofs.OrderRows.{LineStep, Priced, SlotIs, slot-moved, new_slot}
use Rattle.model.proofs.Parts.{Agrees, CustomerPart, handed_to, orders_by, hit2, and_no, no_order, bal, head-same, warehouse-same, customer-same, item-same, stock-same, history-same}

-- what an order that joins is known by
pub record NewStep (D : Dims) (t : Tally) (pr : ℕ → ℕ) (q : NewOrder) (ls : List Line) : Type 0 where
  pub w : R D.warehouses q.warehouse
  pub k : R 10 q.district
  pub c : R D.customers q.customer
  pub date : R 6342969600 q.date
  pub count : R 15 (length ls)
  pub lines : AllIn (LineStep D) ls
  pub priced : AllIn (Priced pr) ls
  pub room : N t q.warehouse q.district < D.orders

-- ── a list with one more, or not ──
next-is : (e : Bool) {z : ℤ} (os : List Order) (o : Order) → z ≡ pos (suc (length os)) → cond e (z +ℤ pos 1) z ≡ pos (suc (length (cond e (os ++ (o ∷ [])) os)))
next-is true os o p = rw p (ap pos (omega (arith, length-append os (o ∷ []))))
next-is false os o p = p

longer : (e : Bool) (os : List Order) (o : Order) (m : ℕ) → m ≤ length os → m ≤ length (cond e (os ++ (o ∷ [])) os)
longer true os o m h = omega (arith, length-append os (o ∷ []))
longer false os o m h = h

take-is : (e : Bool) (os : List Order) (o : Order) (m : ℕ) → m ≤ length os → take m os ≡ take m (cond e (os ++ (o ∷ [])) os)
take-is true os o m h = sym (take-append-le m os (o ∷ []) h)
take-is false os o m h = refl

-- a customer part for another way to say what is charged and handed over
recharged : (D : Dims) (b₀ : List ℤ) (f f' h h' g : ℕ → ℕ → ℕ → ℕ) (ps : List Paid) (b : List ℤ) → ((w k c : ℕ) → f w k c ≡ f' w k c) → ((w k c : ℕ) → h w k c ≡ h' w k c)
    → CustomerPart D b₀ f h g ps b → CustomerPart D b₀ f' h' g ps b
recharged D b₀ f f' h h' g ps b e e' p = record {
  credit = p.credit;
  rate = p.rate;
  bals = λ w k c r s u. p.bals w k c r s u ∙ ap (λ (n : ℕ). bal n (g w k c)) (e w k c);
  ytd = p.ytd;
  payments_are = p.payments_are;
  deliveries_are = λ w k c r s u. p.deliveries_are w k c r s u ∙ ap pos (e' w k c);
}

module _ (D : Dims) (b₀ : List ℤ) (t : Tally) (b : List ℤ) (ag : Agrees D b₀ t b) (pr : ℕ → ℕ) (q : NewOrder) (ls : List Line) (f : NewStep D t pr q ls) where
  -- the order's number, the order, and the book after
  unfoldable pub n : ℕ
  n = suc (N t q.warehouse q.district)

  unfoldable pub o : Order
  o = record { customer = q.customer; sum = worth pr ls }

  unfoldable pub b' : List ℤ
  b' = run (shapes D) (join_ops D pr n q ls) b

  n_in : R D.orders n
  unfolding n
  n_in = record { lo = omega arith; hi = f.room }

  pub join-look : (a : Addr) → Valid (shapes D) a → get (shapes D) b' a ≡ seen a (join_ops D pr n q ls) (get (shapes D) b a)
  unfolding b'
  join-look a v = get-run (shapes D) (join_ops D pr n q ls) b a ag.head.len (join-fine D pr n q ls f.w f.k n_in) v

  j_in : (w k j : ℕ) → j < N t w k → R D.orders (suc j)
  j_in w k j h = record { lo = omega arith; hi = omega (arith, ag.order.nle w k) }

  -- a row of another order
  other : (w k j : ℕ) → R D.warehouses w → R 10 k → R D.orders (suc j) → (eqb (suc j) n && is2 q.warehouse q.district w k) ≡ false
      → (col : ℕ) → col < 81 → get (shapes D) b' (order_col D w k (suc j) col) ≡ get (shapes D) b (order_col D w k (suc j) col)
  other w k j r s u e col hc =
      join-look (order_col D w k (suc j) col) (v6 D r s (slot_in D u) col hc)
      ∙ ap (λ (x : Bool). cond (x && is2 q.warehouse q.district w k) (get_or (order_numbers pr q ls) col (pos 0)) (get (shapes D) b (order_col D w k (suc j) col))) (slot_same D (suc j) n u n_in)
      ∙ ap (λ (x : Bool). cond x (get_or (order_numbers pr q ls) col (pos 0)) (get (shapes D) b (order_col D w k (suc j) col))) e

  own : (col : ℕ) → col < 81 → get (shapes D) b' (order_col D q.warehouse q.district n col) ≡ get_or (order_numbers pr q ls) col (pos 0)
  own col hc =
      let me : (eqb (slot D n) (slot D n) && is2 q.warehouse q.district q.warehouse q.district) ≡ true =
      rw (eq-eqb (slot D n) (slot D n) refl, eq-eqb q.district q.district refl, eq-eqb q.warehouse q.warehouse refl) in
      join-look (order_col D q.warehouse q.district n col) (v6 D f.w f.k (slot_in D n_in) col hc)
      ∙ ap (λ (x : Bool). cond x (get_or (order_numbers pr q ls) col (pos 0)) (get (shapes D) b (order_col D q.warehouse q.district n col))) me

  kept_slot : (w k j : ℕ) → R D.warehouses w → R 10 k → j < N t w k → (eqb (suc j) n && is2 q.warehouse q.district w k) ≡ false
      → SlotIs D (row_of (shapes D) b' (order_row D w k (suc j))) (get_or (t.orders w k) j no_order) (leb (M t w k) j)
  kept_slot w k j r s h e =
      slot-moved D (row_of (shapes D) b (order_row D w k (suc j))) (row_of (shapes D) b' (order_row D w k (suc j))) (get_or (t.orders w k) j no_order) (leb (M t w k) j)
      (λ col hc. other w k j r s (j_in w k j h) e col hc) (ag.order.slots w k j r s h)

  joined : SlotIs D (row_of (shapes D) b' (order_row D q.warehouse q.district n)) o true
  unfolding o
  joined =
      slot-moved D (λ k. get_or (order_numbers pr q ls) k (pos 0)) (row_of (shapes D) b' (order_row D q.warehouse q.district n)) o true (λ col hc. own col hc)
      (new_slot D pr q ls f.c f.date f.count f.lines f.priced)

  slots : (w k j : ℕ) → R D.warehouses w → R 10 k → (e : Bool) → is2 q.warehouse q.district w k ≡ e → j < length (cond e (t.orders w k ++ (o ∷ [])) (t.orders w k))
      → SlotIs D (row_of (shapes D) b' (order_row D w k (suc j))) (get_or (cond e (t.orders w k ++ (o ∷ [])) (t.orders w k)) j no_order) (leb (M t w k) j)
  unfolding n
  slots w k j r s false e h = kept_slot w k j r s h (ap (λ (x : Bool). eqb (suc j) n && x) e ∙ and_no (eqb (suc j) n))
  slots w k j r s true e h = go (dec_lt j (length (t.orders w k)))
    where
      en : N t w k ≡ N t q.warehouse q.district
      en = hit2 (λ w k. N t w k ≡ N t q.warehouse q.district) q.warehouse q.district w k e refl

      go : Dec (j < length (t.orders w k)) → SlotIs D (row_of (shapes D) b' (order_row D w k (suc j))) (get_or (t.orders w k ++ (o ∷ [])) j no_order) (leb (M t w k) j)
      go (yes hj) =
          let ne : eqb (suc j) n ≡ false = ne_eqb (suc j) n (λ (x : suc j ≡ suc (N t q.warehouse q.district)). omega (arith, en)) in
          subst (λ (y : Order). SlotIs D (row_of (shapes D) b' (order_row D w k (suc j))) y (leb (M t w k) j)) (sym (get_or-append (t.orders w k) (o ∷ []) no_order j hj))
          (kept_slot w k j r s hj (ap (λ (x : Bool). x && is2 q.warehouse q.district w k) ne))
      go (no hj) =
          let ej : j ≡ length (t.orders w k) = omega (arith, length-append (t.orders w k) (o ∷ [])) in
          let eo : get_or (t.orders w k ++ (o ∷ [])) j no_order ≡ o = ap (λ (i : ℕ). get_or (t.orders w k ++ (o ∷ [])) i no_order) ej ∙ get_or-append_seam (t.orders w k) o [] no_order in
          let en' : suc (N t q.warehouse q.district) ≡ suc j = omega (arith, en) in
          let s1 : SlotIs D (row_of (shapes D) b' (order_row D q.warehouse q.district (suc j))) o true = subst (λ (i : ℕ). SlotIs D (row_of (shapes D) b' (order_row D q.warehouse q.district i)) o true) en' joined in
          let s2 : SlotIs D (row_of (shapes D) b' (order_row D w k (suc j))) o true = hit2 (λ w k. SlotIs D (row_of (shapes D) b' (order_row D w k (suc j))) o true) q.warehouse q.district w k e s1 in
          rw (eo, le-leb (M t w k) j (omega (arith, ag.order.mle w k))) s2

  shorter : (w k : ℕ) (e : Bool) → is2 q.warehouse q.district w k ≡ e → length (cond e (t.orders w k ++ (o ∷ [])) (t.orders w k)) ≤ D.orders
  shorter w k false e = ag.order.nle w k
  shorter w k true e =
      let en : N t w k ≡ N t q.warehouse q.district = hit2 (λ w k. N t w k ≡ N t q.warehouse q.district) q.warehouse q.district w k e refl in
      omega (arith, length-append (t.orders w k) (o ∷ []), f.room)

  pub join-agrees : Agrees D b₀ (tally_order q.warehouse q.district (record { customer = q.customer; sum = worth pr ls }) t)
      (run (shapes D) (join_ops D pr (suc (N t q.warehouse q.district)) q ls) b)
  unfolding tally_order o b' n
  join-agrees = record {
    head = head-same D b b' t.payments (length_run (shapes D) (join_ops D pr n q ls) b) (λ x y z k v. join-look (at 0 x y z k) v) ag.head;
    warehouse = warehouse-same D b b' b₀ t.warehouse (λ x y z k v. join-look (at 1 x y z k) v) ag.warehouse;
    district = record {
      tax = λ w k r s. join-look (district_tax w k) (v2 D r s 0 (omega arith)) ∙ ag.district.tax w k r s;
      ytd = λ w k r s. join-look (district_ytd w k) (v2 D r s 1 (omega arith)) ∙ ag.district.ytd w k r s;
      next = λ w k r s. join-look (next_order w k) (v2 D r s 2 (omega arith)) ∙ next-is (is2 q.warehouse q.district w k) (t.orders w k) o (ag.district.next w k r s);
    };
    customer =
        recharged D b₀ (charged t) (λ w k c. sums c (take (M t w k) (cond (is2 q.warehouse q.district w k) (t.orders w k ++ (o ∷ [])) (t.orders w k))))
        (handed_to t) (λ w k c. orders_by c (take (M t w k) (cond (is2 q.warehouse q.district w k) (t.orders w k ++ (o ∷ [])) (t.orders w k)))) t.paid t.payments b'
        (λ w k c. ap (sums c) (take-is (is2 q.warehouse q.district w k) (t.orders w k) o (M t w k) (ag.order.mle w k)))
        (λ w k c. ap (orders_by c) (take-is (is2 q.warehouse q.district w k) (t.orders w k) o (M t w k) (ag.order.mle w k)))
        (customer-same D b b' b₀ (charged t) (handed_to t) t.paid t.payments (λ x y z k v. join-look (at 3 x y z k) v) ag.customer);
    item = item-same D b b' b₀ (λ x y z k v. join-look (at 4 x y z k) v) ag.item;
    stock = stock-same D b b' t.lots (λ x y z k v. join-look (at 5 x y z k) v) ag.stock;
    order = record {
      mle = λ w k. longer (is2 q.warehouse q.district w k) (t.orders w k) o (M t w k) (ag.order.mle w k);
      nle = λ w k. shorter w k (is2 q.warehouse q.district w k) refl;
      slots = λ w k j r s h. slots w k j r s (is2 q.warehouse q.district w k) refl h;
    };
    history = history-same D b b' t.payments ag.head.room (λ x y z k v. join-look (at 7 x y z k) v) ag.history;
  }
