-- R-1: the slice of last orders follows the tally's lists of orders, and the scan of the book finds the same numbers.
-- Assumes nothing.
use mathlib.Core.Path.{◌≡◌, refl, sym, ap, ◌∙◌}
use mathlib.Core.Bool.{Bool, true, false, ◌&&◌, cond}
use mathlib.Core.List.{List, [], ◌∷◌, ◌++◌}
use Prim.Native.Nat.{ℕ, zero, suc, ◌*◌, ◌-◌, ◌≤◌}
use native.Mathlib.Numerals.{add-one}
use native.Mathlib.Omega.{arith}
use native.Mathlib.Decide.{ℕ_discrete}
use lib.Dec.{eqb}
use lib.IntN.{ℤ, pos}
use lib.ListN.{length, get_or, replicate, length-append, length-replicate, get_or-replicate, get_or-append}
use lib.Seq.{get_or-append_seam}
use borrow.Author.Tests.{eq-eqb, ne_eqb, le-leb}
use Rattle.model.specs.declared.Dims.{Dims}
use Rattle.model.specs.declared.Line.{Line}
use Rattle.model.specs.declared.Payment.{Payment}
use Rattle.model.specs.Numbers.{nat}
use Rattle.model.specs.Lists.{largest}
use Rattle.model.specs.Layout.{shapes, place, per_customer, of_customer}
use Rattle.model.specs.Store.{get, num, run}
use Rattle.model.specs.Rows.{next_order, order_customer}
use Rattle.model.specs.Claim.{R, last_order}
use Rattle.model.specs.LastOrder.{last_at, last_long, last_ok, found_ok, last_ops}
use Rattle.model.specs.Tally.{Tally, Order, N, is2, start, tally_lines, tally_order, tally_district, tally_districts, tally_payment}
use Rattle.model.proofs.TestLaws.{all-to}
use Rattle.model.proofs.NumberLaws.{nat-pos}
use Rattle.model.proofs.Places.{Valid, place_lt}
use Rattle.model.proofs.Frame.{length_run, get-run}
use Rattle.model.proofs.ListLaws.{largest_in, largest-same}
use Rattle.model.proofs.RowFacts.{in_order}
use Rattle.model.proofs.Parts.{hit2, and_no, no_order}
use Rattle.model.proofs.StepDeliver.{next-num}
use Rattle.model.proofs.Sane.{lines_leave}
use Rattle.model.proofs.Calls.{Good}
use Rattle.model.proofs.Never.{orders_in}

-- ── the last order of a customer in a list ──
-- the largest place, from 1, whose order is the customer's; 0 for none
unfoldable pub last_of : ℕ → List Order → ℕ
last_of c os = largest (λ j. eqb c (get_or os (j - 1) no_order).customer) (length os)

pub last_none : (c : ℕ) → last_of c [] ≡ 0
unfolding last_of largest
last_none c = refl

pub last_le : (c : ℕ) (os : List Order) → last_of c os ≤ length os
unfolding last_of
last_le c os = largest_in (λ j. eqb c (get_or os (j - 1) no_order).customer) (length os)

-- an order joins
pub last_append : (c : ℕ) (os : List Order) (o : Order) → last_of c (os ++ (o ∷ [])) ≡ cond (eqb c o.customer) (suc (length os)) (last_of c os)
unfolding last_of largest
last_append c os o =
    ap (largest (f (os ++ (o ∷ [])))) (length-append os (o ∷ []) ∙ add-one (length os))
    ∙ (λ i. cond (seam i) (suc (length os)) (before i))
  where
    f : List Order → ℕ → Bool
    f xs j = eqb c (get_or xs (j - 1) no_order).customer

    seam : f (os ++ (o ∷ [])) (suc (length os)) ≡ eqb c o.customer
    seam =
        let e : suc (length os) - 1 ≡ length os = omega arith in
        ap (λ (i : ℕ). eqb c (get_or (os ++ (o ∷ [])) i no_order).customer) e ∙ ap (λ (x : Order). eqb c x.customer) (get_or-append_seam os o [] no_order)

    before : largest (f (os ++ (o ∷ []))) (length os) ≡ largest (f os) (length os)
    before = largest-same (f (os ++ (o ∷ []))) (f os) (length os) (λ j r. ap (λ (x : Order). eqb c x.customer) (get_or-append os (o ∷ []) no_order (j - 1) (omega (arith, r.lo, r.hi))))

-- ── the slice and the tally ──
pub record Lasts (D : Dims) (t : Tally) (last : List ℤ) : Type 0 where
  pub long : length last ≡ 10 * D.warehouses * D.customers
  pub each : (w k c : ℕ) → R D.warehouses w → R 10 k → R D.customers c → last_at D last w k c ≡ pos (last_of c (t.orders w k))

customer_valid : (D : Dims) {w k c : ℕ} → R D.warehouses w → R 10 k → R D.customers c → Valid (per_customer D) (of_customer w k c)
customer_valid D r s u = omega arith

pub lasts-start : (D : Dims) → Lasts D start (replicate (10 * D.warehouses * D.customers) (pos 0))
unfolding start get
lasts-start D = record {
  long = length-replicate (10 * D.warehouses * D.customers) (pos 0);
  each = λ w k c r s u.
      get_or-replicate (10 * D.warehouses * D.customers) (place (per_customer D) (of_customer w k c)) (pos 0) (pos 0)
      (omega (arith, place_lt (per_customer D) (of_customer w k c) (customer_valid D r s u)))
      ∙ ap pos (sym (last_none c));
}

-- only the lists of orders count
pub lasts-kept : (D : Dims) (t t' : Tally) (last : List ℤ) → t'.orders ≡ t.orders → Lasts D t last → Lasts D t' last
lasts-kept D t t' last e l = record { long = l.long; each = λ w k c r s u. l.each w k c r s u ∙ ap (λ (f : ℕ → ℕ → List Order). pos (last_of c (f w k))) (sym e) }

pub lasts-lines : (D : Dims) (ls : List Line) (t : Tally) (last : List ℤ) → Lasts D t last → Lasts D (tally_lines ls t) last
lasts-lines D ls t last l = lasts-kept D t (tally_lines ls t) last (lines_leave ls t).orders l

pub lasts_districts : (D : Dims) (w n : ℕ) (t : Tally) (last : List ℤ) → Lasts D t last → Lasts D (tally_districts w n t) last
unfolding tally_district
lasts_districts D w zero t last l = l
lasts_districts D w (suc n) t last l = lasts-kept D (tally_districts w n t) (tally_districts w (suc n) t) last refl (lasts_districts D w n t last l)

pub lasts_pay : (D : Dims) (q : Payment) (c : ℕ) (t : Tally) (last : List ℤ) → Lasts D t last → Lasts D (tally_payment q c t) last
unfolding tally_payment
lasts_pay D q c t last l = lasts-kept D t (tally_payment q c t) last refl l

-- an order joins: this number and no other
pub lasts-order : (D : Dims) (t : Tally) (last : List ℤ) (w₀ k₀ n : ℕ) (o : Order) → R D.warehouses w₀ → R 10 k₀ → R D.customers o.customer → n ≡ suc (N t w₀ k₀)
    → Lasts D t last → Lasts D (tally_order w₀ k₀ o t) (run (per_customer D) (last_ops w₀ k₀ o.customer n) last)
unfolding tally_order
lasts-order D t last w₀ k₀ n o r₀ s₀ u₀ en l = record {
  long = length_run (per_customer D) (last_ops w₀ k₀ o.customer n) last ∙ l.long;
  each = λ w k c r s u.
      get-run (per_customer D) (last_ops w₀ k₀ o.customer n) last (of_customer w k c) (omega (arith, l.long)) (customer_valid D r₀ s₀ u₀, tt, tt) (customer_valid D r s u)
      ∙ go w k c (l.each w k c r s u) (is2 w₀ k₀ w k) refl;
}
  where
    mine : (x : Bool) {z : ℤ} (m m' : ℕ) → n ≡ m → z ≡ pos m' → cond (x && true) (pos n) z ≡ pos (cond x m m')
    mine true m m' e e' = ap pos e
    mine false m m' e e' = e'

    go : (w k c : ℕ) → last_at D last w k c ≡ pos (last_of c (t.orders w k)) → (x : Bool) → is2 w₀ k₀ w k ≡ x
        → cond (eqb c o.customer && x) (pos n) (last_at D last w k c) ≡ pos (last_of c (cond x (t.orders w k ++ (o ∷ [])) (t.orders w k)))
    go w k c e false h = ap (λ (y : Bool). cond y (pos n) (last_at D last w k c)) (and_no (eqb c o.customer)) ∙ e
    go w k c e true h =
        mine (eqb c o.customer) (suc (N t w k)) (last_of c (t.orders w k)) (hit2 (λ w k. n ≡ suc (N t w k)) w₀ k₀ w k h en) e
        ∙ ap pos (sym (last_append c (t.orders w k) o))

-- ── the book and the slice ──
eqb_swap : (a b : ℕ) → eqb a b ≡ eqb b a
eqb_swap a b = go (ℕ_discrete a b)
  where
    go : Dec (a ≡ b) → eqb a b ≡ eqb b a
    go (yes e) = eq-eqb a b e ∙ sym (eq-eqb b a (sym e))
    go (no n) = ne_eqb a b n ∙ sym (ne_eqb b a (λ e. n (sym e)))

module _ (D : Dims) (b₀ : List ℤ) (t : Tally) (b : List ℤ) (g : Good D b₀ t b) (w k : ℕ) (r : R D.warehouses w) (s : R 10 k) where
  before-next : num (shapes D) b (next_order w k) - 1 ≡ N t w k
  before-next = omega (arith, next-num D b₀ t b g.agrees w k r s)

  -- the scan of the book
  pub scan-is : (c : ℕ) → last_order D b w k c ≡ last_of c (t.orders w k)
  unfolding last_order last_of
  scan-is c = ap (largest (λ o. eqb (num (shapes D) b (order_customer D w k o)) c)) before-next ∙ largest-same _ _ (N t w k) at
    where
      at : (o : ℕ) → R (N t w k) o → eqb (num (shapes D) b (order_customer D w k o)) c ≡ eqb c (get_or (t.orders w k) (o - 1) no_order).customer
      at zero q = absurd (omega (arith, q.lo))
      at (suc j) q =
          let x : Order = get_or (t.orders w k) j no_order in
          let e : j ≡ suc j - 1 = omega arith in
          ap (λ (z : ℤ). eqb (nat z) c) (g.agrees.order.slots w k j r s q.hi).customer
          ∙ ap (λ (n : ℕ). eqb n c) (nat-pos x.customer)
          ∙ eqb_swap x.customer c
          ∙ ap (λ (i : ℕ). eqb c (get_or (t.orders w k) i no_order).customer) e

  found_le : (o : ℕ) → o ≤ N t w k → found_ok D b w k o ≡ true
  unfolding found_ok
  found_le zero h = refl
  found_le (suc o) h = in_order D b w k (suc o) (orders_in D b₀ t b g w k r s (suc o) (record { lo = omega arith; hi = omega (arith, before-next) }))

  module _ (last : List ℤ) (l : Lasts D t last) where
    number_is : (c : ℕ) → R D.customers c → nat (last_at D last w k c) ≡ last_of c (t.orders w k)
    number_is c u = ap nat (l.each w k c r s u) ∙ nat-pos (last_of c (t.orders w k))

    -- "each number is the one the scan would find"
    pub lasts-scan : (c : ℕ) → R D.customers c → last_at D last w k c ≡ pos (last_order D b w k c)
    lasts-scan c u = l.each w k c r s u ∙ ap pos (sym (scan-is c))

    -- a New-Order: its lines, then the order
    pub lasts_new : (ls : List Line) (o : Order) → R D.customers o.customer
        → Lasts D (tally_order w k o (tally_lines ls t)) (run (per_customer D) (last_ops w k o.customer (num (shapes D) b (next_order w k))) last)
    lasts_new ls o u =
        let en : N (tally_lines ls t) w k ≡ N t w k = ap (λ (f : ℕ → ℕ → List Order). length (f w k)) (lines_leave ls t).orders in
        lasts-order D (tally_lines ls t) last w k (num (shapes D) b (next_order w k)) o r s u (next-num D b₀ t b g.agrees w k r s ∙ ap suc (sym en)) (lasts-lines D ls t last l)

    -- what 13 tests holds
    pub lasts-ok : last_ok D b last w k ≡ true
    unfolding last_ok
    lasts-ok = all-to _ D.customers (λ c u. le-leb (nat (last_at D last w k c)) _ (omega (arith, number_is c u, last_le c (t.orders w k), before-next)))

    pub lasts-found : (c : ℕ) → R D.customers c → found_ok D b w k (nat (last_at D last w k c)) ≡ true
    lasts-found c u = rw (number_is c u) (found_le (last_of c (t.orders w k)) (last_le c (t.orders w k)))

pub lasts-long : (D : Dims) (t : Tally) (last : List ℤ) → Lasts D t last → last_long D last ≡ true
unfolding last_long
lasts-long D t last l = eq-eqb _ _ l.long
