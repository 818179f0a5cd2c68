-- A district's numbers by their addresses: they follow each other, and what refusal 13's first two tests say of them.
-- Assumes nothing.
use Rattle.std.proofs.Common.{◌≡◌, ℕ, ◌+◌, ◌-◌, ◌*◌, ◌≤◌, Bool, true, leb, List, length, get_or, set, ℤ, pos, ap, ◌∙◌, arith, eqb-true}
use Rattle.model.specs.declared.Dims.{Dims}
use Rattle.model.specs.Tests.{all_to}
use Rattle.model.specs.Numbers.{nat, cell}
use Rattle.model.specs.Layout.{shapes, place, inside, per_customer, of_customer}
use Rattle.model.specs.Store.{get, num, op, run}
use Rattle.model.specs.Rows.{next_order}
use Rattle.model.specs.LastOrder.{last_at, last_long, last_ok, last_ops}
use Rattle.model.specs.Claim.{R}
use Rattle.model.proofs.TestLaws.{all_same}
use Rattle.layout.proofs.Bounds.{last-is}
use Rattle.last_orders.proofs.Passing.{before}

module _ (d : Dims) (w k : ℕ) where
  -- the numbers of a district follow each other
  last-next : (c : ℕ) → 1 ≤ c → place (per_customer d) (of_customer w k 1) + (c - 1) ≡ place (per_customer d) (of_customer w k c)
  unfolding place inside
  last-next c h = omega arith

  -- .. and end within the slice
  pub last_end : {p : ℕ} → R d.warehouses w → R 10 k → 1 ≤ d.customers → p ≡ place (per_customer d) (of_customer w k 1)
      → p + d.customers ≤ 10 * d.warehouses * d.customers
  last_end r s h e =
      omega (arith, last-next d.customers h, (last-is d w k d.customers r s (record { lo = h; hi = omega arith })).1)

  -- the pass from the first customer's number on is the test of the district
  pub pass_is : (b last : List ℤ) (p n : ℕ) {t : Bool} → p ≡ place (per_customer d) (of_customer w k 1) → n ≡ num (shapes d) b (next_order w k)
      → t ≡ all_to d.customers (before last p n) → t ≡ last_ok d b last w k
  unfolding last_ok get cell
  pass_is b last p n e f g = g ∙ all_same (before last p n) (λ c. leb (nat (last_at d last w k c)) (num (shapes d) b (next_order w k) - 1)) d.customers each
    where
      each : (c : ℕ) → R d.customers c → before last p n c ≡ leb (nat (last_at d last w k c)) (num (shapes d) b (next_order w k) - 1)
      each c r =
          let q : p + (c - 1) ≡ place (per_customer d) (of_customer w k c) = ap (λ (i : ℕ). i + (c - 1)) e ∙ last-next c r.lo in
          rw (q, f)

-- ── the slice's length ──
module _ (d : Dims) (last : List ℤ) where
  pub long-length : last_long d last ≡ true → length last ≡ 10 * d.warehouses * d.customers
  unfolding last_long
  long-length e = eqb-true _ _ e

-- ── a number at its address, read and stored ──
module _ (d : Dims) (last : List ℤ) (w k c : ℕ) {p : ℕ} (e : p ≡ place (per_customer d) (of_customer w k c)) where
  last-cell : cell last p ≡ nat (last_at d last w k c)
  unfolding cell get
  last-cell = ap (λ (i : ℕ). nat (get_or last i (pos 0))) e

  pub read_at : {v : ℕ} → v ≡ cell last p → v ≡ nat (last_at d last w k c)
  read_at f = f ∙ last-cell

  pub note_at : (o : ℕ) {ys : List ℤ} → ys ≡ set last p (pos o) → ys ≡ run (per_customer d) (last_ops w k c o) last
  unfolding op
  note_at o f = f ∙ ap (λ (i : ℕ). set last i (pos o)) e
