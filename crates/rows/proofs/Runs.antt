-- Rows that follow each other: where row i, from 0, after a first one starts, and that it ends within the book; and the runs of used rows.
-- Assumes nothing.
use mathlib.Core.Path.{◌≡◌, refl, ap, ◌∙◌}
use mathlib.Core.Bool.{Bool, true, false, cond}
use mathlib.Core.List.{List}
use Prim.Native.Nat.{ℕ, ◌+◌, ◌-◌, ◌*◌, ◌≤◌, ◌<◌}
use native.Mathlib.Omega.{arith}
use lib.Dec.{leb}
use lib.IntN.{ℤ}
use lib.ListN.{length}
use borrow.Author.Tests.{leb-false}
use Rattle.model.specs.declared.Dims.{Dims}
use Rattle.model.specs.Tests.{every, all_to}
use Rattle.model.specs.Layout.{place, inside, shapes, numbers}
use Rattle.model.specs.Store.{num, from}
use Rattle.model.specs.Rows.{next_order, customer_row, customer_tests, price, stock_row, stock_tests, order_ok}
use Rattle.model.specs.Used.{customer_used, stock_used, order_used, orders_used}
use Rattle.model.specs.StockLevel.{window_first, window_count, window_used}
use Rattle.model.specs.Claim.{R}
use Rattle.model.proofs.TestLaws.{all_same}
use Rattle.layout.specs.declared.Run.{Run}
use Rattle.layout.specs.Runs.{row_in, RunOf, RowsIn}
use Rattle.layout.proofs.Bounds.{customer-is, item-is, stock-is}
use Rattle.rows.specs.Book.{Booked, ok_at, orders_from}
use Rattle.rows.proofs.RowTests.{customer_test, stock_test, order_test}

module _ (d : Dims) where
  pub customer-run : (w k i : ℕ) → R d.warehouses w → R 10 k → i < d.customers
      → (place (shapes d) (customer_row w k 1) + 6 * i ≡ place (shapes d) (customer_row w k (i + 1))) × (place (shapes d) (customer_row w k (i + 1)) + 6 ≤ numbers d)
  unfolding place inside
  customer-run w k i r s h = (omega arith, (customer-is d w k (i + 1) r s (record { lo = omega arith; hi = omega arith })).1)

  pub item-run : (i : ℕ) → i < d.items
      → (place (shapes d) (price 1) + i ≡ place (shapes d) (price (i + 1))) × (place (shapes d) (price (i + 1)) + 1 ≤ numbers d)
  unfolding place inside
  item-run i h = (omega arith, (item-is d (i + 1) (record { lo = omega arith; hi = omega arith })).1)

  pub stock-run : (w i : ℕ) → R d.warehouses w → i < d.items
      → (place (shapes d) (stock_row w 1) + 4 * i ≡ place (shapes d) (stock_row w (i + 1))) × (place (shapes d) (stock_row w (i + 1)) + 4 ≤ numbers d)
  unfolding place inside
  stock-run w i r h = (omega arith, (stock-is d w (i + 1) r (record { lo = omega arith; hi = omega arith })).1)

-- ── a test in a run ──
module _ (d : Dims) (b : List ℤ) {p : ℕ} {t : Bool} where
  pub customer_in_run : (w k i : ℕ) → R d.warehouses w → R 10 k → i < d.customers → p ≡ place (shapes d) (customer_row w k 1)
      → t ≡ every (customer_tests (from b (p + 6 * i))) → t ≡ customer_used d b w k (i + 1)
  customer_in_run w k i r s h e f = customer_test d b w k (i + 1) (ap (λ (j : ℕ). j + 6 * i) e ∙ (customer-run d w k i r s h).0) f

  pub stock_in_run : (w i : ℕ) → R d.warehouses w → i < d.items → p ≡ place (shapes d) (stock_row w 1)
      → t ≡ every (stock_tests (from b (p + 4 * i))) → t ≡ stock_used d b w (i + 1)
  stock_in_run w i r h e f = stock_test d b w (i + 1) (ap (λ (j : ℕ). j + 4 * i) e ∙ (stock-run d w i r h).0) f

-- ── the orders of a run ──
-- the row that the code judges in turn i, from 0
pub row_test : (d : Dims) (b : List ℤ) (run : Run) (i : ℕ) {p : ℕ} {t : Bool} → p ≡ row_in run i → t ≡ order_ok d (from b p) → t ≡ ok_at d b run (i + 1)
unfolding ok_at
row_test d b run i e f = let q : i + 1 - 1 ≡ i = omega arith in rw (q, ← e) f

module _ (d : Dims) (b : List ℤ) (w k first n : ℕ) {run : Run} (r : RunOf d w k first n run) where
  pub rows_in : Booked d b → RowsIn run (length b)
  rows_in v i h = omega (arith, r.ends i (omega (arith, h, r.count)), v.long)

  run_test : (j : ℕ) → R n j → ok_at d b run j ≡ order_used d b w k (first + (j - 1))
  unfolding ok_at
  run_test j t = order_test d b w k (first + (j - 1)) (r.each (j - 1) (omega (arith, t.lo, t.hi))) refl

  pub run-used : {t : Bool} → t ≡ all_to run.count (ok_at d b run) → t ≡ orders_from d b w k first n
  run-used e =
      e
      ∙ ap (λ (m : ℕ). all_to m (ok_at d b run)) r.count
      ∙ all_same (ok_at d b run) (λ j. order_used d b w k (first + (j - 1))) n run_test

-- ── orders before next, and those of the window ──
module _ (d : Dims) (b : List ℤ) (w k : ℕ) where
  pub orders-from-one : (n : ℕ) {t : Bool} → n ≡ num (shapes d) b (next_order w k) → t ≡ orders_from d b w k 1 (n - 1) → t ≡ orders_used d b w k
  unfolding orders_used
  orders-from-one n e f =
      f
      ∙ all_same (λ j. order_used d b w k (1 + (j - 1))) (order_used d b w k) (n - 1) (λ j r. ap (order_used d b w k) (omega (arith, r.lo)))
      ∙ ap (λ (m : ℕ). all_to (m - 1) (order_used d b w k)) e

  pub orders-window : (n f : ℕ) {t : Bool} → n ≡ num (shapes d) b (next_order w k) → f ≡ window_first n → t ≡ orders_from d b w k f (n - f) → t ≡ window_used d b w k
  unfolding window_used window_count
  orders-window n f e g h =
      h ∙ ap (λ (i : ℕ). orders_from d b w k i (n - i)) g ∙ ap (λ (m : ℕ). orders_from d b w k (window_first m) (m - window_first m)) e

-- the window's first order is a number of the district, and before next where there is an order
pub record First (next top first : ℕ) : Type 0 where
  pub low : 1 ≤ first
  pub high : first ≤ top
  pub most : first ≤ next

pub window-first : (next top : ℕ) → 1 ≤ next → next ≤ top + 1 → 1 ≤ top → First next top (window_first next)
unfolding window_first
window-first next top h k l = go (leb next 20) refl
  where
    go : (x : Bool) → leb next 20 ≡ x → First next top (cond x 1 (next - 20))
    go true e = omega arith
    go false e = omega (arith, leb-false next 20 e)
