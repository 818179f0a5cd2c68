-- A test of a row, made from the row's start, at the row's address; rows that follow each other.
-- Assumes nothing.
use mathlib.Core.Path.{◌≡◌, sym, ap, ◌∙◌}
use mathlib.Core.Bool.{Bool}
use mathlib.Core.List.{List}
use Prim.Native.Nat.{ℕ, ◌+◌, ◌*◌, ◌<◌}
use lib.IntN.{ℤ}
use Rattle.model.specs.declared.Dims.{Dims}
use Rattle.model.specs.Tests.{every}
use Rattle.model.specs.Layout.{place, shapes}
use Rattle.model.specs.Store.{from, row_of}
use Rattle.model.specs.Rows.{warehouse_row, district_row, customer_row, price, item_tests, stock_row}
use Rattle.model.specs.Used.{item_used}
use Rattle.model.specs.Opening.{new_warehouse, new_district, new_customer, new_stock}
use Rattle.model.specs.Claim.{R}
use Rattle.model.proofs.Fields.{row_read}
use Rattle.rows.proofs.Runs.{customer-run, item-run, stock-run}
use Rattle.rows.proofs.RowTests.{item_test}
use Rattle.opening.specs.New.{customer_new, stock_new}

pub warehouse_at_row : (d : Dims) (b : List ℤ) (w : ℕ) → every (new_warehouse (row_of (shapes d) b (warehouse_row w))) ≡ every (new_warehouse (from b (place (shapes d) (warehouse_row w))))
warehouse_at_row d b w = ap (λ (r : ℕ → ℤ). every (new_warehouse r)) (sym (row_read (shapes d) b 1 w 1 1))

pub district_at_row : (d : Dims) (b : List ℤ) (w k : ℕ) → every (new_district (row_of (shapes d) b (district_row w k))) ≡ every (new_district (from b (place (shapes d) (district_row w k))))
district_at_row d b w k = ap (λ (r : ℕ → ℤ). every (new_district r)) (sym (row_read (shapes d) b 2 w k 1))

module _ (d : Dims) (b : List ℤ) {p : ℕ} {t : Bool} where
  -- row i, from 0, after a first one
  pub customer_new_lem : (w k i : ℕ) → R d.warehouses w → R 10 k → i < d.customers → p ≡ place (shapes d) (customer_row w k 1)
      → t ≡ every (new_customer (from b (p + 6 * i))) → t ≡ customer_new d b w k (i + 1)
  customer_new_lem w k i r s h e f =
      f
      ∙ ap (λ (j : ℕ). every (new_customer (from b j))) (ap (λ (j : ℕ). j + 6 * i) e ∙ (customer-run d w k i r s h).0)
      ∙ ap (λ (g : ℕ → ℤ). every (new_customer g)) (row_read (shapes d) b 3 w k (i + 1))

  pub stock_new_lem : (w i : ℕ) → R d.warehouses w → i < d.items → p ≡ place (shapes d) (stock_row w 1)
      → t ≡ every (new_stock (from b (p + 4 * i))) → t ≡ stock_new d b w (i + 1)
  stock_new_lem w i r h e f =
      f
      ∙ ap (λ (j : ℕ). every (new_stock (from b j))) (ap (λ (j : ℕ). j + 4 * i) e ∙ (stock-run d w i r h).0)
      ∙ ap (λ (g : ℕ → ℤ). every (new_stock g)) (row_read (shapes d) b 5 w (i + 1) 1)

  pub item-used : (i : ℕ) → i < d.items → p ≡ place (shapes d) (price 1) → t ≡ every (item_tests (from b (p + i))) → t ≡ item_used d b (i + 1)
  item-used i h e f = item_test d b (i + 1) (ap (λ (j : ℕ). j + i) e ∙ (item-run d i h).0) f
