-- Bounds on the products of two dimensions, and each position as the code computes it.
-- Assumes nothing.
use mathlib.Core.Path.{◌≡◌, refl}
use Prim.Native.Nat.{ℕ, suc, ◌+◌, ◌*◌, ◌-◌, ◌≤◌}
use native.Mathlib.Nat.{mul-le-mul, mul-le-mul_right, suc-mul}
use native.Mathlib.Omega.{arith}
use Rattle.model.specs.declared.Dims.{Dims}
use Rattle.model.specs.Layout.{numbers, name_bytes, shapes, place, inside, per_customer, of_customer}
use Rattle.model.specs.Rows.{warehouse_row, district_row, customer_row, price, stock_row, slot, order_row, history_row}
use Rattle.model.specs.Claim.{R}
use Rattle.model.proofs.Fields.{Dimensioned, v1, v2, v3, v4, v5, v6, v7, slot_in, row_end}
use Rattle.layout.specs.Layout.{all_customers, all_stocks, all_orders, item_base, stock_base, order_base, history_base}

-- the product of two bounded numbers
pub prod_le : (a b m n : ℕ) → a ≤ m → b ≤ n → a * b ≤ m * n
prod_le a b m n h k = mul-le-mul h k

-- the last of a block's n, within m blocks
pub in_block : (t m j n : ℕ) → suc t ≤ m → suc j ≤ n → t * n + suc j ≤ m * n
in_block t m j n h k =
    let s : suc t * n ≤ m * n = mul-le-mul_right n h in
    omega (arith, suc-mul t n)

module _ (d : Dims) (o : Dimensioned d) where
  pub customers_max : all_customers d ≤ 600000
  unfolding all_customers
  customers_max = prod_le (10 * d.warehouses) d.customers 200 3000 (omega arith) o.customers_high

  pub stocks_max : all_stocks d ≤ 2000000
  unfolding all_stocks
  stocks_max = prod_le d.warehouses d.items 20 100000 o.warehouses_high o.items_high

  pub orders_max : all_orders d ≤ 2000000
  unfolding all_orders
  orders_max = prod_le (10 * d.warehouses) d.orders 200 10000 (omega arith) o.orders_high

  -- the rows before a district's first, and before a warehouse's first stock
  pub customer_block : (w k : ℕ) → R d.warehouses w → R 10 k → (10 * (w - 1) + (k - 1)) * d.customers ≤ 600000
  customer_block w k r s = prod_le (10 * (w - 1) + (k - 1)) d.customers 200 3000 (omega arith) o.customers_high

  pub order_block : (w k : ℕ) → R d.warehouses w → R 10 k → (10 * (w - 1) + (k - 1)) * d.orders ≤ 2000000
  order_block w k r s = prod_le (10 * (w - 1) + (k - 1)) d.orders 200 10000 (omega arith) o.orders_high

  pub stock_block : (w : ℕ) → R d.warehouses w → (w - 1) * d.items ≤ 2000000
  stock_block w r = prod_le (w - 1) d.items 20 100000 (omega arith) o.items_high

module _ (d : Dims) where
  pub numbers-is : history_base d + 7 * d.histories ≡ numbers d
  unfolding numbers all_customers all_stocks all_orders
  numbers-is = omega arith

  pub names-is : 32 * all_customers d ≡ name_bytes d
  unfolding name_bytes all_customers
  names-is = refl

  pub warehouse-is : (w : ℕ) → R d.warehouses w
      → (6 + 2 * (w - 1) ≡ place (shapes d) (warehouse_row w)) × (place (shapes d) (warehouse_row w) + 2 ≤ numbers d)
  unfolding place inside numbers
  warehouse-is w r = (omega arith, row_end (shapes d) 1 w 1 1 1 (v1 d r 1 (omega arith)) refl)

  pub district-is : (w k : ℕ) → R d.warehouses w → R 10 k
      → (6 + 2 * d.warehouses + 3 * (10 * (w - 1) + (k - 1)) ≡ place (shapes d) (district_row w k)) × (place (shapes d) (district_row w k) + 3 ≤ numbers d)
  unfolding place inside numbers
  district-is w k r s = (omega arith, row_end (shapes d) 2 w k 1 2 (v2 d r s 2 (omega arith)) refl)

  pub customer-is : (w k c : ℕ) → R d.warehouses w → R 10 k → R d.customers c
      → (6 + 2 * d.warehouses + 30 * d.warehouses + 6 * ((10 * (w - 1) + (k - 1)) * d.customers + (c - 1)) ≡ place (shapes d) (customer_row w k c))
      × (place (shapes d) (customer_row w k c) + 6 ≤ numbers d)
  unfolding place inside numbers
  customer-is w k c r s t = (omega arith, row_end (shapes d) 3 w k c 5 (v3 d r s t 5 (omega arith)) refl)

  pub item-is : (i : ℕ) → R d.items i → (item_base d + (i - 1) ≡ place (shapes d) (price i)) × (place (shapes d) (price i) + 1 ≤ numbers d)
  unfolding place inside numbers all_customers
  item-is i r = (omega arith, row_end (shapes d) 4 i 1 1 0 (v4 d r 0 (omega arith)) refl)

  pub stock-is : (w i : ℕ) → R d.warehouses w → R d.items i
      → (stock_base d + 4 * ((w - 1) * d.items + (i - 1)) ≡ place (shapes d) (stock_row w i)) × (place (shapes d) (stock_row w i) + 4 ≤ numbers d)
  unfolding place inside numbers all_customers
  stock-is w i r s = (omega arith, row_end (shapes d) 5 w i 1 3 (v5 d r s 3 (omega arith)) refl)

  pub order_is : (w k o : ℕ) → R d.warehouses w → R 10 k → R d.orders o
      → (order_base d + 81 * ((10 * (w - 1) + (k - 1)) * d.orders + (slot d o - 1)) ≡ place (shapes d) (order_row d w k o))
      × (place (shapes d) (order_row d w k o) + 81 ≤ numbers d)
  unfolding place inside numbers all_customers all_stocks
  order_is w k o r s t = (omega arith, row_end (shapes d) 6 w k (slot d o) 80 (v6 d r s (slot_in d t) 80 (omega arith)) refl)

  pub history-is : (h : ℕ) → R d.histories h
      → (history_base d + 7 * (h - 1) ≡ place (shapes d) (history_row h)) × (place (shapes d) (history_row h) + 7 ≤ numbers d)
  unfolding place inside numbers all_customers all_stocks all_orders
  history-is h r = (omega arith, row_end (shapes d) 7 h 1 1 6 (v7 d r 6 (omega arith)) refl)

  -- orders of following numbers are in following slots
  pub order-run : (w k o i : ℕ) → R d.warehouses w → R 10 k → 1 ≤ o → o + i ≤ d.orders
      → (place (shapes d) (order_row d w k o) + 81 * i ≡ place (shapes d) (order_row d w k (o + i))) × (place (shapes d) (order_row d w k (o + i)) + 81 ≤ numbers d)
  unfolding place inside slot
  order-run w k o i r s l h = (omega arith, (order_is w k (o + i) r s (record { lo = omega arith; hi = omega arith })).1)

  -- a slice with one number per customer
  pub last-is : (w k c : ℕ) → R d.warehouses w → R 10 k → R d.customers c
      → ((10 * (w - 1) + (k - 1)) * d.customers + (c - 1) ≡ place (per_customer d) (of_customer w k c))
      × (place (per_customer d) (of_customer w k c) + 1 ≤ 10 * d.warehouses * d.customers)
  unfolding place inside
  last-is w k c r s t = (omega arith, omega (arith, row_end (per_customer d) 0 w k c 0 (omega arith) refl))
