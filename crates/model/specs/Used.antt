-- Used rows: 9, "A used row or name holds a value out of range."
-- Assumes nothing.
use Rattle.std.specs.Prelude.{Bool, true, ◌&&◌, cond, List, [], ◌∷◌, ℕ, ◌-◌, leb, ℤ}
use Rattle.model.specs.declared.Dims.{Dims}
use Rattle.model.specs.declared.Line.{Line}
use Rattle.model.specs.Tests.{every, all_to}
use Rattle.model.specs.Layout.{shapes}
use Rattle.model.specs.Store.{num, row_of}
use Rattle.model.specs.Rows.{warehouse_row, warehouse_tests, district_row, district_tests, next_order, customer_row, customer_tests, price, item_tests, stock_row, stock_tests, order_row, order_ok}
use Rattle.model.specs.Names.{Who, by_number, by_name, name_place, name_ok}

unfoldable pub warehouse_used : Dims → List ℤ → ℕ → Bool
warehouse_used d b w = every (warehouse_tests (row_of (shapes d) b (warehouse_row w)))

unfoldable pub district_used : Dims → List ℤ → ℕ → ℕ → Bool
district_used d b w k = every (district_tests d (row_of (shapes d) b (district_row w k)))

unfoldable pub customer_used : Dims → List ℤ → ℕ → ℕ → ℕ → Bool
customer_used d b w k c = every (customer_tests (row_of (shapes d) b (customer_row w k c)))

unfoldable pub item_used : Dims → List ℤ → ℕ → Bool
item_used d b i = every (item_tests (row_of (shapes d) b (price i)))

unfoldable pub stock_used : Dims → List ℤ → ℕ → ℕ → Bool
stock_used d b w i = every (stock_tests (row_of (shapes d) b (stock_row w i)))

unfoldable pub order_used : Dims → List ℤ → ℕ → ℕ → ℕ → Bool
order_used d b w k o = order_ok d (row_of (shapes d) b (order_row d w k o))

-- all customers of a district
unfoldable pub customers_used : Dims → List ℤ → ℕ → ℕ → Bool
customers_used d b w k = all_to d.customers (customer_used d b w k)

-- the names of all customers of a district
unfoldable pub names_used : Dims → List ℕ → ℕ → ℕ → Bool
names_used d names w k = all_to d.customers (λ c. name_ok names (name_place d w k c))

-- "orders before next"
unfoldable pub orders_used : Dims → List ℤ → ℕ → ℕ → Bool
orders_used d b w k = all_to (num (shapes d) b (next_order w k) - 1) (order_used d b w k)

-- "the customer, or by name all customers of its district" ("names only in a search by name")
unfoldable pub who_used : Dims → List ℤ → List ℕ → ℕ → ℕ → Who → Bool
who_used d b names w k (by_number c) = customer_used d b w k c
who_used d b names w k (by_name name) = every (customers_used d b w k ∷ names_used d names w k ∷ [])

-- the line's item is 1 to I
abbrev pub listed : Dims → Line → Bool
listed d l = leb 1 l.item && leb l.item d.items

-- "item and stock of each line with item 1 to I"
unfoldable pub line_used : Dims → List ℤ → Line → Bool
line_used d b l = cond (listed d l) (every (item_used d b l.item ∷ stock_used d b l.supply l.item ∷ [])) true
