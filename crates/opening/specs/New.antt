-- The rows that opening looks at in a run, by number.
-- Assumes nothing.
use Rattle.std.specs.Prelude.{Bool, List, ℕ, ℤ}
use Rattle.model.specs.declared.Dims.{Dims}
use Rattle.model.specs.Tests.{every}
use Rattle.model.specs.Layout.{shapes}
use Rattle.model.specs.Store.{row_of}
use Rattle.model.specs.Rows.{customer_row, stock_row}
use Rattle.model.specs.Opening.{new_customer, new_stock}

abbrev pub customer_new : Dims → List ℤ → ℕ → ℕ → ℕ → Bool
customer_new d b w k c = every (new_customer (row_of (shapes d) b (customer_row w k c)))

abbrev pub stock_new : Dims → List ℤ → ℕ → ℕ → Bool
stock_new d b w i = every (new_stock (row_of (shapes d) b (stock_row w i)))
