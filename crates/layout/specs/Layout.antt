-- What the code of positions computes with. No rule of the book is here: each position's contract is by `place` of the model.
-- Assumes nothing.
use Rattle.std.specs.Prelude.{ℕ, ◌+◌, ◌*◌}
use Rattle.model.specs.declared.Dims.{Dims}

-- products of two dimensions, shut, so that all else is linear in these names
unfoldable pub all_customers : Dims → ℕ
all_customers d = 10 * d.warehouses * d.customers

unfoldable pub all_stocks : Dims → ℕ
all_stocks d = d.warehouses * d.items

unfoldable pub all_orders : Dims → ℕ
all_orders d = 10 * d.warehouses * d.orders

-- where the items, the stocks, the orders and the history start
abbrev pub item_base : Dims → ℕ
item_base d = 6 + 2 * d.warehouses + 30 * d.warehouses + 6 * all_customers d

abbrev pub stock_base : Dims → ℕ
stock_base d = item_base d + d.items

abbrev pub order_base : Dims → ℕ
order_base d = stock_base d + 4 * all_stocks d

abbrev pub history_base : Dims → ℕ
history_base d = order_base d + 81 * all_orders d
