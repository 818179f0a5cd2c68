-- R-1: "A further lent slice has per customer its largest order number, 0 for none"
-- Assumes nothing.
use Rattle.std.specs.Prelude.{Bool, true, List, [], ◌∷◌, ℕ, zero, suc, ◌-◌, ◌*◌, leb, eqb, ℤ, pos, length}
use Rattle.model.specs.declared.Dims.{Dims}
use Rattle.model.specs.Tests.{all_to}
use Rattle.model.specs.Numbers.{nat}
use Rattle.model.specs.Layout.{shapes, per_customer, of_customer}
use Rattle.model.specs.Store.{get, num, Op, one}
use Rattle.model.specs.Rows.{next_order}
use Rattle.model.specs.Used.{order_used}

-- a customer's number in the slice
abbrev pub last_at : Dims → List ℤ → ℕ → ℕ → ℕ → ℤ
last_at d last w k c = get (per_customer d) last (of_customer w k c)

-- 13: "when the slice's length is not 10 × W × C,"
unfoldable pub last_long : Dims → List ℤ → Bool
last_long d last = eqb (length last) (10 * d.warehouses * d.customers)

-- "a number of the call's district is outside 0 to next order number − 1,": of all its C numbers; a negative one is outside
unfoldable pub last_ok : Dims → List ℤ → List ℤ → ℕ → ℕ → Bool
last_ok d b last w k = all_to d.customers (λ c. leb (nat (last_at d last w k c)) (num (shapes d) b (next_order w k) - 1))

-- "or the order that Order-Status finds holds a value out of range": order 0 is none
unfoldable pub found_ok : Dims → List ℤ → ℕ → ℕ → ℕ → Bool
found_ok d b w k zero = true
found_ok d b w k (suc o) = order_used d b w k (suc o)

-- "New-Order maintains it": the number of its customer becomes that of the new order, and no other changes
abbrev pub last_ops : ℕ → ℕ → ℕ → ℕ → List Op
last_ops w k c o = one (of_customer w k c) (λ z. pos o) ∷ []
