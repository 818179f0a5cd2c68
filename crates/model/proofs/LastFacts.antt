-- What is known of the last orders where 13 does not refuse.
-- Assumes nothing.
use mathlib.Core.Path.{◌≡◌, refl}
use mathlib.Core.Logic.{◌≢◌}
use mathlib.Core.Bool.{true}
use mathlib.Core.List.{List}
use Prim.Native.Nat.{ℕ, zero, suc, ◌-◌, ◌*◌, ◌≤◌}
use native.Mathlib.Nat.{le_trans}
use native.Mathlib.Omega.{arith}
use lib.ListN.{length}
use lib.IntN.{ℤ}
use borrow.Author.Tests.{leb-true, eqb-true}
use Rattle.model.specs.declared.Dims.{Dims}
use Rattle.model.specs.Numbers.{nat}
use Rattle.model.specs.Layout.{shapes}
use Rattle.model.specs.Store.{num}
use Rattle.model.specs.Rows.{next_order}
use Rattle.model.specs.LastOrder.{last_at, last_long, last_ok, found_ok}
use Rattle.model.specs.Claim.{R}
use Rattle.model.proofs.TestLaws.{all-at}
use Rattle.model.proofs.RowFacts.{OrderIn, order_in}

-- the slice is as long as it has to be, and every number of a district is before next
pub record LastFits (d : Dims) (b last : List ℤ) (w k : ℕ) : Type 0 where
  pub long : length last ≡ 10 * d.warehouses * d.customers
  pub each : (c : ℕ) → R d.customers c → nat (last_at d last w k c) ≤ num (shapes d) b (next_order w k) - 1

pub last_fits : (d : Dims) (b last : List ℤ) (w k : ℕ) → last_long d last ≡ true → last_ok d b last w k ≡ true → LastFits d b last w k
unfolding last_long last_ok
last_fits d b last w k e h = record {
  long = eqb-true _ _ e;
  each = λ c r. le_trans (leb-true _ _ (all-at _ d.customers h c r)) (omega arith);
}

-- an order that Order-Status finds is in range
pub found_in : (d : Dims) (b : List ℤ) (w k o : ℕ) → found_ok d b w k o ≡ true → o ≢ 0 → OrderIn d b w k o
unfolding found_ok
found_in d b w k zero e ne = absurd (ne refl)
found_in d b w k (suc o) e ne = order_in d b w k (suc o) e
