-- What a call knows of the customer it found: its row and its name are in range.
-- Assumes nothing.
use mathlib.Core.Path.{◌≡◌}
use mathlib.Core.Bool.{true}
use mathlib.Core.List.{List, [], ◌∷◌}
use Prim.Native.Nat.{ℕ}
use lib.IntN.{ℤ}
use Rattle.model.specs.declared.Dims.{Dims}
use Rattle.model.specs.Names.{Who, by_number, by_name, found, customer_of, found_number, name_place, name_ok}
use Rattle.model.specs.Used.{customers_used, names_used, who_used}
use Rattle.model.specs.Claim.{R}
use Rattle.model.proofs.TestLaws.{every-each, all-at}
use Rattle.model.proofs.RowFacts.{CustomerIn, customer_in_lem, customers-at}

module _ (d : Dims) (names : List ℕ) (w k : ℕ) where
  -- the row of whoever is found is in range
  pub who-used : (b : List ℤ) (who : Who) → who_used d b names w k who ≡ true → R d.customers (found_number (customer_of d names w k who))
      → CustomerIn d b w k (found_number (customer_of d names w k who))
  unfolding who_used customer_of
  who-used b (by_number c) e r = customer_in_lem d b w k c e
  who-used b (by_name name) e r =
      customers-at d b w k (every-each (customers_used d b w k ∷ names_used d names w k ∷ []) e).0 (found_number (found d names w k name)) r

  pub names_at : names_used d names w k ≡ true → (c : ℕ) → R d.customers c → name_ok names (name_place d w k c) ≡ true
  unfolding names_used
  names_at e c r = all-at (λ i. name_ok names (name_place d w k i)) d.customers e c r
