-- The head, and refusal 2.
-- Assumes nothing.
use Rattle.std.specs.Prelude.{Bool, List, [], ◌∷◌, ℕ, leb, eqb, length, ℤ}
use Rattle.model.specs.declared.Dims.{Dims}
use Rattle.model.specs.Tests.{every, within}
use Rattle.model.specs.Numbers.{cell}
use Rattle.model.specs.Layout.{numbers, name_bytes}

-- the five numbers of the head that fix the size
unfoldable pub dims : List ℤ → Dims
dims b = record { warehouses = cell b 0; customers = cell b 1; items = cell b 2; orders = cell b 3; histories = cell b 4 }

unfoldable pub dims_tests : Dims → List Bool
dims_tests d =
    within d.warehouses 1 20
    ∷ within d.customers 1 3000
    ∷ within d.items 1 100000
    ∷ within d.orders 1 10000
    ∷ within d.histories 1 1000000
    ∷ []

-- the history count, and both lengths; n is the number of name bytes
unfoldable pub size_tests : Dims → List ℤ → ℕ → List Bool
size_tests d b n = leb (cell b 5) d.histories ∷ eqb (length b) (numbers d) ∷ eqb n (name_bytes d) ∷ []

-- 2: "The slice has under 6 numbers, a head number is out of range, or a length differs from what the head implies."
unfoldable pub head_ok : List ℤ → ℕ → Bool
head_ok b n = every (leb 6 (length b) ∷ every (dims_tests (dims b)) ∷ every (size_tests (dims b) b n) ∷ [])
