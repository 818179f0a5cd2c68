-- A district's names as code reads them that is handed the byte where they start, and what the steps of the search ask.
-- No rule of the book is here: proofs/Bridge joins each of these to the model's definition.
-- Assumes nothing.
use Rattle.std.specs.Prelude.{◌≡◌, Bool, true, false, cond, List, [], ◌∷◌, ℕ, suc, ◌+◌, ◌-◌, ◌*◌, ◌≤◌, ◌<◌, ◌^◌, ltb, length, get_or, Option, Some, None}
use Rattle.model.specs.Names.{name_at, name_ok, compare_names, is_equal, smaller_or, sorted, passing}
use Rattle.model.specs.Claim.{R}

unfoldable pub named_from : List ℕ → ℕ → List ℕ → ℕ → Bool
named_from names base name c = is_equal (compare_names (name_at names (base + 32 * (c - 1))) name)

-- none of those behind i, up to r, passes a test
abbrev pub Passed : (ℕ → Bool) → ℕ → ℕ → Type 0
Passed test i r = (c : ℕ) → i < c → c ≤ r → test c ≡ false

-- the first of those behind i, up to count, that passes a test
abbrev pub Next : (ℕ → Bool) → ℕ → ℕ → Option ℕ → Type 0
Next test i count None = Passed test i count
Next test i count (Some c) = (i < c) × ((c ≤ count) × (Passed test i (c - 1) × (test c ≡ true)))

unfoldable pub before_from : List ℕ → ℕ → ℕ → ℕ → Bool
before_from names base a c = smaller_or (compare_names (name_at names (base + 32 * (a - 1) + 16)) (name_at names (base + 32 * (c - 1) + 16))) (ltb a c)

unfoldable pub name_ok_from : List ℕ → ℕ → ℕ → Bool
name_ok_from names base c = name_ok names (base + 32 * (c - 1))

-- the first count customers of the district that have the last name, in order
abbrev pub namesakes_from : List ℕ → ℕ → List ℕ → ℕ → List ℕ
namesakes_from names base name count = sorted (before_from names base) (passing (named_from names base name) count)

-- where an insertion puts x, from 0
abbrev pub insert_place : (ℕ → ℕ → Bool) → ℕ → List ℕ → ℕ
insert_place comes x [] = 0
insert_place comes x (y ∷ ys) = cond (comes x y) 0 (suc (insert_place comes x ys))

-- a list has customers of the district in order, and c is a customer
pub record Listed (names : List ℕ) (base count : ℕ) (list : List ℕ) (c : ℕ) : Type 0 where
  pub few : count < 2 ^ 16
  pub low : 1 ≤ c
  pub high : c ≤ count
  pub numbers : (i : ℕ) → i < length list → R count (get_or list i 0)
  pub ordered : (i j : ℕ) → i < j → j < length list → before_from names base (get_or list i 0) (get_or list j 0) ≡ true
