-- The rough look at a run of customers' rows: of each column a number that no raised number of sixteen rows is above.
-- No rule of the book is here: proofs/Rough joins it to the model's test of every row.
-- Assumes nothing.
use Rattle.std.specs.Prelude.{◌≡◌, List, [], ◌∷◌, ℕ, ◌+◌, ◌*◌, ◌≤◌, ◌<◌, ℤ, pos, ◌+ℤ◌, length, get_or}
use Rattle.model.specs.Numbers.{nat}

-- an array of n numbers written anew: at each place the old number and the new one stand in a relation
pub record Rewritten (n : ℕ) (P : ℕ → ℕ → ℕ → Type 0) (old new : List ℕ) : Type 0 where
  pub size : length new ≡ n
  pub at : (j : ℕ) → j < n → P j (get_or old j 0) (get_or new j 0)

-- none of n numbers, six apart from an index on, is above a once it is raised
abbrev pub Under : List ℤ → ℕ → ℕ → ℕ → ℕ → Type 0
Under b p by n a = (k : ℕ) → k < n → nat (get_or b (p + 6 * k) (pos 0) +ℤ pos by) ≤ a

-- by how much the numbers of each column are raised: balances by as much as they may be below 0
abbrev pub raises : List ℕ
raises = 0 ∷ 0 ∷ 999999999999 ∷ 0 ∷ 0 ∷ 0 ∷ []

-- what is kept of each column is no less than before, and no number of the sixteen rows from p on is above it
abbrev pub RowsNoted : List ℤ → ℕ → List ℕ → List ℕ → Type 0
RowsNoted b p = Rewritten 6 (λ j x y. (x ≤ y) × Under b (p + j) (get_or raises j 0) 16 y)
