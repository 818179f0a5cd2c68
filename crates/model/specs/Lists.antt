-- Lists that the calls speak of.
-- Assumes nothing.
use Rattle.std.specs.Prelude.{Bool, not, cond, List, [], ◌∷◌, ◌++◌, ℕ, zero, suc, ◌+◌, eqb}

module _ {A : Type 0} where
  -- f 1, .., f n
  unfoldable pub up_to : ℕ → (ℕ → A) → List A
  up_to zero f = []
  up_to (suc n) f = up_to n f ++ (f (suc n) ∷ [])

-- the sum of an order's amounts
unfoldable pub sum_of : List ℕ → ℕ
sum_of [] = 0
sum_of (x ∷ xs) = x + sum_of xs

-- the first of the n numbers from k on that passes a test; 0 where none does
unfoldable pub lowest : (ℕ → Bool) → ℕ → ℕ → ℕ
lowest f k zero = 0
lowest f k (suc n) = cond (f k) k (lowest f (suc k) n)

-- the largest of 1, .., n that passes a test; 0 where none does
unfoldable pub largest : (ℕ → Bool) → ℕ → ℕ
largest f zero = 0
largest f (suc n) = cond (f (suc n)) (suc n) (largest f n)

-- the entries that pass a test
abbrev pub keeping : (ℕ → Bool) → List ℕ → List ℕ
keeping test [] = []
keeping test (x ∷ xs) = cond (test x) (x ∷ keeping test xs) (keeping test xs)

-- each entry once
abbrev pub distinct : List ℕ → List ℕ
distinct [] = []
distinct (x ∷ xs) = x ∷ keeping (λ y. not (eqb x y)) (distinct xs)
