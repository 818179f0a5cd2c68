-- The program's book as code fills it.
-- Assumes nothing.
use Rattle.std.specs.Prelude.{List, ◌∷◌, ◌++◌, ℕ, zero, suc, ◌+◌, ◌*◌, ℤ, pos, set, replicate}

-- W, C, I, O, H, and the warehouse's tax
unfoldable pub head_to : List ℤ → List ℤ
head_to b = set (set (set (set (set (set b 0 (pos 1)) 1 (pos 2)) 2 (pos 5)) 3 (pos 4)) 4 (pos 8)) 6 (pos 1000)

-- tax and next order number of the first k districts, and the discount of their first customer
unfoldable pub districts_to : ℕ → List ℤ → List ℤ
districts_to zero b = b
districts_to (suc k) b = set (set (set (districts_to k b) (8 + 3 * k) (pos 500)) (10 + 3 * k) (pos 1)) (39 + 12 * k) (pos 1000)

-- the prices of the five items
unfoldable pub prices_to : List ℤ → List ℤ
prices_to b = set (set (set (set b 158 (pos 100)) 159 (pos 250)) 160 (pos 999)) 162 (pos 1234)

-- on hand of the first k stock rows
unfoldable pub stocks_to : ℕ → List ℤ → List ℤ
stocks_to zero b = b
stocks_to (suc k) b = set (stocks_to k b) (163 + 4 * k) (pos 20)

-- ALM, EVA and ALM, BO
abbrev pub two_names : List ℕ
two_names = (65 ∷ 76 ∷ 77 ∷ replicate 13 32) ++ (69 ∷ 86 ∷ 65 ∷ replicate 13 32) ++ (65 ∷ 76 ∷ 77 ∷ replicate 13 32) ++ (66 ∷ 79 ∷ replicate 14 32)
