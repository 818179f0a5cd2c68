-- The least and the largest byte at each of the 32 places of a customer's names, as the range check keeps them.
-- No rule of the book is here: proofs/Extremes joins the look at them to the model's test of every name.
-- Assumes nothing.
use Rattle.std.specs.Prelude.{◌≡◌, Bool, ◌&&◌, List, ℕ, ◌+◌, leb, get_or}
use Rattle.std.specs.List.{list_all}
use Rattle.rows.specs.Rough.{Rewritten}

-- at each place the choice between what stood there and the byte of the names at p
abbrev pub Noted : (ℕ → ℕ → ℕ) → List ℕ → ℕ → List ℕ → List ℕ → Type 0
Noted pick names p = Rewritten 32 (λ j x y. y ≡ pick x (get_or names (p + j) 0))

-- all places are in range, and at the first there is no space
abbrev pub extremes_ok : List ℕ → List ℕ → Bool
extremes_ok low high = list_all (λ x. leb 32 x) low && list_all (λ x. leb x 126) high && leb 33 (get_or low 0 0)
