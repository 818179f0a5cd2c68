-- Reading the book at an address, and the two kinds of change: one number by a function of itself, one row by a function of column and number.
-- Assumes nothing.
use Rattle.std.specs.Prelude.{List, [], ◌∷◌, ℕ, zero, suc, ◌+◌, ℤ, pos, get_or, set}
use Rattle.model.specs.Numbers.{nat}
use Rattle.model.specs.Layout.{Shape, Addr, at, place, none}

unfoldable pub get : List Shape → List ℤ → Addr → ℤ
get l b a = get_or b (place l a) (pos 0)

abbrev pub num : List Shape → List ℤ → Addr → ℕ
num l b a = nat (get l b a)

-- the row at an address, by column
abbrev pub row_of : List Shape → List ℤ → Addr → ℕ → ℤ
row_of l b a k = get l b (at a.s a.x a.y a.z k)

-- the numbers from an index on, by column: a row as code that is handed its start reads it
unfoldable pub from : List ℤ → ℕ → ℕ → ℤ
from b p zero = get_or b p (pos 0)
from b p (suc k) = get_or b (p + suc k) (pos 0)

-- n numbers from index p on, each by a function of its column, the first being column k, and of itself
unfoldable pub remap : ℕ → ℕ → ℕ → (ℕ → ℤ → ℤ) → List ℤ → List ℤ
remap p n k f [] = []
remap (suc p) n k f (z ∷ b) = z ∷ remap p n k f b
remap zero zero k f (z ∷ b) = z ∷ b
remap zero (suc n) k f (z ∷ b) = f k z ∷ remap zero n (suc k) f b

pub data Op : Type 0 where
  one : Addr → (ℤ → ℤ) → Op
  row : Addr → (ℕ → ℤ → ℤ) → Op

unfoldable pub op : List Shape → Op → List ℤ → List ℤ
op l (one g f) b = set b (place l g) (f (get l b g))
op l (row g f) b = remap (place l g) (get_or l g.s none).ks 0 f b

-- changes in turn
abbrev pub run : List Shape → List Op → List ℤ → List ℤ
run l [] b = b
run l (o ∷ os) b = run l os (op l o b)
