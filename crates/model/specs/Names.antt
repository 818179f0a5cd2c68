-- Names, and finding a customer of a district.
-- Assumes nothing.
use Rattle.std.specs.Prelude.{Bool, true, false, ◌&&◌, not, cond, List, [], ◌∷◌, ◌++◌, ℕ, zero, suc, ◌+◌, ◌-◌, ◌*◌, ◌/◌, leb, ltb, eqb, length, get_or, take, drop, replicate, Option, Some, None}
use Rattle.std.specs.declared.cmp.Ordering.{Ordering}
use Rattle.std.specs.declared.cmp.Ordering.TheVariants.{Less, Equal, Greater}
use Rattle.model.specs.declared.Dims.{Dims}
use Rattle.model.specs.declared.Selection.{Selection}
use Rattle.model.specs.declared.Selection.TheVariants.{Number, LastName}
use Rattle.model.specs.Tests.{all_to}

-- "Names are 32 bytes per customer, last then first, 16 each": where those of a customer start
unfoldable pub name_place : Dims → ℕ → ℕ → ℕ → ℕ
name_place d w k c = 32 * (((w - 1) * 10 + (k - 1)) * d.customers + (c - 1))

abbrev pub name_at : List ℕ → ℕ → List ℕ
name_at names p = take 16 (drop p names)

unfoldable pub last_name : Dims → List ℕ → ℕ → ℕ → ℕ → List ℕ
last_name d names w k c = name_at names (name_place d w k c)

unfoldable pub first_name : Dims → List ℕ → ℕ → ℕ → ℕ → List ℕ
first_name d names w k c = name_at names (name_place d w k c + 16)

-- "padded with spaces, bytes 32 to 126, the last name's first byte no space": the 32 bytes from p on
unfoldable pub name_ok : List ℕ → ℕ → Bool
name_ok names p = all_to 32 (λ j. leb 32 (get_or names (p + (j - 1)) 0) && leb (get_or names (p + (j - 1)) 0) 126) && not (eqb (get_or names p 0) 32)

-- "compared after padding to 16 bytes"
unfoldable pub padded : List ℕ → List ℕ
padded name = name ++ replicate (16 - length name) 32

-- two names, byte by byte from the left; where one ends first, it is the smaller
unfoldable pub compare_names : List ℕ → List ℕ → Ordering
compare_names [] [] = Equal
compare_names [] (b ∷ y) = Less
compare_names (a ∷ x) [] = Greater
compare_names (a ∷ x) (b ∷ y) = cond (ltb a b) Less (cond (ltb b a) Greater (compare_names x y))

abbrev pub is_equal : Ordering → Bool
is_equal Less = false
is_equal Equal = true
is_equal Greater = false

abbrev pub smaller_or : Ordering → Bool → Bool
smaller_or Less t = true
smaller_or Equal t = t
smaller_or Greater t = false

-- customer c has the last name, which has 16 bytes
unfoldable pub named : Dims → List ℕ → ℕ → ℕ → List ℕ → ℕ → Bool
named d names w k name c = is_equal (compare_names (last_name d names w k c) name)

-- "sorted by first name bytes and then number": customer a comes before customer c
unfoldable pub before : Dims → List ℕ → ℕ → ℕ → ℕ → ℕ → Bool
before d names w k a c = smaller_or (compare_names (first_name d names w k a) (first_name d names w k c)) (ltb a c)

-- x put before the first entry that it comes before, or at the end
abbrev pub insert : (ℕ → ℕ → Bool) → ℕ → List ℕ → List ℕ
insert comes x [] = x ∷ []
insert comes x (y ∷ ys) = cond (comes x y) (x ∷ y ∷ ys) (y ∷ insert comes x ys)

abbrev pub sorted : (ℕ → ℕ → Bool) → List ℕ → List ℕ
sorted comes [] = []
sorted comes (x ∷ xs) = insert comes x (sorted comes xs)

-- the numbers from 1 to n that pass a test
abbrev pub passing : (ℕ → Bool) → ℕ → List ℕ
passing test zero = []
passing test (suc n) = cond (test (suc n)) (suc n ∷ passing test n) (passing test n)

-- "Among n equal last names, sorted by first name bytes and then number"
unfoldable pub namesakes : Dims → List ℕ → ℕ → ℕ → List ℕ → List ℕ
namesakes d names w k name = sorted (before d names w k) (passing (named d names w k name) d.customers)

-- "place n/2 rounded up"
abbrev pub place_of : ℕ → ℕ
place_of n = (n + 1) / 2

-- ".. is taken": the entry at that place, counted from 1
abbrev pub taken : List ℕ → Option ℕ
taken [] = None
taken (x ∷ xs) = Some (get_or (x ∷ xs) (place_of (length (x ∷ xs)) - 1) 0)

-- 10: "Nobody in the district has the last name (always so when it is empty or over 16 bytes)."
unfoldable pub found : Dims → List ℕ → ℕ → ℕ → List ℕ → Option ℕ
found d names w k name = cond (leb 1 (length name) && leb (length name) 16) (taken (namesakes d names w k (padded name))) None

-- "Who is a number or a last name"
pub data Who : Type 0 where
  by_number : ℕ → Who
  by_name : List ℕ → Who

-- who as code holds it: the last name is lent
abbrev pub who_of : Selection → Who
who_of (Number c) = by_number c
who_of (LastName name) = by_name name.now

-- "finding a customer answers with a number or with nobody"
unfoldable pub customer_of : Dims → List ℕ → ℕ → ℕ → Who → Option ℕ
customer_of d names w k (by_number c) = Some c
customer_of d names w k (by_name name) = found d names w k name

abbrev pub is_found : Option ℕ → Bool
is_found (Some c) = true
is_found None = false

-- the number found; 0 for nobody
abbrev pub found_number : Option ℕ → ℕ
found_number (Some c) = c
found_number None = 0

-- 6, of a customer given by number
abbrev pub who_tests : Dims → Who → List Bool
who_tests d (by_number c) = leb 1 c ∷ leb c d.customers ∷ []
who_tests d (by_name name) = []
