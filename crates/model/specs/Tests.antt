-- Tests, and refusals as lists of numbered tests in checking order. `cond test a b` of the library is a where the test is true, else b.
-- Assumes nothing.
use Rattle.std.specs.Prelude.{Bool, true, ◌&&◌, cond, List, [], ◌∷◌, ◌++◌, ℕ, zero, suc, leb, eqb}

abbrev pub and_all : Bool → List Bool → Bool
and_all a [] = a
and_all a (b ∷ bs) = and_all (a && b) bs

-- all tests of a list hold
abbrev pub every : List Bool → Bool
every [] = true
every (b ∷ bs) = and_all b bs

-- a number is one of low, .., top
abbrev pub within : ℕ → ℕ → ℕ → Bool
within x low top = every (leb low x ∷ leb x top ∷ [])

-- a test holds at each of 1, .., n
unfoldable pub all_to : ℕ → (ℕ → Bool) → Bool
all_to zero f = true
all_to (suc n) f = all_to n f && f (suc n)

-- a test, and what it is refused by where it fails
pub record Check : Type 0 where
  pub ok : Bool
  pub number : ℕ
  pub detail : ℕ

abbrev pub chk : Bool → ℕ → Check
chk t n = record { ok = t; number = n; detail = 0 }

-- the place of the first offending line, 0 where there is none, is the test's detail
abbrev pub chk_line : ℕ → ℕ → Check
chk_line place n = record { ok = eqb place 0; number = n; detail = place }

-- a refusal by its number and detail; number 0 where nothing is refused
pub record Refusal : Type 0 where
  pub number : ℕ
  pub detail : ℕ

-- a refusal without detail
abbrev pub bare : ℕ → Refusal
bare n = record { number = n; detail = 0 }

abbrev pub refusal : Check → Refusal
refusal c = record { number = c.number; detail = c.detail }

-- the first refusal that fits: that of the first test that fails; number 0 where all hold
abbrev pub fault : List Check → Refusal
fault [] = bare 0
fault (c ∷ cs) = cond c.ok (fault cs) (refusal c)

-- a call's stages: 2, then what the request decides, then what the rows decide
abbrev pub staged : Bool → List Check → List Check → Refusal
staged head asked used = fault (chk head 2 ∷ asked ++ used)

module _ {A : Type 0} where
  -- a test holds of every entry
  abbrev pub all_of : (A → Bool) → List A → Bool
  all_of f [] = true
  all_of f (x ∷ xs) = f x && all_of f xs

  -- the place of the first entry that fails a test, where the list's first entry is at place k; 0 where every entry passes
  abbrev pub failing : (A → Bool) → ℕ → List A → ℕ
  failing f k [] = 0
  failing f k (x ∷ xs) = cond (f x) (failing f (suc k) xs) k
