-- A text's fields as code walks them: by the position where a field starts.
-- Assumes nothing.
use Rattle.std.specs.Prelude.{◌≡◌, Bool, true, false, cond, Option, Some, None, List, [], ◌∷◌, ℕ, ◌+◌, ◌-◌, ◌≤◌, leb, length, take, drop}
use Rattle.model.specs.Text.{is_number, value_of, parted_by}

-- the parts between bytes x, and the fields between tabs, from a position on; the position after the last is one past the end
unfoldable pub parts_from : ℕ → List ℕ → ℕ → List (List ℕ)
parts_from x s at = cond (leb at (length s)) (parted_by x (drop at s)) []

abbrev pub fields_from : List ℕ → ℕ → List (List ℕ)
fields_from s at = parts_from 9 s at

-- the part that starts at a position, its end, and the parts after it
pub record FieldEnd (x : ℕ) (s : List ℕ) (at e : ℕ) : Type 0 where
  pub from : at ≤ e
  pub to : e ≤ length s
  pub parts : parts_from x s at ≡ take (e - at) (drop at s) ∷ parts_from x s (e + 1)

-- the number that a field holds
unfoldable pub number_read : List ℕ → Option ℕ
number_read f = cond (is_number f) (Some (value_of f)) None

-- the first of some fields is a number
abbrev pub has_number : List (List ℕ) → Bool
has_number [] = false
has_number (f ∷ fs) = is_number f

-- a field that is a number, and where the next field starts
pub record Stepped (s : List ℕ) (at v next : ℕ) : Type 0 where
  pub first : List ℕ
  pub parts : fields_from s at ≡ first ∷ fields_from s next
  pub number : is_number first ≡ true
  pub value : value_of first ≡ v
  pub within : next ≤ length s + 1

abbrev pub StepSays : List ℕ → ℕ → Option (ℕ × ℕ) → Type 0
StepSays s at (Some (v, next)) = Stepped s at v next
StepSays s at None = has_number (fields_from s at) ≡ false
