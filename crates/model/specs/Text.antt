-- Text: numbers in decimal digits, fields parted by tabs, lines.
-- Bytes: 9 tab, 10 the line's end, 45 minus, 48 to 57 digits.
-- Assumes nothing.
use Rattle.std.specs.Prelude.{Bool, ◌&&◌, ◌||◌, not, cond, List, [], ◌∷◌, ◌++◌, map, ℕ, zero, suc, ◌+◌, ◌-◌, ◌*◌, ◌/◌, ◌%◌, leb, ltb, eqb, ℤ, pos, negsuc, length, get_or, drop}
use Rattle.model.specs.Tests.{every, all_of}

-- "Numbers: decimal, at most ten digits, no leading zero but "0" itself."
abbrev pub is_digit : ℕ → Bool
is_digit x = leb 48 x && leb x 57

unfoldable pub is_number : List ℕ → Bool
is_number f = every (leb 1 (length f) ∷ leb (length f) 10 ∷ all_of is_digit f ∷ (eqb (length f) 1 || not (eqb (get_or f 0 0) 48)) ∷ [])

abbrev pub value_from : ℕ → List ℕ → ℕ
value_from v [] = v
value_from v (x ∷ f) = value_from (v * 10 + (x - 48)) f

unfoldable pub value_of : List ℕ → ℕ
value_of f = value_from 0 f

-- a number is written in its decimal digits, of which the largest of 64 bits has twenty; a request's number of more than ten has no form
abbrev pub digits : ℕ → ℕ → List ℕ
digits zero n = (48 + n) ∷ []
digits (suc f) n = cond (ltb n 10) ((48 + n) ∷ []) (digits f (n / 10) ++ ((48 + n % 10) ∷ []))

unfoldable pub decimal : ℕ → List ℕ
decimal n = digits 19 n

abbrev pub has_digits : ℕ → Bool
has_digits n = ltb n 10000000000

-- "a minus before a negative number"
abbrev pub signed : ℤ → List ℕ
signed (pos n) = decimal n
signed (negsuc n) = 45 ∷ decimal (suc n)

abbrev pub signeds : List ℤ → List (List ℕ)
signeds zs = map signed zs

abbrev pub positives : List ℕ → List ℤ
positives ns = map pos ns

-- "Fields are parted by one tab, a line ends with byte 10": fields each after a tab; fields with a tab between; a line of fields
unfoldable pub tabbed : List (List ℕ) → List ℕ
tabbed [] = []
tabbed (f ∷ fs) = 9 ∷ f ++ tabbed fs

abbrev pub joined : List (List ℕ) → List ℕ
joined [] = []
joined (f ∷ fs) = f ++ tabbed fs

unfoldable pub line_text : List (List ℕ) → List ℕ
line_text fs = joined fs ++ (10 ∷ [])

-- a line of a letter and numbers
abbrev pub text_of : ℕ → List ℤ → List ℕ
text_of x zs = line_text ((x ∷ []) ∷ signeds zs)

-- a text at the front of a buffer, the rest of it kept
abbrev pub on_front : List ℕ → List ℕ → List ℕ
on_front text buffer = text ++ drop (length text) buffer

-- the parts of a text between bytes x, and the fields of a line without its byte 10
abbrev pub onto : ℕ → List (List ℕ) → List (List ℕ)
onto y [] = (y ∷ []) ∷ []
onto y (f ∷ fs) = (y ∷ f) ∷ fs

unfoldable pub parted_by : ℕ → List ℕ → List (List ℕ)
parted_by x [] = [] ∷ []
parted_by x (y ∷ s) = cond (eqb y x) ([] ∷ parted_by x s) (onto y (parted_by x s))

abbrev pub parted : List ℕ → List (List ℕ)
parted s = parted_by 9 s
