-- A line's fields as code walks them: numbers in a row, who, the lines of an order.
-- Assumes nothing.
use Rattle.std.specs.Prelude.{◌≡◌, Bool, true, false, ◌&&◌, Option, Some, None, List, [], ◌∷◌, ◌++◌, map, ℕ, zero, suc, ◌+◌, ◌-◌, ◌*◌, ◌/◌, ◌≤◌, eqb, leb, length, take, drop, replicate}
use Rattle.std.specs.Option.{IfSome}
use Rattle.model.specs.declared.Form.{Form}
use Rattle.model.specs.declared.Line.{Line}
use Rattle.model.specs.declared.Lines.{Lines}
use Rattle.model.specs.declared.Selection.{Selection}
use Rattle.model.specs.Tests.{every, all_of}
use Rattle.model.specs.Text.{is_number, value_of}
use Rattle.model.specs.Names.{who_of}
use Rattle.model.specs.Request.{new_order, payment, delivery, order_status, stock_level, request_of, no_line, lines_in}
use Rattle.model.specs.RequestLine.{is_who, who_read, field, lines_read, Reading, read, no_form}
use Rattle.text.specs.Fields.{fields_from}

abbrev pub values_of : List (List ℕ) → List ℕ
values_of fs = map value_of fs

-- the first n fields are numbers
abbrev pub has_numbers : ℕ → List (List ℕ) → Bool
has_numbers zero fs = true
has_numbers (suc n) [] = false
has_numbers (suc n) (f ∷ fs) = is_number f && has_numbers n fs

-- there are n fields, all of them numbers
abbrev pub are_numbers : ℕ → List (List ℕ) → Bool
are_numbers n fs = eqb (length fs) n && all_of is_number fs

-- numbers read from a position on, and where the next field starts
pub record Run (n : ℕ) (s : List ℕ) (at next : ℕ) (values : List ℕ) : Type 0 where
  pub numbers : has_numbers n (fields_from s at) ≡ true
  pub same : values ≡ values_of (take n (fields_from s at))
  pub rest : drop n (fields_from s at) ≡ fields_from s next
  pub within : next ≤ length s + 1

abbrev pub NumbersSay : ℕ → List ℕ → ℕ → Option (List ℕ × ℕ) → Type 0
NumbersSay n s at (Some (values, next)) = Run n s at next values
NumbersSay n s at None = has_numbers n (fields_from s at) ≡ false

-- who, in a field
abbrev pub WhoReads : List ℕ → Option Selection → Type 0
WhoReads f (Some who) = (is_who f ≡ true) × (who_of who ≡ who_read f)
WhoReads f None = is_who f ≡ false

-- the first of some fields is a who
abbrev pub has_who_field : List (List ℕ) → Bool
has_who_field [] = false
has_who_field (f ∷ fs) = is_who f

-- a who read at a position, and where the next field starts
pub record WhoStepped (s : List ℕ) (at next : ℕ) (who : Selection) : Type 0 where
  pub there : has_who_field (fields_from s at) ≡ true
  pub choice : who_of who ≡ who_read (field (fields_from s at) 0)
  pub rest : drop 1 (fields_from s at) ≡ fields_from s next
  pub within : next ≤ length s + 1

abbrev pub WhoSays : List ℕ → ℕ → Option (Selection × ℕ) → Type 0
WhoSays s at (Some (who, next)) = WhoStepped s at next who
WhoSays s at None = has_who_field (fields_from s at) ≡ false

-- the fields are the numbers of 1 to 15 lines
abbrev pub are_lines : List (List ℕ) → Bool
are_lines fs =
    let n = length fs / 3 in
    every (all_of is_number fs ∷ eqb (length fs) (3 * n) ∷ leb 1 n ∷ leb n 15 ∷ [])

-- lines in an array of fifteen, and no line past the last
pub record Holds (l : Lines) (lines : List Line) : Type 0 where
  pub count : l.count ≡ length lines
  pub array : l.lines ≡ lines ++ replicate (15 - length lines) no_line

abbrev pub LinesSay : List (List ℕ) → Option Lines → Type 0
LinesSay fs (Some l) = (are_lines fs ≡ true) × Holds l (lines_read fs)
LinesSay fs None = are_lines fs ≡ false

-- the lines of what was read
abbrev pub lines_beside : Reading → List Line
lines_beside (read (new_order q lines)) = lines
lines_beside (read (payment q who)) = []
lines_beside (read (delivery q)) = []
lines_beside (read (order_status q who)) = []
lines_beside (read (stock_level q)) = []
lines_beside no_form = []

-- what was read: a form without lines, and a form with the lines beside it
abbrev pub form_read : Option Form → Reading
form_read (Some form) = read (request_of form [])
form_read None = no_form

abbrev pub reading : Option (Form × Lines) → Reading
reading (Some (form, lines)) = read (request_of form (lines_in lines))
reading None = no_form

abbrev pub Beside : Option (Form × Lines) → Type 0
Beside o = IfSome o (λ p. Holds p.1 (lines_beside (read (request_of p.0 (lines_in p.1)))))
