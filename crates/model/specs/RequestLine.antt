-- Request lines: which requests have one, its bytes, what reading a line answers, what writing leaves.
-- Bytes: 10 the line's end, 32 space, 35 #, 61 =, 68 D, 76 L, 78 N, 80 P, 83 S.
-- Assumes nothing.
use Rattle.std.specs.Prelude.{◌≡◌, Bool, false, ◌&&◌, not, cond, List, [], ◌∷◌, ℕ, ◌+◌, ◌-◌, ◌*◌, ◌/◌, leb, eqb, pos, length, get_or, take, drop, Result, Ok, Err}
use Rattle.model.specs.declared.Form.{Form}
use Rattle.model.specs.declared.Line.{Line}
use Rattle.model.specs.declared.ReadAnswer.{ReadAnswer}
use Rattle.model.specs.declared.Refused.{Refused}
use Rattle.model.specs.Tests.{Refusal, bare, every, all_of, chk, fault}
use Rattle.model.specs.Text.{is_number, value_of, has_digits, decimal, parted, line_text, on_front}
use Rattle.model.specs.Names.{Who, by_number, by_name}
use Rattle.model.specs.Answer.{Answer, committed, refused, numbered, told, answer_by, left_by}
use Rattle.model.specs.Request.{Request, new_order, payment, delivery, order_status, stock_level, request_of, lines_in}

-- "Who: # and a number, or = and a name of 1 to 16 bytes 32 to 126, no space at either end."
abbrev pub is_printable : ℕ → Bool
is_printable x = leb 32 x && leb x 126

unfoldable pub is_name : List ℕ → Bool
is_name f =
    every (leb 1 (length f)
    ∷ leb (length f) 16
    ∷ all_of is_printable f
    ∷ not (eqb (get_or f 0 0) 32)
    ∷ not (eqb (get_or f (length f - 1) 0) 32)
    ∷ [])

unfoldable pub is_who : List ℕ → Bool
is_who [] = false
is_who (x ∷ f) = cond (eqb x 35) (is_number f) (eqb x 61 && is_name f)

unfoldable pub who_read : List ℕ → Who
who_read [] = by_name []
who_read (x ∷ f) = cond (eqb x 35) (by_number (value_of f)) (by_name f)

abbrev pub has_who : Who → Bool
has_who (by_number c) = has_digits c
has_who (by_name name) = is_name name

abbrev pub who_field : Who → List ℕ
who_field (by_number c) = 35 ∷ decimal c
who_field (by_name name) = 61 ∷ name

-- "Forms: N depot district customer date, then 1 to 15 times item depot quantity; P depot district custdepot custdistrict who date amount;
-- D depot carrier date; S depot district who; L depot district threshold."
abbrev pub line_small : Line → Bool
line_small l = every (has_digits l.item ∷ has_digits l.supply ∷ has_digits l.quantity ∷ [])

-- which requests have a form
unfoldable pub has_form : Request → Bool
has_form (new_order q lines) =
    every (has_digits q.warehouse ∷ has_digits q.district ∷ has_digits q.customer ∷ has_digits q.date
    ∷ leb 1 (length lines) ∷ leb (length lines) 15 ∷ all_of line_small lines ∷ [])
has_form (payment q who) =
    every (has_digits q.warehouse ∷ has_digits q.district ∷ has_digits q.custwarehouse ∷ has_digits q.custdistrict ∷ has_who who
    ∷ has_digits q.date ∷ has_digits q.amount ∷ [])
has_form (delivery q) = every (has_digits q.warehouse ∷ has_digits q.carrier ∷ has_digits q.date ∷ [])
has_form (order_status q who) = every (has_digits q.warehouse ∷ has_digits q.district ∷ has_who who ∷ [])
has_form (stock_level q) = every (has_digits q.warehouse ∷ has_digits q.district ∷ has_digits q.threshold ∷ [])

-- the letter, and the fields after it
abbrev pub letter : Request → ℕ
letter (new_order q lines) = 78
letter (payment q who) = 80
letter (delivery q) = 68
letter (order_status q who) = 83
letter (stock_level q) = 76

abbrev pub line_fields : List Line → List (List ℕ)
line_fields [] = []
line_fields (l ∷ lines) = decimal l.item ∷ decimal l.supply ∷ decimal l.quantity ∷ line_fields lines

unfoldable pub fields_of : Request → List (List ℕ)
fields_of (new_order q lines) = decimal q.warehouse ∷ decimal q.district ∷ decimal q.customer ∷ decimal q.date ∷ line_fields lines
fields_of (payment q who) =
    decimal q.warehouse ∷ decimal q.district ∷ decimal q.custwarehouse ∷ decimal q.custdistrict ∷ who_field who
    ∷ decimal q.date ∷ decimal q.amount ∷ []
fields_of (delivery q) = decimal q.warehouse ∷ decimal q.carrier ∷ decimal q.date ∷ []
fields_of (order_status q who) = decimal q.warehouse ∷ decimal q.district ∷ who_field who ∷ []
fields_of (stock_level q) = decimal q.warehouse ∷ decimal q.district ∷ decimal q.threshold ∷ []

-- the line of a request
unfoldable pub line_of : Request → List ℕ
line_of r = line_text ((letter r ∷ []) ∷ fields_of r)

-- what reading a line answers: the request, or 1
pub data Reading : Type 0 where
  read : Request → Reading
  no_form : Reading

abbrev pub read_if : Bool → Request → Reading
read_if t r = cond t (read r) no_form

-- field k after the letter, and a number there
abbrev pub field : List (List ℕ) → ℕ → List ℕ
field fs k = get_or fs k []

abbrev pub number_in : List (List ℕ) → ℕ → ℕ
number_in fs k = value_of (field fs k)

unfoldable pub lines_read : List (List ℕ) → List Line
lines_read [] = []
lines_read (i ∷ []) = []
lines_read (i ∷ w ∷ []) = []
lines_read (i ∷ w ∷ q ∷ fs) = record { item = value_of i; supply = value_of w; quantity = value_of q } ∷ lines_read fs

unfoldable pub read_new_order : List (List ℕ) → Reading
read_new_order fs =
    let n = (length fs - 4) / 3 in
    read_if (every (all_of is_number fs ∷ eqb (length fs) (4 + 3 * n) ∷ leb 1 n ∷ leb n 15 ∷ []))
    (new_order (record { warehouse = number_in fs 0; district = number_in fs 1; customer = number_in fs 2; date = number_in fs 3 }) (lines_read (drop 4 fs)))

unfoldable pub read_payment : List (List ℕ) → Reading
read_payment fs =
    read_if
    (every (eqb (length fs) 7 ∷ is_number (field fs 0) ∷ is_number (field fs 1) ∷ is_number (field fs 2) ∷ is_number (field fs 3) ∷ is_who (field fs 4)
    ∷ is_number (field fs 5) ∷ is_number (field fs 6) ∷ []))
    (payment (record { warehouse = number_in fs 0; district = number_in fs 1; custwarehouse = number_in fs 2; custdistrict = number_in fs 3; date = number_in fs 5; amount = number_in fs 6 })
    (who_read (field fs 4)))

unfoldable pub read_delivery : List (List ℕ) → Reading
read_delivery fs =
    read_if (every (eqb (length fs) 3 ∷ all_of is_number fs ∷ []))
    (delivery (record { warehouse = number_in fs 0; carrier = number_in fs 1; date = number_in fs 2 }))

unfoldable pub read_order_status : List (List ℕ) → Reading
read_order_status fs =
    read_if (every (eqb (length fs) 3 ∷ is_number (field fs 0) ∷ is_number (field fs 1) ∷ is_who (field fs 2) ∷ []))
    (order_status (record { warehouse = number_in fs 0; district = number_in fs 1 }) (who_read (field fs 2)))

unfoldable pub read_stock_level : List (List ℕ) → Reading
read_stock_level fs =
    read_if (every (eqb (length fs) 3 ∷ all_of is_number fs ∷ []))
    (stock_level (record { warehouse = number_in fs 0; district = number_in fs 1; threshold = number_in fs 2 }))

unfoldable pub read_fields : ℕ → List (List ℕ) → Reading
read_fields x fs =
    cond (eqb x 78) (read_new_order fs)
    (cond (eqb x 80) (read_payment fs)
    (cond (eqb x 68) (read_delivery fs)
    (cond (eqb x 83) (read_order_status fs)
    (cond (eqb x 76) (read_stock_level fs) no_form))))

abbrev pub read_parted : List (List ℕ) → Reading
read_parted [] = no_form
read_parted (f ∷ fs) = cond (eqb (length f) 1) (read_fields (get_or f 0 0) fs) no_form

-- "an empty line, or a last one without byte 10, has no form"
unfoldable pub read_line : List ℕ → Reading
read_line s = cond (leb 1 (length s) && eqb (get_or s (length s - 1) 0) 10) (read_parted (parted (take (length s - 1) s))) no_form

-- 1: "The text line has none of the forms below; or, in writing, the request has none or the lent buffer is shorter than its line."
abbrev pub refused1 : Refusal
refused1 = record { number = 1; detail = 0 }

unfoldable pub write_fault : List ℕ → Request → Refusal
write_fault buffer r = fault (chk (has_form r) 1 ∷ chk (leb (length (line_of r)) (length buffer)) 1 ∷ [])

-- "writing answers the length and leaves the bytes beyond it"
unfoldable pub write_answer : List ℕ → Request → Answer
write_answer buffer r = answer_by (write_fault buffer r) (pos (length (line_of r)) ∷ [])

unfoldable pub write_buffer : List ℕ → Request → List ℕ
write_buffer buffer r = left_by (write_fault buffer r) (on_front (line_of r) buffer) buffer

-- document 01's number and values for each case of the code's answers
abbrev pub write_says : Result ℕ Refused → Answer
write_says (Ok n) = committed (pos n ∷ [])
write_says (Err r) = refused (numbered r)

-- reading's: the request, with the lines beside, or the refusal
abbrev pub read_as : Result Form Refused → List Line → Reading
read_as (Ok form) lines = read (request_of form lines)
read_as (Err r) lines = no_form

abbrev pub read_fault : Reading → Refusal
read_fault (read r) = bare 0
read_fault no_form = refused1

-- the answer says what was read
pub record ReadSays (r : Reading) (a : ReadAnswer) : Type 0 where
  pub request : read_as a.outcome (lines_in a.lines) ≡ r
  pub refusal : told a.outcome ≡ read_fault r
