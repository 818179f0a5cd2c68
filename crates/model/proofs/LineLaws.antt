-- Request lines: reading what writing gives is the request, and writing what reading gives is the line.
-- Assumes nothing.
use Prim.Native.Nat.{ℕ, zero, suc, ◌+◌, ◌-◌, ◌*◌, ◌/◌, ◌<◌, ◌≤◌}
use mathlib.Core.Path.{◌≡◌, refl, sym, ap, ◌∙◌, subst}
use mathlib.Core.List.{List, [], ◌∷◌, ◌++◌}
use mathlib.Core.Bool.{Bool, true, false, ◌&&◌, not, cond}
use lib.Dec.{leb, eqb}
use lib.ListN.{length, get_or, take, drop, length-append, drop_of_length-le}
use lib.Seq.{drop-cons, take_at, get_or_at, take-length, take-suc}
use native.Mathlib.Omega.{arith}
use borrow.Author.Tests.{lt-ltb, le-leb, leb-true, eq-eqb, eqb-true, ltb-true}
use Rattle.model.specs.declared.Line.{Line}
use Rattle.model.specs.Tests.{every, all_of}
use Rattle.model.specs.Names.{Who, by_number, by_name}
use Rattle.model.specs.Request.{Request, new_order, payment, delivery, order_status, stock_level}
use Rattle.model.specs.Text.{is_number, value_of, has_digits, decimal, joined, line_text, parted}
use Rattle.model.specs.RequestLine.{is_printable, is_name, is_who, who_read, has_who, who_field, line_small, has_form, letter, line_fields, fields_of, line_of, read, no_form, read_if, field, number_in, lines_read, read_new_order, read_payment, read_delivery, read_order_status, read_stock_level, read_fields, read_parted, read_line}
use Rattle.model.proofs.TestLaws.{and_left, and_right, and_both, every-each}
use Rattle.model.proofs.DecimalLaws.{number_written, value_written, number_read}
use Rattle.model.proofs.TextLaws.{all_map, without, other, number-plain, parted-joined, joined-parted}

clash : {X : Type 0} {r : Request} → no_form ≡ read r → X
clash e = absurd (let z : ◌≡◌ {A = ℕ} 0 1 = cc in omega arith)

no : {X : Type 0} → false ≡ true → X
no e = absurd (let z : ◌≡◌ {A = ℕ} 0 1 = cc in omega arith)

pub name-plain : (f : List ℕ) → is_name f ≡ true → without 9 f ≡ true
unfolding is_name
name-plain f e =
    all_map is_printable (λ x. not (eqb x 9)) (λ x h. other 9 x (omega (arith, leb-true 32 x (and_left (leb 32 x) (leb x 126) h)))) f
    (every-each (leb 1 (length f) ∷ leb (length f) 16 ∷ all_of is_printable f ∷ not (eqb (get_or f 0 0) 32) ∷ not (eqb (get_or f (length f - 1) 0) 32) ∷ []) e).1.1.0

pub who-plain : (f : List ℕ) → is_who f ≡ true → without 9 f ≡ true
unfolding is_who
who-plain [] e = refl
who-plain (x ∷ f) e = go (eqb x 35) refl e
  where
    go : (t : Bool) → eqb x 35 ≡ t → cond t (is_number f) (eqb x 61 && is_name f) ≡ true → (not (eqb x 9) && without 9 f) ≡ true
    go true p h = and_both (not (eqb x 9)) (without 9 f) (other 9 x (omega (arith, eqb-true x 35 p))) (number-plain 9 (omega arith) f h)
    go false p h =
        and_both (not (eqb x 9)) (without 9 f) (other 9 x (omega (arith, eqb-true x 61 (and_left (eqb x 61) (is_name f) h)))) (name-plain f (and_right (eqb x 61) (is_name f) h))

-- a number of at most ten digits is read back
value-back : (n : ℕ) → n < 10000000000 → value_of (decimal n) ≡ n
value-back n h = value_written n (omega arith)

-- ── who ──
pub record WhoWritten (w : Who) : Type 0 where
  pub form : is_who (who_field w) ≡ true
  pub back : who_read (who_field w) ≡ w

pub who_written : (w : Who) → has_who w ≡ true → WhoWritten w
unfolding is_who who_read
who_written (by_number c) e =
    let h : c < 10000000000 = ltb-true c 10000000000 e in
    record { form = number_written c h; back = ap by_number (value-back c h) }
who_written (by_name name) e = record { form = e; back = refl }

pub record WhoRead (f : List ℕ) : Type 0 where
  pub form : has_who (who_read f) ≡ true
  pub back : who_field (who_read f) ≡ f

pub who-read : (f : List ℕ) → is_who f ≡ true → WhoRead f
unfolding is_who who_read
who-read [] e = no e
who-read (x ∷ f) e = go (eqb x 35) refl e
  where
    go : (t : Bool) → eqb x 35 ≡ t → cond t (is_number f) (eqb x 61 && is_name f) ≡ true → WhoRead (x ∷ f)
    go true p h =
        let n = number_read f h in
        record {
          form = rw p (lt-ltb (value_of f) 10000000000 n.fits);
          back = rw p (ap (λ (l : List ℕ). 35 ∷ l) n.same ∙ ap (λ (y : ℕ). y ∷ f) (sym (eqb-true x 35 p)));
        }
    go false p h =
        record {
          form = rw p (and_right (eqb x 61) (is_name f) h);
          back = rw p (ap (λ (y : ℕ). y ∷ f) (sym (eqb-true x 61 (and_left (eqb x 61) (is_name f) h))));
        }

-- ── the lines of an order ──
small : (n : ℕ) → has_digits n ≡ true → n < 10000000000
small n e = ltb-true n 10000000000 e

digit_count : (f : List ℕ) → is_number f ≡ true → has_digits (value_of f) ≡ true
digit_count f e = lt-ltb (value_of f) 10000000000 (number_read f e).fits

record Small (l : Line) : Type 0 where
  item : l.item < 10000000000
  supply : l.supply < 10000000000
  quantity : l.quantity < 10000000000

line_small_lem : (l : Line) → line_small l ≡ true → Small l
line_small_lem l e =
    let h = every-each (has_digits l.item ∷ has_digits l.supply ∷ has_digits l.quantity ∷ []) e in
    record { item = small l.item h.0; supply = small l.supply h.1.0; quantity = small l.quantity h.1.1.0 }

length_fields : (lines : List Line) → length (line_fields lines) ≡ 3 * length lines
length_fields [] = refl
length_fields (l ∷ lines) = omega (arith, length_fields lines)

fields-numbers : (lines : List Line) → all_of line_small lines ≡ true → all_of is_number (line_fields lines) ≡ true
fields-numbers [] e = refl
fields-numbers (l ∷ lines) e =
    let s = line_small_lem l (and_left (line_small l) (all_of line_small lines) e) in
    let r = fields-numbers lines (and_right (line_small l) (all_of line_small lines) e) in
    rw (number_written l.item s.item, number_written l.supply s.supply, number_written l.quantity s.quantity) r

lines_written : (lines : List Line) → all_of line_small lines ≡ true → lines_read (line_fields lines) ≡ lines
unfolding lines_read
lines_written [] e = refl
lines_written (l ∷ lines) e =
    let s = line_small_lem l (and_left (line_small l) (all_of line_small lines) e) in
    rw (value-back l.item s.item, value-back l.supply s.supply, value-back l.quantity s.quantity, lines_written lines (and_right (line_small l) (all_of line_small lines) e))

record LinesRead (n : ℕ) (fs : List (List ℕ)) : Type 0 where
  back : line_fields (lines_read fs) ≡ fs
  count : length (lines_read fs) ≡ n
  each : all_of line_small (lines_read fs) ≡ true

lines-read : (n : ℕ) (fs : List (List ℕ)) → length fs ≡ 3 * n → all_of is_number fs ≡ true → LinesRead n fs
unfolding lines_read
lines-read zero [] h e = record { back = refl; count = refl; each = refl }
lines-read zero (i ∷ fs) h e = absurd (omega arith)
lines-read (suc n) [] h e = absurd (omega arith)
lines-read (suc n) (i ∷ []) h e = absurd (omega arith)
lines-read (suc n) (i ∷ w ∷ []) h e = absurd (omega arith)
lines-read (suc n) (i ∷ w ∷ q ∷ fs) h e =
    let e1 = and_right (is_number i) (is_number w && (is_number q && all_of is_number fs)) e in
    let e2 = and_right (is_number w) (is_number q && all_of is_number fs) e1 in
    let a = and_left (is_number i) (is_number w && (is_number q && all_of is_number fs)) e in
    let b = and_left (is_number w) (is_number q && all_of is_number fs) e1 in
    let c = and_left (is_number q) (all_of is_number fs) e2 in
    let r = lines-read n fs (omega arith) (and_right (is_number q) (all_of is_number fs) e2) in
    record {
      back = rw ((number_read i a).same, (number_read w b).same, (number_read q c).same, r.back);
      count = ap suc r.count;
      each = rw (digit_count i a, digit_count w b, digit_count q c) r.each;
    }

-- ── the fields of each form ──
-- what is read from the fields of a request's line is the request
pub record FieldsWritten (r : Request) : Type 0 where
  pub plain : all_of (without 9) (fields_of r) ≡ true
  pub back : read_fields (letter r) (fields_of r) ≡ read r

numbers-plain : (fs : List (List ℕ)) → all_of is_number fs ≡ true → all_of (without 9) fs ≡ true
numbers-plain fs e = all_map is_number (without 9) (number-plain 9 (omega arith)) fs e

pub fields_written : (r : Request) → has_form r ≡ true → FieldsWritten r
unfolding has_form fields_of read_fields read_new_order read_payment read_delivery read_order_status read_stock_level
fields_written (new_order q lines) e =
    let h =
    every-each (has_digits q.warehouse ∷ has_digits q.district ∷ has_digits q.customer ∷ has_digits q.date ∷ leb 1 (length lines) ∷ leb (length lines) 15 ∷ all_of line_small lines ∷ []) e in
    let w = small q.warehouse h.0 in
    let k = small q.district h.1.0 in
    let c = small q.customer h.1.1.0 in
    let t = small q.date h.1.1.1.0 in
    let ls = h.1.1.1.1.1.1.0 in
    let nums = fields-numbers lines ls in
    let len = length_fields lines in
    let n : (4 + length (line_fields lines) - 4) / 3 ≡ length lines = omega arith in
    let four : suc (suc (suc (suc (length (line_fields lines))))) ≡ 4 + length (line_fields lines) = omega arith in
    let all : (is_number (decimal q.warehouse) && (is_number (decimal q.district) && (is_number (decimal q.customer) && (is_number (decimal q.date) && all_of is_number (line_fields lines))))) ≡ true =
    rw (number_written q.warehouse w, number_written q.district k, number_written q.customer c, number_written q.date t) nums in
    let whole : 4 + length (line_fields lines) ≡ 4 + 3 * length lines = omega arith in
    record {
      plain = numbers-plain (decimal q.warehouse ∷ decimal q.district ∷ decimal q.customer ∷ decimal q.date ∷ line_fields lines) all;
      back = rw (
        all,
        four,
        n,
        eq-eqb (4 + length (line_fields lines)) (4 + 3 * length lines) whole,
        h.1.1.1.1.0,
        h.1.1.1.1.1.0,
        value-back q.warehouse w,
        value-back q.district k,
        value-back q.customer c,
        value-back q.date t,
        lines_written lines ls,
      );
    }
fields_written (payment q who) e =
    let h =
    every-each (has_digits q.warehouse ∷ has_digits q.district ∷ has_digits q.custwarehouse ∷ has_digits q.custdistrict ∷ has_who who ∷ has_digits q.date ∷ has_digits q.amount ∷ []) e in
    let w = small q.warehouse h.0 in
    let k = small q.district h.1.0 in
    let cw = small q.custwarehouse h.1.1.0 in
    let ck = small q.custdistrict h.1.1.1.0 in
    let o = who_written who h.1.1.1.1.0 in
    let t = small q.date h.1.1.1.1.1.0 in
    let a = small q.amount h.1.1.1.1.1.1.0 in
    let plain : (n : ℕ) → n < 10000000000 → without 9 (decimal n) ≡ true = λ n l. number-plain 9 (omega arith) (decimal n) (number_written n l) in
    record {
      plain = rw (plain q.warehouse w, plain q.district k, plain q.custwarehouse cw, plain q.custdistrict ck, who-plain (who_field who) o.form, plain q.date t, plain q.amount a);
      back = rw (
        number_written q.warehouse w,
        number_written q.district k,
        number_written q.custwarehouse cw,
        number_written q.custdistrict ck,
        o.form,
        number_written q.date t,
        number_written q.amount a,
        value-back q.warehouse w,
        value-back q.district k,
        value-back q.custwarehouse cw,
        value-back q.custdistrict ck,
        o.back,
        value-back q.date t,
        value-back q.amount a,
      );
    }
fields_written (delivery q) e =
    let h = every-each (has_digits q.warehouse ∷ has_digits q.carrier ∷ has_digits q.date ∷ []) e in
    let w = small q.warehouse h.0 in
    let c = small q.carrier h.1.0 in
    let t = small q.date h.1.1.0 in
    let all : (is_number (decimal q.warehouse) && (is_number (decimal q.carrier) && (is_number (decimal q.date) && true))) ≡ true =
    rw (number_written q.warehouse w, number_written q.carrier c, number_written q.date t) in
    record {
      plain = numbers-plain (decimal q.warehouse ∷ decimal q.carrier ∷ decimal q.date ∷ []) all;
      back = rw (all, value-back q.warehouse w, value-back q.carrier c, value-back q.date t);
    }
fields_written (order_status q who) e =
    let h = every-each (has_digits q.warehouse ∷ has_digits q.district ∷ has_who who ∷ []) e in
    let w = small q.warehouse h.0 in
    let k = small q.district h.1.0 in
    let o = who_written who h.1.1.0 in
    record {
      plain = rw (number-plain 9 (omega arith) (decimal q.warehouse) (number_written q.warehouse w), number-plain 9 (omega arith) (decimal q.district) (number_written q.district k), who-plain (who_field who) o.form);
      back = rw (number_written q.warehouse w, number_written q.district k, o.form, value-back q.warehouse w, value-back q.district k, o.back);
    }
fields_written (stock_level q) e =
    let h = every-each (has_digits q.warehouse ∷ has_digits q.district ∷ has_digits q.threshold ∷ []) e in
    let w = small q.warehouse h.0 in
    let k = small q.district h.1.0 in
    let t = small q.threshold h.1.1.0 in
    let all : (is_number (decimal q.warehouse) && (is_number (decimal q.district) && (is_number (decimal q.threshold) && true))) ≡ true =
    rw (number_written q.warehouse w, number_written q.district k, number_written q.threshold t) in
    record {
      plain = numbers-plain (decimal q.warehouse ∷ decimal q.district ∷ decimal q.threshold ∷ []) all;
      back = rw (all, value-back q.warehouse w, value-back q.district k, value-back q.threshold t);
    }

-- a request that fields are read as has a form, and these are its letter and its fields
pub record FieldsRead (x : ℕ) (fs : List (List ℕ)) (r : Request) : Type 0 where
  pub form : has_form r ≡ true
  pub begins : letter r ≡ x
  pub back : fields_of r ≡ fs

read_inj : (r s : Request) → read r ≡ read s → r ≡ s
read_inj r s e = cc

-- a form's own reading: its test, and what it makes
made : (x : ℕ) (fs : List (List ℕ)) (t : Bool) (r₀ r : Request) → read_if t r₀ ≡ read r → (t ≡ true → FieldsRead x fs r₀) → FieldsRead x fs r
made x fs true r₀ r e h = subst (λ (r : Request). FieldsRead x fs r) (read_inj r₀ r e) (h refl)
made x fs false r₀ r e h = clash e

-- the next field
next : (fs : List (List ℕ)) (j : ℕ) → j < length fs → drop j fs ≡ field fs j ∷ drop (suc j) fs
next fs j h = drop-cons fs j [] h

three : (fs : List (List ℕ)) → length fs ≡ 3 → fs ≡ field fs 0 ∷ field fs 1 ∷ field fs 2 ∷ []
three fs h =
    let l : length fs ≤ 3 = omega arith in
    next fs 0 (omega arith) ∙ ap (λ (u : List (List ℕ)). field fs 0 ∷ u) (next fs 1 (omega arith) ∙ ap (λ (u : List (List ℕ)). field fs 1 ∷ u) (next fs 2 (omega arith) ∙ ap (λ (u : List (List ℕ)). field fs 2 ∷ u) (drop_of_length-le fs l)))

four : (fs : List (List ℕ)) → 4 ≤ length fs → fs ≡ field fs 0 ∷ field fs 1 ∷ field fs 2 ∷ field fs 3 ∷ drop 4 fs
four fs h =
    next fs 0 (omega arith) ∙ ap (λ (u : List (List ℕ)). field fs 0 ∷ u) (next fs 1 (omega arith) ∙ ap (λ (u : List (List ℕ)). field fs 1 ∷ u) (next fs 2 (omega arith) ∙ ap (λ (u : List (List ℕ)). field fs 2 ∷ u) (next fs 3 (omega arith))))

seven : (fs : List (List ℕ)) → length fs ≡ 7 → fs ≡ field fs 0 ∷ field fs 1 ∷ field fs 2 ∷ field fs 3 ∷ field fs 4 ∷ field fs 5 ∷ field fs 6 ∷ []
seven fs h =
    let l : length fs ≤ 7 = omega arith in
    four fs (omega arith) ∙ ap (λ (u : List (List ℕ)). field fs 0 ∷ field fs 1 ∷ field fs 2 ∷ field fs 3 ∷ u) (next fs 4 (omega arith) ∙ ap (λ (u : List (List ℕ)). field fs 4 ∷ u) (next fs 5 (omega arith) ∙ ap (λ (u : List (List ℕ)). field fs 5 ∷ u) (next fs 6 (omega arith) ∙ ap (λ (u : List (List ℕ)). field fs 6 ∷ u) (drop_of_length-le fs l))))

-- three fields that are numbers
record Three (fs : List (List ℕ)) : Type 0 where
  a : is_number (field fs 0) ≡ true
  b : is_number (field fs 1) ≡ true
  c : is_number (field fs 2) ≡ true
  back : decimal (number_in fs 0) ∷ decimal (number_in fs 1) ∷ decimal (number_in fs 2) ∷ [] ≡ fs
  form : every (has_digits (number_in fs 0) ∷ has_digits (number_in fs 1) ∷ has_digits (number_in fs 2) ∷ []) ≡ true

three-numbers : (fs : List (List ℕ)) → every (eqb (length fs) 3 ∷ all_of is_number fs ∷ []) ≡ true → Three fs
three-numbers fs e =
    let h = every-each (eqb (length fs) 3 ∷ all_of is_number fs ∷ []) e in
    let t = three fs (eqb-true (length fs) 3 h.0) in
    let n : all_of is_number (field fs 0 ∷ field fs 1 ∷ field fs 2 ∷ []) ≡ true = ap (all_of is_number) (sym t) ∙ h.1.0 in
    let n1 = and_right (is_number (field fs 0)) (is_number (field fs 1) && (is_number (field fs 2) && true)) n in
    let a = and_left (is_number (field fs 0)) (is_number (field fs 1) && (is_number (field fs 2) && true)) n in
    let b = and_left (is_number (field fs 1)) (is_number (field fs 2) && true) n1 in
    let c = and_left (is_number (field fs 2)) true (and_right (is_number (field fs 1)) (is_number (field fs 2) && true) n1) in
    record {
      a = a;
      b = b;
      c = c;
      back = rw ((number_read (field fs 0) a).same, (number_read (field fs 1) b).same, (number_read (field fs 2) c).same) (sym t);
      form = rw (digit_count (field fs 0) a, digit_count (field fs 1) b, digit_count (field fs 2) c);
    }

delivery-read : (fs : List (List ℕ)) (r : Request) → read_delivery fs ≡ read r → FieldsRead 68 fs r
unfolding read_delivery has_form fields_of
delivery-read fs r e = made 68 fs _ _ r e (λ t. let h = three-numbers fs t in record { form = h.form; begins = refl; back = h.back })

stock-read : (fs : List (List ℕ)) (r : Request) → read_stock_level fs ≡ read r → FieldsRead 76 fs r
unfolding read_stock_level has_form fields_of
stock-read fs r e = made 76 fs _ _ r e (λ t. let h = three-numbers fs t in record { form = h.form; begins = refl; back = h.back })

status_read : (fs : List (List ℕ)) (r : Request) → read_order_status fs ≡ read r → FieldsRead 83 fs r
unfolding read_order_status has_form fields_of
status_read fs r e = made 83 fs _ _ r e at
  where
    at : every (eqb (length fs) 3 ∷ is_number (field fs 0) ∷ is_number (field fs 1) ∷ is_who (field fs 2) ∷ []) ≡ true
        → FieldsRead 83 fs (order_status (record { warehouse = number_in fs 0; district = number_in fs 1 }) (who_read (field fs 2)))
    at t =
        let h = every-each (eqb (length fs) 3 ∷ is_number (field fs 0) ∷ is_number (field fs 1) ∷ is_who (field fs 2) ∷ []) t in
        let w = who-read (field fs 2) h.1.1.1.0 in
        record {
          form = rw (digit_count (field fs 0) h.1.0, digit_count (field fs 1) h.1.1.0) w.form;
          begins = refl;
          back = rw ((number_read (field fs 0) h.1.0).same, (number_read (field fs 1) h.1.1.0).same, w.back) (sym (three fs (eqb-true (length fs) 3 h.0)));
        }

payment-read : (fs : List (List ℕ)) (r : Request) → read_payment fs ≡ read r → FieldsRead 80 fs r
unfolding read_payment has_form fields_of
payment-read fs r e = made 80 fs _ _ r e at
  where
    at : every (eqb (length fs) 7 ∷ is_number (field fs 0) ∷ is_number (field fs 1) ∷ is_number (field fs 2) ∷ is_number (field fs 3) ∷ is_who (field fs 4) ∷ is_number (field fs 5) ∷ is_number (field fs 6) ∷ []) ≡ true
        → FieldsRead 80 fs (payment (record { warehouse = number_in fs 0; district = number_in fs 1; custwarehouse = number_in fs 2; custdistrict = number_in fs 3; date = number_in fs 5; amount = number_in fs 6 }) (who_read (field fs 4)))
    at t =
        let h = every-each (eqb (length fs) 7 ∷ is_number (field fs 0) ∷ is_number (field fs 1) ∷ is_number (field fs 2) ∷ is_number (field fs 3) ∷ is_who (field fs 4) ∷ is_number (field fs 5) ∷ is_number (field fs 6) ∷ []) t in
        let n0 = h.1.0 in
        let n1 = h.1.1.0 in
        let n2 = h.1.1.1.0 in
        let n3 = h.1.1.1.1.0 in
        let w = who-read (field fs 4) h.1.1.1.1.1.0 in
        let n5 = h.1.1.1.1.1.1.0 in
        let n6 = h.1.1.1.1.1.1.1.0 in
        record {
          form = rw (digit_count (field fs 0) n0, digit_count (field fs 1) n1, digit_count (field fs 2) n2, digit_count (field fs 3) n3, w.form, digit_count (field fs 5) n5, digit_count (field fs 6) n6);
          begins = refl;
          back = rw ((number_read (field fs 0) n0).same, (number_read (field fs 1) n1).same, (number_read (field fs 2) n2).same, (number_read (field fs 3) n3).same, w.back, (number_read (field fs 5) n5).same, (number_read (field fs 6) n6).same)
              (sym (seven fs (eqb-true (length fs) 7 h.0)));
        }

new_read : (fs : List (List ℕ)) (r : Request) → read_new_order fs ≡ read r → FieldsRead 78 fs r
unfolding read_new_order has_form fields_of
new_read fs r e = made 78 fs _ _ r e at
  where
    at : every (all_of is_number fs ∷ eqb (length fs) (4 + 3 * ((length fs - 4) / 3)) ∷ leb 1 ((length fs - 4) / 3) ∷ leb ((length fs - 4) / 3) 15 ∷ []) ≡ true
        → FieldsRead 78 fs (new_order (record { warehouse = number_in fs 0; district = number_in fs 1; customer = number_in fs 2; date = number_in fs 3 }) (lines_read (drop 4 fs)))
    at t =
        let m = (length fs - 4) / 3 in
        let h = every-each (all_of is_number fs ∷ eqb (length fs) (4 + 3 * m) ∷ leb 1 m ∷ leb m 15 ∷ []) t in
        let long : length fs ≡ 4 + 3 * m = eqb-true (length fs) (4 + 3 * m) h.1.0 in
        let f = four fs (omega arith) in
        let rest = drop 4 fs in
        let all : (is_number (field fs 0) && (is_number (field fs 1) && (is_number (field fs 2) && (is_number (field fs 3) && all_of is_number rest)))) ≡ true = ap (all_of is_number) (sym f) ∙ h.0 in
        let e1 = and_right (is_number (field fs 0)) (is_number (field fs 1) && (is_number (field fs 2) && (is_number (field fs 3) && all_of is_number rest))) all in
        let e2 = and_right (is_number (field fs 1)) (is_number (field fs 2) && (is_number (field fs 3) && all_of is_number rest)) e1 in
        let e3 = and_right (is_number (field fs 2)) (is_number (field fs 3) && all_of is_number rest) e2 in
        let n0 = and_left (is_number (field fs 0)) (is_number (field fs 1) && (is_number (field fs 2) && (is_number (field fs 3) && all_of is_number rest))) all in
        let n1 = and_left (is_number (field fs 1)) (is_number (field fs 2) && (is_number (field fs 3) && all_of is_number rest)) e1 in
        let n2 = and_left (is_number (field fs 2)) (is_number (field fs 3) && all_of is_number rest) e2 in
        let n3 = and_left (is_number (field fs 3)) (all_of is_number rest) e3 in
        let short : length rest ≡ 3 * m = omega (arith, ap length f, long) in
        let ls = lines-read m rest short (and_right (is_number (field fs 3)) (all_of is_number rest) e3) in
        record {
          form = rw (digit_count (field fs 0) n0, digit_count (field fs 1) n1, digit_count (field fs 2) n2, digit_count (field fs 3) n3, ls.count, h.1.1.0, h.1.1.1.0) ls.each;
          begins = refl;
          back = rw ((number_read (field fs 0) n0).same, (number_read (field fs 1) n1).same, (number_read (field fs 2) n2).same, (number_read (field fs 3) n3).same, ls.back) (sym f);
        }

pub fields_read : (x : ℕ) (fs : List (List ℕ)) (r : Request) → read_fields x fs ≡ read r → FieldsRead x fs r
unfolding read_fields
fields_read x fs r e = n78 (eqb x 78) refl e
  where
    at : (k : ℕ) → eqb x k ≡ true → FieldsRead k fs r → FieldsRead x fs r
    at k t h = subst (λ (y : ℕ). FieldsRead y fs r) (sym (eqb-true x k t)) h

    n76 : (t : Bool) → eqb x 76 ≡ t → cond t (read_stock_level fs) no_form ≡ read r → FieldsRead x fs r
    n76 true q h = at 76 q (stock-read fs r h)
    n76 false q h = clash h

    n83 : (t : Bool) → eqb x 83 ≡ t → cond t (read_order_status fs) (cond (eqb x 76) (read_stock_level fs) no_form) ≡ read r → FieldsRead x fs r
    n83 true q h = at 83 q (status_read fs r h)
    n83 false q h = n76 (eqb x 76) refl h

    n68 : (t : Bool) → eqb x 68 ≡ t → cond t (read_delivery fs) (cond (eqb x 83) (read_order_status fs) (cond (eqb x 76) (read_stock_level fs) no_form)) ≡ read r → FieldsRead x fs r
    n68 true q h = at 68 q (delivery-read fs r h)
    n68 false q h = n83 (eqb x 83) refl h

    n80 : (t : Bool) → eqb x 80 ≡ t → cond t (read_payment fs) (cond (eqb x 68) (read_delivery fs) (cond (eqb x 83) (read_order_status fs) (cond (eqb x 76) (read_stock_level fs) no_form))) ≡ read r → FieldsRead x fs r
    n80 true q h = at 80 q (payment-read fs r h)
    n80 false q h = n68 (eqb x 68) refl h

    n78 : (t : Bool) → eqb x 78 ≡ t → cond t (read_new_order fs) (cond (eqb x 80) (read_payment fs) (cond (eqb x 68) (read_delivery fs) (cond (eqb x 83) (read_order_status fs) (cond (eqb x 76) (read_stock_level fs) no_form)))) ≡ read r → FieldsRead x fs r
    n78 true q h = at 78 q (new_read fs r h)
    n78 false q h = n80 (eqb x 80) refl h

-- ── both inverse laws ──
letter-plain : (r : Request) → without 9 (letter r ∷ []) ≡ true
letter-plain (new_order q lines) = refl
letter-plain (payment q who) = refl
letter-plain (delivery q) = refl
letter-plain (order_status q who) = refl
letter-plain (stock_level q) = refl

-- a line is read by its fields: the byte 10 at its end, tabs between
line-parts : (body : List ℕ) → read_line (body ++ (10 ∷ [])) ≡ read_parted (parted body)
unfolding read_line
line-parts body =
    let long : length (body ++ (10 ∷ [])) ≡ length body + 1 = length-append body (10 ∷ []) in
    let one : 1 ≤ length (body ++ (10 ∷ [])) = omega arith in
    let last : length body ≡ length (body ++ (10 ∷ [])) - 1 = omega arith in
    let ten : get_or (body ++ (10 ∷ [])) (length (body ++ (10 ∷ [])) - 1) 0 ≡ 10 = get_or_at body 10 [] 0 _ last in
    let cut : take (length (body ++ (10 ∷ [])) - 1) (body ++ (10 ∷ [])) ≡ body = take_at body (10 ∷ []) _ last in
    rw (le-leb 1 (length (body ++ (10 ∷ []))) one, ten, cut)

-- reading what writing gives is the request
pub read_written : (r : Request) → has_form r ≡ true → read_line (line_of r) ≡ read r
unfolding line_of line_text
read_written r e =
    let w = fields_written r e in
    line-parts (joined ((letter r ∷ []) ∷ fields_of r)) ∙ ap read_parted (parted-joined (letter r ∷ []) (fields_of r) (letter-plain r) w.plain) ∙ w.back

record PartsRead (p : List (List ℕ)) (r : Request) : Type 0 where
  form : has_form r ≡ true
  back : joined ((letter r ∷ []) ∷ fields_of r) ≡ joined p

parts-read : (p : List (List ℕ)) (r : Request) → read_parted p ≡ read r → PartsRead p r
parts-read [] r e = clash e
parts-read ([] ∷ fs) r e = clash e
parts-read ((x ∷ []) ∷ fs) r e =
    let h = fields_read x fs r e in
    record { form = h.form; back = rw (h.begins, h.back) }
parts-read ((x ∷ y ∷ f) ∷ fs) r e = go (eqb (suc (suc (length f))) 1) refl e
  where
    go : (t : Bool) → eqb (suc (suc (length f))) 1 ≡ t → cond t (read_fields x fs) no_form ≡ read r → PartsRead ((x ∷ y ∷ f) ∷ fs) r
    go true q h = absurd (omega (arith, eqb-true (suc (suc (length f))) 1 q))
    go false q h = clash h

-- a line that is read has its byte 10 at the end
record Ends (s : List ℕ) (r : Request) : Type 0 where
  body : List ℕ
  whole : s ≡ body ++ (10 ∷ [])
  parts : read_parted (parted body) ≡ read r

ends : (s : List ℕ) (r : Request) → read_line s ≡ read r → Ends s r
unfolding read_line
ends s r e = go (leb 1 (length s) && eqb (get_or s (length s - 1) 0) 10) refl e
  where
    go : (t : Bool) → (leb 1 (length s) && eqb (get_or s (length s - 1) 0) 10) ≡ t → cond t (read_parted (parted (take (length s - 1) s))) no_form ≡ read r → Ends s r
    go true q h =
        let one : 1 ≤ length s = leb-true 1 (length s) (and_left (leb 1 (length s)) (eqb (get_or s (length s - 1) 0) 10) q) in
        let ten : get_or s (length s - 1) 0 ≡ 10 = eqb-true _ _ (and_right (leb 1 (length s)) (eqb (get_or s (length s - 1) 0) 10) q) in
        let all : length s ≡ suc (length s - 1) = omega arith in
        let whole : s ≡ take (length s - 1) s ++ (10 ∷ []) =
        sym (take-length s) ∙ ap (λ (n : ℕ). take n s) all ∙ take-suc s (length s - 1) 0 (omega arith) ∙ ap (λ (y : ℕ). take (length s - 1) s ++ (y ∷ [])) ten in
        record { body = take (length s - 1) s; whole = whole; parts = h }
    go false q h = clash h

-- a line that is read: its request has a form, and writing it gives the line
pub record LineRead (s : List ℕ) (r : Request) : Type 0 where
  pub form : has_form r ≡ true
  pub same : line_of r ≡ s

pub written_read : (s : List ℕ) (r : Request) → read_line s ≡ read r → LineRead s r
unfolding line_of line_text
written_read s r e =
    let h = ends s r e in
    let p = parts-read (parted h.body) r h.parts in
    record { form = p.form; same = ap (λ (l : List ℕ). l ++ (10 ∷ [])) (p.back ∙ joined-parted h.body) ∙ sym h.whole }

-- two requests with the same line are the same; two lines with the same request are the same
pub line_inj : (r s : Request) → has_form r ≡ true → has_form s ≡ true → line_of r ≡ line_of s → r ≡ s
line_inj r s e h q = read_inj r s (sym (read_written r e) ∙ ap read_line q ∙ read_written s h)

pub read_one : (s t : List ℕ) (r : Request) → read_line s ≡ read r → read_line t ≡ read r → s ≡ t
read_one s t r e h = sym (written_read s r e).same ∙ (written_read t r h).same
