-- A line is carried out as a whole: one of more than 1,024 bytes has no form, and neither has what is kept of it.
-- Assumes nothing.
use mathlib.Core.Path.{◌≡◌, refl, sym, ap, ◌∙◌}
use mathlib.Core.Bool.{Bool, true, false, not, cond}
use mathlib.Core.List.{List, [], ◌∷◌, ◌++◌, append-nil, append_assoc}
use Prim.Native.Nat.{ℕ, zero, suc, ◌-◌, ◌*◌, ◌≤◌, ◌<◌}
use native.Mathlib.Omega.{arith}
use lib.Dec.{leb, ltb, eqb}
use lib.ListN.{length, get_or, take, length-append}
use lib.Seq.{take_all, take_at, length-take-le}
use borrow.Author.Tests.{leb-true, le-leb, le-ltb, ltb-true, ltb-false, not-true}
use Rattle.model.specs.declared.Line.{Line}
use Rattle.model.specs.Names.{Who, by_number, by_name}
use Rattle.model.specs.Tests.{all_of}
use Rattle.model.specs.Request.{Request, new_order, payment, delivery, order_status, stock_level, Lent}
use Rattle.model.specs.Text.{is_digit, is_number, has_digits, decimal, tabbed, line_text}
use Rattle.model.specs.RequestLine.{is_printable, is_name, has_who, who_field, line_small, has_form, line_fields, fields_of, line_of, Reading, read, no_form, read_line}
use Rattle.model.specs.AnswerLine.{left_after}
use Rattle.model.proofs.TestLaws.{every-each, and_left, and_right}
use Rattle.model.proofs.DecimalLaws.{number_written, all_append}
use Rattle.model.proofs.LineLaws.{written_read}
use Rattle.blocks.specs.Cutting.{kept, lines_in, line_after}
use Rattle.desk.specs.Input.{left_by}

-- ── the length of a request's line ──
abbrev short : List ℕ → Bool
short f = leb (length f) 17

short-decimal : (n : ℕ) → has_digits n ≡ true → short (decimal n) ≡ true
unfolding is_number
short-decimal n e =
    let h = every-each (leb 1 (length (decimal n)) ∷ leb (length (decimal n)) 10 ∷ all_of is_digit (decimal n) ∷ _ ∷ []) (number_written n (ltb-true n 10000000000 e)) in
    le-leb (length (decimal n)) 17 (omega (arith, leb-true (length (decimal n)) 10 h.1.0))

short-who : (w : Who) → has_who w ≡ true → short (who_field w) ≡ true
unfolding is_number is_name
short-who (by_number c) e =
    let h = every-each (leb 1 (length (decimal c)) ∷ leb (length (decimal c)) 10 ∷ all_of is_digit (decimal c) ∷ _ ∷ []) (number_written c (ltb-true c 10000000000 e)) in
    le-leb (suc (length (decimal c))) 17 (omega (arith, leb-true (length (decimal c)) 10 h.1.0))
short-who (by_name f) e =
    let h = every-each (leb 1 (length f) ∷ leb (length f) 16 ∷ all_of is_printable f ∷ _ ∷ _ ∷ []) e in
    le-leb (suc (length f)) 17 (omega (arith, leb-true (length f) 16 h.1.0))

short-lines : (ls : List Line) → all_of line_small ls ≡ true → all_of short (line_fields ls) ≡ true
short-lines [] e = refl
short-lines (l ∷ ls) e =
    let h = every-each (has_digits l.item ∷ has_digits l.supply ∷ has_digits l.quantity ∷ []) (and_left (line_small l) (all_of line_small ls) e) in
    rw (short-decimal l.item h.0, short-decimal l.supply h.1.0, short-decimal l.quantity h.1.1.0) (short-lines ls (and_right (line_small l) (all_of line_small ls) e))

long-lines : (ls : List Line) → length (line_fields ls) ≡ 3 * length ls
long-lines [] = refl
long-lines (l ∷ ls) = omega (arith, long-lines ls)

tabbed-most : (fs : List (List ℕ)) → all_of short fs ≡ true → length (tabbed fs) ≤ 18 * length fs
unfolding tabbed
tabbed-most [] e = omega arith
tabbed-most (f ∷ fs) e =
    let s : length f ≤ 17 = leb-true (length f) 17 (and_left (short f) (all_of short fs) e) in
    omega (arith, s, length-append f (tabbed fs), tabbed-most fs (and_right (short f) (all_of short fs) e))

record Few (fs : List (List ℕ)) : Type 0 where
  each : all_of short fs ≡ true
  most : length fs ≤ 49

fields-few : (r : Request) → has_form r ≡ true → Few (fields_of r)
unfolding has_form fields_of
fields-few (new_order q ls) e =
    let h = every-each (has_digits q.warehouse ∷ has_digits q.district ∷ has_digits q.customer ∷ has_digits q.date ∷ leb 1 (length ls) ∷ leb (length ls) 15 ∷ all_of line_small ls ∷ []) e in
    record {
      each = rw (short-decimal q.warehouse h.0, short-decimal q.district h.1.0, short-decimal q.customer h.1.1.0, short-decimal q.date h.1.1.1.0) (short-lines ls h.1.1.1.1.1.1.0);
      most = omega (arith, long-lines ls, leb-true (length ls) 15 h.1.1.1.1.1.0);
    }
fields-few (payment q who) e =
    let h = every-each (has_digits q.warehouse ∷ has_digits q.district ∷ has_digits q.custwarehouse ∷ has_digits q.custdistrict ∷ has_who who ∷ has_digits q.date ∷ has_digits q.amount ∷ []) e in
    record {
      each = rw (short-decimal q.warehouse h.0, short-decimal q.district h.1.0, short-decimal q.custwarehouse h.1.1.0, short-decimal q.custdistrict h.1.1.1.0, short-who who h.1.1.1.1.0, short-decimal q.date h.1.1.1.1.1.0, short-decimal q.amount h.1.1.1.1.1.1.0);
      most = omega arith;
    }
fields-few (delivery q) e =
    let h = every-each (has_digits q.warehouse ∷ has_digits q.carrier ∷ has_digits q.date ∷ []) e in
    record { each = rw (short-decimal q.warehouse h.0, short-decimal q.carrier h.1.0, short-decimal q.date h.1.1.0); most = omega arith }
fields-few (order_status q who) e =
    let h = every-each (has_digits q.warehouse ∷ has_digits q.district ∷ has_who who ∷ []) e in
    record { each = rw (short-decimal q.warehouse h.0, short-decimal q.district h.1.0, short-who who h.1.1.0); most = omega arith }
fields-few (stock_level q) e =
    let h = every-each (has_digits q.warehouse ∷ has_digits q.district ∷ has_digits q.threshold ∷ []) e in
    record { each = rw (short-decimal q.warehouse h.0, short-decimal q.district h.1.0, short-decimal q.threshold h.1.1.0); most = omega arith }

line-most : (r : Request) → has_form r ≡ true → length (line_of r) ≤ 1024
unfolding line_of line_text
line-most r e =
    let f = fields-few r e in
    omega (arith, f.most, tabbed-most (fields_of r) f.each, length-append (tabbed (fields_of r)) (10 ∷ []))

pub overlong : (s : List ℕ) → 1024 < length s → read_line s ≡ no_form
overlong s h = go (read_line s) refl
  where
    go : (x : Reading) → read_line s ≡ x → read_line s ≡ no_form
    go (read r) e = let l = written_read s r e in absurd (omega (arith, line-most r l.form, ap length l.same))
    go no_form e = e

-- ── bytes without a line's end ──
abbrev pub no_ten : List ℕ → Bool
no_ten s = all_of (λ x. not (eqb x 10)) s

no_ten_at : (s : List ℕ) (i : ℕ) → i < length s → no_ten s ≡ true → eqb (get_or s i 0) 10 ≡ false
no_ten_at [] i h e = absurd (omega arith)
no_ten_at (x ∷ s) zero h e = not-true (eqb x 10) (and_left (not (eqb x 10)) (no_ten s) e)
no_ten_at (x ∷ s) (suc i) h e = no_ten_at s i (omega arith) (and_right (not (eqb x 10)) (no_ten s) e)

no_ten_take : (n : ℕ) (s : List ℕ) → no_ten s ≡ true → no_ten (take n s) ≡ true
no_ten_take zero s e = refl
no_ten_take (suc n) [] e = refl
no_ten_take (suc n) (x ∷ s) e = rw (and_left (not (eqb x 10)) (no_ten s) e) (no_ten_take n s (and_right (not (eqb x 10)) (no_ten s) e))

-- a last line without byte 10 has no form
pub unended : (s : List ℕ) → no_ten s ≡ true → read_line s ≡ no_form
unfolding read_line
unended [] e = refl
unended (x ∷ s) e = rw (no_ten_at (x ∷ s) (suc (length s) - 1) (omega arith) e, le-leb 1 (suc (length s)) (omega arith))

-- the line so far has none
kept_no_ten : (p : List ℕ) (x : ℕ) → no_ten p ≡ true → eqb x 10 ≡ false → no_ten (kept p x) ≡ true
kept_no_ten p x e q = go (ltb (length p) 1024)
  where
    go : (t : Bool) → no_ten (cond t (p ++ (x ∷ [])) p) ≡ true
    go true = all_append (λ y. not (eqb y 10)) p (x ∷ []) e (rw q)
    go false = e

pub line_no_ten : (xs p : List ℕ) → no_ten p ≡ true → no_ten (line_after p xs) ≡ true
unfolding line_after
line_no_ten [] p e = e
line_no_ten (x ∷ xs) p e = go (eqb x 10) refl (line_no_ten xs [] refl) (line_no_ten xs (kept p x))
  where
    go : (t : Bool) → eqb x 10 ≡ t → no_ten (line_after [] xs) ≡ true → (no_ten (kept p x) ≡ true → no_ten (line_after (kept p x) xs) ≡ true)
        → no_ten (cond t (line_after [] xs) (line_after (kept p x) xs)) ≡ true
    go true q anew on = anew
    go false q anew on = on (kept_no_ten p x e q)

-- ── a line carried out, whatever its length ──
abbrev kept_all : List ℕ → List ℕ → List ℕ
kept_all p [] = p
kept_all p (x ∷ s) = kept_all (kept p x) s

kept-all : (s p : List ℕ) → length p ≤ 1024 → kept_all p s ≡ take 1024 (p ++ s)
kept-all [] p h = sym (ap (take 1024) (append-nil p) ∙ take_all 1024 p h)
kept-all (x ∷ s) p h = go (ltb (length p) 1024) refl (kept-all s)
  where
    go : (t : Bool) → ltb (length p) 1024 ≡ t → ((q : List ℕ) → length q ≤ 1024 → kept_all q s ≡ take 1024 (q ++ s)) → kept_all (cond t (p ++ (x ∷ [])) p) s ≡ take 1024 (p ++ x ∷ s)
    go true e rec = rec (p ++ (x ∷ [])) (omega (arith, ltb-true (length p) 1024 e, length-append p (x ∷ []))) ∙ ap (take 1024) (append_assoc p (x ∷ []) s)
    go false e rec =
        let k : length p ≡ 1024 = omega (arith, ltb-false (length p) 1024 e) in
        rec p h ∙ take_at p s 1024 k ∙ sym (take_at p (x ∷ s) 1024 k)

full : (p : List ℕ) (x : ℕ) → 1024 ≤ length p → kept p x ≡ p
full p x h = rw (le-ltb (length p) 1024 h)

read_kept : (s : List ℕ) → no_ten s ≡ true → read_line (kept (take 1024 s) 10) ≡ read_line (s ++ (10 ∷ []))
read_kept s e = go (ltb (length s) 1024) refl
  where
    go : (t : Bool) → ltb (length s) 1024 ≡ t → read_line (kept (take 1024 s) 10) ≡ read_line (s ++ (10 ∷ []))
    go true q =
        let h : length s < 1024 = ltb-true (length s) 1024 q in
        rw (take_all 1024 s (omega arith), q)
    go false q =
        let h : 1024 ≤ length s = ltb-false (length s) 1024 q in
        let l : length (take 1024 s) ≡ 1024 = length-take-le 1024 s h in
        ap read_line (full (take 1024 s) 10 (omega arith)) ∙ unended (take 1024 s) (no_ten_take 1024 s e) ∙ sym (overlong (s ++ (10 ∷ [])) (omega (arith, length-append s (10 ∷ []))))

ended : (p s rest : List ℕ) → no_ten s ≡ true → lines_in p (s ++ 10 ∷ rest) ≡ kept (kept_all p s) 10 ∷ lines_in [] rest
unfolding lines_in
ended p [] rest e = refl
ended p (x ∷ s) rest e = rw (not-true (eqb x 10) (and_left (not (eqb x 10)) (no_ten s) e)) (ended (kept p x) s rest (and_right (not (eqb x 10)) (no_ten s) e))

-- each line of the input leaves what the model says of the whole line, however long it is
pub line-by-line : (st : Lent) (s rest : List ℕ) → no_ten s ≡ true → left_by st (lines_in [] (s ++ 10 ∷ rest)) ≡ left_by (left_after st (read_line (s ++ (10 ∷ [])))) (lines_in [] rest)
unfolding left_by
line-by-line st s rest e =
    rw (ended [] s rest e) (ap (λ (x : Reading). left_by (left_after st x) (lines_in [] rest)) (ap (λ (p : List ℕ). read_line (kept p 10)) (kept-all s [] (omega arith)) ∙ read_kept s e))
