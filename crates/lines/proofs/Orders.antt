-- The lines of an order, three numbers each.
-- Assumes nothing.
use Rattle.std.proofs.Math.Bool.{and_assoc, and-true, and-false}
use mathlib.Core.Path.{◌≡◌, refl, sym, ap, ◌∙◌}
use mathlib.Core.Bool.{Bool, true, false, ◌&&◌}
use mathlib.Core.List.{List, [], ◌∷◌, ◌++◌, append_assoc, append-nil}
use Prim.Native.Nat.{ℕ, zero, suc, ◌+◌, ◌-◌, ◌*◌, ◌/◌, ◌≤◌, ◌<◌}
use native.Mathlib.Numerals.{add-one}
use native.Mathlib.Omega.{arith}
use lib.Dec.{leb, eqb}
use lib.ListN.{length, get_or, take, drop, set, length-append, replicate, take-append-drop}
use lib.Seq.{take-suc-set, length-take-le, take-append_seam, drop-drop}
use borrow.Author.Tests.{eq-eqb, ne_eqb, eqb-true, leb-true, le-leb}
use Rattle.std.proofs.Common.{⊎_elim}
use Rattle.std.proofs.lemmas.Bool.{cases_lt}
use Rattle.std.proofs.lemmas.List.{drop-set-lt, drop-replicate}
use Rattle.model.specs.declared.Line.{Line}
use Rattle.model.specs.declared.Lines.{Lines}
use Rattle.model.specs.Tests.{every, all_of}
use Rattle.model.specs.Request.{new_order, no_line, lines_in}
use Rattle.model.specs.Text.{is_number, value_of}
use Rattle.model.specs.RequestLine.{number_in, lines_read, read, no_form, read_new_order}
use Rattle.model.proofs.DecimalLaws.{all_append}
use Rattle.model.proofs.TestLaws.{every-each, and_right}
use Rattle.text.specs.Fields.{fields_from}
use Rattle.lines.specs.Fields.{values_of, has_numbers, Run, are_lines, Holds}
use Rattle.lines.proofs.Walk.{contra, all-has, some_left, none_left}
use Rattle.lines.proofs.Forms.{value_front}

-- ── lines read so far ──
-- i lines read from a position on, and where the next field starts
pub record LinesRun (i : ℕ) (s : List ℕ) (at next : ℕ) (lines : List Line) : Type 0 where
  pub front : List (List ℕ)
  pub whole : fields_from s at ≡ front ++ fields_from s next
  pub numbers : all_of is_number front ≡ true
  pub long : length front ≡ 3 * i
  pub same : lines ≡ lines_read front
  pub within : next ≤ length s + 1

pub lines-start : (s : List ℕ) (at : ℕ) (lines : List Line) → at ≤ length s + 1 → LinesRun 0 s at at (take 0 lines)
unfolding lines_read
lines-start s at lines h =
    record { front = []; whole = refl; numbers = refl; long = refl; same = refl; within = h }

-- three fields more make a line more
read-more : (i : ℕ) (fs : List (List ℕ)) (x y z : List ℕ) → length fs ≡ 3 * i
    → lines_read (fs ++ (x ∷ y ∷ z ∷ [])) ≡ lines_read fs ++ (record { item = value_of x; supply = value_of y; quantity = value_of z } ∷ [])
unfolding lines_read
read-more zero [] x y z h = refl
read-more zero (a ∷ fs) x y z h = absurd (omega arith)
read-more (suc i) [] x y z h = absurd (omega arith)
read-more (suc i) (a ∷ []) x y z h = absurd (omega arith)
read-more (suc i) (a ∷ b ∷ []) x y z h = absurd (omega arith)
read-more (suc i) (a ∷ b ∷ c ∷ fs) x y z h = ap (λ ls. record { item = value_of a; supply = value_of b; quantity = value_of c } ∷ ls) (read-more i fs x y z (omega arith))

record Three (gs : List (List ℕ)) : Type 0 where
  x : List ℕ
  y : List ℕ
  z : List ℕ
  rest : List (List ℕ)
  is : gs ≡ x ∷ y ∷ z ∷ rest
  numbers : all_of is_number (x ∷ y ∷ z ∷ []) ≡ true

three : (gs : List (List ℕ)) → has_numbers 3 gs ≡ true → Three gs
three [] e = absurd cc
three (x ∷ []) e = absurd (let q : (is_number x && false) ≡ false = and-false (is_number x) in cc)
three (x ∷ y ∷ []) e = absurd (let q : (is_number x && (is_number y && false)) ≡ false = simp and-false in cc)
three (x ∷ y ∷ z ∷ gs) e = record { x = x; y = y; z = z; rest = gs; is = refl; numbers = e }

module _ (s vs : List ℕ) (at i p q : ℕ) (lines : List Line) (r : LinesRun i s at p (take i lines)) (t : Run 3 s p q vs) (h : i < length lines) where
  f : Three (fields_from s p)
  f = three (fields_from s p) t.numbers

  rest_is : f.rest ≡ fields_from s q
  rest_is = ap (drop 3) (sym f.is) ∙ t.rest

  line_is : ◌≡◌ {A = Line} (record { item = get_or vs 0 0; supply = get_or vs 1 0; quantity = get_or vs 2 0 }) (record { item = value_of f.x; supply = value_of f.y; quantity = value_of f.z })
  line_is =
      let e : (k : ℕ) → k < 3 → get_or vs k 0 ≡ number_in (fields_from s p) k = λ k l. value_front (fields_from s p) vs 3 k t.same l in
      rw (e 0 (omega arith), e 1 (omega arith), e 2 (omega arith), f.is) refl

  pub lines_step : LinesRun (i + 1) s at q (take (i + 1) (set lines i (record { item = get_or vs 0 0; supply = get_or vs 1 0; quantity = get_or vs 2 0 })))
  lines_step =
      record {
        front = r.front ++ (f.x ∷ f.y ∷ f.z ∷ []);
        whole = r.whole ∙ ap (λ l. r.front ++ l) (f.is ∙ ap (λ l. f.x ∷ f.y ∷ f.z ∷ l) rest_is) ∙ sym (append_assoc r.front (f.x ∷ f.y ∷ f.z ∷ []) (fields_from s q));
        numbers = all_append is_number r.front (f.x ∷ f.y ∷ f.z ∷ []) r.numbers f.numbers;
        long = omega (arith, length-append r.front (f.x ∷ f.y ∷ f.z ∷ []), r.long);
        same = ap (λ k. take k (set lines i (record { item = get_or vs 0 0; supply = get_or vs 1 0; quantity = get_or vs 2 0 }))) (add-one i) ∙ take-suc-set lines i _ h
            ∙ rw (r.same, line_is) (sym (read-more i r.front f.x f.y f.z r.long));
        within = t.within;
      }

-- ── where reading lines ends ──
pub record AreLines (fs : List (List ℕ)) : Type 0 where
  numbers : all_of is_number fs ≡ true
  whole : length fs ≡ 3 * (length fs / 3)
  some : 1 ≤ length fs / 3
  most : length fs / 3 ≤ 15

are_in : (fs : List (List ℕ)) → are_lines fs ≡ true → AreLines fs
are_in fs e =
    let n = length fs / 3 in
    let h = every-each (all_of is_number fs ∷ eqb (length fs) (3 * n) ∷ leb 1 n ∷ leb n 15 ∷ []) e in
    record { numbers = h.0; whole = eqb-true (length fs) (3 * n) h.1.0; some = leb-true 1 n h.1.1.0; most = leb-true n 15 h.1.1.1.0 }

back : (fs gs : List (List ℕ)) → all_of is_number (fs ++ gs) ≡ true → all_of is_number gs ≡ true
back [] gs e = e
back (f ∷ fs) gs e = back fs gs (and_right (is_number f) (all_of is_number (fs ++ gs)) e)

false_if : (t : Bool) → (t ≡ true → ⊥) → t ≡ false
false_if true h = absurd (h refl)
false_if false h = refl

module _ (s : List ℕ) (at i p : ℕ) (lines : List Line) (r : LinesRun i s at p lines) where
  pub lines-stop : (1 ≤ i → p ≤ length s) → has_numbers 3 (fields_from s p) ≡ false → are_lines (fields_from s at) ≡ false
  lines-stop on e =
      contra (are_lines (fields_from s at)) (has_numbers 3 (fields_from s p))
      (λ t. let h = are_in (fields_from s at) t in
      let l : length (fields_from s at) ≡ length r.front + length (fields_from s p) = ap length r.whole ∙ length-append r.front (fields_from s p) in
      let long : 3 ≤ length (fields_from s p) =
      ⊎_elim (λ (k : 0 < i). omega (arith, h.whole, h.some, r.long, l, some_left s p (on (omega arith)))) (λ (k : i ≤ 0). omega (arith, h.whole, h.some, r.long, l)) (cases_lt 0 i) in
      all-has 3 (fields_from s p) long (back r.front (fields_from s p) (ap (all_of is_number) (sym r.whole) ∙ h.numbers))) e

  pub lines-full : (1 ≤ i → p ≤ length s) → 15 ≤ i → are_lines (fields_from s at) ≡ false
  lines-full on k =
      false_if (are_lines (fields_from s at))
      (λ t. let h = are_in (fields_from s at) t in
      omega (arith, h.whole, h.most, r.long, ap length r.whole ∙ length-append r.front (fields_from s p), some_left s p (on (omega arith))))

  pub lines_end : 1 ≤ i → i ≤ 15 → length s < p → (are_lines (fields_from s at) ≡ true) × (lines ≡ lines_read (fields_from s at))
  lines_end k m h =
      let all : fields_from s at ≡ r.front = r.whole ∙ ap (λ l. r.front ++ l) (none_left s p h) ∙ append-nil r.front in
      let n : length r.front / 3 ≡ i = omega (arith, r.long) in
      (rw (all, n, r.numbers, r.long, eq-eqb (3 * i) (3 * i) refl, le-leb 1 i k, le-leb i 15 m), r.same ∙ ap lines_read (sym all))

-- ── the array that holds lines ──
pub holds : (l : Lines) (i : ℕ) (xs : List Line) → l.count ≡ i → i ≤ length l.lines → take i l.lines ≡ xs → drop i l.lines ≡ replicate (15 - i) no_line → Holds l xs
holds l i xs c h t d =
    let n : i ≡ length xs = sym (length-take-le i l.lines h) ∙ ap length t in
    record { count = c ∙ n; array = sym (take-append-drop i l.lines) ∙ ap (λ (ys : List Line). ys ++ drop i l.lines) t ∙ ap (λ ys. xs ++ ys) d ∙ ap (λ (k : ℕ). xs ++ replicate (15 - k) no_line) n }

pub held : {l : Lines} {xs : List Line} → Holds l xs → lines_in l ≡ xs
held {l} {xs} h = ap (λ (k : ℕ). take k l.lines) h.count ∙ ap (take (length xs)) h.array ∙ take-append_seam xs (replicate (15 - length xs) no_line)

-- a line more leaves the places after it
pub rest_more : (ls : List Line) (i : ℕ) (x : Line) → drop i ls ≡ replicate (15 - i) no_line → drop (i + 1) (set ls i x) ≡ replicate (15 - (i + 1)) no_line
rest_more ls i x e =
    let n : 15 - i - 1 ≡ 15 - (i + 1) = omega arith in
    drop-set-lt (i + 1) ls i x (omega arith) ∙ sym (drop-drop 1 i ls) ∙ ap (drop 1) e ∙ drop-replicate 1 (15 - i) no_line ∙ ap (λ (k : ℕ). replicate k no_line) n

-- ── N ──
eqb_shift : (k m n : ℕ) → eqb (k + m) (k + n) ≡ eqb m n
eqb_shift k m n = go (eqb m n) refl
  where
    go : (t : Bool) → eqb m n ≡ t → eqb (k + m) (k + n) ≡ t
    go true e = eq-eqb (k + m) (k + n) (ap (λ x. k + x) (eqb-true m n e))
    go false e = ne_eqb (k + m) (k + n) (λ q. absurd (let z : m ≡ n = omega arith in let y : eqb m n ≡ true = eq-eqb m n z in cc))

abbrev order_tests : List (List ℕ) → ℕ → Bool
order_tests fs n = every (all_of is_number fs ∷ eqb (length fs) (4 + 3 * n) ∷ leb 1 n ∷ leb n 15 ∷ [])

order_sum : (fs : List (List ℕ)) → order_tests fs ((length fs - 4) / 3) ≡ (has_numbers 4 fs && are_lines (drop 4 fs))
order_sum [] = refl
order_sum (a ∷ []) = simp and-false
order_sum (a ∷ b ∷ []) = simp and-false
order_sum (a ∷ b ∷ c ∷ []) = simp and-false
order_sum (a ∷ b ∷ c ∷ d ∷ fs) =
    let l : length (a ∷ b ∷ c ∷ d ∷ fs) - 4 ≡ length fs = omega arith in
    let m : length (a ∷ b ∷ c ∷ d ∷ fs) ≡ 4 + length fs = omega arith in
    rw (l, m, eqb_shift 4 (length fs) (3 * (length fs / 3))) (simp (and_assoc, and-true))

module _ (fs : List (List ℕ)) where
  pub order-few : has_numbers 4 fs ≡ false → no_form ≡ read_new_order fs
  unfolding read_new_order
  order-few e = rw (order_sum fs, e)

  module _ (gs : List (List ℕ)) (r : drop 4 fs ≡ gs) where
    pub order-not : are_lines gs ≡ false → no_form ≡ read_new_order fs
    unfolding read_new_order
    order-not e = rw (order_sum fs, r, e) (simp and-false)

    module _ (vs : List ℕ) (lines : List Line) where
      pub order_is : has_numbers 4 fs ≡ true → vs ≡ values_of (take 4 fs) → are_lines gs ≡ true → lines ≡ lines_read gs
          → read (new_order (record { warehouse = get_or vs 0 0; district = get_or vs 1 0; customer = get_or vs 2 0; date = get_or vs 3 0 }) lines) ≡ read_new_order fs
      unfolding read_new_order
      order_is e v a l =
          let at = λ (k : ℕ) (h : k < 4). value_front fs vs 4 k v h in
          rw (order_sum fs, e, r, a, at 0 (omega arith), at 1 (omega arith), at 2 (omega arith), at 3 (omega arith), l) refl
