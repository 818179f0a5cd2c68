-- Numbers in a row, from a position on, and the last ones of a line.
-- Assumes nothing.
use Rattle.std.proofs.Math.Bool.{and-false}
use mathlib.Core.Path.{◌≡◌, refl, sym, ap, ◌∙◌, subst}
use mathlib.Core.Bool.{Bool, true, false, cond}
use mathlib.Core.List.{List, [], ◌∷◌, ◌++◌, map-append}
use Prim.Native.Nat.{ℕ, zero, suc, ◌+◌, ◌≤◌, ◌<◌}
use native.Mathlib.Numerals.{add-one}
use native.Mathlib.Omega.{arith}
use lib.Dec.{eqb}
use lib.ListN.{length, take, drop, set, length-drop}
use lib.Seq.{take-suc-set, take_all}
use borrow.Author.Tests.{le-leb, lt-leb, eq-eqb, ne_eqb, eqb-true}
use Rattle.std.proofs.Common.{Some, None}
use Rattle.model.specs.Tests.{all_of}
use Rattle.model.specs.Text.{is_number, value_of}
use Rattle.model.proofs.TestLaws.{and_left, and_right}
use Rattle.model.proofs.TextLaws.{parted-some}
use Rattle.text.specs.Fields.{parts_from, fields_from, has_number, Stepped}
use Rattle.lines.specs.Fields.{values_of, has_numbers, are_numbers, Run}

pub contra : (a b : Bool) → (a ≡ true → b ≡ true) → b ≡ false → a ≡ false
contra true b h e = sym (h refl) ∙ e
contra false b h e = refl

-- ── one number more ──
-- a list that goes on with f after its first i
record More (i : ℕ) (fs : List (List ℕ)) (f : List ℕ) (gs : List (List ℕ)) : Type 0 where
  front : take (suc i) fs ≡ take i fs ++ (f ∷ [])
  rest : drop (suc i) fs ≡ gs
  numbers : has_numbers i fs ≡ true → is_number f ≡ true → has_numbers (suc i) fs ≡ true

more : (i : ℕ) (fs : List (List ℕ)) (f : List ℕ) (gs : List (List ℕ)) → drop i fs ≡ f ∷ gs → More i fs f gs
more zero fs f gs e = rw e (record { front = refl; rest = refl; numbers = λ n t. rw t })
more (suc i) [] f gs e = absurd cc
more (suc i) (x ∷ fs) f gs e =
    let m = more i fs f gs e in
    record {
      front = ap (λ l. x ∷ l) m.front;
      rest = m.rest;
      numbers = λ n t. rw (and_left (is_number x) (has_numbers i fs) n) (m.numbers (and_right (is_number x) (has_numbers i fs) n) t);
    }

pub run-start : (s vs : List ℕ) (at : ℕ) → at ≤ length s + 1 → Run 0 s at at (take 0 vs)
run-start s vs at h = record { numbers = refl; same = refl; rest = refl; within = h }

pub run_step : (s vs : List ℕ) (at i p v q : ℕ) → Run i s at p (take i vs) → Stepped s p v q → i < length vs → Run (i + 1) s at q (take (i + 1) (set vs i v))
run_step s vs at i p v q r t h =
    let fs = fields_from s at in
    let m = more i fs t.first (fields_from s q) (r.rest ∙ t.parts) in
    rw (add-one i)
    (record {
      numbers = m.numbers r.numbers t.number;
      same = take-suc-set vs i v h ∙ rw (r.same, ← t.value) (sym (ap values_of m.front ∙ map-append value_of (take i fs) (t.first ∷ [])));
      rest = m.rest;
      within = t.within;
    })

pub run_end : (s vs : List ℕ) (at i n p : ℕ) → i ≤ n → n ≤ i → length vs ≡ n → Run i s at p (take i vs) → Run n s at p vs
run_end s vs at i n p h k l r =
    let e : i ≡ n = omega arith in
    let all : take i vs ≡ vs = take_all i vs (omega arith) in
    subst (λ j. Run j s at p vs) e (subst (λ us. Run i s at p us) all r)

stop : (i n : ℕ) (fs : List (List ℕ)) → i < n → has_number (drop i fs) ≡ false → has_numbers n fs ≡ false
stop i zero fs h e = absurd (omega arith)
stop i (suc n) [] h e = refl
stop zero (suc n) (f ∷ fs) h e = rw e
stop (suc i) (suc n) (f ∷ fs) h e = rw (stop i n fs (omega arith) e) (and-false (is_number f))

pub run_stop : (s vs : List ℕ) (at i n p : ℕ) → Run i s at p vs → i < n → has_number (fields_from s p) ≡ false → has_numbers n (fields_from s at) ≡ false
run_stop s vs at i n p r h e = stop i n (fields_from s at) h (ap has_number r.rest ∙ e)

-- ── the last numbers of a line ──
pub some_left : (s : List ℕ) (p : ℕ) → p ≤ length s → 1 ≤ length (fields_from s p)
unfolding parts_from
some_left s p h = rw (le-leb p (length s) h) (parted-some 9 (drop p s))

pub none_left : (s : List ℕ) (p : ℕ) → length s < p → fields_from s p ≡ []
unfolding parts_from
none_left s p h = rw (lt-leb p (length s) h)

pub all-has : (n : ℕ) (fs : List (List ℕ)) → n ≤ length fs → all_of is_number fs ≡ true → has_numbers n fs ≡ true
all-has zero fs h e = refl
all-has (suc n) [] h e = absurd (omega arith)
all-has (suc n) (f ∷ fs) h e = rw (and_left (is_number f) (all_of is_number fs) e) (all-has n fs (omega arith) (and_right (is_number f) (all_of is_number fs) e))

has-all : (n : ℕ) (fs : List (List ℕ)) → has_numbers n fs ≡ true → drop n fs ≡ [] → (length fs ≡ n) × (all_of is_number fs ≡ true)
has-all zero fs h e = rw e (refl, refl)
has-all (suc n) [] h e = absurd cc
has-all (suc n) (f ∷ fs) h e =
    let i = has-all n fs (and_right (is_number f) (has_numbers n fs) h) e in
    (ap suc i.0, rw (and_left (is_number f) (has_numbers n fs) h) i.1)

pub last-few : (n : ℕ) (fs : List (List ℕ)) → has_numbers n fs ≡ false → are_numbers n fs ≡ false
last-few n fs =
    contra (are_numbers n fs) (has_numbers n fs)
    (λ t. let l : length fs ≡ n = eqb-true (length fs) n (and_left (eqb (length fs) n) (all_of is_number fs) t) in
    all-has n fs (omega arith) (and_right (eqb (length fs) n) (all_of is_number fs) t))

module _ (s vs : List ℕ) (at n p : ℕ) (r : Run n s at p vs) where
  pub last-left : p ≤ length s → are_numbers n (fields_from s at) ≡ false
  last-left h =
      let some : 1 ≤ length (drop n (fields_from s at)) = rw r.rest (some_left s p h) in
      rw (ne_eqb (length (fields_from s at)) n (λ e. omega (arith, some, length-drop n (fields_from s at))))

  whole : length s < p → (length (fields_from s at) ≡ n) × (all_of is_number (fields_from s at) ≡ true)
  whole h = has-all n (fields_from s at) r.numbers (r.rest ∙ none_left s p h)

  pub last_are : length s < p → (are_numbers n (fields_from s at) ≡ true) × (vs ≡ values_of (fields_from s at))
  last_are h =
      let w = whole h in
      (rw (eq-eqb (length (fields_from s at)) n w.0, w.1), r.same ∙ ap values_of (take_all n (fields_from s at) (omega (arith, w.0))))

pub if_none : {A : Type 0} (t : Bool) (x : A) → None ≡ cond t (Some x) None → t ≡ false
if_none true x e = absurd cc
if_none false x e = refl

pub if_some : {A : Type 0} (t : Bool) (x y : A) → Some y ≡ cond t (Some x) None → (t ≡ true) × (y ≡ x)
if_some true x y e = (refl, cc)
if_some false x y e = absurd cc
