-- Walking a text by positions: where a part ends, the number in it.
-- Assumes nothing.
use mathlib.Core.Path.{◌≡◌, refl, sym, ap, ◌∙◌}
use mathlib.Core.Bool.{Bool, true, false, ◌&&◌, ◌||◌, not, cond}
use mathlib.Core.List.{List, [], ◌∷◌}
use Prim.Native.Nat.compare
use Prim.Native.Nat.{ℕ, suc, ◌+◌, ◌-◌, ◌*◌, ◌^◌, ◌≤◌, ◌<◌}
use native.Mathlib.Nat.{pow-succ', pow-le-pow_right, lt_of_lt_of_le}
use native.Mathlib.Numerals.{add-one}
use native.Mathlib.Omega.{arith}
use lib.Dec.{eqb, ltb}
use lib.ListN.{length, get_or, take, drop, length-drop, drop_of_length-le}
use lib.Seq.{drop-cons, drop-drop}
use borrow.Author.Tests.{eqb-true, ltb-true, lt-ltb, le-ltb, lt-leb, le-leb}
use Rattle.model.specs.Tests.{all_of}
use Rattle.model.specs.Text.{is_digit, is_number, value_from, value_of, onto, parted_by}
use Rattle.model.proofs.DecimalLaws.{Digit}
use Rattle.std.proofs.Common.{Option, Some, None, ⊎_elim}
use Rattle.std.specs.List.{position_or_len}
use Rattle.std.proofs.lemmas.Bool.{cases_lt, or_cases}
use Rattle.std.proofs.lemmas.List.Sums.{prefix_len-le-length}
use Rattle.text.specs.Fields.{parts_from, fields_from, FieldEnd, number_read, has_number, Stepped}

-- ── where a part ends ──
-- the first part is what stands before the first byte x
first_part : (x : ℕ) (t : List ℕ) → parted_by x t
    ≡ take (position_or_len (λ y. eqb y x) t) t ∷ cond (ltb (position_or_len (λ y. eqb y x) t) (length t)) (parted_by x (drop (suc (position_or_len (λ y. eqb y x) t)) t)) []
unfolding parted_by
first_part x [] = refl
first_part x (y ∷ t) = go (eqb y x) (position_or_len (λ y. eqb y x) t) (first_part x t)
  where
    go : (b : Bool) (n : ℕ) → parted_by x t ≡ take n t ∷ cond (ltb n (length t)) (parted_by x (drop (suc n) t)) []
        → cond b ([] ∷ parted_by x t) (onto y (parted_by x t))
        ≡ take (cond (not b) (1 + n) 0) (y ∷ t) ∷ cond (ltb (cond (not b) (1 + n) 0) (length (y ∷ t))) (parted_by x (drop (suc (cond (not b) (1 + n) 0)) (y ∷ t))) []
    go true n e = rw (lt-ltb 0 (suc (length t)) (omega arith))
    go false n e = let s : 1 + n ≡ suc n = omega arith in rw (s, e, compare.suc-suc)

module _ (x : ℕ) (s : List ℕ) (at e : ℕ) (h : at ≤ length s) (p : e ≡ at + position_or_len (λ y. eqb y x) (drop at s)) where
  rest : (n : ℕ) → e ≡ at + n → cond (ltb n (length (drop at s))) (parted_by x (drop (suc n) (drop at s))) [] ≡ parts_from x s (e + 1)
  unfolding parts_from
  rest n q =
      let m : at + suc n ≡ e + 1 = omega arith in
      ⊎_elim (λ (l : n < length (drop at s)). rw (lt-ltb n (length (drop at s)) l, le-leb (e + 1) (length s) (omega (arith, length-drop at s)), drop-drop (suc n) at s, m))
      (λ (l : length (drop at s) ≤ n). rw (le-ltb n (length (drop at s)) l, lt-leb (e + 1) (length s) (omega (arith, length-drop at s)))) (cases_lt n (length (drop at s)))

  pub ends : FieldEnd x s at e
  unfolding parts_from
  ends =
      let most : position_or_len (λ y. eqb y x) (drop at s) ≤ length (drop at s) = prefix_len-le-length _ (drop at s) in
      let n : e - at ≡ position_or_len (λ y. eqb y x) (drop at s) = omega arith in
      record {
        from = omega arith;
        to = omega (arith, length-drop at s);
        parts = rw (n, le-leb at (length s) h, first_part x (drop at s)) (ap (λ (ps : List (List ℕ)). take (position_or_len (λ y. eqb y x) (drop at s)) (drop at s) ∷ ps) (rest _ p));
      }

-- ── the number in a field ──
-- the digits from one on, with the value of those before
abbrev pub digits_from : ℕ → List ℕ → Option ℕ
digits_from v f = cond (all_of is_digit f) (Some (value_from v f)) None

pub none-length : (f : List ℕ) (t : Bool) → t ≡ eqb (length f) 0 → (t || ltb 10 (length f)) ≡ true → number_read f ≡ None
unfolding number_read is_number
none-length f t q e =
    ⊎_elim (λ (h : t ≡ true). let z : length f ≡ 0 = eqb-true (length f) 0 (sym q ∙ h) in rw (lt-leb 1 (length f) (omega arith)))
    (λ (h : ltb 10 (length f) ≡ true). let k : 10 < length f = ltb-true 10 (length f) h in rw (le-leb 1 (length f) (omega arith), lt-leb (length f) 10 k))
    (or_cases t (ltb 10 (length f)) e)

-- all tests but the digits' hold
and_out : (a b : Bool) → (not a && b) ≡ false → (a || not b) ≡ true
and_out true b e = refl
and_out false b e = rw e

and_in : (a b : Bool) → (not a && b) ≡ true → (a || not b) ≡ false
and_in true b e = sym e
and_in false b e = rw e

drop-last : (t : Bool) {A : Type 0} (x y : A) → cond (t && false) x y ≡ y
drop-last true x y = refl
drop-last false x y = refl

drop_all : (t : Bool) {A : Type 0} (x y : A) → cond (t && true) x y ≡ cond t x y
drop_all true x y = refl
drop_all false x y = refl

pub none-zero : (f : List ℕ) → 1 ≤ length f → length f ≤ 10 → (not (eqb (length f) 1) && eqb (get_or f 0 0) 48) ≡ true → number_read f ≡ None
unfolding number_read is_number
none-zero f h k e =
    rw (le-leb 1 (length f) h, le-leb (length f) 10 k, and_in (eqb (length f) 1) (eqb (get_or f 0 0) 48) e) (drop-last (all_of is_digit f) _ _)

pub digits-all : (f : List ℕ) → 1 ≤ length f → length f ≤ 10 → (not (eqb (length f) 1) && eqb (get_or f 0 0) 48) ≡ false → number_read f ≡ digits_from 0 (drop 0 f)
unfolding number_read is_number value_of
digits-all f h k e =
    rw (le-leb 1 (length f) h, le-leb (length f) 10 k, and_out (eqb (length f) 1) (eqb (get_or f 0 0) 48) e) (drop_all (all_of is_digit f) _ _)

pub digits_step : (f : List ℕ) (v i x : ℕ) → i < length f → x ≡ get_or f i 0 → is_digit x ≡ true → digits_from v (drop i f) ≡ digits_from (v * 10 + (x - 48)) (drop (i + 1) f)
digits_step f v i x h q e = rw (drop-cons f i 0 h, ← q, e, add-one i)

pub digits-stop : (f : List ℕ) (v i x : ℕ) → i < length f → x ≡ get_or f i 0 → is_digit x ≡ false → digits_from v (drop i f) ≡ None
digits-stop f v i x h q e = rw (drop-cons f i 0 h, ← q, e)

pub digits_end : (f : List ℕ) (v i : ℕ) → length f ≤ i → digits_from v (drop i f) ≡ Some v
digits_end f v i h = rw (drop_of_length-le f h)

-- one digit more keeps the bound
pub power_step : (v i x : ℕ) → v < 10 ^ i → Digit x → v * 10 + (x - 48) < 10 ^ (i + 1)
power_step v i x h d = rw (add-one i) (omega (arith, pow-succ' 10 i, d.low, d.high))

pub power_top : (v i : ℕ) → v < 10 ^ i → i < 10 → v < 1000000000
power_top v i h k =
    let nine : i ≤ 9 = omega arith in
    let top : 10 ^ i ≤ 10 ^ 9 = pow-le-pow_right (omega arith) nine in
    lt_of_lt_of_le h top

-- ── a number at a position ──
pub none-past : (s : List ℕ) (at : ℕ) → length s < at → has_number (fields_from s at) ≡ false
unfolding parts_from
none-past s at h = rw (lt-leb at (length s) h)

pub number_is : (f : List ℕ) (v : ℕ) → number_read f ≡ Some v → (is_number f ≡ true) × (value_of f ≡ v)
unfolding number_read
number_is f v e = go (is_number f) refl e
  where
    go : (t : Bool) → is_number f ≡ t → cond t (Some (value_of f)) None ≡ Some v → (is_number f ≡ true) × (value_of f ≡ v)
    go true q h = (q, cc)
    go false q h = absurd cc

pub number-not : (f : List ℕ) → number_read f ≡ None → is_number f ≡ false
unfolding number_read
number-not f e = go (is_number f) refl e
  where
    go : (t : Bool) → is_number f ≡ t → cond t (Some (value_of f)) None ≡ None → is_number f ≡ false
    go true q h = absurd cc
    go false q h = q

pub step-not : (s : List ℕ) (at e : ℕ) → FieldEnd 9 s at e → number_read (take (e - at) (drop at s)) ≡ None → has_number (fields_from s at) ≡ false
step-not s at e f h = rw f.parts (number-not (take (e - at) (drop at s)) h)

pub step_is : (s : List ℕ) (at e v : ℕ) → FieldEnd 9 s at e → number_read (take (e - at) (drop at s)) ≡ Some v → Stepped s at v (e + 1)
step_is s at e v f h =
    let n = number_is (take (e - at) (drop at s)) v h in
    record { first = take (e - at) (drop at s); parts = f.parts; number = n.0; value = n.1; within = omega (arith, f.to) }
