-- Decimal numbers: what is written is a number and reads back, and a number that is read is what writing gives.
-- Assumes nothing.
use Prim.Native.Nat.{ℕ, zero, suc, ◌+◌, ◌-◌, ◌*◌, ◌/◌, ◌%◌, ◌^◌, ◌<◌, ◌≤◌}
use mathlib.Core.Path.{◌≡◌, refl, sym, ap, ◌∙◌}
use mathlib.Core.List.{List, [], ◌∷◌, ◌++◌, append-nil, append_assoc}
use mathlib.Core.Bool.{Bool, true, false, ◌||◌, not, cond}
use lib.Dec.{leb, ltb, eqb}
use lib.ListN.{length, get_or, length-append, get_or-append}
use native.Mathlib.Nat.{pow-succ', pow-le-pow_right, lt_of_lt_of_le, add-zero, zero-add, suc-add}
use native.Mathlib.Omega.{arith}
use borrow.Author.Tests.{lt-ltb, le-ltb, le-leb, leb-true, eq-eqb, ne_eqb, eqb-true, ltb-true, ltb-false}
use Rattle.model.specs.Tests.{all_of}
use Rattle.model.specs.Text.{is_digit, is_number, value_from, value_of, digits, decimal}
use Rattle.model.proofs.TestLaws.{and_left, and_right, and_both, every-each, each-every}

pub record Digit (x : ℕ) : Type 0 where
  pub low : 48 ≤ x
  pub high : x ≤ 57

pub digit_in : (x : ℕ) → is_digit x ≡ true → Digit x
digit_in x e = record { low = leb-true 48 x (and_left (leb 48 x) (leb x 57) e); high = leb-true x 57 (and_right (leb 48 x) (leb x 57) e) }

pub in_digit : (x : ℕ) → 48 ≤ x → x ≤ 57 → is_digit x ≡ true
in_digit x h k = rw (le-leb 48 x h, le-leb x 57 k)

pub all_append : {A : Type 0} (f : A → Bool) (xs ys : List A) → all_of f xs ≡ true → all_of f ys ≡ true → all_of f (xs ++ ys) ≡ true
all_append f [] ys e h = h
all_append f (x ∷ xs) ys e h = and_both (f x) (all_of f (xs ++ ys)) (and_left (f x) (all_of f xs) e) (all_append f xs ys (and_right (f x) (all_of f xs) e) h)

-- ── writing ──
-- more fuel changes nothing
fuel : (f n : ℕ) → n < 10 ^ suc f → digits f n ≡ digits (suc f) n
fuel zero n h = rw (lt-ltb n 10 h)
fuel (suc f) n h = rw (← fuel f (n / 10) (omega (arith, pow-succ' 10 (suc f))))

fuels : (k f n : ℕ) → n < 10 ^ suc f → digits f n ≡ digits (k + f) n
fuels zero f n h = rw zero-add
fuels (suc k) f n h =
    let m : suc f ≤ suc (k + f) = omega arith in
    let top : 10 ^ suc f ≤ 10 ^ suc (k + f) = pow-le-pow_right (omega arith) m in
    fuels k f n h ∙ fuel (k + f) n (lt_of_lt_of_le h top) ∙ ap (λ (g : ℕ). digits g n) (sym (suc-add k f))

-- a number of at most f + 1 digits, by as much fuel
pub dec_digits : (f n : ℕ) → f ≤ 19 → n < 10 ^ suc f → decimal n ≡ digits f n
unfolding decimal
dec_digits f n h l = let e : 19 - f + f ≡ 19 = omega arith in sym (fuels (19 - f) f n l ∙ ap (λ (g : ℕ). digits g n) e)

pub dec_small : (n : ℕ) → n < 10 → decimal n ≡ (48 + n) ∷ []
unfolding decimal
dec_small n h = rw (lt-ltb n 10 h)

pub dec_more : (n : ℕ) → 10 ≤ n → n < 100000000000000000000 → decimal n ≡ decimal (n / 10) ++ ((48 + n % 10) ∷ [])
unfolding decimal
dec_more n h l = rw (le-ltb n 10 h, fuel 18 (n / 10) (omega arith))

-- how many digits
pub length_small : (n : ℕ) → n < 10 → length (decimal n) ≡ 1
length_small n h = ap length (dec_small n h)

pub length_more : (n : ℕ) → 10 ≤ n → n < 100000000000000000000 → length (decimal n) ≡ length (decimal (n / 10)) + 1
length_more n h l = ap length (dec_more n h l) ∙ length-append (decimal (n / 10)) ((48 + n % 10) ∷ [])

digits-most : (f n : ℕ) → length (digits f n) ≤ suc f
digits-most zero n = omega arith
digits-most (suc f) n = go (ltb n 10) (digits-most f (n / 10))
  where
    go : (t : Bool) → length (digits f (n / 10)) ≤ suc f → length (cond t ((48 + n) ∷ []) (digits f (n / 10) ++ ((48 + n % 10) ∷ []))) ≤ suc (suc f)
    go true h = omega arith
    go false h = omega (arith, length-append (digits f (n / 10)) ((48 + n % 10) ∷ []))

pub dec_most : (n : ℕ) → length (decimal n) ≤ 20
unfolding decimal
dec_most n = digits-most 19 n

pub dec_few : (f n : ℕ) → f ≤ 19 → n < 10 ^ suc f → length (decimal n) ≤ suc f
dec_few f n h l = rw (dec_digits f n h l) (digits-most f n)

-- a digit after a number
pub dec_next : (v x : ℕ) → 1 ≤ v → v < 10000000000000000000 → Digit x → decimal (v * 10 + (x - 48)) ≡ decimal v ++ (x ∷ [])
dec_next v x l h d =
    let q : (v * 10 + (x - 48)) / 10 ≡ v = omega (arith, d.low, d.high) in
    let r : 48 + (v * 10 + (x - 48)) % 10 ≡ x = omega (arith, d.low, d.high) in
    dec_more (v * 10 + (x - 48)) (omega arith) (omega (arith, d.low, d.high)) ∙ rw (q, r)

-- ── what is written is a number ──
record Written (f n : ℕ) (s : List ℕ) : Type 0 where
  some : 1 ≤ length s
  most : length s ≤ suc f
  each : all_of is_digit s ≡ true
  lead : 1 ≤ n → 49 ≤ get_or s 0 0
  none : n < 10 → length s ≡ 1

written : (f n : ℕ) → n < 10 ^ suc f → Written f n (digits f n)
written zero n h = record { some = omega arith; most = omega arith; each = rw (in_digit (48 + n) (omega arith) (omega arith)); lead = λ l. omega arith; none = λ l. refl }
written (suc f) n h = go (ltb n 10) refl (λ q. written f (n / 10) q)
  where
    go : (t : Bool) → ltb n 10 ≡ t → (n / 10 < 10 ^ suc f → Written f (n / 10) (digits f (n / 10))) → Written (suc f) n (cond t ((48 + n) ∷ []) (digits f (n / 10) ++ ((48 + n % 10) ∷ [])))
    go true e rec =
        let l : n < 10 = ltb-true n 10 e in
        record { some = omega arith; most = omega arith; each = rw (in_digit (48 + n) (omega arith) (omega arith)); lead = λ g. omega arith; none = λ g. refl }
    go false e rec =
        let l : 10 ≤ n = ltb-false n 10 e in
        let w = rec (omega (arith, pow-succ' 10 (suc f))) in
        let xs = digits f (n / 10) in
        let long : length (xs ++ ((48 + n % 10) ∷ [])) ≡ length xs + 1 = length-append xs ((48 + n % 10) ∷ []) in
        let first : get_or (xs ++ ((48 + n % 10) ∷ [])) 0 0 ≡ get_or xs 0 0 = get_or-append xs ((48 + n % 10) ∷ []) 0 0 w.some in
        record {
          some = omega arith;
          most = omega (arith, w.most);
          each = all_append is_digit xs ((48 + n % 10) ∷ []) w.each (rw (in_digit (48 + n % 10) (omega arith) (omega arith)));
          lead = λ g. rw first (w.lead (omega arith));
          none = λ (g : n < 10). absurd (omega arith);
        }

or_right : (a b : Bool) → b ≡ true → (a || b) ≡ true
or_right true b e = refl
or_right false b e = e

not-false : (t : Bool) → t ≡ false → not t ≡ true
not-false t e = rw e

number_digits : (n : ℕ) → n < 10000000000 → is_number (digits 9 n) ≡ true
unfolding is_number
number_digits n h =
    let w = written 9 n h in
    let s = digits 9 n in
    each-every (leb 1 (length s) ∷ leb (length s) 10 ∷ all_of is_digit s ∷ (eqb (length s) 1 || not (eqb (get_or s 0 0) 48)) ∷ [])
    (le-leb 1 (length s) w.some, (le-leb (length s) 10 w.most, (w.each, (lead (ltb n 1) refl w, tt))))
  where
    lead : (t : Bool) → ltb n 1 ≡ t → Written 9 n (digits 9 n) → (eqb (length (digits 9 n)) 1 || not (eqb (get_or (digits 9 n) 0 0) 48)) ≡ true
    lead true e w =
        let l : n < 1 = ltb-true n 1 e in
        rw (eq-eqb (length (digits 9 n)) 1 (w.none (omega arith)))
    lead false e w =
        let l : 1 ≤ n = ltb-false n 1 e in
        let g = w.lead l in
        or_right (eqb (length (digits 9 n)) 1) (not (eqb (get_or (digits 9 n) 0 0) 48))
        (not-false (eqb (get_or (digits 9 n) 0 0) 48) (ne_eqb (get_or (digits 9 n) 0 0) 48 (λ q. omega arith)))

pub number_written : (n : ℕ) → n < 10000000000 → is_number (decimal n) ≡ true
number_written n h = ap is_number (dec_digits 9 n (omega arith) h) ∙ number_digits n h

value_snoc : (v x : ℕ) (s : List ℕ) → value_from v (s ++ (x ∷ [])) ≡ value_from v s * 10 + (x - 48)
value_snoc v x [] = refl
value_snoc v x (y ∷ s) = value_snoc (v * 10 + (y - 48)) x s

value-digits : (f n : ℕ) → n < 10 ^ suc f → value_from 0 (digits f n) ≡ n
value-digits zero n h = omega arith
value-digits (suc f) n h = go (ltb n 10) refl (λ q. value-digits f (n / 10) q)
  where
    go : (t : Bool) → ltb n 10 ≡ t → (n / 10 < 10 ^ suc f → value_from 0 (digits f (n / 10)) ≡ n / 10) → value_from 0 (cond t ((48 + n) ∷ []) (digits f (n / 10) ++ ((48 + n % 10) ∷ []))) ≡ n
    go true e rec = omega arith
    go false e rec =
        let r = rec (omega (arith, pow-succ' 10 (suc f))) in
        value_snoc 0 (48 + n % 10) (digits f (n / 10)) ∙ omega (arith, r)

pub value_written : (n : ℕ) → n < 100000000000000000000 → value_of (decimal n) ≡ n
unfolding value_of decimal
value_written n h = value-digits 19 n h

-- ── a number that is read is what writing gives ──
value_dec : (s : List ℕ) (v k : ℕ) → 1 ≤ v → v < 10 ^ k → k + length s ≤ 20 → all_of is_digit s ≡ true → (decimal (value_from v s) ≡ decimal v ++ s) × (value_from v s < 10 ^ (k + length s))
value_dec [] v k l h j e = (sym (append-nil (decimal v)), rw (add-zero k) h)
value_dec (x ∷ s) v k l h j e =
    let d = digit_in x (and_left (is_digit x) (all_of is_digit s) e) in
    let few : k ≤ 19 = omega arith in
    let top : 10 ^ k ≤ 10 ^ 19 = pow-le-pow_right (omega arith) few in
    let small : v < 10000000000000000000 = lt_of_lt_of_le h top in
    let next : v * 10 + (x - 48) < 10 ^ suc k = omega (arith, pow-succ' 10 k, d.low, d.high) in
    let r = value_dec s (v * 10 + (x - 48)) (suc k) (omega arith) next (omega arith) (and_right (is_digit x) (all_of is_digit s) e) in
    let same : suc k + length s ≡ k + suc (length s) = omega arith in
    (r.0 ∙ ap (λ (u : List ℕ). u ++ s) (dec_next v x l small d) ∙ append_assoc (decimal v) (x ∷ []) s, rw (← same) r.1)

-- what the tests of a number say
pub record Number (s : List ℕ) : Type 0 where
  pub same : decimal (value_of s) ≡ s
  pub fits : value_of s < 10000000000

or_left : (a b : Bool) → b ≡ false → (a || b) ≡ true → a ≡ true
or_left true b h e = refl
or_left false b h e = sym h ∙ e

-- "0" stands by itself
zero_alone : (x : ℕ) (s : List ℕ) → eqb (suc (length s)) 1 ≡ true → x ≡ 48 → Number (x ∷ s)
unfolding value_of
zero_alone x [] e z =
    let v : 0 * 10 + (x - 48) ≡ 0 = omega arith in
    record { same = rw v (dec_small 0 (omega arith) ∙ ap (λ (y : ℕ). y ∷ []) (omega arith)); fits = omega arith }
zero_alone x (y ∷ s) e z = absurd (omega (arith, eqb-true (suc (suc (length s))) 1 e))

pub number_read : (s : List ℕ) → is_number s ≡ true → Number s
unfolding is_number value_of
number_read [] e = absurd (omega (arith, leb-true 1 0 (every-each (leb 1 0 ∷ leb 0 10 ∷ true ∷ (eqb 0 1 || not (eqb 0 48)) ∷ []) e).0))
number_read (x ∷ s) e =
    let h = every-each (leb 1 (length (x ∷ s)) ∷ leb (length (x ∷ s)) 10 ∷ all_of is_digit (x ∷ s) ∷ (eqb (length (x ∷ s)) 1 || not (eqb x 48)) ∷ []) e in
    let d = digit_in x (and_left (is_digit x) (all_of is_digit s) h.1.1.0) in
    let rest = and_right (is_digit x) (all_of is_digit s) h.1.1.0 in
    let long : length (x ∷ s) ≤ 10 = leb-true _ _ h.1.0 in
    go (ltb x 49) refl d long rest h.1.1.1.0
  where
    first : 0 * 10 + (x - 48) ≡ x - 48
    first = omega arith

    go : (t : Bool) → ltb x 49 ≡ t → Digit x → suc (length s) ≤ 10 → all_of is_digit s ≡ true → (eqb (suc (length s)) 1 || not (eqb x 48)) ≡ true → Number (x ∷ s)
    go true q d long rest lead =
        let z : x ≡ 48 = omega (arith, ltb-true x 49 q, d.low) in
        zero_alone x s (or_left (eqb (suc (length s)) 1) (not (eqb x 48)) (rw (eq-eqb x 48 z)) lead) z
    go false q d long rest lead =
        let l : 49 ≤ x = ltb-false x 49 q in
        let r = value_dec s (x - 48) 1 (omega arith) (omega (arith, d.high)) (omega arith) rest in
        let w : decimal (x - 48) ≡ x ∷ [] = dec_small (x - 48) (omega (arith, d.high)) ∙ ap (λ (y : ℕ). y ∷ []) (omega (arith, d.low)) in
        let ten : 1 + length s ≤ 10 = omega arith in
        let top : 10 ^ (1 + length s) ≤ 10 ^ 10 = pow-le-pow_right (omega arith) ten in
        record {
          same = ap (λ (v : ℕ). decimal (value_from v s)) first ∙ r.0 ∙ ap (λ (u : List ℕ). u ++ s) w;
          fits = rw first (lt_of_lt_of_le r.1 top);
        }
