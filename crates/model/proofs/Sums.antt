-- Sums f 1 + .. + f n.
-- Assumes nothing.
use mathlib.Core.Path.{◌≡◌, refl, sym, ap, ◌∙◌}
use mathlib.Core.Bool.{Bool, cond}
use mathlib.Core.List.{[], ◌∷◌}
use Prim.Native.Nat.{ℕ, zero, suc, ◌+◌, ◌≤◌, ◌<◌}
use native.Mathlib.Omega.{arith}
use native.Mathlib.Decide.{ℕ_discrete, dec_lt}
use Rattle.model.specs.Lists.{up_to, sum_of}
use Rattle.model.specs.Claim.{R}
use Rattle.model.proofs.ListLaws.{up_same, up_cons, sum_append, sum_one}

abbrev pub sum_up : ℕ → (ℕ → ℕ) → ℕ
sum_up n f = sum_of (up_to n f)

abbrev pub one_if : Bool → ℕ
one_if t = cond t 1 0

-- how many of 1, .., n pass a test
abbrev pub how_many : ℕ → (ℕ → Bool) → ℕ
how_many n f = sum_up n (λ x. one_if (f x))

pub sum-none : (f : ℕ → ℕ) → sum_up 0 f ≡ 0
unfolding up_to sum_of
sum-none f = refl

pub sum-last : (n : ℕ) (f : ℕ → ℕ) → sum_up (suc n) f ≡ sum_up n f + f (suc n)
unfolding up_to
sum-last n f = sum_append (up_to n f) (f (suc n) ∷ []) ∙ ap (λ (x : ℕ). sum_up n f + x) (sum_one (f (suc n)))

pub sum_first : (n : ℕ) (f : ℕ → ℕ) → sum_up (suc n) f ≡ f 1 + sum_up n (λ j. f (suc j))
unfolding sum_of
sum_first n f = ap sum_of (up_cons n f)

pub sum_same : (n : ℕ) (f g : ℕ → ℕ) → ((j : ℕ) → R n j → f j ≡ g j) → sum_up n f ≡ sum_up n g
sum_same n f g h = ap sum_of (up_same n f g h)

pub sum-zero : (n : ℕ) (f : ℕ → ℕ) → ((j : ℕ) → R n j → f j ≡ 0) → sum_up n f ≡ 0
sum-zero zero f h = sum-none f
sum-zero (suc n) f h =
    let a = h (suc n) (record { lo = omega arith; hi = omega arith }) in
    let b = sum-zero n f (λ j r. h j (record { lo = r.lo; hi = omega (arith, r.hi) })) in
    omega (arith, sum-last n f)

pub sum_ones : (n : ℕ) (f : ℕ → ℕ) → ((j : ℕ) → R n j → f j ≡ 1) → sum_up n f ≡ n
sum_ones zero f h = sum-none f
sum_ones (suc n) f h =
    let a = h (suc n) (record { lo = omega arith; hi = omega arith }) in
    let b = sum_ones n f (λ j r. h j (record { lo = r.lo; hi = omega (arith, r.hi) })) in
    omega (arith, sum-last n f)

-- what stands past n is 0
pub sum_past : (n m : ℕ) (f : ℕ → ℕ) → n ≤ m → ((j : ℕ) → n < j → j ≤ m → f j ≡ 0) → sum_up m f ≡ sum_up n f
sum_past n zero f h z = let e : n ≡ 0 = omega arith in ap (λ (i : ℕ). sum_up i f) (sym e)
sum_past n (suc m) f h z = go (dec_lt n (suc m)) (λ q. sum_past n m f q (λ j a b. z j a (omega arith)))
  where
    go : Dec (n < suc m) → (n ≤ m → sum_up m f ≡ sum_up n f) → sum_up (suc m) f ≡ sum_up n f
    go (yes q) rec =
        let a = z (suc m) q (omega arith) in
        let b = rec (omega arith) in
        omega (arith, sum-last m f)
    go (no q) rec = let e : suc m ≡ n = omega arith in ap (λ (i : ℕ). sum_up i f) e

-- one summand rises by a
pub sum_rise : (n k a : ℕ) (f g : ℕ → ℕ) → R n k → ((j : ℕ) → ¬ (j ≡ k) → g j ≡ f j) → g k ≡ f k + a → sum_up n g ≡ sum_up n f + a
sum_rise zero k a f g r h e = absurd (omega (arith, r.lo, r.hi))
sum_rise (suc n) k a f g r h e = go (ℕ_discrete k (suc n)) (λ q. sum_rise n k a f g q h e)
  where
    go : Dec (k ≡ suc n) → (R n k → sum_up n g ≡ sum_up n f + a) → sum_up (suc n) g ≡ sum_up (suc n) f + a
    go (yes q) rec =
        let s : sum_up n g ≡ sum_up n f = sum_same n g f (λ j u. h j (λ (x : j ≡ k). omega (arith, u.hi))) in
        let e' : g (suc n) ≡ f (suc n) + a = ap g (sym q) ∙ e ∙ ap (λ (i : ℕ). f i + a) q in
        omega (arith, sum-last n g, sum-last n f)
    go (no q) rec =
        let s = rec (record { lo = r.lo; hi = omega (arith, r.hi) }) in
        let e' = h (suc n) (λ (x : suc n ≡ k). q (sym x)) in
        omega (arith, sum-last n g, sum-last n f)

pub sum_both : (n : ℕ) (f g : ℕ → ℕ) → sum_up n (λ j. f j + g j) ≡ sum_up n f + sum_up n g
sum_both zero f g = omega (arith, sum-none f, sum-none g, sum-none (λ j. f j + g j))
sum_both (suc n) f g = omega (arith, sum-last n f, sum-last n g, sum-last n (λ j. f j + g j), sum_both n f g)

-- one summand alone
pub sum_alone : (n k a : ℕ) (f : ℕ → ℕ) → R n k → ((j : ℕ) → ¬ (j ≡ k) → f j ≡ 0) → f k ≡ a → sum_up n f ≡ a
sum_alone n k a f r h e = omega (arith, sum_rise n k a (λ j. 0) f r h (omega (arith, e)), sum-zero n (λ j. 0) (λ j u. refl))
