-- Laws of the lists that the calls speak of: f 1 .. f n, sums, the first and the last number that passes a test.
-- Assumes nothing.
use mathlib.Core.Path.{◌≡◌, refl, sym, ap, ◌∙◌}
use mathlib.Core.Bool.{Bool, true, false, cond}
use mathlib.Core.List.{List, [], ◌∷◌, ◌++◌}
use Prim.Native.Nat.{ℕ, zero, suc, ◌+◌, ◌-◌, ◌*◌, ◌≤◌, ◌<◌}
use native.Mathlib.Nat.{add-zero, zero-add, add_assoc, le_antisymm}
use native.Mathlib.Numerals.{add-one}
use native.Mathlib.Omega.{arith}
use native.Mathlib.Decide.{dec_lt}
use lib.ListN.{length, length-append}
use Rattle.model.specs.Lists.{up_to, sum_of, lowest, largest}
use Rattle.model.specs.Claim.{R}

module _ {A : Type 0} where
  pub up_none : (f : ℕ → A) → up_to 0 f ≡ []
  unfolding up_to
  up_none f = refl

  pub up_step : (n : ℕ) (f : ℕ → A) → up_to (n + 1) f ≡ up_to n f ++ (f (n + 1) ∷ [])
  unfolding up_to
  up_step n f = rw add-one

  pub length_up : (n : ℕ) (f : ℕ → A) → length (up_to n f) ≡ n
  unfolding up_to
  length_up zero f = refl
  length_up (suc n) f = length-append (up_to n f) (f (suc n) ∷ []) ∙ rw (length_up n f, add-one n)

  -- the same entries, the same list
  pub up_same : (n : ℕ) (f g : ℕ → A) → ((j : ℕ) → R n j → f j ≡ g j) → up_to n f ≡ up_to n g
  unfolding up_to
  up_same zero f g h = refl
  up_same (suc n) f g h =
      let p = up_same n f g (λ j r. h j (record { lo = r.lo; hi = omega (arith, r.hi) })) in
      rw (p, h (suc n) (record { lo = omega arith; hi = omega arith }))

  -- taken from the front
  pub up_cons : (n : ℕ) (f : ℕ → A) → up_to (suc n) f ≡ f 1 ∷ up_to n (λ j. f (suc j))
  unfolding up_to
  up_cons zero f = refl
  up_cons (suc n) f = ap (λ (l : List A). l ++ (f (suc (suc n)) ∷ [])) (up_cons n f)

pub sum_append : (xs ys : List ℕ) → sum_of (xs ++ ys) ≡ sum_of xs + sum_of ys
unfolding sum_of
sum_append [] ys = sym (zero-add (sum_of ys))
sum_append (x ∷ xs) ys = rw (sum_append xs ys) (sym (add_assoc x (sum_of xs) (sum_of ys)))

pub sum_one : (x : ℕ) → sum_of (x ∷ []) ≡ x
unfolding sum_of
sum_one x = add-zero x

-- one number more
pub sum_step : (n : ℕ) (f : ℕ → ℕ) → sum_of (up_to (n + 1) f) ≡ sum_of (up_to n f) + f (n + 1)
sum_step n f = ap sum_of (up_step n f) ∙ sum_append (up_to n f) (f (n + 1) ∷ []) ∙ ap (λ (m : ℕ). sum_of (up_to n f) + m) (sum_one (f (n + 1)))

pub sum_le : (n top : ℕ) (f : ℕ → ℕ) → ((j : ℕ) → R n j → f j ≤ top) → sum_of (up_to n f) ≤ top * n
unfolding up_to sum_of
sum_le zero top f h = omega arith
sum_le (suc n) top f h =
    let p = sum_le n top f (λ j r. h j (record { lo = r.lo; hi = omega (arith, r.hi) })) in
    let q = h (suc n) (record { lo = omega arith; hi = omega arith }) in
    rw (sum_append (up_to n f) (f (suc n) ∷ []), sum_one (f (suc n))) (omega arith)

module _ (f : ℕ → Bool) where
  -- ── the first of n numbers from k on ──
  pub lowest_here : (k n : ℕ) → f k ≡ true → 0 < n → lowest f k n ≡ k
  unfolding lowest
  lowest_here k zero e h = absurd (omega arith)
  lowest_here k (suc n) e h = rw e

  pub lowest-past : (k n : ℕ) → f k ≡ false → 0 < n → lowest f k n ≡ lowest f (k + 1) (n - 1)
  unfolding lowest
  lowest-past k zero e h = absurd (omega arith)
  lowest-past k (suc n) e h = let q : suc n - 1 ≡ n = omega arith in rw (e, q, add-one k)

  pub lowest-none : (k : ℕ) → lowest f k 0 ≡ 0
  unfolding lowest
  lowest-none k = refl

  pub largest_here : (n : ℕ) → f n ≡ true → 0 < n → largest f n ≡ n
  unfolding largest
  largest_here zero e h = absurd (omega arith)
  largest_here (suc n) e h = rw e

-- what a first number is: it passes, it is one of the n from k on, and none before it passes
pub record Lowest (f : ℕ → Bool) (k n o : ℕ) : Type 0 where
  pub passes : f o ≡ true
  pub from : k ≤ o
  pub to : o < k + n
  pub first : (j : ℕ) → k ≤ j → j < o → f j ≡ false

pub lowest-is : (f : ℕ → Bool) (k n o : ℕ) → lowest f k n ≡ suc o → Lowest f k n (suc o)
unfolding lowest
lowest-is f k zero o e = absurd (omega arith)
lowest-is f k (suc n) o e = go (f k) refl (λ q. lowest-is f (suc k) n o q)
  where
    before : (l : Lowest f (suc k) n (suc o)) → f k ≡ false → Lowest f k (suc n) (suc o)
    before l p = record { passes = l.passes; from = omega (arith, l.from); to = omega (arith, l.to); first = λ j h g. at j h g (dec_lt k j) }
      where
        at : (j : ℕ) → k ≤ j → j < suc o → Dec (k < j) → f j ≡ false
        at j h g (yes q) = l.first j q g
        at j h g (no q) = let s : j ≡ k = omega arith in ap f s ∙ p

    go : (t : Bool) → f k ≡ t → (lowest f (suc k) n ≡ suc o → Lowest f (suc k) n (suc o)) → Lowest f k (suc n) (suc o)
    go true p rec =
        let s : k ≡ suc o = ap (λ (t : Bool). cond t k (lowest f (suc k) n)) (sym p) ∙ e in
        record { passes = sym (ap f s) ∙ p; from = omega arith; to = omega arith; first = λ j h g. absurd (omega arith) }
    go false p rec = before (rec (ap (λ (t : Bool). cond t k (lowest f (suc k) n)) (sym p) ∙ e)) p

pub lowest_in : (f : ℕ → Bool) (n : ℕ) → lowest f 1 n ≤ n
lowest_in f n = go (lowest f 1 n) refl
  where
    go : (o : ℕ) → lowest f 1 n ≡ o → o ≤ n
    go zero e = omega arith
    go (suc o) e = omega (arith, (lowest-is f 1 n o e).to)

-- what a last number is
pub largest_in : (f : ℕ → Bool) (n : ℕ) → largest f n ≤ n
unfolding largest
largest_in f zero = omega arith
largest_in f (suc n) = go (f (suc n)) (largest_in f n)
  where
    go : (t : Bool) → largest f n ≤ n → cond t (suc n) (largest f n) ≤ suc n
    go true h = omega arith
    go false h = omega arith

-- the same tests, the same first number
pub lowest-same : (f g : ℕ → Bool) (k n : ℕ) → ((j : ℕ) → k ≤ j → j < k + n → f j ≡ g j) → lowest f k n ≡ lowest g k n
unfolding lowest
lowest-same f g k zero h = refl
lowest-same f g k (suc n) h =
    let t = lowest-same f g (suc k) n (λ j l u. h j (omega arith) (omega arith)) in
    rw (h k (omega arith) (omega arith), t)

-- the same tests, the same largest number
pub largest-same : (f g : ℕ → Bool) (n : ℕ) → ((j : ℕ) → R n j → f j ≡ g j) → largest f n ≡ largest g n
unfolding largest
largest-same f g zero h = refl
largest-same f g (suc n) h =
    let p = largest-same f g n (λ j r. h j (record { lo = r.lo; hi = omega (arith, r.hi) })) in
    rw (p, h (suc n) (record { lo = omega arith; hi = omega arith }))

-- what a loop has made at its end
pub at_end : {A : Type 0} (f : ℕ → A) {x : A} {i n : ℕ} → i ≤ n → n ≤ i → x ≡ f i → x ≡ f n
at_end f h k e = e ∙ ap f (le_antisymm h k)
