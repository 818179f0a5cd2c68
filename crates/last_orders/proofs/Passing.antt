-- The pass over a district's numbers: what the ors of their bits, and of their sums with 2 ^ 63 - next, say of each.
-- Assumes nothing.
use Rattle.std.proofs.Common.{◌≡◌, ℕ, ◌+◌, ◌-◌, ◌/◌, ◌%◌, ◌^◌, ◌<◌, ◌≤◌, Bool, true, false, cond, ◌&&◌, ltb, leb, List, ℤ, sym, refl, ap, ◌∙◌, mod-eq_of_lt, arith, ltb-false, ltb-true, le-ltb, lt-ltb, le-leb}
use native.Mathlib.Decide.{dec_lt}
use lib.Bits.{bit_or}
use borrow.Author.Tests.{lt-leb}
use Rattle.model.specs.Tests.{all_to}
use Rattle.model.specs.Numbers.{cell}
use Rattle.model.specs.Claim.{R}
use Rattle.model.proofs.TestLaws.{and_left, and_right, and_both, all_none, all-step, all-at, all-to}
use Rattle.cells.proofs.Ors.{below, or_below, sorted, same_truth}

-- a number's bits x and their sum s with 2 ^ 63 - next are below 2 ^ 63 just where the number is below next
number-before : (v x s next : ℕ) → 1 ≤ next → next < 2 ^ 63 → v ≡ cond (below x) x (2 ^ 63) → s ≡ (x + (2 ^ 63 - next)) % 2 ^ 64 → (below x && below s) ≡ leb v (next - 1)
number-before v x s next l h e f = go (below x) refl
  where
    kept : x < 2 ^ 63 → s ≡ x + (2 ^ 63 - next)
    kept g = f ∙ mod-eq_of_lt (omega arith)

    sum : (t : Bool) → ltb x next ≡ t → x < 2 ^ 63 → below s ≡ leb x (next - 1)
    sum true q g = let m = ltb-true x next q in lt-ltb s (2 ^ 63) (omega (arith, kept g)) ∙ sym (le-leb x (next - 1) (omega arith))
    sum false q g = let m = ltb-false x next q in le-ltb s (2 ^ 63) (omega (arith, kept g)) ∙ sym (lt-leb x (next - 1) (omega arith))

    go : (t : Bool) → below x ≡ t → (t && below s) ≡ leb v (next - 1)
    go true q = let k : v ≡ x = e ∙ rw q in sum (ltb x next) refl (ltb-true x (2 ^ 63) q) ∙ ap (λ (y : ℕ). leb y (next - 1)) (sym k)
    go false q = let k : v ≡ 2 ^ 63 = e ∙ rw q in sym (lt-leb v (next - 1) (omega arith))

-- number c, from 1, of those from p on is one of 0, .., next - 1
abbrev pub before : List ℤ → ℕ → ℕ → ℕ → Bool
before xs p next c = leb (cell xs (p + (c - 1))) (next - 1)

module _ (xs : List ℤ) (p next half : ℕ) where
  -- what a turn, from 1, looks at: a number of either half
  abbrev both : ℕ → Bool
  both c = before xs p next c && before xs p next (half + c)

  -- what the first i turns have found
  abbrev pub Found : ℕ → ℕ → ℕ → Type 0
  Found low high i = (below low && below high) ≡ all_to i both

  pub none_found : Found 0 0 0
  none_found = sym (all_none both)

  pub found-step : (low high i x y : ℕ) {s t : ℕ} → 1 ≤ next → next < 2 ^ 63
      → cell xs (p + i) ≡ cond (below x) x (2 ^ 63) → cell xs (p + half + i) ≡ cond (below y) y (2 ^ 63)
      → s ≡ (x + (2 ^ 63 - next)) % 2 ^ 64 → t ≡ (y + (2 ^ 63 - next)) % 2 ^ 64
      → Found low high i → Found (bit_or low (bit_or x y)) (bit_or high (bit_or s t)) (i + 1)
  found-step low high i x y {s} {t} l h ex ey es et e =
      let px : p + (i + 1 - 1) ≡ p + i = omega arith in
      let py : p + (half + (i + 1) - 1) ≡ p + half + i = omega arith in
      let fx : (below x && below s) ≡ before xs p next (i + 1) = number-before _ x s next l h (ap (cell xs) px ∙ ex) es in
      let fy : (below y && below t) ≡ before xs p next (half + (i + 1)) = number-before _ y t next l h (ap (cell xs) py ∙ ey) et in
      rw (or_below low (bit_or x y), or_below x y, or_below high (bit_or s t), or_below s t, all-step both i, ← e, ← fx, ← fy)
      (sorted (below low) (below high) (below x) (below s) (below y) (below t))

  -- all turns: every number of the n has been looked at
  pub found_all : (n i low high : ℕ) → half ≡ n / 2 → i ≤ n - half → n - half ≤ i → Found low high i → (below low && below high) ≡ all_to n (before xs p next)
  found_all n i low high q a b e = e ∙ same_truth (all_to i both) (all_to n (before xs p next)) to from
    where
      to : all_to i both ≡ true → all_to n (before xs p next) ≡ true
      to f = all-to (before xs p next) n one
        where
          one : (k : ℕ) → R n k → before xs p next k ≡ true
          one k r = go (dec_lt i k)
            where
              go : Dec (i < k) → before xs p next k ≡ true
              go (yes g) =
                  let s : half + (k - half) ≡ k = omega arith in
                  let h = all-at both i f (k - half) (record { lo = omega arith; hi = omega (arith, r.hi) }) in
                  ap (before xs p next) (sym s) ∙ and_right (before xs p next (k - half)) (before xs p next (half + (k - half))) h
              go (no g) = and_left (before xs p next k) (before xs p next (half + k)) (all-at both i f k (record { lo = r.lo; hi = omega arith }))

      from : all_to n (before xs p next) ≡ true → all_to i both ≡ true
      from f = all-to both i one
        where
          one : (k : ℕ) → R i k → both k ≡ true
          one k r =
              and_both (before xs p next k) (before xs p next (half + k))
              (all-at (before xs p next) n f k (record { lo = r.lo; hi = omega (arith, r.hi) }))
              (all-at (before xs p next) n f (half + k) (record { lo = omega (arith, r.lo); hi = omega (arith, r.hi) }))
