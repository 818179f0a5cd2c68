-- Laws of the range check of names: a look at the least and the largest byte of each place is a look at every name.
-- Assumes nothing.
use mathlib.Core.Path.{◌≡◌, refl, sym, ap, ◌∙◌}
use mathlib.Core.Bool.{Bool, true, false, ◌&&◌, not}
use mathlib.Core.List.{List, [], ◌∷◌, ◌++◌}
use Prim.Native.Nat.{min, max, ℕ, zero, suc, ◌+◌, ◌-◌, ◌*◌, ◌<◌, ◌≤◌}
use native.Mathlib.Nat.{add-zero}
use native.Mathlib.Numerals.{add-one}
use native.Mathlib.Omega.{arith}
use borrow.Author.Tests.{leb-true, leb-false, le-leb, eqb-true, eqb-false}
use lib.Dec.{leb, eqb}
use lib.Seq.{take-suc, take_all}
use lib.ListN.{length, get_or, take, replicate, get_or-replicate, length-replicate}
use Rattle.std.specs.List.{list_all}
use Rattle.std.proofs.lemmas.Bool.Decides.{nat_tests}
use Rattle.model.specs.Tests.{all_to}
use Rattle.model.specs.Names.{name_ok}
use Rattle.model.specs.Claim.{R}
use Rattle.model.proofs.TestLaws.{and_left, and_same, all-at, all-to, all_same}
use Rattle.lookup.specs.Listed.{name_ok_from}
use Rattle.lookup.specs.Extremes.{Noted, extremes_ok}

-- ── two tests at each of 1 .. n, and a test at each of two numbers ──
and_swap : (a b c d : Bool) → ((a && b) && (c && d)) ≡ ((a && c) && (b && d))
and_swap true true c d = refl
and_swap true false true d = refl
and_swap true false false d = refl
and_swap false b c d = refl

all-and : (f g : ℕ → Bool) (n : ℕ) → all_to n (λ k. f k && g k) ≡ (all_to n f && all_to n g)
unfolding all_to
all-and f g zero = refl
all-and f g (suc n) = rw (all-and f g n) (and_swap (all_to n f) (all_to n g) (f (suc n)) (g (suc n)))

all_swap : (f : ℕ → ℕ → Bool) (m n : ℕ) → all_to m (λ j. all_to n (f j)) ≡ all_to n (λ k. all_to m (λ j. f j k))
unfolding all_to
all_swap f m zero = all-to (λ j. true) m (λ j r. refl)
all_swap f m (suc n) = all-and (λ j. all_to n (f j)) (λ j. f j (suc n)) m ∙ rw (all_swap f m n)

-- ── a bound on the smaller or the larger of two is a bound on both ──
least_splits : (b x y : ℕ) → leb b (min x y) ≡ (leb b x && leb b y)
least_splits b x y = grind (arith, nat_tests)

most_splits : (b x y : ℕ) → leb (max x y) b ≡ (leb x b && leb y b)
most_splits b x y = grind (arith, nat_tests)

-- ── a run of names: at each place the choice of z and the bytes of customers 1 .. n ──
unfoldable pub chosen_to : (ℕ → ℕ → ℕ) → ℕ → (ℕ → ℕ) → ℕ → ℕ
chosen_to pick z f zero = z
chosen_to pick z f (suc n) = pick (chosen_to pick z f n) (f (suc n))

-- byte j, from 0, of the names of customer c
abbrev byte_at : List ℕ → ℕ → ℕ → ℕ → ℕ
byte_at names base j c = get_or names (base + 32 * (c - 1) + j) 0

pub record Kept (pick : ℕ → ℕ → ℕ) (z : ℕ) (names : List ℕ) (base : ℕ) (xs : List ℕ) (n : ℕ) : Type 0 where
  pub size : length xs ≡ 32
  pub at : (j : ℕ) → j < 32 → get_or xs j 0 ≡ chosen_to pick z (byte_at names base j) n

module _ {pick : ℕ → ℕ → ℕ} {z : ℕ} {names : List ℕ} {base : ℕ} where
  pub kept-none : Kept pick z names base (replicate 32 z) 0
  unfolding chosen_to
  kept-none = record { size = length-replicate 32 z; at = λ j h. get_or-replicate 32 j z 0 h }

  pub kept_step : {xs ys : List ℕ} {n : ℕ} → Kept pick z names base xs n → Noted pick names (base + 32 * n) xs ys → Kept pick z names base ys (n + 1)
  unfolding chosen_to
  kept_step {xs} {ys} {n} k s =
      let m : suc n - 1 ≡ n = omega arith in
      record { size = s.size; at = λ j h. s.at j h ∙ rw (add-one n, m, k.at j h) }

-- a test of what is kept is a test of each byte
module _ {pick : ℕ → ℕ → ℕ} {z : ℕ} (test : ℕ → Bool) (starts : test z ≡ true) (split : (x y : ℕ) → test (pick x y) ≡ (test x && test y)) where
  chosen_test : (f : ℕ → ℕ) (n : ℕ) → test (chosen_to pick z f n) ≡ all_to n (λ c. test (f c))
  unfolding chosen_to all_to
  chosen_test f zero = starts
  chosen_test f (suc n) = split (chosen_to pick z f n) (f (suc n)) ∙ rw (chosen_test f n)

  kept_test : {names : List ℕ} {base : ℕ} {xs : List ℕ} {n : ℕ} → Kept pick z names base xs n → (j : ℕ) → j < 32 → test (get_or xs j 0) ≡ all_to n (λ c. test (byte_at names base j c))
  kept_test {names} {base} {xs} {n} k j h = ap test (k.at j h) ∙ chosen_test (byte_at names base j) n

-- ── the look at the end: a test of every entry of a list is one at each place ──
all_list : (test : ℕ → Bool) (xs : List ℕ) (n : ℕ) → n ≤ length xs → list_all test (take n xs) ≡ all_to n (λ j. test (get_or xs (j - 1) 0))
unfolding all_to
all_list test xs zero h = refl
all_list test xs (suc n) h =
    let z : suc n - 1 ≡ n = omega arith in
    rw (take-suc xs n 0 h, z) (all_end (take n xs) (get_or xs n 0) ∙ and_same (all_list test xs n (omega arith)) refl)
  where
    all_end : (ys : List ℕ) (y : ℕ) → list_all test (ys ++ (y ∷ [])) ≡ (list_all test ys && test y)
    all_end [] y = and_true (test y)
      where
        and_true : (b : Bool) → (b && true) ≡ b
        and_true true = refl
        and_true false = refl
    all_end (z ∷ ys) y = rw (all_end ys y) (and_three (test z) (list_all test ys) (test y))
      where
        and_three : (a b c : Bool) → (a && (b && c)) ≡ ((a && b) && c)
        and_three true b c = refl
        and_three false b c = refl

all_places : (test : ℕ → Bool) (xs : List ℕ) → length xs ≡ 32 → list_all test xs ≡ all_to 32 (λ j. test (get_or xs (j - 1) 0))
all_places test xs e = ap (list_all test) (sym (take_all 32 xs (omega arith))) ∙ all_list test xs 32 (omega arith)

-- a byte in range is a space or above it
above_space : (x : ℕ) (a : Bool) → (a ≡ true → leb 32 x ≡ true) → (a && leb 33 x) ≡ (a && not (eqb x 32))
above_space x false h = refl
above_space x true h = go (leb 33 x) (eqb x 32) refl refl
  where
    go : (s t : Bool) → leb 33 x ≡ s → eqb x 32 ≡ t → s ≡ not t
    go true true p q = absurd (omega (arith, leb-true, eqb-true))
    go true false p q = refl
    go false true p q = refl
    go false false p q = absurd (eqb-false x 32 q (omega (arith, leb-false, leb-true 32 x (h refl))))

module _ {names : List ℕ} {base n : ℕ} {low high : List ℕ} (l : Kept min 255 names base low n) (h : Kept max 0 names base high n) where
  -- byte j, from 1, of the names of customer c is in range
  byte_ok : ℕ → ℕ → Bool
  byte_ok j c = leb 32 (byte_at names base (j - 1) c) && leb (byte_at names base (j - 1) c) 126

  low_above : (b j : ℕ) → b ≤ 255 → j < 32 → leb b (get_or low j 0) ≡ all_to n (λ c. leb b (byte_at names base j c))
  low_above b j m k = kept_test (leb b) (le-leb b 255 m) (least_splits b) l j k

  place_ok : ℕ → Bool
  place_ok j = leb 32 (get_or low (j - 1) 0) && leb (get_or high (j - 1) 0) 126

  place-all : (j : ℕ) → R 32 j → place_ok j ≡ all_to n (byte_ok j)
  unfolding place_ok byte_ok
  place-all j r =
      let k : j - 1 < 32 = omega (arith, r.hi, r.lo) in
      and_same (low_above 32 (j - 1) (omega arith) k) (kept_test (λ x. leb x 126) refl (most_splits 126) h (j - 1) k)
      ∙ sym (all-and (λ c. leb 32 (byte_at names base (j - 1) c)) (λ c. leb (byte_at names base (j - 1) c) 126) n)

  places-all : (list_all (leb 32) low && list_all (λ x. leb x 126) high) ≡ all_to 32 place_ok
  unfolding place_ok
  places-all = and_same (all_places (leb 32) low l.size) (all_places (λ x. leb x 126) high h.size) ∙ sym (all-and (λ j. leb 32 (get_or low (j - 1) 0)) (λ j. leb (get_or high (j - 1) 0) 126) 32)

  name-all : (c : ℕ) → (all_to 32 (λ j. byte_ok j c) && leb 33 (byte_at names base 0 c)) ≡ name_ok_from names base c
  unfolding name_ok_from name_ok byte_ok
  name-all c =
      above_space (byte_at names base 0 c) (all_to 32 (λ j. byte_ok j c)) (λ e. and_left _ _ (all-at (λ j. byte_ok j c) 32 e 1 (record { lo = omega arith; hi = omega arith })))
      ∙ rw add-zero

  pub extremes_all : extremes_ok low high ≡ all_to n (name_ok_from names base)
  extremes_all =
      and_same (places-all ∙ all_same place_ok (λ j. all_to n (byte_ok j)) 32 place-all ∙ all_swap byte_ok 32 n) (low_above 33 0 (omega arith) (omega arith))
      ∙ sym (all-and (λ c. all_to 32 (λ j. byte_ok j c)) (λ c. leb 33 (byte_at names base 0 c)) n)
      ∙ all_same (λ c. all_to 32 (λ j. byte_ok j c) && leb 33 (byte_at names base 0 c)) (name_ok_from names base) n (λ c r. name-all c)
