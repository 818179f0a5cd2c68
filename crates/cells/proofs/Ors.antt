-- Numbers below 2 ^ 63, and what an or of numbers says of each: for passes that collect many tests in one number.
-- Assumes nothing.
use Rattle.std.proofs.Common.{◌≡◌, ℕ, ◌^◌, Bool, true, false, ◌&&◌, ltb, sym, refl, arith, ltb-false, ltb-true, le-ltb, lt-ltb}
use lib.Bits.{bit_or, or_lt, or_add_and, and_le_l, and_le_r}

abbrev pub below : ℕ → Bool
below a = ltb a (2 ^ 63)

-- an or is below 2 ^ 63 just where both are
pub or_below : (a b : ℕ) → below (bit_or a b) ≡ (below a && below b)
or_below a b = go (below a) (below b) refl refl
  where
    go : (s t : Bool) → below a ≡ s → below b ≡ t → below (bit_or a b) ≡ (s && t)
    go true true p q = lt-ltb (bit_or a b) (2 ^ 63) (or_lt 63 a b (ltb-true a (2 ^ 63) p) (ltb-true b (2 ^ 63) q))
    go true false p q = le-ltb (bit_or a b) (2 ^ 63) (omega (arith, ltb-false b (2 ^ 63) q, or_add_and a b, and_le_l a b))
    go false t p q = le-ltb (bit_or a b) (2 ^ 63) (omega (arith, ltb-false a (2 ^ 63) p, or_add_and a b, and_le_r a b))

-- two numbers of a turn with a test each beside what the turns before have found
pub sorted : (a b x s y t : Bool) → ((a && (x && y)) && (b && (s && t))) ≡ ((a && b) && ((x && s) && (y && t)))
sorted false b x s y t = refl
sorted true false false s y t = refl
sorted true false true s false t = refl
sorted true false true s true t = refl
sorted true true false s y t = refl
sorted true true true false false t = refl
sorted true true true false true t = refl
sorted true true true true y t = refl

-- two tests that hold where the other does
pub same_truth : (s t : Bool) → (s ≡ true → t ≡ true) → (t ≡ true → s ≡ true) → s ≡ t
same_truth true t f g = sym (f refl)
same_truth false true f g = g refl
same_truth false false f g = refl
