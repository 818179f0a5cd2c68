-- R-3: two names compared as two numbers each stand to each other as their bytes from the left do.
-- Assumes nothing.
use mathlib.Core.Path.{◌≡◌, refl, sym, ap, ◌∙◌}
use mathlib.Core.Bool.{Bool, true, false, cond}
use mathlib.Core.List.{List, [], ◌∷◌, ◌++◌}
use Prim.Native.Nat.{ℕ, zero, suc, ◌+◌, ◌-◌, ◌*◌, ◌<◌, ◌≤◌, ◌^◌}
use native.Mathlib.Nat.{le_antisymm, mul-le-mul_right, mul_assoc, mul_comm, pow-suc, lt_of_lt_of_le}
use native.Mathlib.Omega.{arith}
use borrow.Author.Tests.{ltb-true, ltb-false, lt-ltb, le-ltb}
use lib.Dec.{ltb}
use lib.ListN.{length, get_or, take, drop, length-drop, take-append-drop}
use lib.Seq.{length-take-le, drop-cons, drop_at, drop-drop, take-take, take-add}
use Rattle.std.specs.declared.cmp.Ordering.{Ordering}
use Rattle.std.specs.declared.cmp.Ordering.TheVariants.{Less, Equal, Greater}
use Rattle.model.specs.Names.{compare_names, name_at}
use Rattle.model.proofs.TestLaws.{and_left, and_right, and_both}
use Rattle.std.specs.Int.{w64, from_be_bytes}
use Rattle.std.specs.Ordering.{ordering_then, nat_cmp, MatchOrdering}
use Rattle.std.proofs.lemmas.Bool.Decides.{nat_tests}
use Rattle.words.specs.Words.{word_from, word_of, first_of, compare_words, bytes, WordFits, WordsAsBytes}

-- what is known of the first byte, and of the rest
byte_first : (x : ℕ) (xs : List ℕ) → bytes (x ∷ xs) ≡ true → x < 256
byte_first x xs h = ltb-true x 256 (and_left (ltb x 256) (bytes xs) h)

byte_rest : (x : ℕ) (xs : List ℕ) → bytes (x ∷ xs) ≡ true → bytes xs ≡ true
byte_rest x xs h = and_right (ltb x 256) (bytes xs) h

then_equal : (c : Ordering) → ordering_then c Equal ≡ c
then_equal Less = refl
then_equal Equal = refl
then_equal Greater = refl

module _ {x y : ℕ} (rest : Ordering) where
  less : x < y → first_of x y rest ≡ Less
  less h = rw (lt-ltb x y h)

  more : y < x → first_of x y rest ≡ Greater
  more h = rw (le-ltb x y (omega arith), lt-ltb y x h)

  same : x ≡ y → first_of x y rest ≡ rest
  same e = rw (le-ltb x y (omega arith), le-ltb y x (omega arith))

-- two numbers, and then what follows
first_then : (x y : ℕ) (rest : Ordering) → first_of x y rest ≡ ordering_then (first_of x y Equal) rest
first_then x y rest = by_tests (ltb x y) (ltb y x)
  where
    by_tests : (s t : Bool) → cond s Less (cond t Greater rest) ≡ ordering_then (cond s Less (cond t Greater Equal)) rest
    by_tests true t = refl
    by_tests false true = refl
    by_tests false false = refl

-- two numbers as the library compares them
first_cmp : (x y : ℕ) → nat_cmp x y ≡ first_of x y Equal
first_cmp x y = grind (arith, nat_tests)

-- what stands before decides
front_less : (x y : List ℕ) (n m : ℕ) → length x ≡ length y → bytes x ≡ true → n < m → word_from n x < word_from m y
front_less [] [] n m e f h = h
front_less [] (b ∷ y) n m e f h = absurd (omega arith)
front_less (a ∷ x) [] n m e f h = absurd (omega arith)
front_less (a ∷ x) (b ∷ y) n m e f h =
    let k = byte_first a x f in
    front_less x y (n * 256 + a) (m * 256 + b) (omega arith) (byte_rest a x f) (omega arith)

-- bytes behind equal fronts as one number, whatever the length
words_then : (x y : List ℕ) (n : ℕ) (rest : Ordering) → length x ≡ length y → bytes x ≡ true → bytes y ≡ true
    → first_of (word_from n x) (word_from n y) rest ≡ ordering_then (compare_names x y) rest
unfolding compare_names
words_then [] [] n rest e f g = same {x = n} {y = n} rest refl
words_then [] (b ∷ y) n rest e f g = absurd (omega arith)
words_then (a ∷ x) [] n rest e f g = absurd (omega arith)
words_then (a ∷ x) (b ∷ y) n rest e f g =
    let l : length x ≡ length y = omega arith in
    by_first l (words_then x y (n * 256 + b) rest l (byte_rest a x f) (byte_rest b y g)) (ltb a b) (ltb b a) refl refl
  where
    by_first : length x ≡ length y → first_of (word_from (n * 256 + b) x) (word_from (n * 256 + b) y) rest ≡ ordering_then (compare_names x y) rest
        → (s t : Bool) → ltb a b ≡ s → ltb b a ≡ t
        → first_of (word_from (n * 256 + a) x) (word_from (n * 256 + b) y) rest ≡ ordering_then (cond s Less (cond t Greater (compare_names x y))) rest
    by_first l i true t p q = less rest (front_less x y (n * 256 + a) (n * 256 + b) l (byte_rest a x f) (omega (arith, ltb-true a b p)))
    by_first l i false true p q = more rest (front_less y x (n * 256 + b) (n * 256 + a) (sym l) (byte_rest b y g) (omega (arith, ltb-true b a q)))
    by_first l i false false p q =
        let k : a ≡ b = le_antisymm (ltb-false b a q) (ltb-false a b p) in
        rw k i

-- names in two parts: the first parts, then the second
parts_then : (x y u v : List ℕ) → length x ≡ length y → compare_names (x ++ u) (y ++ v) ≡ ordering_then (compare_names x y) (compare_names u v)
unfolding compare_names
parts_then [] [] u v e = refl
parts_then [] (b ∷ y) u v e = absurd (omega arith)
parts_then (a ∷ x) [] u v e = absurd (omega arith)
parts_then (a ∷ x) (b ∷ y) u v e = by_first (parts_then x y u v (omega arith)) (ltb a b) (ltb b a)
  where
    by_first : compare_names (x ++ u) (y ++ v) ≡ ordering_then (compare_names x y) (compare_names u v)
        → (s t : Bool) → cond s Less (cond t Greater (compare_names (x ++ u) (y ++ v))) ≡ ordering_then (cond s Less (cond t Greater (compare_names x y))) (compare_names u v)
    by_first i true t = refl
    by_first i false true = refl
    by_first i false false = i

length_half : (x : List ℕ) → length x ≡ 16 → length (take 8 x) ≡ 8
length_half x e = length-take-le 8 x (omega arith)

length_rest : (x : List ℕ) → length x ≡ 16 → length (drop 8 x) ≡ 8
length_rest x e = length-drop 8 x ∙ omega arith

bytes_half : (n : ℕ) (x : List ℕ) → bytes x ≡ true → (bytes (take n x) ≡ true) × (bytes (drop n x) ≡ true)
bytes_half zero x f = (refl, f)
bytes_half (suc n) [] f = (refl, refl)
bytes_half (suc n) (a ∷ x) f =
    let k = bytes_half n x (byte_rest a x f) in
    (and_both (ltb a 256) (bytes (take n x)) (and_left (ltb a 256) (bytes x) f) k.0, k.1)

-- equal first numbers: the second decide; so with bytes
pub words_as_bytes : WordsAsBytes
unfolding compare_words word_of
words_as_bytes x y e h f g =
    words_then (take 8 x) (take 8 y) 0 (first_of (word_from 0 (drop 8 x)) (word_from 0 (drop 8 y)) Equal) (length_half x e ∙ sym (length_half y h)) (bytes_half 8 x f).0 (bytes_half 8 y g).0
    ∙ ap (ordering_then (compare_names (take 8 x) (take 8 y))) (words_then (drop 8 x) (drop 8 y) 0 Equal (length_rest x e ∙ sym (length_rest y h)) (bytes_half 8 x f).1 (bytes_half 8 y g).1 ∙ then_equal _)
    ∙ sym (parts_then (take 8 x) (take 8 y) (drop 8 x) (drop 8 y) (length_half x e ∙ sym (length_half y h)))
    ∙ rw (take-append-drop 8 x, take-append-drop 8 y)

word_below : (xs : List ℕ) (n : ℕ) → bytes xs ≡ true → word_from n xs < (n + 1) * 256 ^ length xs
word_below [] n f = omega arith
word_below (x ∷ xs) n f =
    let k = byte_first x xs f in
    let m : (n * 256 + x + 1) * 256 ^ length xs ≤ (n + 1) * 256 * 256 ^ length xs = mul-le-mul_right (256 ^ length xs) (omega arith) in
    let e : (n + 1) * 256 ^ suc (length xs) ≡ (n + 1) * 256 * 256 ^ length xs = rw (pow-suc 256 (length xs), mul_comm (256 ^ length xs) 256) (sym (mul_assoc (n + 1) 256 (256 ^ length xs))) in
    rw e (lt_of_lt_of_le (word_below xs (n * 256 + x) (byte_rest x xs f)) m)

pub word_fits : WordFits
unfolding word_of
word_fits xs e f =
    let h = word_below xs 0 f in
    omega (arith, rw e at h)

-- ── what the code finds ──
-- eight bytes, as the library puts them together
eight_bytes : (a b c d e f g h : ℕ) → from_be_bytes w64 (a ∷ b ∷ c ∷ d ∷ e ∷ f ∷ g ∷ h ∷ []) ≡ word_of (a ∷ b ∷ c ∷ d ∷ e ∷ f ∷ g ∷ h ∷ [])
unfolding word_of
eight_bytes a b c d e f g h = omega arith

abbrev pub eight_of : List ℕ → List ℕ
eight_of s = get_or s 0 0 ∷ get_or s 1 0 ∷ get_or s 2 0 ∷ get_or s 3 0 ∷ get_or s 4 0 ∷ get_or s 5 0 ∷ get_or s 6 0 ∷ get_or s 7 0 ∷ []

word_eight : (s : List ℕ) → length s ≡ 8 → from_be_bytes w64 (eight_of s) ≡ word_of s
word_eight (a ∷ b ∷ c ∷ d ∷ e ∷ f ∷ g ∷ h ∷ []) l = eight_bytes a b c d e f g h
word_eight s l = absurd (omega arith)

length_part : (n : ℕ) (a : List ℕ) (p : ℕ) → p + n ≤ length a → length (take n (drop p a)) ≡ n
length_part n a p h = length-take-le n (drop p a) (rw (length-drop p a) (omega arith))

pub word_read : (a : List ℕ) (p : ℕ) → p + 8 ≤ length a → {w : ℕ} → w ≡ from_be_bytes w64 (eight_of (take (p + 8 - p) (drop p a))) → w ≡ word_of (take 8 (drop p a))
word_read a p h e = let d : p + 8 - p ≡ 8 = omega arith in (rw d at e) ∙ word_eight (take 8 (drop p a)) (length_part 8 a p h)

second_half : (a : List ℕ) (p : ℕ) → p + 16 ≤ length a → drop 8 (name_at a p) ≡ take 8 (drop (p + 8) a)
second_half a p h =
    ap (λ (l : List ℕ). drop 8 l) (take-add 8 8 (drop p a))
    ∙ drop_at (take 8 (drop p a)) (take 8 (drop 8 (drop p a))) 8 (length_part 8 a p (omega arith))
    ∙ ap (λ (l : List ℕ). take 8 l) (drop-drop 8 p a)

bytes_of : (a : List ℕ) → ((i : ℕ) → get_or a i 0 < 256) → (n p : ℕ) → p + n ≤ length a → bytes (take n (drop p a)) ≡ true
bytes_of a f zero p h = refl
bytes_of a f (suc n) p h =
    rw (drop-cons a p 0 (omega arith))
    (and_both (ltb (get_or a p 0) 256) (bytes (take n (drop (suc p) a))) (lt-ltb (get_or a p 0) 256 (f p)) (bytes_of a f n (suc p) (omega arith)))

-- what `then_with` answers
pub then_is : {Q : Type 0} (o : Ordering) {r rest : Ordering} → MatchOrdering o (r ≡ Less) Q (r ≡ Greater) → (Q → r ≡ rest) → r ≡ ordering_then o rest
then_is Less h f = h
then_is Equal h f = f h
then_is Greater h f = h

-- two names of 16 bytes where they lie: by their first numbers, and where they are equal by the second
module _ (a b : List ℕ) (p q : ℕ) (h : p + 16 ≤ length a) (k : q + 16 ≤ length b) where
  first_words : compare_words (name_at a p) (name_at b q)
      ≡ ordering_then (nat_cmp (word_of (take 8 (drop p a))) (word_of (take 8 (drop q b)))) (nat_cmp (word_of (take 8 (drop (p + 8) a))) (word_of (take 8 (drop (q + 8) b))))
  unfolding compare_words
  first_words =
      rw (take-take 8 16 (drop p a) (omega arith), take-take 8 16 (drop q b) (omega arith), second_half a p h, second_half b q k, first_cmp (word_of (take 8 (drop p a))) (word_of (take 8 (drop q b))), first_cmp (word_of (take 8 (drop (p + 8) a))) (word_of (take 8 (drop (q + 8) b))))
      (first_then (word_of (take 8 (drop p a))) (word_of (take 8 (drop q b))) (first_of (word_of (take 8 (drop (p + 8) a))) (word_of (take 8 (drop (q + 8) b))) Equal))

  -- the answer in both meanings, by what the first numbers say
  pub compared : ((i : ℕ) → get_or a i 0 < 256) → ((i : ℕ) → get_or b i 0 < 256)
      → {x y : ℕ} {r s : Ordering} → x ≡ word_of (take 8 (drop p a)) → y ≡ word_of (take 8 (drop q b)) → r ≡ nat_cmp x y
      → s ≡ ordering_then r (nat_cmp (word_of (take 8 (drop (p + 8) a))) (word_of (take 8 (drop (q + 8) b))))
      → (s ≡ compare_words (name_at a p) (name_at b q)) × (s ≡ compare_names (name_at a p) (name_at b q))
  compared f g {s = s} ex ey er e =
      let w : s ≡ compare_words (name_at a p) (name_at b q) = rw (er, ex, ey) at e ∙ sym first_words in
      (w, w ∙ words_as_bytes (name_at a p) (name_at b q) (length_part 16 a p h) (length_part 16 b q k) (bytes_of a f 16 p h) (bytes_of b g 16 q k))
