-- R-3. Names a word at a time: "However by-name lookups compare 16 bytes now, compare eight at a time, with the same meaning, ties included."
-- No rule of the book is here: `compare_names` of the model stays the meaning, and the only comparison that the rules cite.
-- Assumes nothing.
use Rattle.std.specs.Prelude.{◌≡◌, Bool, true, cond, List, [], ◌∷◌, ℕ, ◌+◌, ◌*◌, ◌<◌, ◌^◌, ltb, length, take, drop}
use Rattle.std.specs.declared.cmp.Ordering.{Ordering}
use Rattle.std.specs.declared.cmp.Ordering.TheVariants.{Less, Equal, Greater}
use Rattle.model.specs.Tests.{all_of}
use Rattle.model.specs.Names.{compare_names}

-- bytes as one number, the first byte the highest; n stands before them
abbrev pub word_from : ℕ → List ℕ → ℕ
word_from n [] = n
word_from n (x ∷ xs) = word_from (n * 256 + x) xs

unfoldable pub word_of : List ℕ → ℕ
word_of xs = word_from 0 xs

-- two numbers, and where they are equal what follows
abbrev pub first_of : ℕ → ℕ → Ordering → Ordering
first_of x y rest = cond (ltb x y) Less (cond (ltb y x) Greater rest)

-- "compare eight at a time": two names of 16 bytes as two numbers each
unfoldable pub compare_words : List ℕ → List ℕ → Ordering
compare_words x y = first_of (word_of (take 8 x)) (word_of (take 8 y)) (first_of (word_of (drop 8 x)) (word_of (drop 8 y)) Equal)

abbrev pub bytes : List ℕ → Bool
bytes = all_of (λ x. ltb x 256)

-- eight bytes are one number of 64 bits
abbrev pub WordFits : Type 0
WordFits = (xs : List ℕ) → length xs ≡ 8 → bytes xs ≡ true → word_of xs < 2 ^ 64

-- "Of any two 16-byte names the new comparison says smaller, equal or larger exactly as their bytes from the left do."
abbrev pub WordsAsBytes : Type 0
WordsAsBytes =
    (x y : List ℕ) → length x ≡ 16 → length y ≡ 16 → bytes x ≡ true → bytes y ≡ true
    → compare_words x y ≡ compare_names x y
