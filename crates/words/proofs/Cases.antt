-- R-3 computed: pairs of names of 16 bytes with what is to be said of them, by words and by bytes.
-- Assumes nothing.
use mathlib.Core.Path.{◌≡◌, refl}
use mathlib.Core.List.{List, [], ◌∷◌, ◌++◌, map}
use Prim.Native.Nat.{ℕ}
use lib.ListN.{replicate}
use Rattle.std.specs.declared.cmp.Ordering.{Ordering}
use Rattle.std.specs.declared.cmp.Ordering.TheVariants.{Less, Equal, Greater}
use Rattle.model.specs.Names.{padded, compare_names}
use Rattle.words.specs.Words.{word_of, compare_words}

pub record Case : Type 0 where
  pub one : List ℕ
  pub other : List ℕ
  pub says : Ordering

abbrev pub case : List ℕ → List ℕ → Ordering → Case
case x y s = record { one = x; other = y; says = s }

-- A to H, and A to O
abbrev pub eight : List ℕ
eight = 65 ∷ 66 ∷ 67 ∷ 68 ∷ 69 ∷ 70 ∷ 71 ∷ 72 ∷ []

abbrev pub fifteen : List ℕ
fifteen = eight ++ (73 ∷ 74 ∷ 75 ∷ 76 ∷ 77 ∷ 78 ∷ 79 ∷ [])

-- a byte, n others, and a last byte behind
abbrev pub ends : ℕ → ℕ → ℕ → ℕ → List ℕ
ends a n b c = (a ∷ replicate n b) ++ (c ∷ [])

abbrev pub cases : List Case
cases =
    -- shorter and longer names
    case (padded (65 ∷ 76 ∷ 77 ∷ [])) (padded (65 ∷ 76 ∷ 77 ∷ [])) Equal
    ∷ case (padded (65 ∷ 76 ∷ 77 ∷ [])) (padded (65 ∷ 76 ∷ 77 ∷ 65 ∷ [])) Less
    ∷ case (padded (65 ∷ 76 ∷ 77 ∷ 65 ∷ [])) (padded (65 ∷ 76 ∷ 77 ∷ [])) Greater
    ∷ case (padded (66 ∷ 79 ∷ [])) (padded (69 ∷ 86 ∷ 65 ∷ [])) Less
    ∷ case (padded (69 ∷ 86 ∷ 65 ∷ [])) (padded (66 ∷ 79 ∷ [])) Greater
    -- equal; the first numbers decide; the second; the last byte
    ∷ case (fifteen ++ (80 ∷ [])) (fifteen ++ (80 ∷ [])) Equal
    ∷ case ((65 ∷ 66 ∷ 67 ∷ 68 ∷ 69 ∷ 70 ∷ 71 ∷ 65 ∷ []) ++ replicate 8 90) ((65 ∷ 66 ∷ 67 ∷ 68 ∷ 69 ∷ 70 ∷ 71 ∷ 66 ∷ []) ++ replicate 8 65) Less
    ∷ case (eight ++ (65 ∷ replicate 7 90)) (eight ++ (66 ∷ replicate 7 65)) Less
    ∷ case (fifteen ++ (65 ∷ [])) (fifteen ++ (66 ∷ [])) Less
    ∷ case (fifteen ++ (66 ∷ [])) (fifteen ++ (65 ∷ [])) Greater
    -- the first byte is the highest
    ∷ case (padded (ends 65 6 90 90)) (padded (ends 66 6 65 65)) Less
    ∷ case (padded (ends 66 6 65 90)) (padded (ends 65 6 90 65)) Greater
    -- every byte from 0 to 255, no sign
    ∷ case (replicate 16 255) (ends 255 14 255 254) Greater
    ∷ case (replicate 16 0) (ends 0 14 0 1) Less
    ∷ case (127 ∷ replicate 15 255) (128 ∷ replicate 15 0) Less
    ∷ case (128 ∷ replicate 15 0) (127 ∷ replicate 15 255) Greater
    ∷ case (1 ∷ replicate 15 0) (0 ∷ replicate 15 255) Greater
    ∷ case (ends 0 6 0 1 ++ replicate 8 0) (replicate 8 0 ++ replicate 8 255) Greater
    ∷ case (replicate 8 65 ++ replicate 8 32) (replicate 8 65 ++ (31 ∷ replicate 7 255)) Greater
    ∷ case (0 ∷ 1 ∷ 2 ∷ 3 ∷ 4 ∷ 5 ∷ 6 ∷ 7 ∷ 8 ∷ 9 ∷ 10 ∷ 11 ∷ 12 ∷ 13 ∷ 14 ∷ 15 ∷ []) (0 ∷ 1 ∷ 2 ∷ 3 ∷ 4 ∷ 5 ∷ 6 ∷ 7 ∷ 8 ∷ 9 ∷ 10 ∷ 11 ∷ 12 ∷ 13 ∷ 14 ∷ 15 ∷ []) Equal ∷ []

pub by_words : map (λ (c : Case). compare_words c.one c.other) cases ≡ map (λ (c : Case). c.says) cases
unfolding compare_words word_of padded
by_words = refl

pub by_bytes : map (λ (c : Case). compare_names c.one c.other) cases ≡ map (λ (c : Case). c.says) cases
unfolding compare_names padded
by_bytes = refl

-- the largest word, and the first byte the highest
pub word_values : word_of (replicate 8 255) ∷ word_of (1 ∷ 0 ∷ 0 ∷ 0 ∷ 0 ∷ 0 ∷ 0 ∷ 2 ∷ []) ∷ [] ≡ 18446744073709551615 ∷ 72057594037927938 ∷ []
unfolding word_of
word_values = refl
