-- Laws of names as bytes: a comparison with a name of 16 bytes, one turn of the padding.
-- Assumes nothing.
use mathlib.Core.Path.{◌≡◌, refl, ap, ◌∙◌}
use mathlib.Core.List.{List, ◌++◌}
use Prim.Native.Nat.{ℕ, ◌+◌, ◌-◌, ◌*◌, ◌≤◌}
use native.Mathlib.Omega.{arith}
use lib.ListN.{length, drop, replicate, length-append, length-replicate}
use lib.Seq.{take_all}
use Rattle.std.proofs.lemmas.List.{drop-replicate}
use Rattle.std.specs.declared.cmp.Ordering.{Ordering}
use Rattle.std.specs.declared.cmp.Ordering.TheVariants.{Less, Equal, Greater}
use Rattle.std.specs.Ordering.{is_eq, is_lt, ordering_then, nat_cmp}
use mathlib.Core.Bool.{Bool, true, false, cond}
use lib.Dec.{ltb, eqb}
use Rattle.model.specs.Names.{compare_names, name_at, padded, is_equal, smaller_or}
use Rattle.lookup.specs.Listed.{named_from}

-- ── a comparison ──
-- a name of 16 bytes at index 0 is the whole
name-whole : (name : List ℕ) → length name ≡ 16 → name_at name 0 ≡ name
name-whole name e = take_all 16 name (omega arith)

pub named_by : (names : List ℕ) (base : ℕ) (name : List ℕ) (c : ℕ) (r : Ordering) → length name ≡ 16 → r ≡ compare_names (name_at names (base + 32 * (c - 1))) (name_at name 0)
    → is_eq r ≡ named_from names base name c
unfolding named_from
named_by names base name c r h e = equal r ∙ ap is_equal (e ∙ rw (name-whole name h))
  where
    equal : (o : Ordering) → is_eq o ≡ is_equal o
    equal Less = refl
    equal Equal = refl
    equal Greater = refl

-- by first name and then number
pub before_by : (o : Ordering) (x y : ℕ) → is_lt (ordering_then o (nat_cmp x y)) ≡ smaller_or o (ltb x y)
before_by Less x y = refl
before_by Equal x y = by_tests (ltb x y) (eqb x y)
  where
    by_tests : (s t : Bool) → is_lt (cond s Less (cond t Equal Greater)) ≡ s
    by_tests true t = refl
    by_tests false true = refl
    by_tests false false = refl
before_by Greater x y = refl

-- ── padding ──
pub pad_whole : (w : List ℕ) → w ++ drop (length w) (replicate 16 32) ≡ padded w
unfolding padded
pad_whole w = rw (drop-replicate {X = ℕ} (length w) 16 32)

pub padded-long : (w : List ℕ) → length w ≤ 16 → length (padded w) ≡ 16
unfolding padded
padded-long w h = length-append w (replicate (16 - length w) 32) ∙ ap (λ (n : ℕ). length w + n) (length-replicate (16 - length w) 32) ∙ omega arith
