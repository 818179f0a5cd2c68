-- Changes that read the book as it was before any of them are the same as changes in turn, where no change touches a number that a
-- later one reads. For a literal list of changes with numerals for section and column, `apart` computes: the fact is `refl`.
-- Assumes nothing.
use mathlib.Core.Path.{◌≡◌, refl, sym, ap, ◌∙◌}
use mathlib.Core.Bool.{Bool, true, false, not, ◌&&◌}
use mathlib.Core.List.{List, [], ◌∷◌}
use lib.IntN.{ℤ}
use lib.ListN.{length, get_or, set}
use borrow.Author.Tests.{not-true}
use Rattle.model.specs.Layout.{Shape, Addr, place, total, none}
use Rattle.model.specs.Store.{get, remap, Op, one, row, op, run}
use Rattle.model.proofs.TestLaws.{and_left, and_right}
use Rattle.model.proofs.Places.{Valid, same, row_same}
use Rattle.model.proofs.Frame.{seen1, target, at_start, Fine, length-op, get-op}

-- the changes, each single number by a function of what the book b₀ had there
abbrev pub run_old : List Shape → List Op → List ℤ → List ℤ → List ℤ
run_old l [] b₀ b = b
run_old l (one g f ∷ os) b₀ b = run_old l os b₀ (set b (place l g) (f (get l b₀ g)))
run_old l (row g f ∷ os) b₀ b = run_old l os b₀ (remap (place l g) (get_or l g.s none).ks 0 f b)

abbrev pub touches : Addr → Op → Bool
touches a (one g f) = same a g
touches a (row g f) = row_same a g

-- no single number of the list is touched by the change
abbrev pub clear_of : Op → List Op → Bool
clear_of o [] = true
clear_of o (one g f ∷ os) = ◌&&◌ (not (touches g o)) (clear_of o os)
clear_of o (row g f ∷ os) = clear_of o os

abbrev pub apart : List Op → Bool
apart [] = true
apart (o ∷ os) = ◌&&◌ (clear_of o os) (apart os)

untouched : (a : Addr) (o : Op) (v : ℤ) → touches a o ≡ false → seen1 a o v ≡ v
untouched a (one g f) v e = rw e
untouched a (row g f) v e = rw e

module _ (l : List Shape) (b₀ : List ℤ) where
  abbrev AsBefore : List Op → List ℤ → Type 0
  AsBefore [] b = Unit {0}
  AsBefore (one g f ∷ os) b = (get l b g ≡ get l b₀ g) × AsBefore os b
  AsBefore (row g f ∷ os) b = AsBefore os b

  as_same : (os : List Op) → AsBefore os b₀
  as_same [] = tt
  as_same (one g f ∷ os) = (refl, as_same os)
  as_same (row g f ∷ os) = as_same os

  keep : (o : Op) (os : List Op) (b : List ℤ) → length b ≡ total l → Valid l (target o) → at_start o → Fine l os → clear_of o os ≡ true → AsBefore os b → AsBefore os (op l o b)
  keep o [] b n v s fs c old = tt
  keep o (one g f ∷ os) b n v s fs c old =
      let t = not-true (touches g o) (and_left (not (touches g o)) (clear_of o os) c) in (
        get-op l b g o n fs.0 v s ∙ untouched g o (get l b g) t ∙ old.0,
        keep o os b n v s fs.2 (and_right (not (touches g o)) (clear_of o os) c) old.1,
      )
  keep o (row g f ∷ os) b n v s fs c old = keep o os b n v s fs.2 c old

  old_run : (os : List Op) (b : List ℤ) → length b ≡ total l → Fine l os → apart os ≡ true → AsBefore os b → run_old l os b₀ b ≡ run l os b
  unfolding op
  old_run [] b n fs c old = refl
  old_run (one g f ∷ os) b n fs c old =
      let o = one g f in
      let k = keep o os b n fs.0 fs.1 fs.2 (and_left (clear_of o os) (apart os) c) old.1 in
      ap (λ (v : ℤ). run_old l os b₀ (set b (place l g) (f v))) (sym old.0) ∙ old_run os (op l o b) (length-op l o b ∙ n) fs.2 (and_right (clear_of o os) (apart os) c) k
  old_run (row g f ∷ os) b n fs c old =
      let o = row g f in
      let k = keep o os b n fs.0 fs.1 fs.2 (and_left (clear_of o os) (apart os) c) old in
      old_run os (op l o b) (length-op l o b ∙ n) fs.2 (and_right (clear_of o os) (apart os) c) k

pub in_turn : (l : List Shape) (os : List Op) (b : List ℤ) → length b ≡ total l → Fine l os → apart os ≡ true → run_old l os b b ≡ run l os b
in_turn l os b n fs c = old_run l b os b n fs c (as_same l b os)
