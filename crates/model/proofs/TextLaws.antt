-- Laws of fields: a text is parted into what was joined, and joined into what was parted.
-- Assumes nothing.
use Prim.Native.Nat.{ℕ, ◌≤◌, ◌<◌}
use mathlib.Core.Path.{◌≡◌, refl, sym, ap, ◌∙◌}
use mathlib.Core.List.{List, [], ◌∷◌, ◌++◌, append-nil, append_assoc}
use mathlib.Core.Bool.{Bool, true, false, not, cond}
use lib.Dec.{leb, eqb}
use lib.ListN.{length}
use native.Mathlib.Omega.{arith}
use borrow.Author.Tests.{eq-eqb, ne_eqb, eqb-true, not-true}
use Rattle.model.specs.Tests.{all_of}
use Rattle.model.specs.Text.{is_digit, is_number, tabbed, joined, onto, parted_by, parted}
use Rattle.model.proofs.TestLaws.{and_left, and_right, and_both, every-each}
use Rattle.model.proofs.DecimalLaws.{digit_in}

pub all_map : {A : Type 0} (f g : A → Bool) → ((x : A) → f x ≡ true → g x ≡ true) → (xs : List A) → all_of f xs ≡ true → all_of g xs ≡ true
all_map f g h [] e = refl
all_map f g h (x ∷ xs) e = and_both (g x) (all_of g xs) (h x (and_left (f x) (all_of f xs) e)) (all_map f g h xs (and_right (f x) (all_of f xs) e))

-- a part has no byte x
abbrev pub without : ℕ → List ℕ → Bool
without x f = all_of (λ y. not (eqb y x)) f

pub other : (x y : ℕ) → x < y → not (eqb y x) ≡ true
other x y h = rw (ne_eqb y x (λ e. omega arith))

pub number-plain : (x : ℕ) → x < 48 → (f : List ℕ) → is_number f ≡ true → without x f ≡ true
unfolding is_number
number-plain x l f e =
    all_map is_digit (λ y. not (eqb y x)) (λ y h. other x y (omega (arith, (digit_in y h).low))) f (every-each (leb 1 (length f) ∷ leb (length f) 10 ∷ all_of is_digit f ∷ _ ∷ []) e).1.1.0

-- ── parted ──
module _ (x : ℕ) where
  pub parted-one : (f : List ℕ) → without x f ≡ true → parted_by x f ≡ f ∷ []
  unfolding parted_by
  parted-one [] e = refl
  parted-one (y ∷ f) e = rw (not-true (eqb y x) (and_left (not (eqb y x)) (without x f) e), parted-one f (and_right (not (eqb y x)) (without x f) e))

  pub parted-more : (f s : List ℕ) → without x f ≡ true → parted_by x (f ++ (x ∷ s)) ≡ f ∷ parted_by x s
  unfolding parted_by
  parted-more [] s e = rw (eq-eqb x x refl)
  parted-more (y ∷ f) s e = rw (not-true (eqb y x) (and_left (not (eqb y x)) (without x f) e), parted-more f s (and_right (not (eqb y x)) (without x f) e))

  onto-some : (y : ℕ) (p : List (List ℕ)) → 1 ≤ length (onto y p)
  onto-some y [] = omega arith
  onto-some y (f ∷ fs) = omega arith

  pub parted-some : (s : List ℕ) → 1 ≤ length (parted_by x s)
  unfolding parted_by
  parted-some [] = omega arith
  parted-some (y ∷ s) = go (eqb y x)
    where
      go : (t : Bool) → 1 ≤ length (cond t ([] ∷ parted_by x s) (onto y (parted_by x s)))
      go true = omega arith
      go false = onto-some y (parted_by x s)

-- the fields that were joined by tabs
pub parted-joined : (f : List ℕ) (fs : List (List ℕ)) → without 9 f ≡ true → all_of (without 9) fs ≡ true → parted (joined (f ∷ fs)) ≡ f ∷ fs
unfolding tabbed
parted-joined f [] e h = ap parted (append-nil f) ∙ parted-one 9 f e
parted-joined f (g ∷ fs) e h =
    parted-more 9 f (joined (g ∷ fs)) e
    ∙ ap (λ (l : List (List ℕ)). f ∷ l) (parted-joined g fs (and_left (without 9 g) (all_of (without 9) fs) h) (and_right (without 9 g) (all_of (without 9) fs) h))

-- and back
joined_tab : (p : List (List ℕ)) → 1 ≤ length p → joined ([] ∷ p) ≡ 9 ∷ joined p
unfolding tabbed
joined_tab [] h = absurd (omega arith)
joined_tab (f ∷ fs) h = refl

joined-onto : (y : ℕ) (p : List (List ℕ)) → joined (onto y p) ≡ y ∷ joined p
unfolding tabbed
joined-onto y [] = refl
joined-onto y (f ∷ fs) = refl

pub joined-parted : (s : List ℕ) → joined (parted s) ≡ s
unfolding parted_by tabbed
joined-parted [] = refl
joined-parted (y ∷ s) = go (eqb y 9) refl (joined-parted s)
  where
    go : (t : Bool) → eqb y 9 ≡ t → joined (parted s) ≡ s → joined (cond t ([] ∷ parted s) (onto y (parted s))) ≡ y ∷ s
    go true e ih = joined_tab (parted s) (parted-some 9 s) ∙ ap (λ (l : List ℕ). 9 ∷ l) ih ∙ ap (λ (z : ℕ). z ∷ s) (sym (eqb-true y 9 e))
    go false e ih = joined-onto y (parted s) ∙ ap (λ (l : List ℕ). y ∷ l) ih

-- ── tabs before fields ──
pub tabbed_append : (fs gs : List (List ℕ)) → tabbed (fs ++ gs) ≡ tabbed fs ++ tabbed gs
unfolding tabbed
tabbed_append [] gs = refl
tabbed_append (f ∷ fs) gs = ap (λ (l : List ℕ). 9 ∷ l) (ap (λ (l : List ℕ). f ++ l) (tabbed_append fs gs) ∙ sym (append_assoc f (tabbed fs) (tabbed gs)))
