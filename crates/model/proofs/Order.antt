-- Names compare by a total order, and customers by first name and then number stand in a strict total one.
-- Assumes nothing.
use mathlib.Core.Path.{◌≡◌, refl}
use mathlib.Core.Logic.{◌⊎◌, inl, inr}
use mathlib.Core.Bool.{Bool, true, false, cond}
use mathlib.Core.List.{List, [], ◌∷◌}
use Prim.Native.Nat.{ℕ, ◌<◌}
use native.Mathlib.Nat.{le_antisymm}
use native.Mathlib.Omega.{arith}
use borrow.Author.Tests.{ltb-true, ltb-false, lt-ltb, le-ltb}
use lib.Dec.{ltb}
use Rattle.model.specs.declared.Dims.{Dims}
use Rattle.std.specs.declared.cmp.Ordering.{Ordering}
use Rattle.std.specs.declared.cmp.Ordering.TheVariants.{Less, Equal, Greater}
use Rattle.model.specs.Names.{compare_names, first_name, smaller_or, before}

abbrev pub flip : Ordering → Ordering
flip Less = Greater
flip Equal = Equal
flip Greater = Less

-- two names the other way round
pub flipped : (xs ys : List ℕ) → compare_names ys xs ≡ flip (compare_names xs ys)
unfolding compare_names
flipped [] [] = refl
flipped [] (y ∷ ys) = refl
flipped (x ∷ xs) [] = refl
flipped (x ∷ xs) (y ∷ ys) = split (flipped xs ys) (ltb x y) (ltb y x) refl refl
  where
    split : compare_names ys xs ≡ flip (compare_names xs ys) → (s t : Bool) → ltb x y ≡ s → ltb y x ≡ t
        → cond t Less (cond s Greater (compare_names ys xs)) ≡ flip (cond s Less (cond t Greater (compare_names xs ys)))
    split h true true e f = absurd (omega (arith, ltb-true x y e, ltb-true y x f))
    split h true false e f = refl
    split h false true e f = refl
    split h false false e f = h

-- what the first bytes say
step_equal : (x y : ℕ) (r : Ordering) → cond (ltb x y) Less (cond (ltb y x) Greater r) ≡ Equal → (x ≡ y) × (r ≡ Equal)
step_equal x y r e = split (ltb x y) (ltb y x) refl refl e
  where
    split : (s t : Bool) → ltb x y ≡ s → ltb y x ≡ t → cond s Less (cond t Greater r) ≡ Equal → (x ≡ y) × (r ≡ Equal)
    split true t p q e = absurd (let z : ◌≡◌ {A = ℕ} 0 1 = cc in omega arith)
    split false true p q e = absurd (let z : ◌≡◌ {A = ℕ} 0 1 = cc in omega arith)
    split false false p q e = (le_antisymm (ltb-false y x q) (ltb-false x y p), e)

step_smaller : (x y : ℕ) (r : Ordering) → cond (ltb x y) Less (cond (ltb y x) Greater r) ≡ Less → (x < y) ⊎ ((x ≡ y) × (r ≡ Less))
step_smaller x y r e = split (ltb x y) (ltb y x) refl refl e
  where
    split : (s t : Bool) → ltb x y ≡ s → ltb y x ≡ t → cond s Less (cond t Greater r) ≡ Less → (x < y) ⊎ ((x ≡ y) × (r ≡ Less))
    split true t p q e = inl (ltb-true x y p)
    split false true p q e = absurd (let z : ◌≡◌ {A = ℕ} 0 1 = cc in omega arith)
    split false false p q e = inr (le_antisymm (ltb-false y x q) (ltb-false x y p), e)

-- names that compare equal are the same, and the other way round
pub equal_same : (xs ys : List ℕ) → compare_names xs ys ≡ Equal → xs ≡ ys
unfolding compare_names
equal_same [] [] e = refl
equal_same [] (y ∷ ys) e = absurd (let z : ◌≡◌ {A = ℕ} 0 1 = cc in omega arith)
equal_same (x ∷ xs) [] e = absurd (let z : ◌≡◌ {A = ℕ} 0 1 = cc in omega arith)
equal_same (x ∷ xs) (y ∷ ys) e =
    let p = step_equal x y (compare_names xs ys) e in
    let h : xs ≡ ys = equal_same xs ys p.1 in
    rw (p.0, h)

pub same_equal : (xs : List ℕ) → compare_names xs xs ≡ Equal
unfolding compare_names
same_equal [] = refl
same_equal (x ∷ xs) = rw (le-ltb x x (omega arith)) (same_equal xs)

pub smaller_trans : (xs ys zs : List ℕ) → compare_names xs ys ≡ Less → compare_names ys zs ≡ Less → compare_names xs zs ≡ Less
unfolding compare_names
smaller_trans [] [] zs e f = absurd (let z : ◌≡◌ {A = ℕ} 0 1 = cc in omega arith)
smaller_trans [] (y ∷ ys) [] e f = absurd (let z : ◌≡◌ {A = ℕ} 0 1 = cc in omega arith)
smaller_trans [] (y ∷ ys) (z ∷ zs) e f = refl
smaller_trans (x ∷ xs) [] zs e f = absurd (let z : ◌≡◌ {A = ℕ} 0 1 = cc in omega arith)
smaller_trans (x ∷ xs) (y ∷ ys) [] e f = absurd (let z : ◌≡◌ {A = ℕ} 0 1 = cc in omega arith)
smaller_trans (x ∷ xs) (y ∷ ys) (z ∷ zs) e f =
    split (λ p q. smaller_trans xs ys zs p q) (step_smaller x y (compare_names xs ys) e) (step_smaller y z (compare_names ys zs) f)
  where
    split : (compare_names xs ys ≡ Less → compare_names ys zs ≡ Less → compare_names xs zs ≡ Less)
        → (x < y) ⊎ ((x ≡ y) × (compare_names xs ys ≡ Less)) → (y < z) ⊎ ((y ≡ z) × (compare_names ys zs ≡ Less))
        → cond (ltb x z) Less (cond (ltb z x) Greater (compare_names xs zs)) ≡ Less
    split h (inl p) (inl q) = rw (lt-ltb x z (omega arith))
    split h (inl p) (inr q) = rw (lt-ltb x z (omega (arith, q.0)))
    split h (inr p) (inl q) = rw (lt-ltb x z (omega (arith, p.0)))
    split h (inr p) (inr q) = rw (le-ltb x z (omega (arith, p.0, q.0)), le-ltb z x (omega (arith, p.0, q.0))) (h p.1 q.1)

-- customers by first name and then number, wherever the first names stand
module _ (first : ℕ → List ℕ) where
  abbrev pub order_by : ℕ → ℕ → Bool
  order_by a c = smaller_or (compare_names (first a) (first c)) (ltb a c)

  pub order_irrefl : (a : ℕ) → order_by a a ≡ false
  order_irrefl a = rw (same_equal (first a)) (le-ltb a a (omega arith))

  pub order_trans : (a b c : ℕ) → order_by a b ≡ true → order_by b c ≡ true → order_by a c ≡ true
  order_trans a b c e f = split (compare_names (first a) (first b)) (compare_names (first b) (first c)) refl refl e f
    where
      split : (u v : Ordering) → compare_names (first a) (first b) ≡ u → compare_names (first b) (first c) ≡ v
          → smaller_or u (ltb a b) ≡ true → smaller_or v (ltb b c) ≡ true → smaller_or (compare_names (first a) (first c)) (ltb a c) ≡ true
      split Less Less p q e f = rw (smaller_trans _ _ _ p q)
      split Less Equal p q e f = rw (← equal_same _ _ q, p)
      split Less Greater p q e f = absurd (let z : ◌≡◌ {A = ℕ} 0 1 = cc in omega arith)
      split Equal Less p q e f = rw (equal_same _ _ p, q)
      split Equal Equal p q e f = rw (equal_same _ _ p, q) (lt-ltb a c (omega (arith, ltb-true a b e, ltb-true b c f)))
      split Equal Greater p q e f = absurd (let z : ◌≡◌ {A = ℕ} 0 1 = cc in omega arith)
      split Greater v p q e f = absurd (let z : ◌≡◌ {A = ℕ} 0 1 = cc in omega arith)

  pub order-total : (a b : ℕ) → order_by a b ≡ false → (a ≡ b → ⊥) → order_by b a ≡ true
  order-total a b e n = split (compare_names (first a) (first b)) refl e
    where
      split : (u : Ordering) → compare_names (first a) (first b) ≡ u
          → smaller_or u (ltb a b) ≡ false → smaller_or (compare_names (first b) (first a)) (ltb b a) ≡ true
      split Less p e = absurd (let z : ◌≡◌ {A = ℕ} 0 1 = cc in omega arith)
      split Equal p e = rw (flipped (first a) (first b), p) (lt-ltb b a (omega (arith, ltb-false a b e, n)))
      split Greater p e = rw (flipped (first a) (first b), p)

-- `before` is a strict total order
module _ (d : Dims) (names : List ℕ) (w k : ℕ) where
  pub before_irrefl : (a : ℕ) → before d names w k a a ≡ false
  unfolding before
  before_irrefl a = order_irrefl (first_name d names w k) a

  pub before_trans : (a b c : ℕ) → before d names w k a b ≡ true → before d names w k b c ≡ true → before d names w k a c ≡ true
  unfolding before
  before_trans a b c e f = order_trans (first_name d names w k) a b c e f

  pub before-total : (a b : ℕ) → before d names w k a b ≡ false → (a ≡ b → ⊥) → before d names w k b a ≡ true
  unfolding before
  before-total a b e n = order-total (first_name d names w k) a b e n
