-- A sorted list of numbers is in order, and has those numbers that pass the test.
-- Assumes nothing.
use mathlib.Core.Path.{◌≡◌, refl, sym, ap, ◌∙◌}
use mathlib.Core.Logic.{◌⊎◌, inl, inr}
use mathlib.Core.Bool.{Bool, true, false, cond}
use mathlib.Core.List.{List, [], ◌∷◌}
use Prim.Native.Nat.{ℕ, zero, suc, ◌+◌, ◌<◌}
use native.Mathlib.Decide.{ℕ_discrete}
use native.Mathlib.Numerals.{add-one}
use native.Mathlib.Omega.{arith}
use lib.ListN.{length, get_or}
use Rattle.model.specs.declared.Dims.{Dims}
use Rattle.model.specs.Names.{insert, sorted, passing, named, before, namesakes}
use Rattle.model.specs.Claim.{R}
use Rattle.model.proofs.Order.{before_trans, before-total}

-- every entry has a property
abbrev pub Entries : (ℕ → Type 0) → List ℕ → Type 0
Entries P [] = Unit {0}
Entries P (x ∷ xs) = P x × Entries P xs

-- c is an entry
abbrev pub Has : ℕ → List ℕ → Type 0
Has c [] = ⊥
Has c (x ∷ xs) = (c ≡ x) ⊎ Has c xs

pub entry_at : (P : ℕ → Type 0) (xs : List ℕ) (i : ℕ) → i < length xs → Entries P xs → P (get_or xs i 0)
entry_at P [] i h k = absurd (omega arith)
entry_at P (x ∷ xs) zero h k = k.0
entry_at P (x ∷ xs) (suc i) h k = entry_at P xs i (omega arith) k.1

module _ (comes : ℕ → ℕ → Bool) where
  insert_entries : (P : ℕ → Type 0) (x : ℕ) (ys : List ℕ) → P x → Entries P ys → Entries P (insert comes x ys)
  insert_entries P x [] p k = (p, tt)
  insert_entries P x (y ∷ ys) p k = split (comes x y) (insert_entries P x ys p k.1)
    where
      split : (t : Bool) → Entries P (insert comes x ys) → Entries P (cond t (x ∷ y ∷ ys) (y ∷ insert comes x ys))
      split true h = (p, k)
      split false h = (k.0, h)

  -- every entry is one of 1 .. m that pass the test
  sorted_entries : (P : ℕ → Type 0) (test : ℕ → Bool) (m : ℕ) → ((c : ℕ) → R m c → test c ≡ true → P c) → Entries P (sorted comes (passing test m))
  sorted_entries P test zero f = tt
  sorted_entries P test (suc m) f = split (test (suc m)) refl (sorted_entries P test m (λ c r e. f c (record { lo = r.lo; hi = omega (arith, r.hi) }) e))
    where
      split : (t : Bool) → test (suc m) ≡ t → Entries P (sorted comes (passing test m)) → Entries P (sorted comes (cond t (suc m ∷ passing test m) (passing test m)))
      split true e k = insert_entries P (suc m) (sorted comes (passing test m)) (f (suc m) (record { lo = omega arith; hi = omega arith }) e) k
      split false e k = k

  pub sorted-at : (P : ℕ → Type 0) (test : ℕ → Bool) (m : ℕ) → ((c : ℕ) → R m c → test c ≡ true → P c) → (i : ℕ) → i < length (sorted comes (passing test m)) → P (get_or (sorted comes (passing test m)) i 0)
  sorted-at P test m f i h = entry_at P (sorted comes (passing test m)) i h (sorted_entries P test m f)

  -- every one of 1 .. m that passes the test is an entry
  insert_has : (x c : ℕ) (ys : List ℕ) → (c ≡ x) ⊎ Has c ys → Has c (insert comes x ys)
  insert_has x c [] (inl e) = inl e
  insert_has x c [] (inr h) = absurd h
  insert_has x c (y ∷ ys) h = split (comes x y) (λ q. insert_has x c ys q) h
    where
      split : (t : Bool) → ((c ≡ x) ⊎ Has c ys → Has c (insert comes x ys)) → (c ≡ x) ⊎ ((c ≡ y) ⊎ Has c ys) → Has c (cond t (x ∷ y ∷ ys) (y ∷ insert comes x ys))
      split true f q = q
      split false f (inl e) = inr (f (inl e))
      split false f (inr (inl e)) = inl e
      split false f (inr (inr q)) = inr (f (inr q))

  pub sorted_has : (test : ℕ → Bool) (m c : ℕ) → R m c → test c ≡ true → Has c (sorted comes (passing test m))
  sorted_has test zero c r e = absurd (omega (arith, r.lo, r.hi))
  sorted_has test (suc m) c r e = split (ℕ_discrete c (suc m)) (test (suc m)) refl (λ q. sorted_has test m c q e)
    where
      split : Dec (c ≡ suc m) → (t : Bool) → test (suc m) ≡ t → (R m c → Has c (sorted comes (passing test m))) → Has c (sorted comes (cond t (suc m ∷ passing test m) (passing test m)))
      split (yes p) true q f = insert_has (suc m) c (sorted comes (passing test m)) (inl p)
      split (yes p) false q f = let z : ◌≡◌ {A = Bool} true false = sym e ∙ ap test p ∙ q in absurd (let y : ◌≡◌ {A = ℕ} 0 1 = cc in omega arith)
      split (no p) true q f = insert_has (suc m) c (sorted comes (passing test m)) (inr (f (record { lo = r.lo; hi = omega (arith, r.hi, p) })))
      split (no p) false q f = f (record { lo = r.lo; hi = omega (arith, r.hi, p) })

  -- one number more
  pub sorted-step : (test : ℕ → Bool) (m : ℕ) → sorted comes (passing test (m + 1)) ≡ cond (test (m + 1)) (insert comes (m + 1) (sorted comes (passing test m))) (sorted comes (passing test m))
  sorted-step test m = rw (add-one m) (split (test (suc m)))
    where
      split : (t : Bool) → sorted comes (cond t (suc m ∷ passing test m) (passing test m)) ≡ cond t (insert comes (suc m) (sorted comes (passing test m))) (sorted comes (passing test m))
      split true = refl
      split false = refl

  -- each entry comes before those after it
  abbrev Ordered : List ℕ → Type 0
  Ordered [] = Unit {0}
  Ordered (y ∷ ys) = Entries (λ z. comes y z ≡ true) ys × Ordered ys

  ordered_at : (ys : List ℕ) → Ordered ys → (i j : ℕ) → i < j → j < length ys → comes (get_or ys i 0) (get_or ys j 0) ≡ true
  ordered_at [] o i j h k = absurd (omega arith)
  ordered_at (y ∷ ys) o i zero h k = absurd (omega arith)
  ordered_at (y ∷ ys) o zero (suc j) h k = entry_at (λ z. comes y z ≡ true) ys j (omega arith) o.0
  ordered_at (y ∷ ys) o (suc i) (suc j) h k = ordered_at ys o.1 i j (omega arith) (omega arith)

  module _ (trans : (a b c : ℕ) → comes a b ≡ true → comes b c ≡ true → comes a c ≡ true) (total : (a b : ℕ) → comes a b ≡ false → (a ≡ b → ⊥) → comes b a ≡ true) where
    first_trans : (x y : ℕ) (zs : List ℕ) → comes x y ≡ true → Entries (λ z. comes y z ≡ true) zs → Entries (λ z. comes x z ≡ true) zs
    first_trans x y [] e f = tt
    first_trans x y (z ∷ zs) e f = (trans x y z e f.0, first_trans x y zs e f.1)

    insert-ordered : (m x : ℕ) (ys : List ℕ) → m < x → Entries (R m) ys → Ordered ys → Ordered (insert comes x ys)
    insert-ordered m x [] h n o = (tt, tt)
    insert-ordered m x (y ∷ ys) h n o = split (comes x y) refl (insert-ordered m x ys h n.1 o.1)
      where
        split : (t : Bool) → comes x y ≡ t → Ordered (insert comes x ys) → Ordered (cond t (x ∷ y ∷ ys) (y ∷ insert comes x ys))
        split true e k = ((e, first_trans x y ys e o.0), o)
        split false e k = (insert_entries (λ z. comes y z ≡ true) x ys (total x y e (λ q. omega (arith, q, n.0.hi))) o.0, k)

    sorted-is-ordered : (test : ℕ → Bool) (m : ℕ) → Ordered (sorted comes (passing test m))
    sorted-is-ordered test zero = tt
    sorted-is-ordered test (suc m) = split (test (suc m)) (sorted-is-ordered test m)
      where
        split : (t : Bool) → Ordered (sorted comes (passing test m)) → Ordered (sorted comes (cond t (suc m ∷ passing test m) (passing test m)))
        split true k = insert-ordered m (suc m) (sorted comes (passing test m)) (omega arith) (sorted_entries (R m) test m (λ c r e. r)) k
        split false k = k

    pub sorted-ordered : (test : ℕ → Bool) (m i j : ℕ) → i < j → j < length (sorted comes (passing test m)) → comes (get_or (sorted comes (passing test m)) i 0) (get_or (sorted comes (passing test m)) j 0) ≡ true
    sorted-ordered test m i j h k = ordered_at (sorted comes (passing test m)) (sorted-is-ordered test m) i j h k

-- the namesakes: exactly the customers of the district that have the last name, each before those after it
module _ (d : Dims) (names : List ℕ) (w k : ℕ) (name : List ℕ) where
  pub namesake_in : (i : ℕ) → i < length (namesakes d names w k name) → R d.customers (get_or (namesakes d names w k name) i 0)
  unfolding namesakes
  namesake_in i h = sorted-at (before d names w k) (R d.customers) (named d names w k name) d.customers (λ c r e. r) i h

  pub namesake_named : (i : ℕ) → i < length (namesakes d names w k name) → named d names w k name (get_or (namesakes d names w k name) i 0) ≡ true
  unfolding namesakes
  namesake_named i h = sorted-at (before d names w k) (λ c. named d names w k name c ≡ true) (named d names w k name) d.customers (λ c r e. e) i h

  pub namesake_every : (c : ℕ) → R d.customers c → named d names w k name c ≡ true → Has c (namesakes d names w k name)
  unfolding namesakes
  namesake_every c r e = sorted_has (before d names w k) (named d names w k name) d.customers c r e

  pub namesakes-ordered : (i j : ℕ) → i < j → j < length (namesakes d names w k name)
      → before d names w k (get_or (namesakes d names w k name) i 0) (get_or (namesakes d names w k name) j 0) ≡ true
  unfolding namesakes
  namesakes-ordered i j h l = sorted-ordered (before d names w k) (before_trans d names w k) (before-total d names w k) (named d names w k name) d.customers i j h l
