-- Noting items one by one gives the distinct items that pass the test.
-- Assumes nothing.
use mathlib.Core.Path.{◌≡◌, refl, sym, ap, ◌∙◌}
use mathlib.Core.Bool.{Bool, true, false, not, ◌||◌, cond}
use mathlib.Core.List.{List, [], ◌∷◌, ◌++◌, append_assoc, append-nil}
use Prim.Native.Nat.{ℕ, zero, suc, ◌+◌, ◌≤◌}
use native.Mathlib.Omega.{arith}
use borrow.Author.Tests.{eqb-true}
use lib.Dec.{eqb}
use lib.ListN.{length, length-append}
use Rattle.model.specs.Lists.{up_to, keeping, distinct}
use Rattle.model.specs.Claim.{R}
use Rattle.model.proofs.RowFacts.{AllIn}
use Rattle.model.proofs.ListLaws.{up_step}
use Rattle.stock_level.specs.Notes.{member, noted, note_all}

abbrev differs : ℕ → ℕ → Bool
differs x y = not (eqb x y)

keeping_append : (test : ℕ → Bool) (xs ys : List ℕ) → keeping test (xs ++ ys) ≡ keeping test xs ++ keeping test ys
keeping_append test [] ys = refl
keeping_append test (x ∷ xs) ys = split (keeping_append test xs ys) (test x)
  where
    split : keeping test (xs ++ ys) ≡ keeping test xs ++ keeping test ys
        → (t : Bool) → cond t (x ∷ keeping test (xs ++ ys)) (keeping test (xs ++ ys)) ≡ cond t (x ∷ keeping test xs) (keeping test xs) ++ keeping test ys
    split h true = ap (λ (l : List ℕ). x ∷ l) h
    split h false = h

-- one entry more
distinct_snoc : (xs : List ℕ) (x : ℕ) → distinct (xs ++ (x ∷ [])) ≡ cond (member x xs) (distinct xs) (distinct xs ++ (x ∷ []))
distinct_snoc [] x = refl
distinct_snoc (y ∷ ys) x = rw (distinct_snoc ys x) (split (member x ys) (eqb y x) refl)
  where
    split : (m t : Bool) → eqb y x ≡ t
        → y ∷ keeping (differs y) (cond m (distinct ys) (distinct ys ++ (x ∷ [])))
        ≡ cond (t || m) (distinct (y ∷ ys)) (distinct (y ∷ ys) ++ (x ∷ []))
    split true true e = refl
    split true false e = refl
    split false true e = ap (λ (l : List ℕ). y ∷ l) (keeping_append (differs y) (distinct ys) (x ∷ []) ∙ rw e (append-nil (keeping (differs y) (distinct ys))))
    split false false e = ap (λ (l : List ℕ). y ∷ l) (keeping_append (differs y) (distinct ys) (x ∷ []) ∙ rw e)

-- an entry that passes the test is kept
member-keeping : (test : ℕ → Bool) (x : ℕ) (ys : List ℕ) → test x ≡ true → member x (keeping test ys) ≡ member x ys
member-keeping test x [] p = refl
member-keeping test x (y ∷ ys) p = split (member-keeping test x ys p) (test y) (eqb y x) refl refl
  where
    split : member x (keeping test ys) ≡ member x ys → (t u : Bool) → test y ≡ t → eqb y x ≡ u
        → member x (cond t (y ∷ keeping test ys) (keeping test ys)) ≡ (u || member x ys)
    split h true true e f = rw f
    split h true false e f = rw f h
    split h false true e f =
        let q : test y ≡ true = ap test (eqb-true y x f) ∙ p in
        absurd (let z : ◌≡◌ {A = ℕ} 0 1 = cc in omega arith)
    split h false false e f = h

member-distinct : (x : ℕ) (ys : List ℕ) → member x (distinct ys) ≡ member x ys
member-distinct x [] = refl
member-distinct x (y ∷ ys) = split (member-distinct x ys) (eqb y x) refl
  where
    split : member x (distinct ys) ≡ member x ys → (t : Bool) → eqb y x ≡ t → (t || member x (keeping (differs y) (distinct ys))) ≡ (t || member x ys)
    split h true e = refl
    split h false e = member-keeping (differs y) x (distinct ys) (ap not e) ∙ h

module _ (test : ℕ → Bool) where
  noted_step : (xs : List ℕ) (x : ℕ) → noted test (keeping test (distinct xs)) x ≡ keeping test (distinct (xs ++ (x ∷ [])))
  noted_step xs x = rw (distinct_snoc xs x) (split (test x) (member x xs) refl refl)
    where
      split : (t m : Bool) → test x ≡ t → member x xs ≡ m
          → cond t (cond (member x (keeping test (distinct xs))) (keeping test (distinct xs)) (keeping test (distinct xs) ++ (x ∷ []))) (keeping test (distinct xs))
          ≡ keeping test (cond m (distinct xs) (distinct xs ++ (x ∷ [])))
      split true true e f = rw (member-keeping test x (distinct xs) e, member-distinct x xs, f)
      split true false e f = rw (member-keeping test x (distinct xs) e, member-distinct x xs, f) (sym (keeping_append test (distinct xs) (x ∷ []) ∙ rw e))
      split false true e f = refl
      split false false e f = sym (keeping_append test (distinct xs) (x ∷ []) ∙ rw e (append-nil (keeping test (distinct xs))))

  note_after : (xs ys : List ℕ) → note_all test (keeping test (distinct xs)) ys ≡ keeping test (distinct (xs ++ ys))
  note_after xs [] = rw (append-nil xs)
  note_after xs (y ∷ ys) = rw (noted_step xs y) (note_after (xs ++ (y ∷ [])) ys ∙ rw (append_assoc xs (y ∷ []) ys))

  pub note_distinct : (ys : List ℕ) → note_all test [] ys ≡ keeping test (distinct ys)
  note_distinct ys = note_after [] ys

  pub note_append : (seen xs ys : List ℕ) → note_all test seen (xs ++ ys) ≡ note_all test (note_all test seen xs) ys
  note_append seen [] ys = refl
  note_append seen (x ∷ xs) ys = note_append (noted test seen x) xs ys

  pub note_up : (seen : List ℕ) (n : ℕ) (f : ℕ → ℕ) → note_all test seen (up_to (n + 1) f) ≡ noted test (note_all test seen (up_to n f)) (f (n + 1))
  note_up seen n f = ap (note_all test seen) (up_step n f) ∙ note_append seen (up_to n f) (f (n + 1) ∷ [])

-- ── what holds of every entry ──
module _ (P : ℕ → Type 0) where
  pub in_append : (xs ys : List ℕ) → AllIn P xs → AllIn P ys → AllIn P (xs ++ ys)
  in_append [] ys p q = q
  in_append (x ∷ xs) ys p q = (p.0, in_append xs ys p.1 q)

  pub in_up : (n : ℕ) (f : ℕ → ℕ) → ((j : ℕ) → R n j → P (f j)) → AllIn P (up_to n f)
  unfolding up_to
  in_up zero f h = tt
  in_up (suc n) f h =
      in_append (up_to n f) (f (suc n) ∷ []) (in_up n f (λ j r. h j (record { lo = r.lo; hi = omega (arith, r.hi) }))) (h (suc n) (record { lo = omega arith; hi = omega arith }), tt)

  in_keeping : (test : ℕ → Bool) (xs : List ℕ) → AllIn P xs → AllIn P (keeping test xs)
  in_keeping test [] p = tt
  in_keeping test (x ∷ xs) p = go (test x) (in_keeping test xs p.1)
    where
      go : (t : Bool) → AllIn P (keeping test xs) → AllIn P (cond t (x ∷ keeping test xs) (keeping test xs))
      go true h = (p.0, h)
      go false h = h

  pub in_distinct : (xs : List ℕ) → AllIn P xs → AllIn P (distinct xs)
  in_distinct [] p = tt
  in_distinct (x ∷ xs) p = (p.0, in_keeping (differs x) (distinct xs) (in_distinct xs p.1))

-- two tests that agree on every entry keep the same
pub keeping_alike : (f g : ℕ → Bool) (xs : List ℕ) → AllIn (λ x. f x ≡ g x) xs → keeping f xs ≡ keeping g xs
keeping_alike f g [] p = refl
keeping_alike f g (x ∷ xs) p = rw (p.0, keeping_alike f g xs p.1)

-- an item noted is at most one more
pub noted_length : (test : ℕ → Bool) (seen : List ℕ) (x : ℕ) → length (noted test seen x) ≤ length seen + 1
noted_length test seen x = split (test x) (member x seen)
  where
    split : (t m : Bool) → length (cond t (cond m seen (seen ++ (x ∷ []))) seen) ≤ length seen + 1
    split true true = omega arith
    split true false = omega (arith, length-append seen (x ∷ []))
    split false m = omega arith
