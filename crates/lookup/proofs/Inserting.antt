-- Laws of the insertion: its place, found by halving, and how the entries from it on move up.
-- Assumes nothing.
use mathlib.Core.Path.{◌≡◌, refl, ap, ◌∙◌}
use mathlib.Core.Bool.{Bool, true, false, cond}
use mathlib.Core.List.{List, [], ◌∷◌, ◌++◌}
use Prim.Native.Nat.{ℕ, zero, suc, ◌+◌, ◌-◌, ◌*◌, ◌/◌, ◌<◌, ◌≤◌}
use native.Mathlib.Numerals.{add-one}
use native.Mathlib.Omega.{arith}
use lib.ListN.{length, get_or, take, drop, set, length-append, length-drop}
use lib.Seq.{get_or-take, length-take-le, take-suc, take-take}
use Rattle.std.specs.List.{copy_within}
use Rattle.std.proofs.lemmas.List.{take_at, set_at}
use Rattle.std.proofs.lemmas.Slice.{between_is}
use Rattle.std.proofs.Common.{append_assoc}
use Rattle.model.specs.Names.{insert, taken, place_of, name_at}
use Rattle.std.specs.Prelude.{Some, None}
use Rattle.lookup.specs.Listed.{before_from, insert_place, Listed}
use Rattle.model.proofs.Order.{order_trans}

module _ (comes : ℕ → ℕ → Bool) where
  -- the insertion is at its place
  insert-at : (x : ℕ) (ys : List ℕ) → insert comes x ys ≡ take (insert_place comes x ys) ys ++ (x ∷ drop (insert_place comes x ys) ys)
  insert-at x [] = refl
  insert-at x (y ∷ ys) = split (insert-at x ys) (comes x y)
    where
      split : insert comes x ys ≡ take (insert_place comes x ys) ys ++ (x ∷ drop (insert_place comes x ys) ys)
          → (t : Bool) → cond t (x ∷ y ∷ ys) (y ∷ insert comes x ys) ≡ take (cond t 0 (suc (insert_place comes x ys))) (y ∷ ys) ++ (x ∷ drop (cond t 0 (suc (insert_place comes x ys))) (y ∷ ys))
      split h true = refl
      split h false = ap (λ (l : List ℕ). y ∷ l) h

  -- put in at its place, it is inserted
  inserted : (x : ℕ) (l : List ℕ) (n p : ℕ) → p ≤ n → p ≡ insert_place comes x (take n l) → take p l ++ (x ∷ drop p (take n l)) ≡ insert comes x (take n l)
  inserted x l n p h e = rw (insert-at x (take n l), ← e, take-take p n l h)

  -- the place is at most where the test holds
  pub place_le : (x : ℕ) (ys : List ℕ) (i : ℕ) → i < length ys → comes x (get_or ys i 0) ≡ true → insert_place comes x ys ≤ i
  place_le x [] i h e = absurd (omega arith)
  place_le x (y ∷ ys) zero h e = rw e (omega arith)
  place_le x (y ∷ ys) (suc i) h e = split (comes x y) (place_le x ys i (omega arith) e)
    where
      split : (t : Bool) → insert_place comes x ys ≤ i → cond t 0 (suc (insert_place comes x ys)) ≤ suc i
      split true k = omega arith
      split false k = omega arith

  pub place_max : (x : ℕ) (ys : List ℕ) → insert_place comes x ys ≤ length ys
  place_max x [] = omega arith
  place_max x (y ∷ ys) = split (comes x y) (place_max x ys)
    where
      split : (t : Bool) → insert_place comes x ys ≤ length ys → cond t 0 (suc (insert_place comes x ys)) ≤ suc (length ys)
      split true k = omega arith
      split false k = omega arith

  -- in a list in order, the place is past where the test fails
  place_gt : ((a b c : ℕ) → comes a b ≡ true → comes b c ≡ true → comes a c ≡ true) → (x : ℕ) (ys : List ℕ) (i : ℕ) → i < length ys
      → ((i j : ℕ) → i < j → j < length ys → comes (get_or ys i 0) (get_or ys j 0) ≡ true) → comes x (get_or ys i 0) ≡ false → i < insert_place comes x ys
  place_gt trans x [] i h o e = absurd (omega arith)
  place_gt trans x (y ∷ ys) zero h o e = rw e (omega arith)
  place_gt trans x (y ∷ ys) (suc i) h o e = split (comes x y) refl (place_gt trans x ys i (omega arith) (λ a b p q. o (suc a) (suc b) (omega arith) (omega arith)) e)
    where
      split : (t : Bool) → comes x y ≡ t → i < insert_place comes x ys → suc i < cond t 0 (suc (insert_place comes x ys))
      split true q k =
          let r : comes x (get_or ys i 0) ≡ true = trans x y (get_or ys i 0) q (o 0 (suc i) (omega arith) h) in
          absurd (let z : ◌≡◌ {A = ℕ} 0 1 = cc in omega arith)
      split false q k = omega arith

-- ── a half of the places of a list, by the test at i ──
module _ (names : List ℕ) (base : ℕ) where
  pub from_trans : (a b c : ℕ) → before_from names base a b ≡ true → before_from names base b c ≡ true → before_from names base a c ≡ true
  unfolding before_from
  from_trans a b c e f = order_trans (λ c. name_at names (base + 32 * (c - 1) + 16)) a b c e f

  pub half_high : {count x : ℕ} {l : List ℕ} → Listed names base count l x → (i : ℕ) → i < length l → before_from names base x (get_or l i 0) ≡ false → i < insert_place (before_from names base) x l
  half_high {x = x} {l = l} r i h e = place_gt (before_from names base) from_trans x l i h r.ordered e

-- ── the first n of a list, those from p on moved up by one and x put at p ──
moved_up : (l : List ℕ) (n p x : ℕ) → p ≤ n → n < length l → take (n + 1) (set (copy_within l p n (p + 1)) p x) ≡ take p l ++ (x ∷ drop p (take n l))
moved_up l n p x h k =
    let front : List ℕ = take p l in
    let mid : List ℕ = take (n - p) (drop p l) in
    let rest : List ℕ = drop (p + 1 + (n - p)) l in
    let lf : length front ≡ p = length-take-le p l (omega arith) in
    let lm : length mid ≡ n - p = length-take-le (n - p) (drop p l) (omega (arith, length-drop p l)) in
    let here : take (p + 1) l ≡ front ++ (get_or l p 0 ∷ []) = rw add-one (take-suc l p 0 (omega arith)) in
    let moved : copy_within l p n (p + 1) ≡ front ++ (get_or l p 0 ∷ (mid ++ rest)) = rw here (simp append_assoc) in
    let whole : take (n + 1) ((front ++ (x ∷ mid)) ++ rest) ≡ front ++ (x ∷ mid) = take_at (front ++ (x ∷ mid)) rest (n + 1) (length-append front (x ∷ mid) ∙ omega arith) in
    rw (moved, set_at front (get_or l p 0) (mid ++ rest) x p lf, ← append_assoc front (x ∷ mid) rest, whole, ← between_is l p n)

pub put_in : (comes : ℕ → ℕ → Bool) (l : List ℕ) (n p x : ℕ) → n < length l → p ≤ length (take n l) → p ≡ insert_place comes x (take n l)
    → take (n + 1) (set (copy_within l p n (p + 1)) p x) ≡ insert comes x (take n l)
put_in comes l n p x k h e =
    let b : p ≤ n = omega (arith, length-take-le n l (omega arith)) in
    moved_up l n p x b k ∙ inserted comes x l n p b e

-- ── the entry at the place, of a list that stands at the front of another ──
taken_of : (xs : List ℕ) → 0 < length xs → taken xs ≡ Some (get_or xs (place_of (length xs) - 1) 0)
taken_of [] h = absurd (omega arith)
taken_of (x ∷ xs) h = refl

pub taken_none : (l xs : List ℕ) (n : ℕ) → n ≡ 0 → take n l ≡ xs → None ≡ taken xs
taken_none l xs n h e =
    let f : take 0 l ≡ xs = rw h at e in
    rw (← f)

pub taken_at : (l xs : List ℕ) (n : ℕ) → take n l ≡ xs → 0 < n → n ≤ length l → Some (get_or l ((n + 1) / 2 - 1) 0) ≡ taken xs
taken_at l xs n e h k =
    let m : length (take n l) ≡ n = length-take-le n l k in
    let g : get_or (take n l) ((n + 1) / 2 - 1) 0 ≡ get_or l ((n + 1) / 2 - 1) 0 = get_or-take n l ((n + 1) / 2 - 1) 0 (omega arith) in
    rw (← e, taken_of (take n l) (omega arith), m, g)
