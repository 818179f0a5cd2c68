-- R-4: laws of the customers' texts: notes put together, and a text in its place among the others.
-- Assumes nothing.
use mathlib.Core.Path.{◌≡◌, refl, sym, ap, ◌∙◌}
use mathlib.Core.Logic.{◌≢◌}
use mathlib.Core.Bool.{true, false, not, cond}
use mathlib.Core.List.{List, [], ◌∷◌, ◌++◌, append_assoc, append-nil}
use Prim.Native.Nat.{ℕ, zero, suc, ◌+◌, ◌-◌, ◌≤◌, ◌<◌}
use native.Mathlib.Omega.{arith}
use native.Mathlib.Decide.{dec_lt}
use lib.ListN.{length, take, drop, replicate, length-append, length-drop, length-replicate, replicate-append-replicate, take-append-drop}
use lib.Seq.{length-take-le, take-take, take-append-le, drop-append-le, drop-drop, take_at, drop_at}
use borrow.Author.Tests.{not-true}
use Rattle.model.specs.declared.Dims.{Dims}
use Rattle.model.specs.declared.Payment.{Payment}
use Rattle.model.specs.Tests.{all_of}
use Rattle.model.specs.Layout.{place, per_customer, of_customer}
use Rattle.model.specs.Note.{note_place, text_at, note_bytes, note_of, moved, replaced}
use Rattle.model.specs.Tally.{Paid, is3}
use Rattle.model.specs.Claim.{R}
use Rattle.model.specs.NoteClaim.{note_for, paid_by, newest_first}
use Rattle.model.proofs.TestLaws.{and_left, and_right}
use Rattle.model.proofs.Places.{place_lt, false-place}

-- ── notes ──
-- what a first part already cuts off
pub take_inner : (n m : ℕ) (a x : List ℕ) → n ≤ m → take n (a ++ take m x) ≡ take n (a ++ x)
take_inner n m [] x h = take-take n m x h
take_inner zero m (y ∷ a) x h = refl
take_inner (suc n) m (y ∷ a) x h = ap (λ (l : List ℕ). y ∷ l) (take_inner n m a x (omega arith))

-- the model's note is the claim's
pub note_is : (q : Payment) (c : ℕ) → note_of q c ≡ note_for (record { request = q; customer = c })
unfolding note_of
note_is q c = refl

-- a payment more
pub newest_more : (w k c : ℕ) (ps : List Paid) (p : Paid) → newest_first w k c (ps ++ (p ∷ [])) ≡ cond (paid_by w k c p) (note_for p) [] ++ newest_first w k c ps
newest_more w k c [] p = sym (append-nil (cond (paid_by w k c p) (note_for p) []))
newest_more w k c (x ∷ ps) p =
    ap (λ (l : List ℕ). l ++ cond (paid_by w k c x) (note_for x) []) (newest_more w k c ps p)
    ∙ append_assoc (cond (paid_by w k c p) (note_for p) []) (newest_first w k c ps) (cond (paid_by w k c x) (note_for x) [])

pub newest_none : (w k c : ℕ) (ps : List Paid) → all_of (λ p. not (paid_by w k c p)) ps ≡ true → newest_first w k c ps ≡ []
newest_none w k c [] e = refl
newest_none w k c (p ∷ ps) e =
    let rest = newest_none w k c ps (and_right (not (paid_by w k c p)) (all_of (λ p. not (paid_by w k c p)) ps) e) in
    rw (rest, not-true (paid_by w k c p) (and_left (not (paid_by w k c p)) (all_of (λ p. not (paid_by w k c p)) ps) e))

-- ── a text of 500 bytes from p on ──
module _ (p : ℕ) (text notes : List ℕ) (long : length text ≡ 500) (room : p + 500 ≤ length notes) where
  pub length-replaced : length (replaced p text notes) ≡ length notes
  unfolding replaced
  length-replaced =
      omega (arith, length-append (take p notes) (text ++ drop (p + 500) notes), length-append text (drop (p + 500) notes), length-take-le p notes (omega arith), length-drop (p + 500) notes)

  replaced_here : take 500 (drop p (replaced p text notes)) ≡ text
  unfolding replaced
  replaced_here =
      ap (take 500) (drop_at (take p notes) (text ++ drop (p + 500) notes) p (length-take-le p notes (omega arith)))
      ∙ take_at text (drop (p + 500) notes) 500 long

  -- .. before it
  replaced-before : (r : ℕ) → r + 500 ≤ p → take 500 (drop r (replaced p text notes)) ≡ take 500 (drop r notes)
  unfolding replaced
  replaced-before r h = front (text ++ drop (p + 500) notes) ∙ sym (front (drop p notes)) ∙ ap (λ (l : List ℕ). take 500 (drop r l)) (take-append-drop p notes)
    where
      front : (x : List ℕ) → take 500 (drop r (take p notes ++ x)) ≡ take 500 (drop r (take p notes))
      front x =
          let e = length-take-le p notes (omega arith) in
          ap (take 500) (drop-append-le r (take p notes) x (omega (arith, e)))
          ∙ take-append-le 500 (drop r (take p notes)) x (omega (arith, e, length-drop r (take p notes)))

  -- .. behind it
  replaced_behind : (r : ℕ) → p + 500 ≤ r → take 500 (drop r (replaced p text notes)) ≡ take 500 (drop r notes)
  unfolding replaced
  replaced_behind r h = ap (take 500) (split (replaced p text notes) ∙ ap (drop (r - (p + 500))) back ∙ sym (split notes))
    where
      split : (l : List ℕ) → drop r l ≡ drop (r - (p + 500)) (drop (p + 500) l)
      split l = let e : r ≡ p + 500 + (r - (p + 500)) = omega arith in ap (λ (i : ℕ). drop i l) e ∙ sym (drop-drop (r - (p + 500)) (p + 500) l)

      back : drop (p + 500) (take p notes ++ (text ++ drop (p + 500) notes)) ≡ drop (p + 500) notes
      back =
          ap (drop (p + 500)) (sym (append_assoc (take p notes) text (drop (p + 500) notes)))
          ∙ drop_at (take p notes ++ text) (drop (p + 500) notes) (p + 500) (omega (arith, length-append (take p notes) text, length-take-le p notes (omega arith)))

pub length_moved : (note text : List ℕ) → length text ≡ 500 → length (moved note text) ≡ 500
unfolding moved
length_moved note text e = length-take-le 500 (note ++ text) (omega (arith, length-append note text))

-- a part of equal bytes
part_equal : (p n m a : ℕ) → p + n ≤ m → take n (drop p (replicate m a)) ≡ replicate n a
part_equal p n m a h =
    let e : m ≡ p + (n + (m - (p + n))) = omega arith in
    ap (λ (i : ℕ). take n (drop p (replicate i a))) e
    ∙ ap (λ (l : List ℕ). take n (drop p l)) (sym (replicate-append-replicate p (n + (m - (p + n))) a))
    ∙ ap (take n) (drop_at (replicate p a) (replicate (n + (m - (p + n))) a) p (length-replicate p a))
    ∙ ap (take n) (sym (replicate-append-replicate n (m - (p + n)) a))
    ∙ take_at (replicate n a) (replicate (m - (p + n)) a) n (length-replicate n a)

-- ── the customers' texts ──
pub text-whole : (D : Dims) (notes : List ℕ) (w k c : ℕ) → take 500 (text_at D notes w k c) ≡ text_at D notes w k c
unfolding text_at
text-whole D notes w k c = take-take 500 500 (drop (note_place D w k c) notes) (omega arith)

-- a customer's 500 bytes lie within the text
pub text_in : (D : Dims) (w k c : ℕ) → R D.warehouses w → R 10 k → R D.customers c → note_place D w k c + 500 ≤ note_bytes D
unfolding note_place
text_in D w k c r s u = omega (arith, place_lt (per_customer D) (of_customer w k c) (omega arith))

module _ (D : Dims) (w k c : ℕ) (r : R D.warehouses w) (s : R 10 k) (u : R D.customers c) where
  -- all spaces
  pub text_spaces : text_at D (replicate (note_bytes D) 32) w k c ≡ replicate 500 32
  unfolding text_at
  text_spaces = part_equal (note_place D w k c) 500 (note_bytes D) 32 (text_in D w k c r s u)

  module _ (notes : List ℕ) (long : length notes ≡ note_bytes D) where
    pub length-text : length (text_at D notes w k c) ≡ 500
    unfolding text_at
    length-text = length-take-le 500 (drop (note_place D w k c) notes) (omega (arith, text_in D w k c r s u, length-drop (note_place D w k c) notes))

    -- another text in its place: the customer's own, and that of anybody else
    pub text-own : (text : List ℕ) → length text ≡ 500 → text_at D (replaced (note_place D w k c) text notes) w k c ≡ text
    unfolding text_at
    text-own text e = replaced_here (note_place D w k c) text notes e (omega (arith, text_in D w k c r s u))

    pub text-other : (w₀ k₀ c₀ : ℕ) → R D.warehouses w₀ → R 10 k₀ → R D.customers c₀ → is3 w₀ k₀ c₀ w k c ≡ false → (text : List ℕ) → length text ≡ 500
        → text_at D (replaced (note_place D w₀ k₀ c₀) text notes) w k c ≡ text_at D notes w k c
    unfolding text_at note_place
    text-other w₀ k₀ c₀ r₀ s₀ u₀ ne text e = go (dec_lt (note_place D w k c) (note_place D w₀ k₀ c₀))
      where
        room₀ : note_place D w₀ k₀ c₀ + 500 ≤ length notes
        room₀ = omega (arith, text_in D w₀ k₀ c₀ r₀ s₀ u₀)

        apart : place (per_customer D) (of_customer w k c) ≢ place (per_customer D) (of_customer w₀ k₀ c₀)
        apart = false-place (per_customer D) (of_customer w k c) (of_customer w₀ k₀ c₀) (omega arith) (omega arith) ne

        go : Dec (note_place D w k c < note_place D w₀ k₀ c₀) → text_at D (replaced (note_place D w₀ k₀ c₀) text notes) w k c ≡ text_at D notes w k c
        go (yes h) = replaced-before (note_place D w₀ k₀ c₀) text notes e room₀ (note_place D w k c) (omega arith)
        go (no h) = replaced_behind (note_place D w₀ k₀ c₀) text notes e room₀ (note_place D w k c) (omega (arith, apart))
