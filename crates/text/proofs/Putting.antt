-- Laws of writing: stores after stores, digits and signs, fields, whole lines.
-- Assumes nothing.
use mathlib.Core.Path.{◌≡◌, refl, sym, ap, ◌∙◌, subst}
use mathlib.Core.Bool.{true, false}
use mathlib.Core.List.{List, [], ◌∷◌, ◌++◌, map, append-nil, map-append}
use Prim.Native.Nat.{ℕ, suc, ◌+◌, ◌≤◌, ◌<◌}
use native.Mathlib.Nat.{add-suc, suc-add, add-zero, zero-add}
use native.Mathlib.Numerals.{add-one}
use native.Mathlib.Omega.{arith}
use lib.IntN.{ℤ, pos, negsuc, nat_abs}
use lib.Signed.{lt_z}
use lib.ListN.{length, get_or, take, drop, set, length-append}
use lib.Seq.{sets, sets-eq, take-suc, take_all, take_at}
use borrow.Author.Tests.{ltb-true}
use mir.Syntax.{w64}
use mir.Val.{SFits, to_z, of_z}
use mir.Facts.{to_z-of_z}
use Rattle.model.specs.Text.{decimal, signed, signeds, positives, tabbed, line_text}
use Rattle.model.proofs.DecimalLaws.{dec_few}
use Rattle.model.proofs.TextLaws.{tabbed_append}
use Rattle.text.specs.Writing.{Wrote}

-- ── stores after stores ──
pub sets_append : (l : List ℕ) (i : ℕ) (xs ys : List ℕ) → sets l i (xs ++ ys) ≡ sets (sets l i xs) (i + length xs) ys
sets_append l i [] ys = rw add-zero
sets_append l i (x ∷ xs) ys = rw (sets_append (set l i x) (suc i) xs ys, add-suc, suc-add)

pub wrote_then : (l m k : List ℕ) (at p q : ℕ) (xs ys : List ℕ) → Wrote l m at p xs → Wrote m k p q ys → Wrote l k at q (xs ++ ys)
wrote_then l m k at p q xs ys a b =
    record {
      same = b.same ∙ ap (λ (x : List ℕ). sets x p ys) a.same ∙ ap (λ (x : ℕ). sets (sets l at xs) x ys) a.place ∙ sym (sets_append l at xs ys);
      place = omega (arith, a.place, b.place, length-append xs ys);
    }

-- a byte, and what is written from the next place on
pub byte_first : (l m : List ℕ) (at next p x : ℕ) (xs : List ℕ) → next ≡ suc at → Wrote (set l at x) m next p xs → Wrote l m at p (x ∷ xs)
byte_first l m at next p x xs e w = record { same = w.same ∙ ap (λ (k : ℕ). sets (set l at x) k xs) e; place = omega (arith, w.place, e) }

-- bytes stored from the front, as they stand before the rest
pub at_front : (l m xs : List ℕ) (n : ℕ) → Wrote l m 0 n xs → length xs ≤ length l → m ≡ xs ++ drop (length xs) l
at_front l m xs n w h = w.same ∙ rw (zero-add (length xs)) at (sets-eq xs l 0 (rw (zero-add (length xs)) h))

pub front : (l m xs : List ℕ) (n : ℕ) → Wrote l m 0 n xs → length xs ≤ length l → take n m ≡ xs
front l m xs n w h = ap (take n) (at_front l m xs n w h) ∙ take_at xs (drop (length xs) l) n (omega (arith, w.place))

-- ── fields ──
pub no_field : (l : List ℕ) (at : ℕ) → Wrote l l at at (tabbed [])
unfolding tabbed
no_field l at = record { same = refl; place = sym (add-zero at) }

pub one_field : (l m : List ℕ) (at p : ℕ) (f : List ℕ) → Wrote (set l at 9) m (at + 1) p f → Wrote l m at p (tabbed (f ∷ []))
unfolding tabbed
one_field l m at p f w = rw (append-nil f) (byte_first l m at (at + 1) p 9 f (add-one at) w)

-- a field that a mark begins
pub marked_field : (l m : List ℕ) (at p x : ℕ) (f : List ℕ) → Wrote (set (set l at 9) (at + 1) x) m (at + 2) p f → Wrote l m at p (tabbed ((x ∷ f) ∷ []))
marked_field l m at p x f w = one_field l m at p (x ∷ f) (byte_first (set l at 9) m (at + 1) (at + 2) p x f (omega arith) w)

pub fields_then : (l m k : List ℕ) (at p q : ℕ) (fs gs : List (List ℕ)) → Wrote l m at p (tabbed fs) → Wrote m k p q (tabbed gs) → Wrote l k at q (tabbed (fs ++ gs))
fields_then l m k at p q fs gs a b = rw (tabbed_append fs gs) (wrote_then l m k at p q (tabbed fs) (tabbed gs) a b)

-- numbers of a list, one by one
module _ {A : Type 0} (f : A → List ℕ) (l m : List ℕ) (at p i : ℕ) (xs : List A) where
  pub number_step : (k : List ℕ) (q : ℕ) (x : A) → x ≡ get_or xs i x → i < length xs → Wrote l m at p (tabbed (map f (take i xs))) → Wrote m k p q (tabbed (f x ∷ []))
      → Wrote l k at q (tabbed (map f (take (i + 1) xs)))
  number_step k q x is h a b =
      let e : map f (take (i + 1) xs) ≡ map f (take i xs) ++ (f x ∷ []) =
      ap (λ (j : ℕ). map f (take j xs)) (add-one i) ∙ ap (map f) (take-suc xs i x h ∙ ap (λ (y : A). take i xs ++ (y ∷ [])) (sym is)) ∙ map-append f (take i xs) (x ∷ []) in
      subst (λ (fs : List (List ℕ)). Wrote l k at q (tabbed fs)) (sym e) (fields_then l m k at p q (map f (take i xs)) (f x ∷ []) a b)

  pub number-all : length xs ≤ i → Wrote l m at p (tabbed (map f (take i xs))) → Wrote l m at p (tabbed (map f xs))
  number-all h a = subst (λ (ys : List A). Wrote l m at p (tabbed (map f ys))) (take_all i xs h) a

-- numbers without signs, as signed ones are written
pub positives_text : (ns : List ℕ) → map decimal ns ≡ signeds (positives ns)
positives_text [] = refl
positives_text (n ∷ ns) = ap (λ (fs : List (List ℕ)). decimal n ∷ fs) (positives_text ns)

-- ── a whole line, by its first byte, its fields and its byte 10 ──
pub whole-line : (l m : List ℕ) (p x : ℕ) (fs : List (List ℕ)) → Wrote (set l 0 x) m 1 p (tabbed fs) → Wrote l (set m p 10) 0 (p + 1) (line_text ((x ∷ []) ∷ fs))
unfolding line_text
whole-line l m p x fs w =
    wrote_then l m (set m p 10) 0 p (p + 1) (x ∷ tabbed fs) (10 ∷ []) (byte_first l m 0 1 p x (tabbed fs) refl w) (record { same = refl; place = refl })

-- ── a signed number ──
-- without its sign it has at most nineteen digits
magnitude_fits : (z : ℤ) → SFits w64 z → nat_abs z < 10000000000000000000
magnitude_fits (pos n) f = omega (arith, f.sfits)
magnitude_fits (negsuc n) f = omega (arith, f.sfits)

pub magnitude : (z : ℤ) (n : ℕ) → SFits w64 z → n ≡ nat_abs (to_z w64 (of_z w64 z)) → (n ≡ nat_abs z) × (length (decimal n) ≤ 19)
magnitude z n f e =
    let q : n ≡ nat_abs z = rw (to_z-of_z f) at e in
    (q, rw q (dec_few 18 (nat_abs z) (omega arith) (magnitude_fits z f)))

-- a signed number, by its sign and digits
plain : (z : ℤ) → lt_z z (pos 0) ≡ false → decimal (nat_abs z) ≡ signed z
plain (pos n) e = refl
plain (negsuc n) e = absurd (let q : ◌≡◌ {A = ℕ} 0 1 = cc in omega arith)

minus : (z : ℤ) → lt_z z (pos 0) ≡ true → 45 ∷ decimal (nat_abs z) ≡ signed z
minus (pos n) e = absurd (omega (arith, ltb-true n 0 e))
minus (negsuc n) e = refl

module _ (l m : List ℕ) (at p n : ℕ) (z : ℤ) (e : n ≡ nat_abs z) where
  pub put_plain : lt_z z (pos 0) ≡ false → Wrote (set l at 9) m (at + 1) p (decimal n) → Wrote l m at p (tabbed (signed z ∷ []))
  put_plain t w = subst (λ (f : List ℕ). Wrote l m at p (tabbed (f ∷ []))) (ap decimal e ∙ plain z t) (one_field l m at p (decimal n) w)

  pub put_minus : lt_z z (pos 0) ≡ true → Wrote (set (set l at 9) (at + 1) 45) m (at + 2) p (decimal n) → Wrote l m at p (tabbed (signed z ∷ []))
  put_minus t w =
      subst (λ (f : List ℕ). Wrote l m at p (tabbed (f ∷ []))) (ap (λ (j : ℕ). 45 ∷ decimal j) e ∙ minus z t)
      (marked_field l m at p 45 (decimal n) w)
