-- The text's length, and a note written number by number.
-- Assumes nothing.
use mathlib.Core.Path.{◌≡◌, sym, ap, ◌∙◌, subst}
use mathlib.Core.List.{List, [], ◌∷◌, ◌++◌, append_assoc}
use Prim.Native.Nat.{ℕ, ◌+◌, ◌*◌, ◌/◌, ◌%◌, ◌≤◌, ◌<◌}
use native.Mathlib.Nat.{mul_assoc, mod-eq_of_lt}
use native.Mathlib.Numerals.{add-one}
use native.Mathlib.Omega.{arith}
use lib.Dec.{eqb}
use lib.ListN.{length, set}
use Rattle.model.specs.declared.Dims.{Dims}
use Rattle.model.specs.declared.Payment.{Payment}
use Rattle.model.specs.Text.{decimal}
use Rattle.model.specs.Note.{notes_long, note_of}
use Rattle.model.proofs.DecimalLaws.{dec_small, dec_more, length_more, dec_most}
use Rattle.layout.specs.Layout.{all_customers}
use Rattle.text.specs.Writing.{Wrote}
use Rattle.text.proofs.Putting.{wrote_then, byte_first}

-- ── 14 ──
pub long-is : (d : Dims) (notes : List ℕ) {n : ℕ} → n ≡ all_customers d → eqb (length notes) (500 * n) ≡ notes_long d notes
unfolding notes_long all_customers
long-is d notes e =
    ap (λ (i : ℕ). eqb (length notes) (500 * i)) e
    ∙ ap (eqb (length notes)) (sym (mul_assoc 500 (10 * d.warehouses) d.customers) ∙ ap (λ (i : ℕ). i * d.customers) (sym (mul_assoc 500 10 d.warehouses)))

-- ── a number with the byte after it ──
-- a number of three digits or more, by its last two
module _ (n : ℕ) (h : 10 ≤ n) (u : n < 100000000000000000000) (t : 10 ≤ n / 10) where
  tens_fit : n / 10 < 100000000000000000000
  tens_fit = omega arith

  last_digits : (x : ℕ) → decimal (n / 10 / 10) ++ ((48 + n / 10 % 10) ∷ (48 + n % 10) ∷ x ∷ []) ≡ decimal n ++ (x ∷ [])
  last_digits x =
      let d = decimal (n / 10 / 10) in
      let tens = (48 + n / 10 % 10) ∷ [] in
      rw (dec_more n h u, dec_more (n / 10) t tens_fit, append_assoc d tens ((48 + n % 10) ∷ []), append_assoc d ((48 + n / 10 % 10) ∷ (48 + n % 10) ∷ []) (x ∷ []))

  -- the digits before them leave room
  pub few_digits : length (decimal (n / 10 / 10)) ≤ 18
  few_digits = omega (arith, length_more n h u, length_more (n / 10) t tens_fit, dec_most n)

module _ {l m : List ℕ} {at r : ℕ} (n x : ℕ) where
  pub one_digit : n < 10 → Wrote l m at r ((48 + n % 10) ∷ x ∷ []) → Wrote l m at r (decimal n ++ (x ∷ []))
  one_digit h w = subst (Wrote l m at r) (rw (dec_small n h, mod-eq_of_lt h)) w

  module _ (h : 10 ≤ n) (u : n < 100000000000000000000) where
    pub two_digits : n / 10 < 10 → Wrote (set l at (48 + n / 10 % 10)) m (at + 1) r ((48 + n % 10) ∷ x ∷ []) → Wrote l m at r (decimal n ++ (x ∷ []))
    two_digits t w =
        subst (Wrote l m at r) (rw (dec_more n h u, dec_small (n / 10) t, mod-eq_of_lt t)) (byte_first l m at (at + 1) r (48 + n / 10 % 10) ((48 + n % 10) ∷ x ∷ []) (add-one at) w)

    pub more-digits : 10 ≤ n / 10 → {k : List ℕ} {p : ℕ} → Wrote l k at p (decimal (n / 10 / 10)) → Wrote (set k p (48 + n / 10 % 10)) m (p + 1) r ((48 + n % 10) ∷ x ∷ [])
        → Wrote l m at r (decimal n ++ (x ∷ []))
    more-digits t {k} {p} v w =
        subst (Wrote l m at r) (last_digits n h u t x)
        (wrote_then l k m at p r (decimal (n / 10 / 10)) _ v (byte_first k m p (p + 1) r (48 + n / 10 % 10) ((48 + n % 10) ∷ x ∷ []) (add-one p) w))

-- ── numbers, each with the byte after it ──
number-first : {l m k : List ℕ} {at p r : ℕ} (x : ℕ) (xs ys : List ℕ) → Wrote l m at p (xs ++ (x ∷ [])) → Wrote m k p r ys → Wrote l k at r (xs ++ (x ∷ ys))
number-first {l} {m} {k} {at} {p} {r} x xs ys v w =
    subst (Wrote l k at r) (append_assoc xs (x ∷ []) ys) (wrote_then l m k at p r (xs ++ (x ∷ [])) ys v w)

-- six of them are the note
pub note_written : (q : Payment) (c : ℕ) {l0 l1 l2 l3 l4 l5 l6 : List ℕ} {p1 p2 p3 p4 p5 p6 : ℕ}
    → Wrote l0 l1 0 p1 (decimal c ++ (32 ∷ []))
    → Wrote l1 l2 p1 p2 (decimal q.custdistrict ++ (32 ∷ []))
    → Wrote l2 l3 p2 p3 (decimal q.custwarehouse ++ (32 ∷ []))
    → Wrote l3 l4 p3 p4 (decimal q.district ++ (32 ∷ []))
    → Wrote l4 l5 p4 p5 (decimal q.warehouse ++ (32 ∷ []))
    → Wrote l5 l6 p5 p6 (decimal q.amount ++ (59 ∷ []))
    → Wrote l0 l6 0 p6 (note_of q c)
unfolding note_of
note_written q c w1 w2 w3 w4 w5 w6 =
    number-first 32 (decimal c) _ w1
    (number-first 32 (decimal q.custdistrict) _ w2
    (number-first 32 (decimal q.custwarehouse) _ w3 (number-first 32 (decimal q.district) _ w4 (number-first 32 (decimal q.warehouse) _ w5 w6))))
