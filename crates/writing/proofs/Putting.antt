-- Laws of writing a request: the lines of an order, what its tests say, what writing answers and leaves.
-- Assumes nothing.
use Rattle.std.proofs.Math.Bool.{and_assoc, and-true}
use mathlib.Core.Path.{◌≡◌, refl, sym, ap, ◌∙◌, subst}
use mathlib.Core.Bool.{Bool, true, false, ◌&&◌}
use mathlib.Core.List.{List, [], ◌∷◌, ◌++◌}
use Prim.Native.Nat.{ℕ, ◌+◌, ◌≤◌, ◌<◌}
use native.Mathlib.Numerals.{add-one}
use native.Mathlib.Omega.{arith}
use lib.Dec.{leb}
use lib.ListN.{length, get_or, take, drop, set}
use lib.Seq.{paste, paste-suc, take-length, sets-eq, take-suc, take_all}
use borrow.Author.Tests.{leb-true, le-leb, lt-leb}
use Rattle.std.specs.List.{list_all}
use Rattle.std.proofs.Common.{Ok, Err}
use Rattle.model.specs.declared.Refused.{Refused}
use Rattle.model.specs.declared.Line.{Line}
use Rattle.model.specs.declared.NewOrder.{NewOrder}
use Rattle.model.specs.declared.OrderStatus.{OrderStatus}
use Rattle.model.specs.declared.Payment.{Payment}
use Rattle.model.specs.Names.{Who}
use Rattle.model.specs.Tests.{all_of}
use Rattle.model.specs.Text.{has_digits, decimal, tabbed}
use Rattle.model.specs.Request.{Request, new_order, payment, order_status}
use Rattle.model.specs.RequestLine.{has_who, line_small, has_form, line_fields, line_of, write_fault, write_answer, write_buffer}
use Rattle.model.proofs.TestLaws.{every-each}
use Rattle.text.specs.Writing.{Wrote}
use Rattle.text.proofs.Putting.{fields_then, front}
use Rattle.writing.specs.Writing.{Written}

-- ── the lines of an order ──
fields_append : (xs ys : List Line) → line_fields (xs ++ ys) ≡ line_fields xs ++ line_fields ys
fields_append [] ys = refl
fields_append (x ∷ xs) ys = ap (λ (k : List (List ℕ)). decimal x.item ∷ decimal x.supply ∷ decimal x.quantity ∷ k) (fields_append xs ys)

-- one line more
pub put_more : (lines : List Line) (d : Line) (l m k : List ℕ) (at p q i : ℕ) → i < length lines → Wrote l m at p (tabbed (line_fields (take i lines)))
    → Wrote m k p q (tabbed (line_fields (get_or lines i d ∷ []))) → Wrote l k at q (tabbed (line_fields (take (i + 1) lines)))
put_more lines d l m k at p q i h a b =
    let e : line_fields (take (i + 1) lines) ≡ line_fields (take i lines) ++ line_fields (get_or lines i d ∷ []) =
    ap (λ j. line_fields (take j lines)) (add-one i) ∙ ap line_fields (take-suc lines i d h) ∙ fields_append (take i lines) (get_or lines i d ∷ []) in
    subst (λ (fs : List (List ℕ)). Wrote l k at q (tabbed fs)) (sym e) (fields_then l m k at p q (line_fields (take i lines)) (line_fields (get_or lines i d ∷ [])) a b)

pub put_all : (lines : List Line) (l m : List ℕ) (at p i : ℕ) → length lines ≤ i → Wrote l m at p (tabbed (line_fields (take i lines))) → Wrote l m at p (tabbed (line_fields lines))
put_all lines l m at p i h a = subst (λ (ls : List Line). Wrote l m at p (tabbed (line_fields ls))) (take_all i lines h) a

-- a name, by its bytes
pub copy_step : (d : List ℕ) (at : ℕ) (s b : List ℕ) (i : ℕ) → at + i < length d → i < length s → b ≡ paste d at s i → set b (at + i) (get_or s i 0) ≡ paste d at s (i + 1)
copy_step d at s b i h k e = rw (e, add-one i) (paste-suc d at s i 0 h k)

pub copied : (d : List ℕ) (at : ℕ) (f : List ℕ) → at + length f ≤ length d → Wrote d (paste d at f (length f)) at (at + length f) f
copied d at f h = record { same = ap (λ (g : List ℕ). take at d ++ g ++ drop (at + length f) d) (take-length f) ∙ sym (sets-eq f d at h); place = refl }

-- ── tests ──
pub all_is : {A : Type 0} (f : A → Bool) (xs : List A) → list_all f xs ≡ all_of f xs
all_is f [] = refl
all_is f (x ∷ xs) = ap (λ t. f x && t) (all_is f xs)

pub lines-small : (ls : List Line) → list_all (λ l. all_of has_digits (l.item ∷ l.supply ∷ l.quantity ∷ [])) ls ≡ all_of line_small ls
lines-small [] = refl
lines-small (l ∷ ls) = rw (lines-small ls) (simp (and_assoc, and-true))

-- ── what a form's tests say of lines and who ──
pub order-few : (q : NewOrder) (lines : List Line) → has_form (new_order q lines) ≡ true → length lines ≤ 15
unfolding has_form
order-few q lines e =
    leb-true (length lines) 15
    (every-each (has_digits q.warehouse ∷ has_digits q.district ∷ has_digits q.customer ∷ has_digits q.date ∷ leb 1 (length lines) ∷ leb (length lines) 15 ∷ all_of line_small lines ∷ []) e).1.1.1.1.1.0

pub payment-who : (q : Payment) (who : Who) → has_form (payment q who) ≡ true → has_who who ≡ true
unfolding has_form
payment-who q who e =
    (every-each (has_digits q.warehouse ∷ has_digits q.district ∷ has_digits q.custwarehouse ∷ has_digits q.custdistrict ∷ has_who who ∷ has_digits q.date ∷ has_digits q.amount ∷ []) e).1.1.1.1.0

pub status_who : (q : OrderStatus) (who : Who) → has_form (order_status q who) ≡ true → has_who who ≡ true
unfolding has_form
status_who q who e = (every-each (has_digits q.warehouse ∷ has_digits q.district ∷ has_who who ∷ []) e).1.1.0

-- ── what writing answers and leaves ──
pub unwritten : (b : List ℕ) (r : Request) → has_form r ≡ false → Written b b (Err Refused.NoForm) r
unfolding write_answer write_buffer write_fault
unwritten b r e = record { says = rw e; leaves = rw e }

module _ (b o l : List ℕ) (n : ℕ) (r : Request) (e : has_form r ≡ true) (w : Wrote o l 0 n (line_of r)) where
  pub too_short : length b < n → Written b b (Err Refused.NoForm) r
  unfolding write_answer write_buffer write_fault
  too_short h =
      let k : leb (length (line_of r)) (length b) ≡ false = lt-leb (length (line_of r)) (length b) (omega (arith, h, w.place)) in
      record { says = rw (e, k); leaves = rw (e, k) }

  pub written : n ≤ length o → n ≤ length b → Written b (take n l ++ drop n b) (Ok n) r
  unfolding write_answer write_buffer write_fault
  written g h =
      let k : leb (length (line_of r)) (length b) ≡ true = le-leb (length (line_of r)) (length b) (omega (arith, w.place)) in
      let m : n ≡ length (line_of r) = omega (arith, w.place) in
      record { says = rw (e, k, ← m); leaves = rw (e, k, front o l (line_of r) n w (omega (arith, g, m)), ← m) }
