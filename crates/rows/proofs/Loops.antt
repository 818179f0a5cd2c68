-- What `all` answers over 0 .. n - 1 where the closure changes nothing and answers the test of the number behind: the test at each of 1 .. n.
-- Assumes nothing.
use mathlib.Core.Path.{◌≡◌, sym, ap, ◌∙◌}
use mathlib.Core.Bool.{Bool, true, false, not}
use Prim.Native.Nat.{ℕ, ◌+◌, ◌-◌, ◌<◌, ◌≤◌}
use native.Mathlib.Omega.{arith}
use denote.Param.Members.{Mut}
use lib.ListN.{length, get_or}
use Rattle.std.specs.declared.ops.Range.{Range}
use Rattle.std.specs.Bool.{MatchBool}
use Rattle.std.specs.Fn.{Called}
use Rattle.std.specs.Iterator.{ChecksAll}
use Rattle.std.specs.List.{range_with_len, AllWithin, HoldsAt}
use Rattle.std.proofs.iter.Yields.{nat_range_steps}
use Rattle.std.proofs.lemmas.Iterator.{cases_from_all, YieldsList-from_range}
use Rattle.std.proofs.lemmas.List.FromFn.{length-range_with_len, get_or-range_with_len}
use Rattle.model.specs.Tests.{all_to}
use borrow.Author.Tests.{not-true, not-false}
use native.Mathlib.Nat.{le_antisymm}
use Rattle.model.proofs.TestLaws.{and_both, all-step, all-to, all_fails}

module _ (n : ℕ) (P : ℕ → Bool) where
  at : (k : ℕ) → k < n → get_or (range_with_len 0 n) k 0 ≡ k
  at k h = omega (arith, get_or-range_with_len 0 n k 0 h)

  read : (t : Bool) → MatchBool t (AllWithin (λ i. i < n → P (i + 1) ≡ true) (range_with_len 0 n) 0 (length (range_with_len 0 n))) ((k : ℕ) × (k < length (range_with_len 0 n)) × HoldsAt (λ i. i < n → P (i + 1) ≡ false) (range_with_len 0 n) k)
      → t ≡ all_to n P
  read true a =
      sym (all-to P n (λ k r. let e = at (k - 1) (omega (arith, r.lo, r.hi)) in ap P (omega (arith, r.lo)) ∙ a (k - 1) 0 (omega arith) (omega (arith, length-range_with_len 0 n, r.lo, r.hi)) (omega (arith, r.lo, r.hi))))
  read false a =
      let h : a.0 < n = omega (arith, length-range_with_len 0 n, a.1) in
      let e = at a.0 h in
      sym (all_fails P n (get_or (range_with_len 0 n) a.0 0 + 1) (record { lo = omega arith; hi = omega arith }) (a.2 0 (omega arith)))

  pub all_over : {F : Type 0} {g : Mut F (ℕ × Unit {0}) Bool} {s u : Range ℕ} {f : F} {r : Bool} → ChecksAll nat_range_steps g s f r u → s ≡ record { start = 0; end = n }
      → ((i : ℕ) (t : Bool) (q : F) → Called g f (i, tt) t q → (q ≡ f) × (i < n → t ≡ P (i + 1))) → r ≡ all_to n P
  all_over {r = r} ran e each =
      read r (cases_from_all _ _ r (λ i. i < n → P (i + 1) ≡ true) (λ i. i < n → P (i + 1) ≡ false) ran (YieldsList-from_range 0 n n e (omega arith))
      (λ i q k. let h = each i true q k in (h.0, λ l. sym (h.1 l)))
      (λ i q k. let h = each i false q k in λ l. sym (h.1 l)))

-- ── the same of a loop that leaves at the first test that fails, by what the call of the test ensures and the branch's test ──
module _ (f : ℕ → Bool) where
  -- a test that failed
  pub all_left : (n i : ℕ) {t : Bool} → i < n → t ≡ f (i + 1) → not t ≡ true → false ≡ all_to n f
  all_left n i {t} h e s = sym (all_fails f n (i + 1) (record { lo = omega arith; hi = omega arith }) (sym e ∙ not-true t s))

  -- one turn more, after a test that held
  pub all_again : (i : ℕ) {t : Bool} → all_to i f ≡ true → t ≡ f (i + 1) → not t ≡ false → all_to (i + 1) f ≡ true
  all_again i {t} p e s = all-step f i ∙ and_both (all_to i f) (f (i + 1)) p (sym e ∙ not-false t s)

  pub all_end : {n i : ℕ} {t : Bool} → i ≤ n → n ≤ i → all_to i f ≡ t → t ≡ all_to n f
  all_end h k e = sym e ∙ ap (λ (m : ℕ). all_to m f) (le_antisymm h k)
