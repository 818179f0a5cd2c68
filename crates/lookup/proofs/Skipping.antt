-- Customers that the search passes by: their last names are others.
-- Assumes nothing.
use mathlib.Core.Path.{◌≡◌}
use mathlib.Core.Logic.{inl, inr}
use mathlib.Core.Bool.{Bool, true}
use Prim.Native.Nat.{ℕ, zero, suc, ◌<◌, ◌≤◌, ◌-◌}
use native.Mathlib.Nat.{eq-or-lt_of_le}
use native.Mathlib.Omega.{arith}
use Rattle.model.specs.Names.{passing, sorted, insert}
use Rattle.lookup.specs.Listed.{Passed}

module _ (test : ℕ → Bool) where
  -- they add nothing
  pub passing-by : (i r : ℕ) → i ≤ r → Passed test i r → passing test r ≡ passing test i
  passing-by i zero h f = let e : i ≡ 0 = omega arith in rw e
  passing-by i (suc r) h f =
      elim (eq-or-lt_of_le h) [ inl e ↦ rw e | inr l ↦ rw (f (suc r) l (omega arith)) (passing-by i r (omega arith) (λ c a b. f c a (omega arith))) ]

  -- the next that passes is put in
  pub next-in : (comes : ℕ → ℕ → Bool) (i c : ℕ) → i < c → Passed test i (c - 1) → test c ≡ true → sorted comes (passing test c) ≡ insert comes c (sorted comes (passing test i))
  next-in comes i zero h f e = absurd (omega arith)
  next-in comes i (suc c) h f e =
      let z : suc c - 1 ≡ c = omega arith in
      rw (e, passing-by i c (omega arith) (rw z at f))
