-- Laws of tests: conjunctions taken apart and put together, tests at each of 1 .. n, and lists of numbered tests.
-- Assumes nothing.
use mathlib.Core.Path.{◌≡◌, refl, sym, ap, ◌∙◌}
use mathlib.Core.Logic.{◌≢◌}
use mathlib.Core.Bool.{Bool, true, false, not, ◌&&◌, cond}
use mathlib.Core.List.{List, [], ◌∷◌, ◌++◌}
use Prim.Native.Nat.{ℕ, zero, suc, ◌+◌, ◌≤◌, ◌<◌}
use native.Mathlib.Omega.{arith}
use native.Mathlib.Decide.{ℕ_discrete}
use native.Mathlib.Numerals.{add-one}
use lib.Dec.{leb, ltb, eqb}
use borrow.Author.Tests.{leb-true, le-leb, ltb-true, eqb-false, not-true, not-false}
use Rattle.model.specs.Tests.{Refusal}
use Rattle.model.specs.Tests.{and_all, every, within, all_to, Check, chk, bare, refusal, fault, staged}
use Rattle.model.specs.Claim.{R}

pub and_left : (a b : Bool) → (a && b) ≡ true → a ≡ true
and_left true b e = refl
and_left false b e = e

pub and_right : (a b : Bool) → (a && b) ≡ true → b ≡ true
and_right true b e = e
and_right false b e = cc

pub and_both : (a b : Bool) → a ≡ true → b ≡ true → (a && b) ≡ true
and_both a b p q = rw (p, q)

pub and_same : {s t a b : Bool} → s ≡ a → t ≡ b → (s && t) ≡ (a && b)
and_same p q = rw (p, q)

-- what the tests of a list say one by one
abbrev pub Each : List Bool → Type 0
Each [] = Unit {0}
Each (b ∷ bs) = (b ≡ true) × Each bs

and_all-each : (a : Bool) (bs : List Bool) → and_all a bs ≡ true → (a ≡ true) × Each bs
and_all-each a [] e = (e, tt)
and_all-each a (b ∷ bs) e =
    let r = and_all-each (a && b) bs e in
    (and_left a b r.0, (and_right a b r.0, r.1))

pub every-each : (bs : List Bool) → every bs ≡ true → Each bs
every-each [] e = tt
every-each (b ∷ bs) e = and_all-each b bs e

and_all_of : (a : Bool) (bs : List Bool) → a ≡ true → Each bs → and_all a bs ≡ true
and_all_of a [] p r = p
and_all_of a (b ∷ bs) p r = and_all_of (a && b) bs (and_both a b p r.0) r.1

pub each-every : (bs : List Bool) → Each bs → every bs ≡ true
each-every [] r = refl
each-every (b ∷ bs) r = and_all_of b bs r.0 r.1

-- ── a number in its range ──
pub within_in : (x low top : ℕ) → within x low top ≡ true → (low ≤ x) × (x ≤ top)
within_in x low top e = let h = every-each (leb low x ∷ leb x top ∷ []) e in (leb-true _ _ h.0, leb-true _ _ h.1.0)

pub in_within : (x low top : ℕ) → low ≤ x → x ≤ top → within x low top ≡ true
in_within x low top h k = rw (le-leb low x h, le-leb x top k)

pub in_range : (x top : ℕ) → within x 1 top ≡ true → R top x
in_range x top e = let h = within_in x 1 top e in record { lo = h.0; hi = h.1 }

-- .. as code tests it
pub passed_range : (x top : ℕ) {t : Bool} → t ≡ within x 1 top → not t ≡ false → R top x
passed_range x top {t} e s = in_range x top (sym e ∙ not-false t s)

-- ── a test at each of 1 .. n ──
module _ (f : ℕ → Bool) where
  pub all_none : all_to 0 f ≡ true
  unfolding all_to
  all_none = refl

  pub all-step : (n : ℕ) → all_to (n + 1) f ≡ (all_to n f && f (n + 1))
  unfolding all_to
  all-step n = rw add-one

  pub all-at : (n : ℕ) → all_to n f ≡ true → (k : ℕ) → R n k → f k ≡ true
  unfolding all_to
  all-at zero e k r = absurd (omega arith)
  all-at (suc n) e k r = go (ℕ_discrete k (suc n)) (λ q. all-at n (and_left (all_to n f) (f (suc n)) e) k q)
    where
      go : Dec (k ≡ suc n) → (R n k → f k ≡ true) → f k ≡ true
      go (yes q) rec = ap f q ∙ and_right (all_to n f) (f (suc n)) e
      go (no q) rec = rec (record { lo = r.lo; hi = omega arith })

  pub all-to : (n : ℕ) → ((k : ℕ) → R n k → f k ≡ true) → all_to n f ≡ true
  unfolding all_to
  all-to zero h = refl
  all-to (suc n) h =
      and_both (all_to n f) (f (suc n)) (all-to n (λ k r. h k (record { lo = r.lo; hi = omega (arith, r.hi) }))) (h (suc n) (record { lo = omega arith; hi = omega arith }))

  pub all_fails : (n k : ℕ) → R n k → f k ≡ false → all_to n f ≡ false
  all_fails n k r e = go (all_to n f) refl
    where
      go : (t : Bool) → all_to n f ≡ t → t ≡ false
      go true h = sym (all-at n h k r) ∙ e
      go false h = refl

-- two tests that agree at each of 1 .. n
pub all_same : (f g : ℕ → Bool) (n : ℕ) → ((k : ℕ) → R n k → f k ≡ g k) → all_to n f ≡ all_to n g
unfolding all_to
all_same f g zero h = refl
all_same f g (suc n) h =
    let p = all_same f g n (λ k r. h k (record { lo = r.lo; hi = omega (arith, r.hi) })) in
    rw (p, h (suc n) (record { lo = omega arith; hi = omega arith }))

-- ── numbered tests ──
abbrev pub Passed : List Check → Type 0
Passed [] = Unit {0}
Passed (c ∷ cs) = (c.ok ≡ true) × Passed cs

-- every test has a number above 0: `refl` for a literal list
abbrev pub numbered : List Check → Bool
numbered [] = true
numbered (c ∷ cs) = ltb 0 c.number && numbered cs

-- a test that failed is not answered 0
fails : {X : Type 0} (c : Check) (cs : List Check) (xs : List Check) → c.ok ≡ false → numbered (c ∷ cs) ≡ true → (cond c.ok (fault xs) (refusal c)).number ≡ 0 → X
fails c cs xs p n e =
    let z : c.number ≡ 0 = ap (λ (x : Bool). (cond x (fault xs) (refusal c)).number) (sym p) ∙ e in
    absurd (omega (arith, ltb-true 0 c.number (and_left (ltb 0 c.number) (numbered cs) n)))

pub passed : (cs : List Check) → numbered cs ≡ true → (fault cs).number ≡ 0 → Passed cs
passed [] n e = tt
passed (c ∷ cs) n e = go c.ok refl (λ q. passed cs (and_right (ltb 0 c.number) (numbered cs) n) q)
  where
    go : (x : Bool) → c.ok ≡ x → ((fault cs).number ≡ 0 → Passed cs) → (c.ok ≡ true) × Passed cs
    go true p rec = (p, rec (ap (λ (x : Bool). (cond x (fault cs) (refusal c)).number) (sym p) ∙ e))
    go false p rec = fails c cs cs p n e

-- two stages: the second is looked at where the first finds nothing
pub fault_then : (xs ys : List Check) → (fault xs).number ≡ 0 → numbered xs ≡ true → fault (xs ++ ys) ≡ fault ys
fault_then [] ys e n = refl
fault_then (c ∷ xs) ys e n = go c.ok refl (λ q. fault_then xs ys q (and_right (ltb 0 c.number) (numbered xs) n))
  where
    go : (x : Bool) → c.ok ≡ x → ((fault xs).number ≡ 0 → fault (xs ++ ys) ≡ fault ys) → cond c.ok (fault (xs ++ ys)) (refusal c) ≡ fault ys
    go true p rec = rw p (rec (ap (λ (x : Bool). (cond x (fault xs) (refusal c)).number) (sym p) ∙ e))
    go false p rec = fails c xs xs p n e

pub fault-first : (xs ys : List Check) → (fault xs).number ≢ 0 → fault (xs ++ ys) ≡ fault xs
fault-first [] ys e = absurd (e refl)
fault-first (c ∷ xs) ys e = go c.ok refl (λ q. fault-first xs ys q)
  where
    go : (x : Bool) → c.ok ≡ x → ((fault xs).number ≢ 0 → fault (xs ++ ys) ≡ fault xs) → cond c.ok (fault (xs ++ ys)) (refusal c) ≡ cond c.ok (fault xs) (refusal c)
    go true p rec = rw p (rec (λ q. e (ap (λ (x : Bool). (cond x (fault xs) (refusal c)).number) p ∙ q)))
    go false p rec = rw p

-- both stages pass where the whole does
pub fault-parts : (xs ys : List Check) → numbered xs ≡ true → (fault (xs ++ ys)).number ≡ 0 → ((fault xs).number ≡ 0) × ((fault ys).number ≡ 0)
fault-parts [] ys n e = (refl, e)
fault-parts (c ∷ xs) ys n e = go c.ok refl (λ q. fault-parts xs ys (and_right (ltb 0 c.number) (numbered xs) n) q)
  where
    go : (x : Bool) → c.ok ≡ x → ((fault (xs ++ ys)).number ≡ 0 → ((fault xs).number ≡ 0) × ((fault ys).number ≡ 0)) → ((cond c.ok (fault xs) (refusal c)).number ≡ 0) × ((fault ys).number ≡ 0)
    go true p rec = rw p (rec (ap (λ (x : Bool). (cond x (fault (xs ++ ys)) (refusal c)).number) (sym p) ∙ e))
    go false p rec = fails c xs (xs ++ ys) p n e

-- ── tests in turn, as code makes them: `if !t { return refused(n); }`, t by what its call ensures; f is the first refusal of the tests behind ──
module _ {t a : Bool} {r : Refusal} (n : ℕ) (f : Refusal) (e : t ≡ a) where
  pub turned_away : not t ≡ true → r ≡ bare n → r ≡ cond a f (bare n)
  turned_away s g = g ∙ rw (← e, not-true t s)

  pub passed_on : not t ≡ false → r ≡ f → r ≡ cond a f (bare n)
  passed_on s g = g ∙ rw (← e, not-false t s)

-- ── a call's stages ──
-- all three find nothing
pub record Clear (head : Bool) (asked used : List Check) : Type 0 where
  pub fine : head ≡ true
  pub asked_none : (fault asked).number ≡ 0
  pub used_none : (fault used).number ≡ 0

module _ (head : Bool) (asked used : List Check) where
  pub staged-head : head ≡ false → bare 2 ≡ staged head asked used
  staged-head h = rw h

  pub staged-asked : head ≡ true → (fault asked).number ≢ 0 → fault asked ≡ staged head asked used
  staged-asked h f = rw h (sym (fault-first asked used f))

  pub staged-used : numbered asked ≡ true → head ≡ true → (fault asked).number ≡ 0 → fault used ≡ staged head asked used
  staged-used n h f = rw h (sym (fault_then asked used f n))

  pub staged_clear : numbered asked ≡ true → (staged head asked used).number ≡ 0 → Clear head asked used
  staged_clear n e =
      let h = fault-parts (chk head 2 ∷ []) (asked ++ used) refl e in
      let r = fault-parts asked used n h.1 in
      record { fine = (passed (chk head 2 ∷ []) refl h.0).0; asked_none = r.0; used_none = r.1 }

-- what keeps a number from being answered: each of its tests holds wherever those before it do
abbrev pub Need : Bool → Type 0 → Type 0
Need true X = X
Need false X = Unit {0}

abbrev pub PassAt : ℕ → List Check → Type 0
PassAt n [] = Unit {0}
PassAt n (c ∷ cs) = Need (eqb c.number n) (c.ok ≡ true) × (c.ok ≡ true → PassAt n cs)

pub not_answered : (n : ℕ) (cs : List Check) → 0 < n → PassAt n cs → (fault cs).number ≢ n
not_answered n [] h p e = omega arith
not_answered n (c ∷ cs) h p e = go c.ok (eqb c.number n) refl refl (λ q. not_answered n cs h (p.1 q)) p.0
  where
    go : (x y : Bool) → c.ok ≡ x → eqb c.number n ≡ y → (c.ok ≡ true → (fault cs).number ≢ n) → Need y (c.ok ≡ true) → ⊥
    go true y q z rec a = rec q (ap (λ (x : Bool). (cond x (fault cs) (refusal c)).number) (sym q) ∙ e)
    go false true q z rec a = let w : ◌≡◌ {A = ℕ} 0 1 = cc in omega arith
    go false false q z rec a =
        let w : c.number ≡ n = ap (λ (x : Bool). (cond x (fault cs) (refusal c)).number) (sym q) ∙ e in
        eqb-false c.number n z w
