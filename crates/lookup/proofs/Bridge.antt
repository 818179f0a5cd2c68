-- From the byte where a district's names start to the model's definitions.
-- Assumes nothing.
use mathlib.Core.Path.{◌≡◌, ap, ◌∙◌, fun_ext}
use mathlib.Core.Bool.{Bool, true, false}
use mathlib.Core.List.{List}
use Prim.Native.Nat.{ℕ, ◌+◌, ◌-◌, ◌*◌, ◌<◌, ◌≤◌, ◌^◌}
use native.Mathlib.Omega.{arith}
use lib.Dec.{ltb}
use Rattle.model.specs.declared.Dims.{Dims}
use Rattle.model.specs.Tests.{all_to}
use Rattle.model.specs.Names.{name_place, name_at, name_ok, last_name, first_name, compare_names, is_equal, smaller_or, named, before, sorted, passing, namesakes}
use Rattle.model.specs.Used.{names_used}
use Rattle.model.specs.Claim.{R}
use Rattle.lookup.specs.Listed.{named_from, before_from, name_ok_from, Listed}
use Rattle.model.proofs.Order.{order-total}
use Rattle.model.proofs.Ordering.{sorted-at, sorted-ordered}
use Rattle.model.proofs.NameLaws.{name-place}
use Rattle.lookup.proofs.Inserting.{from_trans}

module _ (d : Dims) (names : List ℕ) (w k : ℕ) {base : ℕ} (e : base ≡ name_place d w k 1) where
  place-from : (c : ℕ) → base + 32 * (c - 1) ≡ name_place d w k c
  place-from c = omega (arith, name-place d w k c)

  named-from : (name : List ℕ) → named_from names base name ≡ named d names w k name
  unfolding named_from named last_name
  named-from name = fun_ext (λ c. ap (λ (p : ℕ). is_equal (compare_names (name_at names p) name)) (place-from c))

  before-from : before_from names base ≡ before d names w k
  unfolding before_from before first_name
  before-from =
      fun_ext (λ a. fun_ext (λ c.
      ap (λ (p : ℕ). smaller_or (compare_names (name_at names (p + 16)) (name_at names (base + 32 * (c - 1) + 16))) (ltb a c)) (place-from a)
      ∙ ap (λ (p : ℕ). smaller_or (compare_names (name_at names (name_place d w k a + 16)) (name_at names (p + 16))) (ltb a c)) (place-from c)))

  pub namesakes-from : (name : List ℕ) → sorted (before_from names base) (passing (named_from names base name) d.customers) ≡ namesakes d names w k name
  unfolding namesakes
  namesakes-from name =
      ap (λ (f : ℕ → ℕ → Bool). sorted f (passing (named_from names base name) d.customers)) before-from
      ∙ ap (λ (f : ℕ → Bool). sorted (before d names w k) (passing f d.customers)) (named-from name)

  pub names-from : all_to d.customers (name_ok_from names base) ≡ names_used d names w k
  unfolding names_used name_ok_from
  names-from = ap (all_to d.customers) (fun_ext (λ c. ap (name_ok names) (place-from c)))

-- ── what the search keeps, of the list of those passing so far ──
module _ (names : List ℕ) (base : ℕ) where
  from-total : (a b : ℕ) → before_from names base a b ≡ false → (a ≡ b → ⊥) → before_from names base b a ≡ true
  unfolding before_from
  from-total a b e n = order-total (λ c. name_at names (base + 32 * (c - 1) + 16)) a b e n

  pub listed : (count : ℕ) (test : ℕ → Bool) (i c : ℕ) {list : List ℕ} → list ≡ sorted (before_from names base) (passing test i) → count < 2 ^ 16 → i < c → c ≤ count
      → Listed names base count list c
  listed count test i c e f h k =
      rw e
      (record {
        few = f;
        low = omega arith;
        high = k;
        numbers = λ j q. sorted-at (before_from names base) (R count) test i (λ c x y. record { lo = x.lo; hi = omega (arith, x.hi) }) j q;
        ordered = λ a b p q. sorted-ordered (before_from names base) (from_trans names base) from-total test i a b p q;
      })
