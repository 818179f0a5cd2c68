-- Laws of names: where they stand, and that whoever is found is a customer of the district.
-- Assumes nothing.
use mathlib.Core.Path.{◌≡◌, refl}
use mathlib.Core.Bool.{Bool, true, false, ◌&&◌, cond}
use mathlib.Core.List.{List, [], ◌∷◌}
use Prim.Native.Nat.{ℕ, suc, ◌+◌, ◌-◌, ◌*◌, ◌/◌, ◌<◌, ◌≤◌}
use native.Mathlib.Nat.{mul-le-mul, mul-le-mul_right, suc-mul}
use native.Mathlib.Omega.{arith}
use lib.Dec.{leb}
use lib.ListN.{length, get_or}
use borrow.Author.Tests.{leb-true}
use Rattle.model.specs.declared.Dims.{Dims}
use Rattle.std.specs.Prelude.{Option, Some, None}
use Rattle.model.specs.Tests.{every}
use Rattle.model.specs.Layout.{name_bytes}
use Rattle.model.specs.Names.{name_place, padded, namesakes, taken, found, Who, by_number, by_name, customer_of, found_number, is_found, who_tests}
use Rattle.model.specs.Claim.{R}
use Rattle.model.proofs.TestLaws.{every-each}
use Rattle.model.proofs.Fields.{Dimensioned}
use Rattle.model.proofs.Ordering.{namesake_in}

-- the names of a district's customers stand one after the other
pub name-place : (d : Dims) (w k c : ℕ) → name_place d w k c ≡ name_place d w k 1 + 32 * (c - 1)
unfolding name_place
name-place d w k c = omega arith

pub name-first : (d : Dims) (w k : ℕ) → 32 * (((w - 1) * 10 + (k - 1)) * d.customers) ≡ name_place d w k 1
unfolding name_place
name-first d w k = omega arith

-- all of them lie within the name bytes
pub names_end : (d : Dims) (w k : ℕ) → R d.warehouses w → R 10 k → name_place d w k 1 + 32 * d.customers ≤ name_bytes d
unfolding name_place name_bytes
names_end d w k r s =
    let x : ℕ = (w - 1) * 10 + (k - 1) in
    let h : suc x * d.customers ≤ 10 * d.warehouses * d.customers = mul-le-mul_right d.customers (omega arith) in
    omega (arith, suc-mul x d.customers)

pub name-within : (d : Dims) (w k c : ℕ) → R d.warehouses w → R 10 k → R d.customers c → name_place d w k c + 32 ≤ name_bytes d
name-within d w k c r s t = omega (arith, name-place d w k c, names_end d w k r s)

-- no product on the way is large
pub names_max : (d : Dims) (w k : ℕ) → Dimensioned d → R d.warehouses w → R 10 k → ((w - 1) * 10 + (k - 1)) * d.customers ≤ 600000
names_max d w k m r s =
    let h : (w - 1) * 10 + (k - 1) ≤ 200 = omega arith in
    mul-le-mul h m.customers_high

-- ── whoever is found ──
clash : {X : Type 0} (c : ℕ) → None ≡ Some c → X
clash c e = absurd (let z : ◌≡◌ {A = ℕ} 0 1 = cc in omega arith)

taken_in : (n : ℕ) (xs : List ℕ) (c : ℕ) → ((i : ℕ) → i < length xs → R n (get_or xs i 0)) → taken xs ≡ Some c → R n c
taken_in n [] c h e = clash c e
taken_in n (x ∷ xs) c h e =
    let q : get_or (x ∷ xs) ((length (x ∷ xs) + 1) / 2 - 1) 0 ≡ c = cc in
    rw q at (h ((length (x ∷ xs) + 1) / 2 - 1) (omega arith))

pub found_in : (d : Dims) (names : List ℕ) (w k : ℕ) (name : List ℕ) (c : ℕ) → found d names w k name ≡ Some c → R d.customers c
unfolding found
found_in d names w k name c e = split (leb 1 (length name) && leb (length name) 16) e
  where
    split : (t : Bool) → cond t (taken (namesakes d names w k (padded name))) None ≡ Some c → R d.customers c
    split true e = taken_in d.customers (namesakes d names w k (padded name)) c (namesake_in d names w k (padded name)) e
    split false e = clash c e

-- whoever a request names, where 6 does not refuse it
pub customer_in_lem : (d : Dims) (names : List ℕ) (w k : ℕ) (who : Who) (c : ℕ) → every (who_tests d who) ≡ true → customer_of d names w k who ≡ Some c → R d.customers c
unfolding customer_of
customer_in_lem d names w k (by_number n) c t e =
    let h = every-each (who_tests d (by_number n)) t in
    let q : n ≡ c = cc in
    rw (← q) (record { lo = leb-true 1 n h.0; hi = leb-true n d.customers h.1.0 })
customer_in_lem d names w k (by_name name) c t e = found_in d names w k name c e

pub found_number_lem : (d : Dims) (names : List ℕ) (w k : ℕ) (who : Who) → every (who_tests d who) ≡ true → is_found (customer_of d names w k who) ≡ true
    → R d.customers (found_number (customer_of d names w k who))
found_number_lem d names w k who t e = split (customer_of d names w k who) refl e
  where
    split : (f : Option ℕ) → customer_of d names w k who ≡ f → is_found f ≡ true → R d.customers (found_number f)
    split (Some c) p e = customer_in_lem d names w k who c t p
    split None p e = absurd (let z : ◌≡◌ {A = ℕ} 0 1 = cc in omega arith)
