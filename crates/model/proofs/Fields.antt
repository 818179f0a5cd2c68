-- Valid addresses by section, a row read from its start, and what the head's tests say.
-- Assumes nothing.
use mathlib.Core.Path.{◌≡◌, refl, sym, ap, ◌∙◌, fun_ext}
use mathlib.Core.Bool.{true}
use mathlib.Core.List.{List, [], ◌∷◌}
use Prim.Native.Nat.{ℕ, zero, suc, ◌+◌, ◌*◌, ◌≤◌, ◌<◌}
use native.Mathlib.Omega.{arith}
use native.Mathlib.Nat.{add_assoc, add-zero}
use lib.Dec.{leb, eqb}
use lib.IntN.{ℤ, pos}
use lib.ListN.{length, get_or}
use borrow.Author.Tests.{leb-true, eqb-true}
use Rattle.model.specs.declared.Dims.{Dims}
use Rattle.model.specs.Tests.{every}
use Rattle.model.specs.Layout.{Shape, at, place, inside, total, shapes, numbers, name_bytes, none}
use Rattle.model.specs.Store.{get, num, from, row_of}
use Rattle.model.specs.Numbers.{nat, cell}
use Rattle.model.specs.Rows.{slot, line}
use Rattle.model.specs.Head.{dims, dims_tests, size_tests, head_ok}
use Rattle.model.specs.Claim.{R}
use Rattle.model.proofs.TestLaws.{every-each, within_in}
use Rattle.model.proofs.Places.{Valid, place_lt, place-start}

module _ (D : Dims) where
  pub v0 : (k : ℕ) → k < 6 → Valid (shapes D) (at 0 1 1 1 k)
  v0 k h = omega arith

  pub v1 : {w : ℕ} → R D.warehouses w → (k : ℕ) → k < 2 → Valid (shapes D) (at 1 w 1 1 k)
  v1 r k h = omega arith

  pub v2 : {w d : ℕ} → R D.warehouses w → R 10 d → (k : ℕ) → k < 3 → Valid (shapes D) (at 2 w d 1 k)
  v2 r q k h = omega arith

  pub v3 : {w d c : ℕ} → R D.warehouses w → R 10 d → R D.customers c → (k : ℕ) → k < 6 → Valid (shapes D) (at 3 w d c k)
  v3 r q s k h = omega arith

  pub v4 : {i : ℕ} → R D.items i → (k : ℕ) → k < 1 → Valid (shapes D) (at 4 i 1 1 k)
  v4 r k h = omega arith

  pub v5 : {w i : ℕ} → R D.warehouses w → R D.items i → (k : ℕ) → k < 4 → Valid (shapes D) (at 5 w i 1 k)
  v5 r q k h = omega arith

  pub v6 : {w d s : ℕ} → R D.warehouses w → R 10 d → R D.orders s → (k : ℕ) → k < 81 → Valid (shapes D) (at 6 w d s k)
  v6 r q s k h = omega arith

  pub v7 : {h : ℕ} → R D.histories h → (k : ℕ) → k < 7 → Valid (shapes D) (at 7 h 1 1 k)
  v7 r k h = omega arith

  -- the slot of an order number is a slot of the district, and no other number's
  pub slot_in : {o : ℕ} → R D.orders o → R D.orders (slot D o)
  unfolding slot
  slot_in r = r

  pub slot_same : (o p : ℕ) → R D.orders o → R D.orders p → eqb (slot D o) (slot D p) ≡ eqb o p
  unfolding slot
  slot_same o p r s = refl

-- a row's numbers from its start are the numbers at its addresses: the whole row in one rewrite
pub row_read : (l : List Shape) (b : List ℤ) (s x y z : ℕ) → from b (place l (at s x y z 0)) ≡ row_of l b (at s x y z 0)
unfolding from get
row_read l b s x y z = fun_ext col
  where
    col : (k : ℕ) → from b (place l (at s x y z 0)) k ≡ get l b (at s x y z k)
    col zero = refl
    col (suc k) = ap (λ (p : ℕ). get_or b p (pos 0)) (sym (place-start l (at s x y z (suc k))))

-- a row from its start, by column
pub from_col : (b : List ℤ) (p k : ℕ) → from b p k ≡ get_or b (p + k) (pos 0)
unfolding from
from_col b p zero = ap (λ (i : ℕ). get_or b i (pos 0)) (sym (add-zero p))
from_col b p (suc k) = refl

pub from_cell : (b : List ℤ) (p k : ℕ) → nat (from b p k) ≡ cell b (p + k)
unfolding cell
from_cell b p k = ap nat (from_col b p k)

-- line j of the order that starts at p starts at p + (1 + 5 * j)
pub line-from : (b : List ℤ) (p j : ℕ) → from b (p + (1 + 5 * j)) ≡ line (from b p) j
line-from b p j = fun_ext col
  where
    col : (k : ℕ) → from b (p + (1 + 5 * j)) k ≡ from b p (1 + 5 * j + k)
    col k =
        from_col b (p + (1 + 5 * j)) k
        ∙ ap (λ (i : ℕ). get_or b i (pos 0)) (add_assoc p (1 + 5 * j) k)
        ∙ sym (from_col b p (1 + 5 * j + k))

-- a row ends within the book
pub row_end : (l : List Shape) (s x y z k : ℕ) → Valid l (at s x y z k) → suc k ≡ (get_or l s none).ks → place l (at s x y z 0) + (get_or l s none).ks ≤ total l
row_end l s x y z k v e = omega (arith, place_lt l (at s x y z k) v, place-start l (at s x y z k))

-- ── the head ──
pub record Dimensioned (d : Dims) : Type 0 where
  pub warehouses_low : 1 ≤ d.warehouses
  pub warehouses_high : d.warehouses ≤ 20
  pub customers_low : 1 ≤ d.customers
  pub customers_high : d.customers ≤ 3000
  pub items_low : 1 ≤ d.items
  pub items_high : d.items ≤ 100000
  pub orders_low : 1 ≤ d.orders
  pub orders_high : d.orders ≤ 10000
  pub histories_low : 1 ≤ d.histories
  pub histories_high : d.histories ≤ 1000000

-- the head is in range, and both lengths are what it implies; n is the number of name bytes
pub record Shaped (d : Dims) (b : List ℤ) (n : ℕ) : Type 0 where
  pub dimsd : Dimensioned d
  pub long : length b ≡ numbers d
  pub six : 6 ≤ length b
  pub count : cell b 5 ≤ d.histories
  pub names : n ≡ name_bytes d

pub dims_are : (d : Dims) → every (dims_tests d) ≡ true → Dimensioned d
unfolding dims_tests
dims_are d e =
    let h = every-each (dims_tests d) e in
    let w = within_in d.warehouses 1 20 h.0 in
    let c = within_in d.customers 1 3000 h.1.0 in
    let i = within_in d.items 1 100000 h.1.1.0 in
    let o = within_in d.orders 1 10000 h.1.1.1.0 in
    let t = within_in d.histories 1 1000000 h.1.1.1.1.0 in
    omega (arith, w, c, i, o, t)

pub head-shaped : (b : List ℤ) (n : ℕ) → head_ok b n ≡ true → Shaped (dims b) b n
unfolding head_ok size_tests
head-shaped b n e =
    let h = every-each (leb 6 (length b) ∷ every (dims_tests (dims b)) ∷ every (size_tests (dims b) b n) ∷ []) e in
    let s = every-each (size_tests (dims b) b n) h.1.1.0 in
    record { dimsd = dims_are (dims b) h.1.0; long = eqb-true _ _ s.1.0; six = leb-true _ _ h.0; count = leb-true _ _ s.0; names = eqb-true _ _ s.1.1.0 }

-- ── a number at an address, as code reads it from its row's start ──
module _ (l : List Shape) (b : List ℤ) (s x y z k : ℕ) where
  pub place_col : place l (at s x y z 0) + k ≡ place l (at s x y z k)
  place_col = sym (place-start l (at s x y z k))

  pub num_col : cell b (place l (at s x y z 0) + k) ≡ num l b (at s x y z k)
  unfolding cell get
  num_col = ap (λ (p : ℕ). nat (get_or b p (pos 0))) place_col

  pub get_col : get_or b (place l (at s x y z 0) + k) (pos 0) ≡ get l b (at s x y z k)
  unfolding get
  get_col = ap (λ (p : ℕ). get_or b p (pos 0)) place_col

-- the head's numbers stand at their column
pub head-place : (d : Dims) → place (shapes d) (at 0 1 1 1 5) ≡ 5
unfolding place inside
head-place d = refl

pub head-num : (d : Dims) (b : List ℤ) → cell b 5 ≡ num (shapes d) b (at 0 1 1 1 5)
unfolding cell get place inside
head-num d b = refl
