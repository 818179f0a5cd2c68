-- What a test of a row, made from the row's start, says of the row at its address; and a number read by the code.
-- Assumes nothing.
use mathlib.Core.Path.{◌≡◌, sym, ap, ◌∙◌, subst}
use mathlib.Core.Bool.{Bool, true, false}
use mathlib.Core.List.{List}
use Prim.Native.Nat.{ℕ, ◌+◌, ◌*◌, ◌≤◌}
use native.Mathlib.Omega.{arith}
use lib.IntN.{ℤ, pos}
use lib.ListN.{length, get_or}
use borrow.Author.Tests.{leb-true}
use Rattle.model.specs.declared.Dims.{Dims}
use Rattle.model.specs.Tests.{every}
use Rattle.model.specs.Numbers.{nat, cell}
use Rattle.model.specs.Layout.{at, place, shapes, numbers, total}
use Rattle.model.specs.Store.{get, num, from}
use Rattle.model.specs.Rows.{warehouse_row, warehouse_tests, district_row, district_tests, customer_row, customer_tests, price, item_tests, stock_row, stock_tests, slot, order_row, order_tests, line, line_tests, order_ok}
use Rattle.model.specs.Head.{dims, head_ok}
use Rattle.model.specs.Used.{warehouse_used, district_used, customer_used, item_used, stock_used, order_used}
use Rattle.model.proofs.TestLaws.{every-each}
use Rattle.model.proofs.Fields.{Shaped, head-shaped, row_read, from_cell, line-from, num_col, get_col}
use Rattle.rows.specs.Book.{Booked, lines_ok}

pub shaped-booked : {d : Dims} {b : List ℤ} {n : ℕ} → Shaped d b n → Booked d b
shaped-booked s = record { dimsd = s.dimsd; long = s.long }

-- it has a head
pub booked_six : {d : Dims} {b : List ℤ} → Booked d b → 6 ≤ length b
unfolding numbers
booked_six h = let e = h.long in omega arith

pub booked-long : {d : Dims} {b : List ℤ} → Booked d b → length b ≡ total (shapes d)
unfolding numbers
booked-long s = s.long

-- the book whose head a call has found in range, by the dimensions that it has read
pub head-booked : (b : List ℤ) (n : ℕ) {d : Dims} → head_ok b n ≡ true → d ≡ dims b → Booked d b
head-booked b n h e = subst (λ (x : Dims). Booked x b) (sym e) (shaped-booked (head-shaped b n h))

-- ── an order's row from its start ──
-- line j, from 0, of the order's row at p
pub line_test : (d : Dims) (b : List ℤ) (p j : ℕ) {t : Bool} → t ≡ every (line_tests d (from b (p + 6 + 5 * j))) → t ≡ every (line_tests d (line (from b p) (j + 1)))
line_test d b p j e =
    let q : p + 6 + 5 * j ≡ p + (1 + 5 * (j + 1)) = omega arith in
    e ∙ ap (λ (i : ℕ). every (line_tests d (from b i))) q ∙ ap (λ (r : ℕ → ℤ). every (line_tests d r)) (line-from b p (j + 1))

-- an order whose six numbers are in range has at most 15 lines
lines-most : (d : Dims) (r : ℕ → ℤ) → every (order_tests d r) ≡ true → nat (r 3) ≤ 15
unfolding order_tests
lines-most d r e = let h = every-each (order_tests d r) e in omega (arith, leb-true)

module _ (d : Dims) (b : List ℤ) (p : ℕ) where
  pub lines-cell : every (order_tests d (from b p)) ≡ true → cell b (p + 3) ≤ 15
  lines-cell e = let h = lines-most d (from b p) e in rw (from_cell b p 3) at h

  pub order_then : (n : ℕ) {t : Bool} → every (order_tests d (from b p)) ≡ true → n ≡ cell b (p + 3) → t ≡ lines_ok d (from b p) n → t ≡ order_ok d (from b p)
  unfolding order_ok
  order_then n h e f = rw h (f ∙ ap (λ (m : ℕ). lines_ok d (from b p) m) (e ∙ sym (from_cell b p 3)))

  pub order-not : every (order_tests d (from b p)) ≡ false → false ≡ order_ok d (from b p)
  unfolding order_ok
  order-not h = rw h

-- ── a row's test at its address ──
module _ (d : Dims) (b : List ℤ) {p : ℕ} {t : Bool} where
  pub warehouse_test : (w : ℕ) → p ≡ place (shapes d) (warehouse_row w) → t ≡ every (warehouse_tests (from b p)) → t ≡ warehouse_used d b w
  unfolding warehouse_used
  warehouse_test w e h =
      h ∙ ap (λ (i : ℕ). every (warehouse_tests (from b i))) e ∙ ap (λ (f : ℕ → ℤ). every (warehouse_tests f)) (row_read (shapes d) b 1 w 1 1)

  pub district_test : (w k : ℕ) → p ≡ place (shapes d) (district_row w k) → t ≡ every (district_tests d (from b p)) → t ≡ district_used d b w k
  unfolding district_used
  district_test w k e h =
      h ∙ ap (λ (i : ℕ). every (district_tests d (from b i))) e ∙ ap (λ (f : ℕ → ℤ). every (district_tests d f)) (row_read (shapes d) b 2 w k 1)

  pub customer_test : (w k c : ℕ) → p ≡ place (shapes d) (customer_row w k c) → t ≡ every (customer_tests (from b p)) → t ≡ customer_used d b w k c
  unfolding customer_used
  customer_test w k c e h =
      h ∙ ap (λ (i : ℕ). every (customer_tests (from b i))) e ∙ ap (λ (f : ℕ → ℤ). every (customer_tests f)) (row_read (shapes d) b 3 w k c)

  pub item_test : (i : ℕ) → p ≡ place (shapes d) (price i) → t ≡ every (item_tests (from b p)) → t ≡ item_used d b i
  unfolding item_used
  item_test i e h = h ∙ ap (λ (j : ℕ). every (item_tests (from b j))) e ∙ ap (λ (f : ℕ → ℤ). every (item_tests f)) (row_read (shapes d) b 4 i 1 1)

  pub stock_test : (w i : ℕ) → p ≡ place (shapes d) (stock_row w i) → t ≡ every (stock_tests (from b p)) → t ≡ stock_used d b w i
  unfolding stock_used
  stock_test w i e h = h ∙ ap (λ (j : ℕ). every (stock_tests (from b j))) e ∙ ap (λ (f : ℕ → ℤ). every (stock_tests f)) (row_read (shapes d) b 5 w i 1)

  pub order_test : (w k o : ℕ) → p ≡ place (shapes d) (order_row d w k o) → t ≡ order_ok d (from b p) → t ≡ order_used d b w k o
  unfolding order_used
  order_test w k o e h = h ∙ ap (λ (i : ℕ). order_ok d (from b i)) e ∙ ap (λ (f : ℕ → ℤ). order_ok d f) (row_read (shapes d) b 6 w k (slot d o))

-- ── a number at an address, read from its row's start p: in the row's column 0, in another column, and signed ──
module _ (d : Dims) (b : List ℤ) (s x y z : ℕ) {p : ℕ} where
  pub read_first : {v : ℕ} → v ≡ cell b p → p ≡ place (shapes d) (at s x y z 0) → v ≡ num (shapes d) b (at s x y z 0)
  unfolding cell get
  read_first e h = e ∙ ap (λ (i : ℕ). nat (get_or b i (pos 0))) h

  pub read_is : (k : ℕ) {v : ℕ} → v ≡ cell b (p + k) → p ≡ place (shapes d) (at s x y z 0) → v ≡ num (shapes d) b (at s x y z k)
  read_is k e h = e ∙ ap (λ (i : ℕ). cell b (i + k)) h ∙ num_col (shapes d) b s x y z k

  pub read-signed : (k : ℕ) {v : ℤ} → v ≡ get_or b (p + k) (pos 0) → p ≡ place (shapes d) (at s x y z 0) → v ≡ get (shapes d) b (at s x y z k)
  read-signed k e h = e ∙ ap (λ (i : ℕ). get_or b (i + k) (pos 0)) h ∙ get_col (shapes d) b s x y z k
