-- What is known of a book and its names that opening accepts, and that it agrees with the empty tally.
-- Assumes nothing.
use mathlib.Core.Path.{◌≡◌, refl, ap, ◌∙◌}
use mathlib.Core.Bool.{true}
use mathlib.Core.List.{List, [], ◌∷◌}
use Prim.Native.Nat.{ℕ, ◌≤◌, ◌<◌, ◌^◌}
use native.Mathlib.Nat.{not-suc-le-zero}
use native.Mathlib.Omega.{arith}
use lib.Dec.{eqb, leb}
use lib.IntN.{ℤ, pos}
use lib.ListN.{length}
use borrow.Author.Tests.{eqb-true, leb-true}
use Rattle.model.specs.declared.Dims.{Dims}
use Rattle.model.specs.Tests.{every, all_to}
use Rattle.model.specs.Numbers.{nat}
use Rattle.model.specs.Layout.{shapes}
use Rattle.model.specs.Store.{get, num, row_of}
use Rattle.model.specs.Head.{dims}
use Rattle.model.specs.Rows.{history_count, warehouse_row, warehouse_tax, warehouse_ytd, district_row, district_tax, district_ytd, next_order, customer_row, discount, balance, ytd_payment, payment_cnt, delivery_cnt, price, stock_row, on_hand, stock_ytd, order_cnt, remote_cnt}
use Rattle.model.specs.Used.{item_used, names_used}
use Rattle.model.specs.Opening.{new_warehouse, new_district, new_customer, new_stock, district_new, warehouse_new, book_new, book_tests, Accepted}
use Rattle.model.specs.Tally.{start}
use Rattle.model.specs.Claim.{R}
use Rattle.model.proofs.TestLaws.{Each, every-each, all-at, passed}
use Rattle.model.proofs.NumberLaws.{nat_small}
use Rattle.model.proofs.Fields.{Shaped, head-shaped}
use Rattle.model.proofs.RowFacts.{item_in, book_long}
use Rattle.model.proofs.Parts.{Agrees}
use Rattle.model.proofs.Sane.{Sane}

-- a number that is tested for equality is that number
is-num : (n : ℕ) (z : ℤ) → n < 2 ^ 63 → eqb (nat z) n ≡ true → z ≡ pos n
is-num n z h e = let q : nat z ≡ n = eqb-true (nat z) n e in nat_small z (rw q h) ∙ ap pos q

in_num : (n : ℕ) (z : ℤ) → n < 2 ^ 63 → leb (nat z) n ≡ true → z ≡ pos (nat z)
in_num n z h e = nat_small z (omega (arith, leb-true (nat z) n e))

-- D is the book's size
pub record Fresh (D : Dims) (b : List ℤ) (names : List ℕ) : Type 0 where
  pub shaped : Shaped D b (length names)
  pub dims_are : dims b ≡ D
  pub count : get (shapes D) b history_count ≡ pos 0
  pub warehouse_tax_lem : (w : ℕ) → R D.warehouses w → num (shapes D) b (warehouse_tax w) ≤ 9999
  pub warehouse_ytd_lem : (w : ℕ) → R D.warehouses w → get (shapes D) b (warehouse_ytd w) ≡ pos 0
  pub district_tax_lem : (w k : ℕ) → R D.warehouses w → R 10 k → num (shapes D) b (district_tax w k) ≤ 9999
  pub district_ytd_lem : (w k : ℕ) → R D.warehouses w → R 10 k → get (shapes D) b (district_ytd w k) ≡ pos 0
  pub next : (w k : ℕ) → R D.warehouses w → R 10 k → get (shapes D) b (next_order w k) ≡ pos 1
  pub credit : (w k c : ℕ) → R D.warehouses w → R 10 k → R D.customers c → num (shapes D) b (customer_row w k c) ≤ 1
  pub rate : (w k c : ℕ) → R D.warehouses w → R 10 k → R D.customers c → num (shapes D) b (discount w k c) ≤ 9999
  pub bals : (w k c : ℕ) → R D.warehouses w → R 10 k → R D.customers c → get (shapes D) b (balance w k c) ≡ pos 0
  pub paid : (w k c : ℕ) → R D.warehouses w → R 10 k → R D.customers c → get (shapes D) b (ytd_payment w k c) ≡ pos 0
  pub payments : (w k c : ℕ) → R D.warehouses w → R 10 k → R D.customers c → get (shapes D) b (payment_cnt w k c) ≡ pos 0
  pub deliveries : (w k c : ℕ) → R D.warehouses w → R 10 k → R D.customers c → get (shapes D) b (delivery_cnt w k c) ≡ pos 0
  pub named : (w k : ℕ) → R D.warehouses w → R 10 k → names_used D names w k ≡ true
  pub prices : (i : ℕ) → R D.items i → num (shapes D) b (price i) ≤ 99999
  pub hand : (w i : ℕ) → R D.warehouses w → R D.items i → get (shapes D) b (on_hand w i) ≡ pos (num (shapes D) b (on_hand w i))
  pub hand_high : (w i : ℕ) → R D.warehouses w → R D.items i → num (shapes D) b (on_hand w i) ≤ 9999
  pub lots : (w i : ℕ) → R D.warehouses w → R D.items i → get (shapes D) b (stock_ytd w i) ≡ pos 0
  pub orders : (w i : ℕ) → R D.warehouses w → R D.items i → get (shapes D) b (order_cnt w i) ≡ pos 0
  pub remotes : (w i : ℕ) → R D.warehouses w → R D.items i → get (shapes D) b (remote_cnt w i) ≡ pos 0

module _ (D : Dims) (b : List ℤ) (names : List ℕ) (e : book_new D b names ≡ true) where
  top : Each (eqb (num (shapes D) b history_count) 0 ∷ all_to D.warehouses (warehouse_new D b names) ∷ all_to D.items (item_used D b) ∷ [])
  unfolding book_new
  top = every-each (eqb (num (shapes D) b history_count) 0 ∷ all_to D.warehouses (warehouse_new D b names) ∷ all_to D.items (item_used D b) ∷ []) e

  at-warehouse : (w : ℕ) → R D.warehouses w
      → Each (every (new_warehouse (row_of (shapes D) b (warehouse_row w))) ∷ all_to 10 (district_new D b names w)
      ∷ all_to D.items (λ i. every (new_stock (row_of (shapes D) b (stock_row w i)))) ∷ [])
  unfolding warehouse_new
  at-warehouse w r =
      every-each (every (new_warehouse (row_of (shapes D) b (warehouse_row w))) ∷ all_to 10 (district_new D b names w)
      ∷ all_to D.items (λ i. every (new_stock (row_of (shapes D) b (stock_row w i)))) ∷ [])
      (all-at (warehouse_new D b names) D.warehouses top.1.0 w r)

  warehouse-row : (w : ℕ) → R D.warehouses w → Each (new_warehouse (row_of (shapes D) b (warehouse_row w)))
  warehouse-row w r = every-each (new_warehouse (row_of (shapes D) b (warehouse_row w))) (at-warehouse w r).0

  stock-row : (w i : ℕ) → R D.warehouses w → R D.items i → Each (new_stock (row_of (shapes D) b (stock_row w i)))
  stock-row w i r s =
      every-each (new_stock (row_of (shapes D) b (stock_row w i))) (all-at (λ i. every (new_stock (row_of (shapes D) b (stock_row w i)))) D.items (at-warehouse w r).1.1.0 i s)

  at-district : (w k : ℕ) → R D.warehouses w → R 10 k
      → Each (every (new_district (row_of (shapes D) b (district_row w k))) ∷ all_to D.customers (λ c. every (new_customer (row_of (shapes D) b (customer_row w k c))))
      ∷ names_used D names w k ∷ [])
  unfolding district_new
  at-district w k r s =
      every-each (every (new_district (row_of (shapes D) b (district_row w k))) ∷ all_to D.customers (λ c. every (new_customer (row_of (shapes D) b (customer_row w k c))))
      ∷ names_used D names w k ∷ [])
      (all-at (district_new D b names w) 10 (at-warehouse w r).1.0 k s)

  district-row : (w k : ℕ) → R D.warehouses w → R 10 k → Each (new_district (row_of (shapes D) b (district_row w k)))
  district-row w k r s = every-each (new_district (row_of (shapes D) b (district_row w k))) (at-district w k r s).0

  customer-row : (w k c : ℕ) → R D.warehouses w → R 10 k → R D.customers c → Each (new_customer (row_of (shapes D) b (customer_row w k c)))
  customer-row w k c r s u =
      every-each (new_customer (row_of (shapes D) b (customer_row w k c)))
      (all-at (λ c. every (new_customer (row_of (shapes D) b (customer_row w k c)))) D.customers (at-district w k r s).1.0 c u)

  pub fresh : dims b ≡ D → Shaped D b (length names) → Fresh D b names
  unfolding new_warehouse new_district new_customer new_stock
  fresh ed sh = record {
    shaped = sh;
    dims_are = ed;
    count = is-num 0 _ (omega arith) top.0;
    warehouse_tax_lem = λ w r. leb-true _ _ (warehouse-row w r).0;
    warehouse_ytd_lem = λ w r. is-num 0 _ (omega arith) (warehouse-row w r).1.0;
    district_tax_lem = λ w k r s. leb-true _ _ (district-row w k r s).0;
    district_ytd_lem = λ w k r s. is-num 0 _ (omega arith) (district-row w k r s).1.0;
    next = λ w k r s. is-num 1 _ (omega arith) (district-row w k r s).1.1.0;
    credit = λ w k c r s u. leb-true _ _ (customer-row w k c r s u).0;
    rate = λ w k c r s u. leb-true _ _ (customer-row w k c r s u).1.0;
    bals = λ w k c r s u. is-num 0 _ (omega arith) (customer-row w k c r s u).1.1.0;
    paid = λ w k c r s u. is-num 0 _ (omega arith) (customer-row w k c r s u).1.1.1.0;
    payments = λ w k c r s u. is-num 0 _ (omega arith) (customer-row w k c r s u).1.1.1.1.0;
    deliveries = λ w k c r s u. is-num 0 _ (omega arith) (customer-row w k c r s u).1.1.1.1.1.0;
    named = λ w k r s. (at-district w k r s).1.1.0;
    prices = λ i r. (item_in D b i (all-at (item_used D b) D.items top.1.1.0 i r)).price_high;
    hand = λ w i r s. in_num 9999 _ (omega arith) (stock-row w i r s).0;
    hand_high = λ w i r s. leb-true _ _ (stock-row w i r s).0;
    lots = λ w i r s. is-num 0 _ (omega arith) (stock-row w i r s).1.0;
    orders = λ w i r s. is-num 0 _ (omega arith) (stock-row w i r s).1.1.0;
    remotes = λ w i r s. is-num 0 _ (omega arith) (stock-row w i r s).1.1.1.0;
  }

-- a book that opening accepts
pub opened_fresh : (b : List ℤ) (names : List ℕ) → Accepted b names → Fresh (dims b) b names
unfolding Accepted
opened_fresh b names e =
    let h = passed (book_tests b names) refl e in
    fresh (dims b) b names h.1.0 refl (head-shaped b (length names) h.0)

pub fresh_agrees : (D : Dims) (b : List ℤ) (names : List ℕ) → Fresh D b names → Agrees D b start b
unfolding start
fresh_agrees D b names f = record {
  head = record { len = book_long f.shaped; head = f.dims_are; count = f.count; room = omega arith };
  warehouse = record { tax = λ w r. refl; ytd = f.warehouse_ytd_lem };
  district = record { tax = λ w k r s. refl; ytd = f.district_ytd_lem; next = f.next };
  customer = record {
    credit = λ w k c r s u. refl;
    rate = λ w k c r s u. refl;
    bals = f.bals;
    ytd = f.paid;
    payments_are = f.payments;
    deliveries_are = f.deliveries;
  };
  item = record { prices = λ i r. refl };
  stock = record {
    hand = λ w i r s. record { m = num (shapes D) b (on_hand w i); is = f.hand w i r s; high = f.hand_high w i r s };
    ytd = f.lots;
    orders_to = λ w i r s. record { m = 0; is = f.orders w i r s; high = omega arith };
    remotes_to = λ w i r s. record { m = 0; is = f.remotes w i r s; high = omega arith };
  };
  order = record { mle = λ w k. omega arith; nle = λ w k. omega arith; slots = λ w k j r s h. absurd (not-suc-le-zero h) };
  history = record { rows = λ j h. absurd (not-suc-le-zero h) };
}

pub start-sane : (D : Dims) → Sane D start
unfolding start
start-sane D = record { warehouse = λ w. omega arith; district = λ w k. omega arith; paid = λ w k c. omega arith; lots = λ w i. omega arith; low = λ w k. tt }
