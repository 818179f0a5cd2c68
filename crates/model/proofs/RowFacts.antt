-- What the tests of a used row say, number by number, and that they say no more. Rows by address, numbers by `num`.
-- Assumes nothing.
use mathlib.Core.Path.{◌≡◌, refl}
use mathlib.Core.Bool.{Bool, true, false, cond}
use mathlib.Core.List.{List, [], ◌∷◌}
use Prim.Native.Nat.{ℕ, zero, suc, ◌+◌, ◌*◌, ◌-◌, ◌≤◌, ◌<◌}
use native.Mathlib.Omega.{arith}
use lib.Dec.{eqb}
use lib.IntN.{ℤ}
use lib.ListN.{length, get_or}
use borrow.Author.Tests.{leb-true, le-leb, eqb-true}
use Rattle.model.specs.declared.Dims.{Dims}
use Rattle.model.specs.Tests.{every, all_to, all_of, failing}
use Rattle.model.specs.Numbers.{nat, balance_ok}
use Rattle.model.specs.Layout.{shapes, total, numbers}
use Rattle.model.specs.Store.{get, num, row_of}
use Rattle.model.specs.Rows.{warehouse_row, warehouse_tax, warehouse_ytd, warehouse_tests, district_row, district_tax, district_ytd, next_order, district_tests, customer_row, discount, balance, ytd_payment, payment_cnt, delivery_cnt, customer_tests, price, item_tests, stock_row, on_hand, stock_ytd, order_cnt, remote_cnt, stock_tests, order_col, order_row, order_customer, entry_date, carrier, line_count, waiting, order_tests, line, line_tests, order_ok}
use Rattle.model.specs.Used.{warehouse_used, district_used, customer_used, item_used, stock_used, order_used, customers_used, orders_used}
use Rattle.model.specs.Claim.{R}
use Rattle.model.proofs.TestLaws.{every-each, each-every, and_left, and_right, and_both, all-at, all-to}
use Rattle.model.proofs.Fields.{Shaped}

pub record WarehouseIn (d : Dims) (b : List ℤ) (w : ℕ) : Type 0 where
  pub tax : num (shapes d) b (warehouse_tax w) ≤ 9999
  pub ytd : num (shapes d) b (warehouse_ytd w) ≤ 999999999999

pub record DistrictIn (d : Dims) (b : List ℤ) (w k : ℕ) : Type 0 where
  pub tax : num (shapes d) b (district_tax w k) ≤ 9999
  pub ytd : num (shapes d) b (district_ytd w k) ≤ 999999999999
  pub next_low : 1 ≤ num (shapes d) b (next_order w k)
  pub next_high : num (shapes d) b (next_order w k) ≤ d.orders + 1

pub record CustomerIn (d : Dims) (b : List ℤ) (w k c : ℕ) : Type 0 where
  pub credit : num (shapes d) b (customer_row w k c) ≤ 1
  pub rate : num (shapes d) b (discount w k c) ≤ 9999
  pub balanced : balance_ok (get (shapes d) b (balance w k c)) ≡ true
  pub paid : num (shapes d) b (ytd_payment w k c) ≤ 999999999999
  pub payments : num (shapes d) b (payment_cnt w k c) ≤ 999999999
  pub deliveries : num (shapes d) b (delivery_cnt w k c) ≤ 999999999

pub record ItemIn (d : Dims) (b : List ℤ) (i : ℕ) : Type 0 where
  pub price_high : num (shapes d) b (price i) ≤ 99999

pub record StockIn (d : Dims) (b : List ℤ) (w i : ℕ) : Type 0 where
  pub hand : num (shapes d) b (on_hand w i) ≤ 9999
  pub ytd : num (shapes d) b (stock_ytd w i) ≤ 9999999999
  pub orders : num (shapes d) b (order_cnt w i) ≤ 999999999
  pub remotes : num (shapes d) b (remote_cnt w i) ≤ 999999999

-- line j, from 1, of order o: its number at column c of the line is at column 1 + 5 * j + c of the order
pub record LineIn (d : Dims) (b : List ℤ) (w k o j : ℕ) : Type 0 where
  pub item_low : 1 ≤ num (shapes d) b (order_col d w k o (1 + 5 * j + 0))
  pub item_high : num (shapes d) b (order_col d w k o (1 + 5 * j + 0)) ≤ d.items
  pub supply_low : 1 ≤ num (shapes d) b (order_col d w k o (1 + 5 * j + 1))
  pub supply_high : num (shapes d) b (order_col d w k o (1 + 5 * j + 1)) ≤ d.warehouses
  pub quantity_low : 1 ≤ num (shapes d) b (order_col d w k o (1 + 5 * j + 2))
  pub quantity_high : num (shapes d) b (order_col d w k o (1 + 5 * j + 2)) ≤ 10
  pub amount_low : 1 ≤ num (shapes d) b (order_col d w k o (1 + 5 * j + 3))
  pub amount_high : num (shapes d) b (order_col d w k o (1 + 5 * j + 3)) ≤ 999990
  pub date_high : num (shapes d) b (order_col d w k o (1 + 5 * j + 4)) ≤ 6342969600

pub record OrderIn (d : Dims) (b : List ℤ) (w k o : ℕ) : Type 0 where
  pub customer_low : 1 ≤ num (shapes d) b (order_customer d w k o)
  pub customer_high : num (shapes d) b (order_customer d w k o) ≤ d.customers
  pub date_low : 1 ≤ num (shapes d) b (entry_date d w k o)
  pub date_high : num (shapes d) b (entry_date d w k o) ≤ 6342969600
  pub carried : num (shapes d) b (carrier d w k o) ≤ 10
  pub count_low : 1 ≤ num (shapes d) b (line_count d w k o)
  pub count_high : num (shapes d) b (line_count d w k o) ≤ 15
  pub local : num (shapes d) b (order_col d w k o 4) ≤ 1
  pub waits : num (shapes d) b (waiting d w k o) ≤ 1
  pub lines : (j : ℕ) → R (num (shapes d) b (line_count d w k o)) j → LineIn d b w k o j

module _ (d : Dims) (b : List ℤ) where
  pub warehouse_in : (w : ℕ) → warehouse_used d b w ≡ true → WarehouseIn d b w
  unfolding warehouse_used warehouse_tests
  warehouse_in w e =
      let h = every-each (warehouse_tests (row_of (shapes d) b (warehouse_row w))) e in
      record { tax = leb-true _ _ h.0; ytd = leb-true _ _ h.1.0 }

  pub in_warehouse : (w : ℕ) → WarehouseIn d b w → warehouse_used d b w ≡ true
  unfolding warehouse_used warehouse_tests
  in_warehouse w h = each-every (warehouse_tests (row_of (shapes d) b (warehouse_row w))) (le-leb _ _ h.tax, (le-leb _ _ h.ytd, tt))

  pub district_in : (w k : ℕ) → district_used d b w k ≡ true → DistrictIn d b w k
  unfolding district_used district_tests
  district_in w k e =
      let h = every-each (district_tests d (row_of (shapes d) b (district_row w k))) e in
      record { tax = leb-true _ _ h.0; ytd = leb-true _ _ h.1.0; next_low = leb-true _ _ h.1.1.0; next_high = leb-true _ _ h.1.1.1.0 }

  pub in_district : (w k : ℕ) → DistrictIn d b w k → district_used d b w k ≡ true
  unfolding district_used district_tests
  in_district w k h =
      each-every (district_tests d (row_of (shapes d) b (district_row w k)))
      (le-leb _ _ h.tax, (le-leb _ _ h.ytd, (le-leb _ _ h.next_low, (le-leb _ _ h.next_high, tt))))

  pub customer_in_lem : (w k c : ℕ) → customer_used d b w k c ≡ true → CustomerIn d b w k c
  unfolding customer_used customer_tests
  customer_in_lem w k c e =
      let h = every-each (customer_tests (row_of (shapes d) b (customer_row w k c))) e in
      record {
        credit = leb-true _ _ h.0;
        rate = leb-true _ _ h.1.0;
        balanced = h.1.1.0;
        paid = leb-true _ _ h.1.1.1.0;
        payments = leb-true _ _ h.1.1.1.1.0;
        deliveries = leb-true _ _ h.1.1.1.1.1.0;
      }

  pub in_customer : (w k c : ℕ) → CustomerIn d b w k c → customer_used d b w k c ≡ true
  unfolding customer_used customer_tests
  in_customer w k c h =
      each-every (customer_tests (row_of (shapes d) b (customer_row w k c)))
      (le-leb _ _ h.credit, (le-leb _ _ h.rate, (h.balanced, (le-leb _ _ h.paid, (le-leb _ _ h.payments, (le-leb _ _ h.deliveries, tt))))))

  pub item_in : (i : ℕ) → item_used d b i ≡ true → ItemIn d b i
  unfolding item_used item_tests
  item_in i e = let h = every-each (item_tests (row_of (shapes d) b (price i))) e in record { price_high = leb-true _ _ h.0 }

  pub in_item : (i : ℕ) → ItemIn d b i → item_used d b i ≡ true
  unfolding item_used item_tests
  in_item i h = each-every (item_tests (row_of (shapes d) b (price i))) (le-leb _ _ h.price_high, tt)

  pub stock_in : (w i : ℕ) → stock_used d b w i ≡ true → StockIn d b w i
  unfolding stock_used stock_tests
  stock_in w i e =
      let h = every-each (stock_tests (row_of (shapes d) b (stock_row w i))) e in
      record { hand = leb-true _ _ h.0; ytd = leb-true _ _ h.1.0; orders = leb-true _ _ h.1.1.0; remotes = leb-true _ _ h.1.1.1.0 }

  pub in_stock : (w i : ℕ) → StockIn d b w i → stock_used d b w i ≡ true
  unfolding stock_used stock_tests
  in_stock w i h =
      each-every (stock_tests (row_of (shapes d) b (stock_row w i))) (le-leb _ _ h.hand, (le-leb _ _ h.ytd, (le-leb _ _ h.orders, (le-leb _ _ h.remotes, tt))))

  pub line_in : (w k o j : ℕ) → every (line_tests d (line (row_of (shapes d) b (order_row d w k o)) j)) ≡ true → LineIn d b w k o j
  unfolding line_tests
  line_in w k o j e =
      let h = every-each (line_tests d (line (row_of (shapes d) b (order_row d w k o)) j)) e in
      record {
        item_low = leb-true _ _ h.0;
        item_high = leb-true _ _ h.1.0;
        supply_low = leb-true _ _ h.1.1.0;
        supply_high = leb-true _ _ h.1.1.1.0;
        quantity_low = leb-true _ _ h.1.1.1.1.0;
        quantity_high = leb-true _ _ h.1.1.1.1.1.0;
        amount_low = leb-true _ _ h.1.1.1.1.1.1.0;
        amount_high = leb-true _ _ h.1.1.1.1.1.1.1.0;
        date_high = leb-true _ _ h.1.1.1.1.1.1.1.1.0;
      }

  pub in_line : (w k o j : ℕ) → LineIn d b w k o j → every (line_tests d (line (row_of (shapes d) b (order_row d w k o)) j)) ≡ true
  unfolding line_tests
  in_line w k o j h =
      each-every (line_tests d (line (row_of (shapes d) b (order_row d w k o)) j)) (
        le-leb _ _ h.item_low,
        (
          le-leb _ _ h.item_high,
          (
            le-leb _ _ h.supply_low,
            (
              le-leb _ _ h.supply_high,
              (le-leb _ _ h.quantity_low, (le-leb _ _ h.quantity_high, (le-leb _ _ h.amount_low, (le-leb _ _ h.amount_high, (le-leb _ _ h.date_high, tt))))),
            ),
          ),
        ),
      )

  pub order_in : (w k o : ℕ) → order_used d b w k o ≡ true → OrderIn d b w k o
  unfolding order_used order_ok order_tests
  order_in w k o e =
      let r = row_of (shapes d) b (order_row d w k o) in
      let f : ℕ → Bool = λ j. every (line_tests d (line r j)) in
      let h = every-each (order_tests d r) (and_left (every (order_tests d r)) (all_to (nat (r 3)) f) e) in
      let ls = and_right (every (order_tests d r)) (all_to (nat (r 3)) f) e in
      record {
        customer_low = leb-true _ _ h.0;
        customer_high = leb-true _ _ h.1.0;
        date_low = leb-true _ _ h.1.1.0;
        date_high = leb-true _ _ h.1.1.1.0;
        carried = leb-true _ _ h.1.1.1.1.0;
        count_low = leb-true _ _ h.1.1.1.1.1.0;
        count_high = leb-true _ _ h.1.1.1.1.1.1.0;
        local = leb-true _ _ h.1.1.1.1.1.1.1.0;
        waits = leb-true _ _ h.1.1.1.1.1.1.1.1.0;
        lines = λ j s. line_in w k o j (all-at f (nat (r 3)) ls j s);
      }

  pub in_order : (w k o : ℕ) → OrderIn d b w k o → order_used d b w k o ≡ true
  unfolding order_used order_ok order_tests
  in_order w k o h =
      let r = row_of (shapes d) b (order_row d w k o) in
      let f : ℕ → Bool = λ j. every (line_tests d (line r j)) in
      and_both (every (order_tests d r)) (all_to (nat (r 3)) f)
      (each-every (order_tests d r) (
        le-leb _ _ h.customer_low,
        (
          le-leb _ _ h.customer_high,
          (
            le-leb _ _ h.date_low,
            (
              le-leb _ _ h.date_high,
              (le-leb _ _ h.carried, (le-leb _ _ h.count_low, (le-leb _ _ h.count_high, (le-leb _ _ h.local, (le-leb _ _ h.waits, tt))))),
            ),
          ),
        ),
      ))
      (all-to f (nat (r 3)) (λ j s. in_line w k o j (h.lines j s)))

  -- from all rows of a district to one of them
  pub customers-at : (w k : ℕ) → customers_used d b w k ≡ true → (c : ℕ) → R d.customers c → CustomerIn d b w k c
  unfolding customers_used
  customers-at w k e c r = customer_in_lem w k c (all-at (customer_used d b w k) d.customers e c r)

  pub at-customers : (w k : ℕ) → ((c : ℕ) → R d.customers c → CustomerIn d b w k c) → customers_used d b w k ≡ true
  unfolding customers_used
  at-customers w k h = all-to (customer_used d b w k) d.customers (λ c r. in_customer w k c (h c r))

  pub orders-at : (w k : ℕ) → orders_used d b w k ≡ true → (o : ℕ) → R (num (shapes d) b (next_order w k) - 1) o → OrderIn d b w k o
  unfolding orders_used
  orders-at w k e o r = order_in w k o (all-at (order_used d b w k) (num (shapes d) b (next_order w k) - 1) e o r)

  pub at-orders : (w k : ℕ) → ((o : ℕ) → R (num (shapes d) b (next_order w k) - 1) o → OrderIn d b w k o) → orders_used d b w k ≡ true
  unfolding orders_used
  at-orders w k h = all-to (order_used d b w k) (num (shapes d) b (next_order w k) - 1) (λ o r. in_order w k o (h o r))

-- ── lists of lines ──
module _ {A : Type 0} where
  abbrev pub AllIn : (A → Type 0) → List A → Type 0
  AllIn P [] = Unit {0}
  AllIn P (x ∷ xs) = P x × AllIn P xs

  pub all_in_at : (P : A → Type 0) (xs : List A) → AllIn P xs → (x : A) (j : ℕ) → j < length xs → P (get_or xs j x)
  all_in_at P [] h x j g = absurd (omega arith)
  all_in_at P (y ∷ ys) h x zero g = h.0
  all_in_at P (y ∷ ys) h x (suc j) g = all_in_at P ys h.1 x j (omega arith)

  pub all_in_map : (P Q : A → Type 0) → ((x : A) → P x → Q x) → (xs : List A) → AllIn P xs → AllIn Q xs
  all_in_map P Q f [] h = tt
  all_in_map P Q f (x ∷ xs) h = (f x h.0, all_in_map P Q f xs h.1)

  pub all_in_both : (P Q : A → Type 0) (xs : List A) → AllIn P xs → AllIn Q xs → AllIn (λ x. P x × Q x) xs
  all_in_both P Q [] h g = tt
  all_in_both P Q (x ∷ xs) h g = ((h.0, g.0), all_in_both P Q xs h.1 g.1)

  -- no entry fails: every entry passes
  pub none-failing : (f : A → Bool) (k : ℕ) (xs : List A) → eqb (failing f (suc k) xs) 0 ≡ true → AllIn (λ x. f x ≡ true) xs
  none-failing f k [] e = tt
  none-failing f k (x ∷ xs) e = go (f x) refl e (λ q. none-failing f (suc k) xs q)
    where
      go : (t : Bool) → f x ≡ t → eqb (cond t (failing f (suc (suc k)) xs) (suc k)) 0 ≡ true
          → (eqb (failing f (suc (suc k)) xs) 0 ≡ true → AllIn (λ x. f x ≡ true) xs) → (f x ≡ true) × AllIn (λ x. f x ≡ true) xs
      go true p e rec = (p, rec e)
      go false p e rec = let z = eqb-true (suc k) 0 e in absurd (omega arith)

  pub all_of_in : (f : A → Bool) (xs : List A) → all_of f xs ≡ true → AllIn (λ x. f x ≡ true) xs
  all_of_in f [] e = tt
  all_of_in f (x ∷ xs) e = (and_left (f x) (all_of f xs) e, all_of_in f xs (and_right (f x) (all_of f xs) e))

  pub in_all_of : (f : A → Bool) (xs : List A) → AllIn (λ x. f x ≡ true) xs → all_of f xs ≡ true
  in_all_of f [] h = refl
  in_all_of f (x ∷ xs) h = and_both (f x) (all_of f xs) h.0 (in_all_of f xs h.1)

-- the length that the frame law wants
pub book_long : {d : Dims} {b : List ℤ} {n : ℕ} → Shaped d b n → length b ≡ total (shapes d)
unfolding numbers
book_long s = s.long
