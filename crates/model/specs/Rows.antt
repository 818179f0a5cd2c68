-- The rows of the book: their addresses by TPC-C's names, and what a used number of each kind may be.
-- A row is a function of the column. Each kind of row has a list of tests; a number that is negative passes none but the balance's.
-- Assumes nothing.
use Rattle.std.specs.Prelude.{Bool, ◌&&◌, List, [], ◌∷◌, ℕ, ◌+◌, ◌*◌, leb, ℤ}
use Rattle.model.specs.declared.Dims.{Dims}
use Rattle.model.specs.Tests.{every, all_to}
use Rattle.model.specs.Numbers.{nat, balance_ok, max_money, max_count, max_rate, max_date}
use Rattle.model.specs.Layout.{Addr, at}

-- "Head, 6: W depots (1 to 20), C customers per district (1 to 3,000), I items (1 to 100,000), O order slots per district (1 to 10,000),
-- H history slots (1 to 1,000,000), history count (0 to H)."
abbrev pub history_count : Addr
history_count = at 0 1 1 1 5

-- "Depot, W rows: tax, year-to-date money."
abbrev pub warehouse_row : ℕ → Addr
warehouse_row w = at 1 w 1 1 0

abbrev pub warehouse_tax : ℕ → Addr
warehouse_tax w = at 1 w 1 1 0

abbrev pub warehouse_ytd : ℕ → Addr
warehouse_ytd w = at 1 w 1 1 1

unfoldable pub warehouse_tests : (ℕ → ℤ) → List Bool
warehouse_tests r = leb (nat (r 0)) max_rate ∷ leb (nat (r 1)) max_money ∷ []

-- "District, 10 per depot: tax, year-to-date money, next order number (1 to O + 1)."
abbrev pub district_row : ℕ → ℕ → Addr
district_row w k = at 2 w k 1 0

abbrev pub district_tax : ℕ → ℕ → Addr
district_tax w k = at 2 w k 1 0

abbrev pub district_ytd : ℕ → ℕ → Addr
district_ytd w k = at 2 w k 1 1

abbrev pub next_order : ℕ → ℕ → Addr
next_order w k = at 2 w k 1 2

unfoldable pub district_tests : Dims → (ℕ → ℤ) → List Bool
district_tests d r = leb (nat (r 0)) max_rate ∷ leb (nat (r 1)) max_money ∷ leb 1 (nat (r 2)) ∷ leb (nat (r 2)) (d.orders + 1) ∷ []

-- "Customer, C per district: credit (0 good, 1 bad), discount, balance, payments to date, payment count, delivery count."
abbrev pub customer_row : ℕ → ℕ → ℕ → Addr
customer_row w k c = at 3 w k c 0

abbrev pub credit : ℕ → ℕ → ℕ → Addr
credit w k c = at 3 w k c 0

abbrev pub discount : ℕ → ℕ → ℕ → Addr
discount w k c = at 3 w k c 1

abbrev pub balance : ℕ → ℕ → ℕ → Addr
balance w k c = at 3 w k c 2

abbrev pub ytd_payment : ℕ → ℕ → ℕ → Addr
ytd_payment w k c = at 3 w k c 3

abbrev pub payment_cnt : ℕ → ℕ → ℕ → Addr
payment_cnt w k c = at 3 w k c 4

abbrev pub delivery_cnt : ℕ → ℕ → ℕ → Addr
delivery_cnt w k c = at 3 w k c 5

unfoldable pub customer_tests : (ℕ → ℤ) → List Bool
customer_tests r =
    leb (nat (r 0)) 1
    ∷ leb (nat (r 1)) max_rate
    ∷ balance_ok (r 2)
    ∷ leb (nat (r 3)) max_money
    ∷ leb (nat (r 4)) max_count
    ∷ leb (nat (r 5)) max_count
    ∷ []

-- "Item, I rows: price (0 to 99,999; 0 marks an unused item)."
abbrev pub price : ℕ → Addr
price i = at 4 i 1 1 0

unfoldable pub item_tests : (ℕ → ℤ) → List Bool
item_tests r = leb (nat (r 0)) 99999 ∷ []

-- "Stock, I per depot: on hand (0 to 9,999), lots to date (0 to 9,999,999,999), order count, remote count."
abbrev pub stock_row : ℕ → ℕ → Addr
stock_row w i = at 5 w i 1 0

abbrev pub on_hand : ℕ → ℕ → Addr
on_hand w i = at 5 w i 1 0

abbrev pub stock_ytd : ℕ → ℕ → Addr
stock_ytd w i = at 5 w i 1 1

abbrev pub order_cnt : ℕ → ℕ → Addr
order_cnt w i = at 5 w i 1 2

abbrev pub remote_cnt : ℕ → ℕ → Addr
remote_cnt w i = at 5 w i 1 3

unfoldable pub stock_tests : (ℕ → ℤ) → List Bool
stock_tests r = leb (nat (r 0)) 9999 ∷ leb (nat (r 1)) 9999999999 ∷ leb (nat (r 2)) max_count ∷ leb (nat (r 3)) max_count ∷ []

-- "Order number k is in slot k"
unfoldable pub slot : Dims → ℕ → ℕ
slot d o = o

-- "Order, O slots per district, 81 numbers: customer, entry date, carrier (0 null, else 1 to 10), line count (1 to 15), all-local (0 or 1),
-- waiting (1 while undelivered, else 0), then 15 lines"
abbrev pub order_col : Dims → ℕ → ℕ → ℕ → ℕ → Addr
order_col d w k o col = at 6 w k (slot d o) col

abbrev pub order_row : Dims → ℕ → ℕ → ℕ → Addr
order_row d w k o = order_col d w k o 0

abbrev pub order_customer : Dims → ℕ → ℕ → ℕ → Addr
order_customer d w k o = order_col d w k o 0

abbrev pub entry_date : Dims → ℕ → ℕ → ℕ → Addr
entry_date d w k o = order_col d w k o 1

abbrev pub carrier : Dims → ℕ → ℕ → ℕ → Addr
carrier d w k o = order_col d w k o 2

abbrev pub line_count : Dims → ℕ → ℕ → ℕ → Addr
line_count d w k o = order_col d w k o 3

abbrev pub waiting : Dims → ℕ → ℕ → ℕ → Addr
waiting d w k o = order_col d w k o 5

unfoldable pub order_tests : Dims → (ℕ → ℤ) → List Bool
order_tests d r =
    leb 1 (nat (r 0))
    ∷ leb (nat (r 0)) d.customers
    ∷ leb 1 (nat (r 1))
    ∷ leb (nat (r 1)) max_date
    ∷ leb (nat (r 2)) 10
    ∷ leb 1 (nat (r 3))
    ∷ leb (nat (r 3)) 15
    ∷ leb (nat (r 4)) 1
    ∷ leb (nat (r 5)) 1
    ∷ []

-- "15 lines of item, supplying depot, quantity (1 to 10), amount (1 to 999,990), delivery date (0 null)": line j, from 1, of an order
abbrev pub line : (ℕ → ℤ) → ℕ → ℕ → ℤ
line r j k = r (1 + 5 * j + k)

unfoldable pub line_tests : Dims → (ℕ → ℤ) → List Bool
line_tests d r =
    leb 1 (nat (r 0))
    ∷ leb (nat (r 0)) d.items
    ∷ leb 1 (nat (r 1))
    ∷ leb (nat (r 1)) d.warehouses
    ∷ leb 1 (nat (r 2))
    ∷ leb (nat (r 2)) 10
    ∷ leb 1 (nat (r 3))
    ∷ leb (nat (r 3)) 999990
    ∷ leb (nat (r 4)) max_date
    ∷ []

-- an order "with its lines in use"
unfoldable pub order_ok : Dims → (ℕ → ℤ) → Bool
order_ok d r = every (order_tests d r) && all_to (nat (r 3)) (λ j. every (line_tests d (line r j)))

-- "History, H slots: customer, its district, its depot, paying district, paying depot, date, amount." ("a history amount 100 to 500,000")
abbrev pub history_row : ℕ → Addr
history_row h = at 7 h 1 1 0

abbrev pub history_col : ℕ → ℕ → Addr
history_col h col = at 7 h 1 1 col

unfoldable pub history_tests : Dims → (ℕ → ℤ) → List Bool
history_tests d r =
    leb 1 (nat (r 0))
    ∷ leb (nat (r 0)) d.customers
    ∷ leb 1 (nat (r 1))
    ∷ leb (nat (r 1)) 10
    ∷ leb 1 (nat (r 2))
    ∷ leb (nat (r 2)) d.warehouses
    ∷ leb 1 (nat (r 3))
    ∷ leb (nat (r 3)) 10
    ∷ leb 1 (nat (r 4))
    ∷ leb (nat (r 4)) d.warehouses
    ∷ leb 1 (nat (r 5))
    ∷ leb (nat (r 5)) max_date
    ∷ leb 100 (nat (r 6))
    ∷ leb (nat (r 6)) 500000
    ∷ []
