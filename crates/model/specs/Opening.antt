-- Opening, which writes nothing.
-- Assumes nothing.
use Rattle.std.specs.Prelude.{◌≡◌, Bool, List, [], ◌∷◌, ◌++◌, ℕ, leb, eqb, ℤ, length}
use Rattle.model.specs.declared.Dims.{Dims}
use Rattle.model.specs.Tests.{Refusal}
use Rattle.model.specs.Tests.{every, all_to, Check, chk, fault}
use Rattle.model.specs.Numbers.{nat, max_rate}
use Rattle.model.specs.Layout.{shapes}
use Rattle.model.specs.Store.{num, row_of}
use Rattle.model.specs.Head.{dims, head_ok}
use Rattle.model.specs.Rows.{history_count, warehouse_row, district_row, customer_row, stock_row}
use Rattle.model.specs.Used.{item_used, names_used}
use Rattle.model.specs.TopUp.{topup_ok}
use Rattle.model.specs.Answer.{Answer, answer_by}

-- "It accepts when every master field, on hand and name is in range and every moving field (money to date, balance, every count with that of
-- history, lots to date) is 0 and every next order number 1."
-- tax; money to date
unfoldable pub new_warehouse : (ℕ → ℤ) → List Bool
new_warehouse r = leb (nat (r 0)) max_rate ∷ eqb (nat (r 1)) 0 ∷ []

-- tax; money to date, next order number
unfoldable pub new_district : (ℕ → ℤ) → List Bool
new_district r = leb (nat (r 0)) max_rate ∷ eqb (nat (r 1)) 0 ∷ eqb (nat (r 2)) 1 ∷ []

-- credit, discount; balance, payments to date, payment count, delivery count
unfoldable pub new_customer : (ℕ → ℤ) → List Bool
new_customer r = leb (nat (r 0)) 1 ∷ leb (nat (r 1)) max_rate ∷ eqb (nat (r 2)) 0 ∷ eqb (nat (r 3)) 0 ∷ eqb (nat (r 4)) 0 ∷ eqb (nat (r 5)) 0 ∷ []

-- on hand; lots to date, order count, remote count
unfoldable pub new_stock : (ℕ → ℤ) → List Bool
new_stock r = leb (nat (r 0)) 9999 ∷ eqb (nat (r 1)) 0 ∷ eqb (nat (r 2)) 0 ∷ eqb (nat (r 3)) 0 ∷ []

-- one district: its row, its customers, their names
unfoldable pub district_new : Dims → List ℤ → List ℕ → ℕ → ℕ → Bool
district_new d b names w k =
    every (every (new_district (row_of (shapes d) b (district_row w k)))
    ∷ all_to d.customers (λ c. every (new_customer (row_of (shapes d) b (customer_row w k c))))
    ∷ names_used d names w k
    ∷ [])

-- one warehouse: its row, its ten districts, its stock
unfoldable pub warehouse_new : Dims → List ℤ → List ℕ → ℕ → Bool
warehouse_new d b names w =
    every (every (new_warehouse (row_of (shapes d) b (warehouse_row w)))
    ∷ all_to 10 (district_new d b names w)
    ∷ all_to d.items (λ i. every (new_stock (row_of (shapes d) b (stock_row w i))))
    ∷ [])

unfoldable pub book_new : Dims → List ℤ → List ℕ → Bool
book_new d b names =
    every (eqb (num (shapes d) b history_count) 0
    ∷ all_to d.warehouses (warehouse_new d b names)
    ∷ all_to d.items (item_used d b)
    ∷ [])

-- 3: "At opening alone, the book fails the opening rule."
abbrev pub book_tests : List ℤ → List ℕ → List Check
book_tests b names = chk (head_ok b (length names)) 2 ∷ chk (book_new (dims b) b names) 3 ∷ []

-- "a book that opening has just accepted", whatever table is lent beside it
unfoldable pub Accepted : List ℤ → List ℕ → Type 0
Accepted b names = (fault (book_tests b names)).number ≡ 0

-- R-6: 17 "at opening after 3"
unfoldable pub opening_fault : List ℤ → List ℕ → List ℤ → Refusal
opening_fault b names topup = fault (book_tests b names ++ (chk (topup_ok (dims b) topup) 17 ∷ []))

unfoldable pub opening_answer : List ℤ → List ℕ → List ℤ → Answer
opening_answer b names topup = answer_by (opening_fault b names topup) []
