-- Further cases, beside the twelve and the listing, computed by the definitions that the calls use: the sentences of document 01 that demand 3 does
-- not speak of. Each figure is worked out from the paper by hand.
-- Assumes nothing.
use mathlib.Core.Path.{◌≡◌, refl}
use mathlib.Core.Bool.{Bool, true, false}
use mathlib.Core.List.{List, [], ◌∷◌, ◌++◌, map}
use Prim.Native.Nat.{ℕ, ◌+◌, ◌*◌}
use Prim.Native.String.{String}
use lib.Count.{ones}
use lib.IntN.{ℤ, pos, negsuc, ◌+ℤ◌, ◌-ℤ◌}
use lib.ListN.{length, get_or, set, take, drop, replicate}
use Rattle.model.specs.Tests.{every, all_to}
use Rattle.model.specs.Numbers.{nat, cell, balance_ok}
use Rattle.model.specs.Layout.{numbers, name_bytes, inside, place}
use Rattle.model.specs.Store.{get, remap, op}
use Rattle.model.specs.Lists.{up_to, sum_of, lowest, largest}
use Rattle.model.specs.Rows.{warehouse_tests, district_tests, customer_tests, item_tests, stock_tests, slot, order_tests, line_tests, order_ok}
use Rattle.model.specs.Head.{dims, dims_tests, size_tests, head_ok}
use Rattle.model.specs.Names.{by_number, by_name, name_place, last_name, first_name, name_ok, padded, compare_names, named, before, namesakes, found, customer_of}
use Rattle.model.specs.Used.{warehouse_used, district_used, customer_used, item_used, stock_used, order_used, customers_used, names_used, orders_used, who_used, line_used}
use Rattle.model.specs.LastOrder.{last_long, last_ok, found_ok}
use Rattle.model.specs.Answer.{Answer, committed, refused}
use Rattle.model.specs.TopUp.{margin_of, lift_of, row_tests, row_ok, topup_ok, lifts, restock}
use Rattle.model.specs.Opening.{new_warehouse, new_district, new_customer, new_stock, district_new, warehouse_new, book_new, opening_fault, opening_answer}
use Rattle.model.specs.NewOrder.{new_asked, price_of, orderable, new_used, new_order_fault, line_lifts, new_order_commit, order_total, new_order_total, new_order_answer, new_order_book, new_order_noted, new_order_last}
use Rattle.model.specs.Note.{note_bytes, note_place, text_at, notes_long, note_of, moved, replaced}
use Rattle.model.specs.Payment.{pay_asked, pay_used, payment_fault, payer, payment_commit, paid_balance, payment_answer, payment_book, is_bad, note_commit, payment_notes}
use Rattle.model.specs.Delivery.{delivery_asked, deliverable, delivery_used, delivery_fault, waits, oldest, line_amounts, deliver_order, deliver_district, deliver_to, delivery_commit, oldest_ten, delivery_answer, delivery_orders, delivery_book}
use Rattle.model.specs.OrderStatus.{status_asked, status_used, status_fault, status_customer, status_order, order_shown, lines_part, status_answer, status_part, status_lines}
use Rattle.model.specs.StockLevel.{window_first, window_count, level_asked, window_used, level_used, stock_level_fault, line_items, window_items, is_low, low_items, stock_level_answer}
use Rattle.model.specs.Request.{Request, stock_level, Lent, lent, answer_of, orders_of, shown_part, nums_after, last_after, notes_after}
use Rattle.model.specs.Text.{positives, is_number, value_of, decimal, tabbed, line_text, parted_by}
use Rattle.model.specs.RequestLine.{is_name, is_who, who_read, has_form, fields_of, line_of, lines_read, read_new_order, read_payment, read_delivery, read_order_status, read_stock_level, read_fields, read_line, write_fault, write_answer, write_buffer}
use Rattle.model.specs.AnswerLine.{answer_line, no_form_line, printed_for, left_after}
use Rattle.model.proofs.Listing.{times, bytes, lines, answered}

-- a request line and what it prints, each space standing for a tab
pub data Case : Type 0 where
  prints : String → String → Case

abbrev pub asked : List Case → List String
asked [] = []
asked (prints q a ∷ cs) = q ∷ asked cs

abbrev pub answers : List Case → List String
answers [] = []
answers (prints q a ∷ cs) = a ∷ answers cs

abbrev pub left_all : Lent → List (List ℕ) → Lent
left_all s [] = s
left_all s (x ∷ xs) = left_all (left_after s (read_line x)) xs

-- a book lent with last orders all 0
abbrev pub none_ordered : List ℤ → List ℤ
none_ordered b = replicate (10 * (dims b).warehouses * (dims b).customers) (pos 0)

-- and texts all spaces
abbrev pub unwritten : List ℤ → List ℕ
unwritten b = replicate (note_bytes (dims b)) 32

-- and the table 10, 91 for each item
abbrev pub as_ever : List ℤ → List ℤ
as_ever b = times (dims b).items (pos 10 ∷ pos 91 ∷ [])

abbrev pub fresh : List ℤ → List ℕ → Lent
fresh b names = lent b names (none_ordered b) (unwritten b) (as_ever b)

abbrev pub open_with : List ℤ → List ℕ → Answer
open_with b names = opening_answer b names (as_ever b)

-- what the lines leave
abbrev pub left : Lent → List Case → Lent
left s cs = left_all s (lines (asked cs))

-- the lines, one after the other, print so
abbrev pub Prints : Lent → List Case → Type 0
Prints s cs = answered s (lines (asked cs)) ≡ lines (answers cs)

-- .. and each is refused: "nothing lent is changed"
abbrev pub Refuses : Lent → List Case → Type 0
Refuses s cs = Prints s cs × (left s cs ≡ s)

abbrev pub refused_by : ℕ → ℕ → Answer
refused_by n detail = refused (record { number = n; detail = detail })

-- a book of W 2, C 2, I 3, O 2, H 1: h payments in history, depot 2 and its districts with tax t, its districts with next order number n;
-- prices 100, 250, 99,999; on hand 20; all else 0
abbrev pub book_of : ℕ → ℕ → ℕ → List ℤ
book_of h t n =
    (pos 2 ∷ pos 2 ∷ pos 3 ∷ pos 2 ∷ pos 1 ∷ pos h ∷ [])
    ++ (pos 0 ∷ pos 0 ∷ pos t ∷ pos 0 ∷ [])
    ++ times 10 (pos 0 ∷ pos 0 ∷ pos 1 ∷ [])
    ++ times 10 (pos t ∷ pos 0 ∷ pos n ∷ [])
    ++ replicate 240 (pos 0)
    ++ (pos 100 ∷ pos 250 ∷ pos 99999 ∷ [])
    ++ times 6 (pos 20 ∷ pos 0 ∷ pos 0 ∷ pos 0 ∷ [])
    ++ replicate 3247 (pos 0)

-- opened; with rates out of range; with every slot of depot 2 and of history taken; with both; with a history count above H
abbrev pub opened : List ℤ
opened = book_of 0 0 1

abbrev pub spoiled : List ℤ
spoiled = book_of 0 10000 1

abbrev pub full : List ℤ
full = book_of 1 0 3

abbrev pub spoiled_full : List ℤ
spoiled_full = book_of 1 10000 3

abbrev pub headless : List ℤ
headless = book_of 2 10000 1

-- "16 each, padded with spaces"
abbrev pub name : String → List ℕ
name s = take 16 (bytes s ++ replicate 16 32)

-- n customers of one name
abbrev pub alms : ℕ → List ℕ
alms n = times n (name "ALM" ++ name "BO")

-- those of the book of two depots
abbrev pub everyone : List ℕ
everyone = alms 40

-- in each of ten districts 1 and 2 have the same names, 3 the same last name, 4 a last name of 16 bytes, 5 the first 15 of them
abbrev pub people : List ℕ
people =
    times 10 (name "ALM" ++ name "BO" ++ name "ALM" ++ name "BO" ++ name "ALM" ++ name "ANN" ++ name "ABCDEFGHIJKLMNOP" ++ name "BO"
    ++ name "ABCDEFGHIJKLMNO" ++ name "BO")

-- a book of W 1, C c, I 1, O 1, H 1: h payments in history, tax t, next order number n; price 100, on hand 20; all else 0
abbrev pub small_of : ℕ → ℕ → ℕ → ℕ → List ℤ
small_of c h t n =
    (pos 1 ∷ pos c ∷ pos 1 ∷ pos 1 ∷ pos 1 ∷ pos h ∷ [])
    ++ (pos t ∷ pos 0 ∷ [])
    ++ times 10 (pos t ∷ pos 0 ∷ pos n ∷ [])
    ++ replicate (60 * c) (pos 0)
    ++ (pos 100 ∷ [])
    ++ (pos 20 ∷ pos 0 ∷ pos 0 ∷ pos 0 ∷ [])
    ++ replicate 817 (pos 0)

-- an order of one line
abbrev pub order_of : ℕ → ℕ → List ℤ
order_of date item = (pos 1 ∷ pos date ∷ pos 0 ∷ pos 1 ∷ pos 1 ∷ pos 1 ∷ pos item ∷ pos 1 ∷ pos 1 ∷ pos 100 ∷ pos 0 ∷ []) ++ replicate 70 (pos 0)

-- a book of W 1, C 1, I 4, O 21, H 1 with 21 orders in district 1, whose clock goes back: order 1 of item 1, order 2 of item 2, orders 3 to 20 of
-- item 3, order 21 of item 4; on hand 0, 9, 9, 10
abbrev pub window_book : List ℤ
window_book =
    (pos 1 ∷ pos 1 ∷ pos 4 ∷ pos 21 ∷ pos 1 ∷ pos 0 ∷ [])
    ++ (pos 0 ∷ pos 0 ∷ [])
    ++ (pos 0 ∷ pos 0 ∷ pos 22 ∷ []) ++ times 9 (pos 0 ∷ pos 0 ∷ pos 1 ∷ [])
    ++ replicate 60 (pos 0)
    ++ replicate 4 (pos 100)
    ++ (pos 0 ∷ pos 0 ∷ pos 0 ∷ pos 0 ∷ []) ++ times 2 (pos 9 ∷ pos 0 ∷ pos 0 ∷ pos 0 ∷ []) ++ (pos 10 ∷ pos 0 ∷ pos 0 ∷ pos 0 ∷ [])
    ++ order_of 50 1 ++ order_of 49 2 ++ times 18 (order_of 48 3) ++ order_of 30 4
    ++ replicate 15309 (pos 0)
    ++ replicate 7 (pos 0)

-- two orders, of which the second has a remote line
abbrev pub two_orders : List Case
two_orders =
    prints "N 1 1 1 100 1 1 3 1 1 4" "N 0 1 700"
    ∷ prints "N 1 1 2 99 1 1 2 2 2 5" "N 0 2 1450"
    ∷ []

-- .. and the first of them delivered
abbrev pub delivered : List Case
delivered = two_orders ++ (prints "D 1 10 200" "D 0 9 1 0 0 0 0 0 0 0 0 0" ∷ [])

-- n numbers from index p on
abbrev pub part : ℕ → ℕ → List ℤ → List ℕ
part p n b = map nat (take n (drop p b))

-- a request to write
abbrev pub level : ℕ → Request
level t = stock_level (record { warehouse = 1; district = 1; threshold = t })

-- a row, by column
abbrev pub row_is : List ℤ → ℕ → ℤ
row_is r k = get_or r k (pos 0)

-- each number of a row changed by itself
abbrev pub beyond : (ℤ → ℤ) → List ℤ → List (List ℤ)
beyond f [] = []
beyond f (z ∷ zs) = (f z ∷ zs) ∷ map (λ r. z ∷ r) (beyond f zs)

-- the lowest numbers and the largest pass; one of them lower, or larger, does not
abbrev pub Range : (List ℤ → List Bool) → List ℤ → List ℤ → Type 0
Range tests low top =
    map (λ r. every (tests r)) (low ∷ top ∷ beyond (λ z. z -ℤ pos 1) low ++ beyond (λ z. z +ℤ pos 1) top)
    ≡ true ∷ true ∷ replicate (length low + length top) false

pub record Figures : Type 0 where
  -- R-2: "to the nearest cent, an exact half upwards": 17.595 and 10.5
  pub fraction : order_total 17 1000 1000 500 ∷ order_total 10 0 250 250 ∷ [] ≡ 18 ∷ 11 ∷ []
  -- ".. / 100,000,000": rounded once, at the end
  pub once : order_total 99 5000 5000 5000 ≡ 99
  -- "Among n equal last names, sorted by first name bytes and then number, place n/2 rounded up is taken.": of 3, 1, 2 the second.
  -- "a last name, compared after padding to 16 bytes" "Nobody in the district has the last name"
  pub found_by_name : Prints (fresh (small_of 5 0 0 1) people) (
      prints "P 1 1 1 2 =ALM 1 100" "P 0 1 -100"
      ∷ prints "S 1 2 #1" "S 0 1 -100 0 0 0"
      ∷ prints "S 1 1 =ABCDEFGHIJKLMNOP" "S 0 4 0 0 0 0"
      ∷ prints "S 1 1 =ABCDEFGHIJKLMNO" "S 0 5 0 0 0 0"
      ∷ prints "S 1 1 =ABCDEFGHIJKLMN" "S 10 0"
      ∷ prints "S 1 1 =ALMA" "S 10 0"
      ∷ [])
  -- "lots to date rise by the quantity, order count by 1, remote count by 1 if another depot supplies" "An item named twice is taken twice in turn."
  pub printed : Prints (fresh opened everyone) delivered
  -- from index 6 + 4 + 60 + 240 + 3 on the stock of depots 1 and 2, then orders 1 and 2.
  -- "customer, entry date, carrier .., line count .., all-local .., waiting .., then 15 lines of item, supplying depot, quantity .., amount ..,
  -- delivery date" "The slot is filled, unused lines 0, carrier 0, waiting 1." "carrier and dates set, waiting 0"
  pub rows : part 313 186 (left (fresh opened everyone) delivered).nums
      ≡ (11 ∷ 9 ∷ 3 ∷ 0 ∷ 20 ∷ 0 ∷ 0 ∷ 0 ∷ 20 ∷ 0 ∷ 0 ∷ 0 ∷ [])
      ++ (20 ∷ 0 ∷ 0 ∷ 0 ∷ 15 ∷ 5 ∷ 1 ∷ 1 ∷ 20 ∷ 0 ∷ 0 ∷ 0 ∷ [])
      ++ (1 ∷ 100 ∷ 10 ∷ 2 ∷ 1 ∷ 0 ∷ 1 ∷ 1 ∷ 3 ∷ 300 ∷ 200 ∷ 1 ∷ 1 ∷ 4 ∷ 400 ∷ 200 ∷ replicate 65 0)
      ++ (2 ∷ 99 ∷ 0 ∷ 2 ∷ 0 ∷ 1 ∷ 1 ∷ 1 ∷ 2 ∷ 200 ∷ 0 ∷ 2 ∷ 2 ∷ 5 ∷ 1250 ∷ 0 ∷ replicate 65 0)
  -- "a ten-bit mark of skipped districts with the count of its ones; bit d − 1 stands for district d": 1,023 less bit 0
  pub mark : delivery_answer (left (fresh opened everyone) two_orders).nums everyone (record { warehouse = 1; carrier = 10; date = 200 })
      ≡ committed (pos 9 ∷ pos 1022 ∷ [])
  -- "Distinct items on orders numbered from next − 20 (or 1) to next − 1, whose on hand at this depot is below the threshold, counted.":
  -- next 22, so items 2, 3 and 4. "taking the last order by date (clocks go back; the number decides)"
  pub window : Prints (lent window_book (alms 10) (pos 21 ∷ replicate 9 (pos 0)) (unwritten window_book) (as_ever window_book)) (
      prints "L 1 1 10" "L 0 2"
      ∷ prints "L 1 1 11" "L 0 3"
      ∷ prints "S 1 1 #1" "S 0 1 0 21 30 0 4 1 1 100 0"
      ∷ [])

-- "Refused, in checking order": where a line offends twice, the first of the two numbers is answered
pub record Refusals : Type 0 where
  -- 2 before 3. "every moving field .. is 0 and every next order number 1"
  pub opening : opening_answer [] [] [] ∷ open_with (small_of 1 2 10000 1) (alms 10) ∷ open_with (small_of 1 0 0 1) (drop 1 (alms 10))
      ∷ open_with (small_of 1 0 10000 1) (alms 10) ∷ open_with (small_of 1 1 0 1) (alms 10) ∷ open_with (small_of 1 0 0 2) (alms 10)
      ∷ open_with (small_of 1 0 9999 1) (alms 10) ∷ []
      ≡ refused_by 2 0 ∷ refused_by 2 0 ∷ refused_by 2 0 ∷ refused_by 3 0 ∷ refused_by 3 0 ∷ refused_by 3 0 ∷ committed [] ∷ []
  -- 2 before 4
  pub head : Refuses (fresh headless everyone) (
      prints "N 3 1 1 1 1 1 1" "N 2 0"
      ∷ prints "P 3 1 1 1 #1 1 100" "P 2 0"
      ∷ prints "D 3 1 1" "D 2 0"
      ∷ prints "S 3 1 #1" "S 2 0"
      ∷ prints "L 3 1 10" "L 2 0"
      ∷ [])
  -- 4 before 5 before 6 before 7 before 8 before 12. "The detail is the first offending line of an order at 8 and 12, otherwise 0"
  pub new_order_lem : Refuses (fresh opened everyone) (
      prints "N 3 11 1 1 1 1 1" "N 4 0"
      ∷ prints "N 0 11 1 1 1 1 1" "N 4 0"
      ∷ prints "N 1 11 3 1 1 1 1" "N 5 0"
      ∷ prints "N 1 0 3 1 1 1 1" "N 5 0"
      ∷ prints "N 1 1 3 0 1 1 1" "N 6 0"
      ∷ prints "N 1 1 0 0 1 1 1" "N 6 0"
      ∷ prints "N 1 1 1 0 1 3 1" "N 7 0"
      ∷ prints "N 1 1 1 6342969601 1 1 11" "N 7 0"
      ∷ prints "N 1 1 1 1 4 1 1 1 3 1" "N 8 2"
      ∷ prints "N 1 1 1 1 1 1 1 1 1 11 1 0 1" "N 8 2"
      ∷ prints "N 1 1 1 1 1 1 1 1 1 1 1 1 0" "N 8 3"
      ∷ prints "N 1 1 1 1 1 1 1 4 1 1 0 1 1" "N 12 2"
      ∷ [])
  -- 8 before 9 before 11 before 12; a slot is left where next is O
  pub new_order_rows : Refuses (fresh spoiled_full everyone) (prints "N 2 1 1 1 4 1 11" "N 8 1" ∷ prints "N 2 1 1 1 4 1 1" "N 9 0" ∷ [])
  pub new_order_full : Refuses (fresh full everyone) (prints "N 2 1 1 1 4 1 1" "N 11 0" ∷ [])
  pub new_order_last_lem : Refuses (fresh (book_of 0 0 2) everyone) (prints "N 2 1 1 1 4 1 1" "N 12 1" ∷ [])
  -- "line count (1 to 15)"; "otherwise 0 (also where the line count itself offends)"
  pub line_count_lem : map (new_order_answer opened everyone (none_ordered opened) (as_ever opened) (record { warehouse = 1; district = 1; customer = 1; date = 1 }))
      ([] ∷ replicate 16 (record { item = 1; supply = 1; quantity = 0 }) ∷ replicate 15 (record { item = 1; supply = 1; quantity = 0 }) ∷ [])
      ≡ refused_by 8 0 ∷ refused_by 8 0 ∷ refused_by 8 1 ∷ []
  -- 4 before 5 before 6 before 7 before 8 before 10
  pub payment : Refuses (fresh opened everyone) (
      prints "P 1 11 3 1 #1 1 100" "P 4 0"
      ∷ prints "P 3 1 1 11 #1 1 100" "P 4 0"
      ∷ prints "P 1 1 1 11 #3 1 100" "P 5 0"
      ∷ prints "P 1 11 1 1 #0 1 100" "P 5 0"
      ∷ prints "P 1 1 1 1 #3 0 100" "P 6 0"
      ∷ prints "P 1 1 1 1 #1 0 99" "P 7 0"
      ∷ prints "P 1 1 1 1 #1 6342969601 99" "P 7 0"
      ∷ prints "P 1 1 1 1 =X 1 99" "P 8 0"
      ∷ prints "P 1 1 1 1 =X 1 500001" "P 8 0"
      ∷ prints "P 1 1 1 1 =X 1 100" "P 10 0"
      ∷ [])
  -- 8 before 9 before 10 before 11
  pub payment_rows : Refuses (fresh spoiled_full everyone) (
      prints "P 2 1 1 1 =X 1 99" "P 8 0"
      ∷ prints "P 2 1 1 1 =X 1 100" "P 9 0"
      ∷ prints "P 1 1 1 1 =X 1 100" "P 10 0"
      ∷ prints "P 1 1 1 1 =ALM 1 100" "P 11 0"
      ∷ [])
  -- "Payment: depot, district, the customer": not the customer's depot and district
  pub payment_home : Prints (fresh spoiled everyone) (prints "P 1 1 2 1 #1 1 100" "P 0 1 -100" ∷ [])
  -- 4 before 7 before 8 before 9
  pub delivery : Refuses (fresh spoiled everyone) (
      prints "D 3 11 0" "D 4 0"
      ∷ prints "D 2 11 0" "D 7 0"
      ∷ prints "D 2 0 6342969601" "D 7 0"
      ∷ prints "D 2 11 1" "D 8 0"
      ∷ prints "D 2 0 1" "D 8 0"
      ∷ prints "D 2 10 1" "D 9 0"
      ∷ [])
  -- 4 before 5 before 6 before 9 before 10
  pub order_status_lem : Refuses (fresh spoiled everyone) (
      prints "S 3 11 #1" "S 4 0"
      ∷ prints "S 1 11 #3" "S 5 0"
      ∷ prints "S 2 1 #3" "S 6 0"
      ∷ prints "S 2 1 #0" "S 6 0"
      ∷ prints "S 2 1 =X" "S 9 0"
      ∷ prints "S 1 1 =X" "S 10 0"
      ∷ [])
  -- 4 before 5 before 8 before 9
  pub stock_level_lem : Refuses (fresh spoiled everyone) (
      prints "L 3 11 9" "L 4 0"
      ∷ prints "L 1 11 9" "L 5 0"
      ∷ prints "L 2 1 9" "L 8 0"
      ∷ prints "L 2 1 21" "L 8 0"
      ∷ prints "L 2 1 20" "L 9 0"
      ∷ [])
  -- "always so when it is empty or over 16 bytes"; 9 before 10
  pub no_name : map (λ x. status_answer (small_of 5 0 0 1) people (none_ordered (small_of 5 0 0 1)) (record { warehouse = 1; district = 1 }) (by_name x))
      ([] ∷ bytes "ABCDEFGHIJKLMNOPQ" ∷ (bytes "ABCDEFGHIJKLMNO" ++ (32 ∷ [])) ∷ [])
      ≡ refused_by 10 0 ∷ refused_by 10 0 ∷ committed (pos 5 ∷ replicate 4 (pos 0)) ∷ []
  pub no_name_row : status_answer spoiled everyone (none_ordered spoiled) (record { warehouse = 2; district = 1 }) (by_name []) ≡ refused_by 9 0

-- what stands beside a refusal
pub record Beside : Type 0 where
  -- "Delivery's ten numbers stand beside it; when refused they are 0": carrier 11, and 10
  pub ten_numbers : map (λ c. delivery_orders (left (fresh opened everyone) two_orders).nums everyone (record { warehouse = 1; carrier = c; date = 200 })) (11 ∷ 10 ∷ [])
      ≡ replicate 10 0 ∷ (1 ∷ replicate 9 0) ∷ []
  -- "a refused status shows an empty part": with the district's tax, at index 10 of the book, out of range, and in range
  pub part_shown : map (λ t. status_lines (set (left (fresh opened everyone) two_orders).nums 10 (pos t)) everyone (left (fresh opened everyone) two_orders).last (record { warehouse = 1; district = 1 }) (by_number 2))
      (10000 ∷ 9999 ∷ [])
      ≡ [] ∷ positives (1 ∷ 1 ∷ 2 ∷ 200 ∷ 0 ∷ 2 ∷ 2 ∷ 5 ∷ 1250 ∷ 0 ∷ []) ∷ []
  -- "line count times five, starting in the order slot": refused; order 2, behind 337 numbers and one slot of 81, from its column 6; no order
  pub part_place : map (λ x. status_part (set (left (fresh opened everyone) two_orders).nums 10 (pos x)) everyone (left (fresh opened everyone) two_orders).last (record { warehouse = 1; district = 1 }) (by_number 2))
      (10000 ∷ 9999 ∷ [])
      ≡ record { from = 0; count = 0 } ∷ record { from = 424; count = 10 } ∷ []
  pub no_place : status_part opened everyone (none_ordered opened) (record { warehouse = 1; district = 1 }) (by_number 2) ≡ record { from = 0; count = 0 }
  -- "A line refused by 1 prints ?, 1, 0." "at most ten digits, no leading zero but "0" itself" "a name of 1 to 16 bytes" "1 to 15 times"
  pub no_form_lem : Refuses (fresh opened everyone) (
      prints "" "? 1 0"
      ∷ prints "X 1 1 10" "? 1 0"
      ∷ prints "L 01 1 10" "? 1 0"
      ∷ prints "L 1 1  10" "? 1 0"
      ∷ prints "L 1 1 10000000000" "? 1 0"
      ∷ prints "L 1 1 9999999999" "L 8 0"
      ∷ prints "S 1 1 =" "? 1 0"
      ∷ prints "S 1 1 =ABCDEFGHIJKLMNOPQ" "? 1 0"
      ∷ prints "N 1 1 1 1" "? 1 0"
      ∷ prints "N 1 1 1 1 1 1 1 1 1 1 1 1 1 1 1 1 1 1 1 1 1 1 1 1 1 1 1 1 1 1 1 1 1 1 1 1 1 1 1 1 1 1 1 1 1 1 1 1 1 1 1 1" "? 1 0"
      ∷ [])
  -- "a last one without byte 10, has no form"
  pub unended : printed_for (fresh opened everyone) (read_line (bytes "L 1 1 10")) ≡ bytes "? 1 0" ++ (10 ∷ [])
  -- "in writing, the request has none or the lent buffer is shorter than its line" "writing answers the length and leaves the bytes beyond it"
  pub writing : write_answer [] (level 10000000000) ∷ write_answer (replicate 30 7) (level 10000000000) ∷ write_answer (replicate 17 7) (level 9999999999)
      ∷ write_answer (replicate 8 7) (level 18) ∷ write_answer (replicate 9 7) (level 18) ∷ []
      ≡ refused_by 1 0 ∷ refused_by 1 0 ∷ committed (pos 17 ∷ []) ∷ refused_by 1 0 ∷ committed (pos 9 ∷ []) ∷ []
  pub buffer : write_buffer (replicate 30 7) (level 10000000000) ∷ write_buffer (replicate 8 7) (level 18) ∷ write_buffer (replicate 10 7) (level 18) ∷ []
      ≡ replicate 30 7 ∷ replicate 8 7 ∷ (bytes "L 1 1 18" ++ (10 ∷ 7 ∷ [])) ∷ []

-- both ends of the ranges
pub record Limits : Type 0 where
  -- 15 lines of the dearest item; the last depot, district, customer, carrier and date; the largest quantity, amount and threshold; the least of each
  pub passed : Prints (fresh opened everyone) (
      prints "D 1 1 1" "D 0 10 0 0 0 0 0 0 0 0 0 0"
      ∷ prints "N 1 1 2 6342969600 3 2 10 3 2 10 3 2 10 3 2 10 3 2 10 3 2 10 3 2 10 3 2 10 3 2 10 3 2 10 3 2 10 3 2 10 3 2 10 3 2 10 3 2 10" "N 0 1 14999850"
      ∷ prints "N 1 1 1 1 1 1 1" "N 0 2 100"
      ∷ prints "D 1 10 6342969600" "D 0 9 1 0 0 0 0 0 0 0 0 0"
      ∷ prints "P 2 10 1 1 #2 6342969600 500000" "P 0 2 14499850"
      ∷ prints "L 1 1 20" "L 0 1"
      ∷ prints "L 2 10 10" "L 0 0"
      ∷ [])
  -- "W depots (1 to 20), C customers per district (1 to 3,000), I items (1 to 100,000), O order slots per district (1 to 10,000), H history slots
  -- (1 to 1,000,000)"
  pub head : Range (λ r. dims_tests (dims r)) (replicate 5 (pos 1)) (positives (20 ∷ 3000 ∷ 100000 ∷ 10000 ∷ 1000000 ∷ []))
  -- "Taxes and discounts are ten-thousandths, 0 to 9,999." "To-date money is 0 to 999,999,999,999" "next order number (1 to O + 1)"
  pub warehouse : Range (λ r. warehouse_tests (row_is r)) (replicate 2 (pos 0)) (positives (9999 ∷ 999999999999 ∷ []))
  pub district : Range (λ r. district_tests (dims opened) (row_is r)) (positives (0 ∷ 0 ∷ 1 ∷ [])) (positives (9999 ∷ 999999999999 ∷ 3 ∷ []))
  -- "credit (0 good, 1 bad)" "a balance is within the same distance of zero on either side" "Other counts are 0 to 999,999,999."
  pub customer : Range (λ r. customer_tests (row_is r)) (pos 0 ∷ pos 0 ∷ negsuc 999999999998 ∷ replicate 3 (pos 0))
      (positives (1 ∷ 9999 ∷ 999999999999 ∷ 999999999999 ∷ 999999999 ∷ 999999999 ∷ []))
  -- "price (0 to 99,999" "on hand (0 to 9,999), lots to date (0 to 9,999,999,999)"
  pub item : Range (λ r. item_tests (row_is r)) (pos 0 ∷ []) (pos 99999 ∷ [])
  pub stock : Range (λ r. stock_tests (row_is r)) (replicate 4 (pos 0)) (positives (9999 ∷ 9999999999 ∷ 999999999 ∷ 999999999 ∷ []))
  -- "carrier (0 null, else 1 to 10), line count (1 to 15), all-local (0 or 1), waiting" "Customers, items and depots .. are 1 to C, I and W"
  pub order : Range (λ r. order_tests (dims opened) (row_is r)) (positives (1 ∷ 1 ∷ 0 ∷ 1 ∷ 0 ∷ 0 ∷ [])) (positives (2 ∷ 6342969600 ∷ 10 ∷ 15 ∷ 1 ∷ 1 ∷ []))
  -- "item, supplying depot, quantity (1 to 10), amount (1 to 999,990), delivery date (0 null)"
  pub line : Range (λ r. line_tests (dims opened) (row_is r)) (positives (1 ∷ 1 ∷ 1 ∷ 1 ∷ 0 ∷ [])) (positives (3 ∷ 2 ∷ 10 ∷ 999990 ∷ 6342969600 ∷ []))
  -- "orders with their lines in use": the second line is no line, with line count 1 and 2
  pub lines_in_use : map (λ n. order_ok (dims opened) (row_is (positives (1 ∷ 1 ∷ 0 ∷ n ∷ 1 ∷ 1 ∷ 1 ∷ 1 ∷ 1 ∷ 1 ∷ 0 ∷ 4 ∷ 1 ∷ 1 ∷ 1 ∷ 0 ∷ [])))) (1 ∷ 2 ∷ [])
      ≡ true ∷ false ∷ []
  -- "bytes 32 to 126, the last name's first byte no space"
  pub names : map (λ x. name_ok x 0)
      (replicate 32 126 ∷ (33 ∷ replicate 31 32) ∷ replicate 32 32 ∷ (replicate 31 126 ++ (127 ∷ [])) ∷ (33 ∷ replicate 30 32 ++ (31 ∷ [])) ∷ [])
      ≡ true ∷ true ∷ false ∷ false ∷ false ∷ []
  -- "every master field, on hand and name is in range and every moving field .. is 0 and every next order number 1"
  pub new_warehouse_lem : Range (λ r. new_warehouse (row_is r)) (replicate 2 (pos 0)) (positives (9999 ∷ 0 ∷ []))
  pub new_district_lem : Range (λ r. new_district (row_is r)) (positives (0 ∷ 0 ∷ 1 ∷ [])) (positives (9999 ∷ 0 ∷ 1 ∷ []))
  pub new_customer_lem : Range (λ r. new_customer (row_is r)) (replicate 6 (pos 0)) (positives (1 ∷ 9999 ∷ 0 ∷ 0 ∷ 0 ∷ 0 ∷ []))
  pub new_stock_lem : Range (λ r. new_stock (row_is r)) (replicate 4 (pos 0)) (positives (9999 ∷ 0 ∷ 0 ∷ 0 ∷ []))

pub record Readings : Type 0 where
  pub figures : Figures
  pub refusals : Refusals
  pub beside : Beside
  pub limits : Limits

pub readings : Readings
unfolding all_to nat cell balance_ok numbers name_bytes inside place get remap op up_to sum_of lowest largest warehouse_tests district_tests customer_tests item_tests stock_tests slot order_tests line_tests order_ok dims dims_tests size_tests head_ok name_place last_name first_name name_ok padded compare_names named before namesakes found customer_of warehouse_used district_used customer_used item_used stock_used order_used customers_used names_used orders_used who_used line_used last_long last_ok found_ok new_asked price_of orderable new_used new_order_fault margin_of lift_of row_tests row_ok topup_ok lifts restock line_lifts new_order_commit order_total new_order_total new_order_answer new_order_book new_order_noted new_order_last pay_asked pay_used payment_fault payer payment_commit paid_balance payment_answer payment_book is_bad note_commit payment_notes notes_long note_place text_at note_of moved replaced delivery_asked deliverable delivery_used delivery_fault waits oldest line_amounts deliver_order deliver_district deliver_to delivery_commit oldest_ten delivery_answer delivery_book status_asked status_used status_fault status_customer status_order order_shown lines_part status_answer status_part status_lines window_first window_count level_asked window_used level_used stock_level_fault line_items window_items is_low low_items stock_level_answer answer_of nums_after last_after notes_after delivery_orders ones orders_of shown_part decimal tabbed line_text answer_line no_form_line printed_for left_after is_number value_of is_name is_who who_read parted_by lines_read read_new_order read_payment read_delivery read_order_status read_stock_level read_fields read_line new_warehouse new_district new_customer new_stock district_new warehouse_new book_new opening_fault opening_answer has_form fields_of line_of write_fault write_answer write_buffer
readings = record {
  figures = record { fraction = refl; once = refl; found_by_name = refl; printed = refl; rows = refl; mark = refl; window = refl };
  refusals = record { opening = refl; head = (refl, refl); new_order_lem = (refl, refl); new_order_rows = (refl, refl); new_order_full = (refl, refl); new_order_last_lem = (refl, refl); line_count_lem = refl; payment = (refl, refl); payment_rows = (refl, refl); payment_home = refl; delivery = (refl, refl); order_status_lem = (refl, refl); stock_level_lem = (refl, refl); no_name = refl; no_name_row = refl };
  beside = record { ten_numbers = refl; part_shown = refl; part_place = refl; no_place = refl; no_form_lem = (refl, refl); unended = refl; writing = refl; buffer = refl };
  limits = record { passed = refl; head = refl; warehouse = refl; district = refl; customer = refl; item = refl; stock = refl; order = refl; line = refl; lines_in_use = refl; names = refl; new_warehouse_lem = refl; new_district_lem = refl; new_customer_lem = refl; new_stock_lem = refl };
}
