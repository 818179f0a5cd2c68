-- R-6: cases computed by the definitions that the calls use, and by the claim's own, each worked out by hand: which tables 17 lets through, when a stock is
-- lifted and by how much, what New-Order answers, what is refused and in which order, and what the lifts add up to.
-- Assumes nothing.
use mathlib.Core.Path.{◌≡◌, refl}
use mathlib.Core.Bool.{Bool, true, false}
use mathlib.Core.List.{List, [], ◌∷◌, ◌++◌, map}
use Prim.Native.Nat.{ℕ, ◌*◌}
use lib.Count.{ones}
use lib.IntN.{ℤ, pos, negsuc, ◌+ℤ◌, ◌-ℤ◌}
use lib.ListN.{take, set, replicate}
use Rattle.model.specs.declared.Line.{Line}
use Rattle.model.specs.Tests.{all_to}
use Rattle.model.specs.Numbers.{nat, cell, balance_ok}
use Rattle.model.specs.Layout.{shapes, numbers, name_bytes, inside, place}
use Rattle.model.specs.Store.{get, num, remap, op}
use Rattle.model.specs.Lists.{up_to, sum_of, lowest, largest}
use Rattle.model.specs.Rows.{on_hand, stock_ytd, warehouse_tests, district_tests, customer_tests, item_tests, stock_tests, slot, order_tests, line_tests, order_ok}
use Rattle.model.specs.Head.{dims, dims_tests, size_tests, head_ok}
use Rattle.model.specs.Names.{by_number, name_place, last_name, first_name, name_ok, padded, compare_names, named, before, namesakes, found, customer_of}
use Rattle.model.specs.Used.{warehouse_used, district_used, customer_used, item_used, stock_used, order_used, customers_used, names_used, orders_used, who_used, line_used}
use Rattle.model.specs.LastOrder.{last_long, last_ok, found_ok}
use Rattle.model.specs.TopUp.{margin_of, lift_of, row_tests, row_ok, topup_ok, lifts, restock}
use Rattle.model.specs.Answer.{Answer, committed}
use Rattle.model.specs.Opening.{new_warehouse, new_district, new_customer, new_stock, district_new, warehouse_new, book_new, opening_fault, opening_answer}
use Rattle.model.specs.NewOrder.{new_asked, price_of, orderable, new_used, new_order_fault, line_lifts, new_order_commit, order_total, new_order_total, new_order_answer, new_order_book, new_order_noted, new_order_last}
use Rattle.model.specs.Note.{note_place, text_at, notes_long, note_of, moved, replaced}
use Rattle.model.specs.Payment.{pay_asked, pay_used, payment_fault, payer, payment_commit, paid_balance, payment_answer, payment_book, is_bad, note_commit, payment_notes}
use Rattle.model.specs.Delivery.{delivery_asked, deliverable, delivery_used, delivery_fault, waits, oldest, line_amounts, deliver_order, deliver_district, deliver_to, delivery_commit, oldest_ten, delivery_answer, delivery_orders, delivery_book}
use Rattle.model.specs.OrderStatus.{status_asked, status_used, status_fault, status_customer, status_order, order_shown, lines_part, status_answer, status_part}
use Rattle.model.specs.StockLevel.{window_first, window_count, level_asked, window_used, level_used, stock_level_fault, line_items, window_items, is_low, low_items, stock_level_answer}
use Rattle.model.specs.Request.{Request, new_order, payment, delivery, Lent, lent, fault_of, answer_of, orders_of, shown_part, nums_after, last_after, notes_after, after}
use Rattle.model.specs.Text.{positives, is_number, value_of, decimal, tabbed, line_text, parted_by}
use Rattle.model.specs.RequestLine.{is_name, is_who, who_read, lines_read, read_new_order, read_payment, read_delivery, read_order_status, read_stock_level, read_fields, read_line}
use Rattle.model.specs.AnswerLine.{answer_line, no_form_line, printed_for, left_after}
use Rattle.model.specs.Tally.{Done, after_all, done_all}
use Rattle.model.specs.TopUpClaim.{taken_from, lifts_over, lifts_of, lifts_answered, all_lifts, Lending, lending, after_lent, done_lent}
use Rattle.model.proofs.Listing.{times, program_book, program_names, program_last, program_notes, program_topup}
use Rattle.model.proofs.Readings.{Case, prints, left, Prints, Refuses, refused_by, part, opened, everyone, alms, small_of, none_ordered, unwritten}

-- 17 on a table for n items
abbrev passes : ℕ → List ℤ → Bool
passes n topup = topup_ok (record { warehouses = 1; customers = 1; items = n; orders = 1; histories = 1 }) topup

-- .. for one item: its margin and lift
abbrev rows : List (ℤ × ℤ) → List Bool
rows xs = map (λ (x : ℤ × ℤ). passes 1 (x.0 ∷ x.1 ∷ [])) xs

-- the new on hand, and whether the stock was lifted, by margin, lift, on hand and quantity
abbrev step : ℕ → ℕ → ℕ → ℕ → ℕ × Bool
step margin lift hand quantity = (restock margin lift hand quantity, lifts margin hand quantity)

-- a line of an order: item, supplying depot, quantity
abbrev line : ℕ → ℕ → ℕ → Line
line i w n = record { item = i; supply = w; quantity = n }

-- an order of customer 2, who has no discount, at a depot and a district
abbrev order : ℕ → ℕ → List Line → Request
order w k lines = new_order (record { warehouse = w; district = k; customer = 2; date = 100 }) lines

-- what calls answer, one after the other
abbrev answers_of : Lent → List Request → List Answer
answers_of s [] = []
answers_of s (r ∷ rs) = answer_of s r ∷ answers_of (after s r) rs

-- a committed order's number, total and lifts
abbrev told : ℕ → ℕ → ℕ → Answer
told o total n = committed (positives (o ∷ total ∷ n ∷ []))

-- a book of the program's size, last orders and a table; the stock of items 1 to 5 starts at index 163, on hand 20, taxes 1,500 in all
abbrev sized : List ℤ → List ℤ → List ℤ → Lent
sized b last topup = lent b program_names last program_notes topup

abbrev program : List ℤ → Lent
program topup = sized program_book program_last topup

abbrev stocks : Lent → List ℕ
stocks s = part 163 20 s.nums

-- tables of five rows: each item's own; 10 and 91 but for the last lift, which is 9
abbrev own : List ℤ
own = positives (0 ∷ 10 ∷ 20 ∷ 9980 ∷ 9990 ∷ 10 ∷ 10 ∷ 91 ∷ 1 ∷ 9999 ∷ [])

abbrev bad : List ℤ
bad = set program_topup 9 (pos 9)

-- an order under the items' own rows: item 1 falls to 10, to its margin 0, then to 0 + 10 − 10; item 2 to 19, and 9,980, then by 10; item 3, below its margin
-- before and after, to 20 + 10 − 10, then to 29; item 5 to 10
abbrev mixed : List Line
mixed = line 1 1 10 ∷ line 2 1 1 ∷ line 3 1 10 ∷ line 1 1 10 ∷ line 5 1 10 ∷ line 3 1 1 ∷ line 1 1 10 ∷ line 2 1 10 ∷ []

-- the listing's orders, and its other lines with an order between them
abbrev ordered : Lent
ordered = left (program program_topup) (prints "N 1 1 1 100 1 1 10 2 1 3" "N 0 1 1811" ∷ prints "N 1 1 2 102 1 1 1" "N 0 2 115" ∷ [])

abbrev others : List Case
others =
    prints "D 1 3 200" "D 0 9 1 0 0 0 0 0 0 0 0 0"
    ∷ prints "N 1 1 2 102 1 1 1" "N 17 0"
    ∷ prints "P 1 1 1 1 =ALM 201 500" "P 0 2 -500"
    ∷ prints "S 1 1 #1" "S 0 1 1750 1 100 3 1 1 10 1000 200 2 1 3 750 200"
    ∷ prints "L 1 1 18" "L 0 1"
    ∷ []

-- an order that any bad table refuses
abbrev seventeenth : List Case
seventeenth = prints "N 1 1 2 100 1 1 1" "N 17 0" ∷ []

-- 10 lots of item 1 under one table after the other: 10 is left, refused, 0, refused, 0 + 10 − 10
abbrev lendings : List Lending
lendings = map (λ (t : List ℤ). record { topup = t; request = order 1 1 (line 1 1 10 ∷ []) }) (program_topup ∷ [] ∷ own ∷ bad ∷ own ∷ [])

-- two depots, on hand 20 of three items each, no tax; the table is one for both
abbrev depots : Lent
depots = lent opened everyone (none_ordered opened) (unwritten opened) (positives (15 ∷ 20 ∷ 20 ∷ 9980 ∷ 0 ∷ 10 ∷ []))

-- orders with remote lines; one refused for its second line, whose first would have lifted; a payment and a Delivery
abbrev calls : List Request
calls =
    order 1 1 (line 1 1 5 ∷ line 1 2 6 ∷ line 1 1 1 ∷ line 2 2 1 ∷ [])
    ∷ order 1 1 (line 2 1 1 ∷ line 4 1 1 ∷ [])
    ∷ payment (record { warehouse = 1; district = 1; custwarehouse = 1; custdistrict = 1; date = 1; amount = 100 }) (by_number 1)
    ∷ order 2 3 (line 3 1 10 ∷ line 3 1 10 ∷ line 3 1 10 ∷ line 2 2 10 ∷ [])
    ∷ delivery (record { warehouse = 1; carrier = 3; date = 200 })
    ∷ order 1 1 (line 1 2 10 ∷ line 1 2 10 ∷ [])
    ∷ []

-- .. and how they are answered, by number
abbrev numbered : List Request → List ℕ → List Done
numbered [] ns = []
numbered (r ∷ rs) [] = []
numbered (r ∷ rs) (n ∷ ns) = record { request = r; number = n } ∷ numbered rs ns

abbrev done : List Done
done = numbered calls (0 ∷ 12 ∷ 0 ∷ 0 ∷ 0 ∷ 0 ∷ [])

-- a figure of each stock of the two depots
abbrev each : {A : Type 0} → (ℕ → ℕ → A) → List A
each f = f 1 1 ∷ f 1 2 ∷ f 1 3 ∷ f 2 1 ∷ f 2 2 ∷ f 2 3 ∷ []

abbrev in_book : ℕ → ℕ → ℤ
in_book w i = get (shapes (dims opened)) (after_all depots calls).nums (on_hand w i)

-- "opening less lots to date plus the lift times the lifts this rule gives"
abbrev claimed : ℕ → ℕ → ℤ
claimed w i =
    pos (num (shapes (dims opened)) opened (on_hand w i)) -ℤ get (shapes (dims opened)) (after_all depots calls).nums (stock_ytd w i)
    +ℤ pos (lift_of depots.topup i * lifts_of (dims opened) opened depots.topup done w i)

pub record TopUpCases : Type 0 where
  -- ── 17 ──
  -- "A lent table has for each item a margin .. and a lift ..": by item number, the margin first
  pub by_item : map (margin_of own) (1 ∷ 2 ∷ 3 ∷ 4 ∷ 5 ∷ []) ∷ map (lift_of own) (1 ∷ 2 ∷ 3 ∷ 4 ∷ 5 ∷ []) ∷ []
      ≡ (0 ∷ 20 ∷ 9990 ∷ 10 ∷ 1 ∷ []) ∷ (10 ∷ 9980 ∷ 10 ∷ 91 ∷ 9999 ∷ []) ∷ []
  -- "a margin of 0 to 9,990 and a lift of 10 to 9,999 .. Margin plus lift is at most 10,000": at the bounds
  pub inside_all : rows ((pos 10, pos 91) ∷ (pos 0, pos 10) ∷ (pos 9990, pos 10) ∷ (pos 0, pos 9999) ∷ (pos 1, pos 9999) ∷ (pos 5000, pos 5000) ∷ []) ≡ replicate 6 true
  -- a lift of 9, of 10,000, negative; a margin of 9,991, negative; 10,001 in all
  pub lift_out : rows ((pos 0, pos 9) ∷ (pos 9991, pos 9) ∷ (pos 0, pos 0) ∷ (pos 0, pos 10000) ∷ (pos 10, negsuc 90) ∷ (pos 0, negsuc 9223372036854775807) ∷ []) ≡ replicate 6 false
  pub margin_out : rows ((pos 9991, pos 10) ∷ (pos 9223372036854775807, pos 10) ∷ (negsuc 0, pos 91) ∷ (negsuc 9223372036854775807, pos 10) ∷ []) ≡ replicate 4 false
  pub both_out : rows ((pos 9990, pos 11) ∷ (pos 2, pos 9999) ∷ (pos 5000, pos 5001) ∷ (pos 9990, pos 9999) ∷ []) ≡ replicate 4 false
  -- "when the table is not 2 × I numbers": of two items 4, and not 0, 2, 3, 5, 6
  pub lengths : map (λ n. passes 2 (take n (positives (10 ∷ 91 ∷ 10 ∷ 91 ∷ 10 ∷ 91 ∷ [])))) (4 ∷ 0 ∷ 2 ∷ 3 ∷ 5 ∷ 6 ∷ []) ≡ true ∷ replicate 5 false
  -- "or a row breaks these rules": the first, one between, the last; margin and lift of an item stand together
  pub any_row : map (λ p. passes 3 (set (positives (10 ∷ 91 ∷ 10 ∷ 91 ∷ 10 ∷ 91 ∷ [])) p (pos 9))) (0 ∷ 1 ∷ 2 ∷ 3 ∷ 4 ∷ 5 ∷ []) ≡ true ∷ false ∷ true ∷ false ∷ true ∷ false ∷ []
  pub row_by_row : passes 2 (positives (0 ∷ 9999 ∷ 1 ∷ 9999 ∷ [])) ∷ passes 2 (positives (10 ∷ 5 ∷ 20 ∷ 30 ∷ [])) ∷ [] ≡ true ∷ false ∷ []
  -- ── one line ──
  -- "if on hand − quantity is at least" the margin "that is the new on hand, otherwise it plus" the lift: at the margin, and one below it
  pub at_the_margin : step 10 91 20 10 ∷ step 0 10 10 10 ∷ step 5000 5000 5010 10 ∷ step 9990 10 9999 9 ∷ step 1 9999 11 10 ∷ []
      ≡ (10, false) ∷ (0, false) ∷ (5000, false) ∷ (9990, false) ∷ (1, false) ∷ []
  pub below_it : step 10 91 19 10 ∷ step 0 10 9 10 ∷ step 5000 5000 5009 10 ∷ step 9990 10 9999 10 ∷ step 1 9999 10 10 ∷ []
      ≡ (100, true) ∷ (9, true) ∷ (9999, true) ∷ (9999, true) ∷ (9999, true) ∷ []
  -- judged when the quantity is taken, not before: 10 is not below 10, 9 is
  pub then_judged : step 10 91 10 1 ∷ step 20 9980 20 1 ∷ step 0 9999 9 10 ∷ step 0 10 0 10 ∷ [] ≡ (100, true) ∷ (9999, true) ∷ (9998, true) ∷ (0, true) ∷ []
  -- one lift a line, also where on hand stays below the margin
  pub lifted_once : step 9990 10 0 1 ∷ step 9990 10 0 10 ∷ step 5000 100 0 10 ∷ step 9990 10 9980 10 ∷ [] ≡ (9, true) ∷ (0, true) ∷ (90, true) ∷ (9980, true) ∷ []
  -- ── New-Order ──
  -- "New-Order answers .. how many of its lines did": "An item named twice is taken twice in turn." 20, 10, 100, 99
  pub named_thrice : answers_of (program program_topup) (order 1 1 (line 1 1 10 ∷ line 1 1 1 ∷ line 1 1 1 ∷ []) ∷ []) ≡ told 1 1380 1 ∷ []
  -- 10, 100, 99: of two lines one
  pub named_twice : answers_of (sized (set program_book 163 (pos 10)) program_last program_topup) (order 1 1 (line 1 1 1 ∷ line 1 1 1 ∷ []) ∷ []) ≡ told 1 230 1 ∷ []
  -- 20, 20, 29, 38, 47 under 9,990 and 10: every line; none of one that keeps
  pub all_lines : answers_of (program own) (order 1 1 (line 3 1 10 ∷ line 3 1 1 ∷ line 3 1 1 ∷ line 3 1 1 ∷ []) ∷ order 1 1 (line 5 1 10 ∷ line 1 1 10 ∷ []) ∷ [])
      ≡ told 1 14935 4 ∷ told 2 15341 0 ∷ []
  -- each by its own row: 29,079 and taxes; lifts of items 1, 2, 3 and 3
  pub mixed_lines : answers_of (program own) (order 1 1 mixed ∷ []) ≡ told 1 33441 4 ∷ []
  pub mixed_stocks : stocks (after_all (program own) (order 1 1 mixed ∷ []))
      ≡ (0 ∷ 30 ∷ 3 ∷ 0 ∷ []) ++ (9989 ∷ 11 ∷ 2 ∷ 0 ∷ []) ++ (29 ∷ 11 ∷ 2 ∷ 0 ∷ []) ++ (20 ∷ 0 ∷ 0 ∷ 0 ∷ []) ++ (10 ∷ 10 ∷ 1 ∷ 0 ∷ [])
  -- "unprinted": one lift, four
  pub unprinted : Prints (program program_topup) (prints "N 1 1 2 100 1 1 10 1 1 1 1 1 1" "N 0 1 1380" ∷ [])
      × Prints (program own) (prints "N 1 1 2 100 3 1 10 3 1 1 3 1 1 3 1 1" "N 0 1 14935" ∷ [])
  -- ── refused ──
  -- 17 for any row: that of the line's item, and of an item which no line names; before 12
  pub seventeen : Refuses (program bad) (prints "N 1 1 2 100 5 1 1" "N 17 0" ∷ prints "N 1 1 2 100 1 1 1 4 1 1" "N 17 0" ∷ prints "N 1 1 2 100 6 1 1" "N 17 0" ∷ [])
  pub first_row : Refuses (program (set program_topup 0 (negsuc 0))) (prints "N 1 1 2 100 5 1 1" "N 17 0" ∷ [])
  -- one number short, one too many, none; a row for each item of each depot
  pub other_lengths : Refuses (program (take 9 program_topup)) seventeenth
      × (Refuses (program (program_topup ++ (pos 10 ∷ []))) seventeenth × Refuses (program []) seventeenth)
  pub one_table : Refuses (lent opened everyone (none_ordered opened) (unwritten opened) (times 6 (pos 10 ∷ pos 91 ∷ []))) seventeenth
  -- every slot taken: 17 before 11; then 11
  pub before_eleven : Refuses (sized (set program_book 10 (pos 5)) program_last bad) seventeenth
      × Refuses (sized (set program_book 10 (pos 5)) program_last program_topup) (prints "N 1 1 2 100 4 1 1" "N 11 0" ∷ [])
  -- 13 before 17, of a number and of the length; 9 before 13; 8 before 9; 2 before all
  pub thirteen_first : Refuses (sized program_book (set program_last 0 (pos 1)) bad) (prints "N 1 1 2 100 1 1 1" "N 13 0" ∷ prints "N 1 2 2 100 1 1 1" "N 17 0" ∷ [])
      × Refuses (sized program_book [] []) (prints "N 1 1 2 100 1 1 1" "N 13 0" ∷ [])
  pub nine_first : Refuses (sized (set program_book 163 (pos 10000)) [] bad) (prints "N 1 1 2 100 1 1 1" "N 9 0" ∷ prints "N 1 1 2 100 1 1 11" "N 8 1" ∷ [])
      × Refuses (sized (set program_book 5 (pos 9)) [] bad) (prints "N 1 1 2 100 1 1 1" "N 2 0" ∷ [])
  -- "at opening after 3": 2, 3, 17, and none
  pub at_opening : opening_answer (small_of 1 2 10000 1) (alms 10) [] ∷ opening_answer (small_of 1 0 10000 1) (alms 10) [] ∷ opening_answer (small_of 1 0 0 2) (alms 10) (pos 0 ∷ pos 9 ∷ [])
      ∷ [] ≡ refused_by 2 0 ∷ refused_by 3 0 ∷ refused_by 3 0 ∷ []
  pub opened_with : map (λ t. opening_answer (small_of 1 0 0 1) (alms 10) (positives t))
      ([] ∷ (10 ∷ []) ∷ (10 ∷ 91 ∷ 10 ∷ []) ∷ (0 ∷ 9 ∷ []) ∷ (0 ∷ 10000 ∷ []) ∷ (9990 ∷ 11 ∷ []) ∷ (9990 ∷ 10 ∷ []) ∷ (1 ∷ 9999 ∷ []) ∷ [])
      ≡ replicate 6 (refused_by 17 0) ++ replicate 2 (committed [])
  -- the calls that do not take the table do not look at it: the listing's, under a bad table and under none
  pub others_blind : Prints (lending ordered bad) others × Prints (lending ordered []) others
  -- ── a list of calls ──
  -- "the lifts this rule gives over that stock's committed lines in turn"
  pub in_turn : lifts_over 10 91 20 (10 ∷ 1 ∷ 1 ∷ []) ∷ lifts_over 10 91 10 (1 ∷ 1 ∷ []) ∷ lifts_over 0 10 10 (10 ∷ 10 ∷ 10 ∷ []) ∷ lifts_over 9990 10 0 (1 ∷ 10 ∷ 10 ∷ [])
      ∷ lifts_over 9990 10 9999 (9 ∷ 10 ∷ 10 ∷ []) ∷ lifts_over 1 9999 11 (10 ∷ 10 ∷ 10 ∷ []) ∷ lifts_over 10 91 0 [] ∷ []
      ≡ 1 ∷ 1 ∷ 2 ∷ 3 ∷ 2 ∷ 1 ∷ 0 ∷ []
  -- two depots: of item 1 15 and 34 in depot 1, 34 in depot 2, of item 2 9,999; of item 3 10, 0, 0, of item 2 9,989; of item 1 24, 34
  pub said : answers_of depots calls
      ≡ told 1 1450 3 ∷ refused_by 12 2 ∷ committed (pos 1 ∷ negsuc 99 ∷ []) ∷ told 1 3002470 1 ∷ committed (pos 9 ∷ pos 1022 ∷ []) ∷ told 2 2000 1 ∷ []
  pub answered_as : done_all depots calls ≡ done
  -- each stock's committed lines in turn, those of the refused order left out
  pub taken : each (λ w i. taken_from w i done) ≡ (5 ∷ 1 ∷ []) ∷ [] ∷ (10 ∷ 10 ∷ 10 ∷ []) ∷ (6 ∷ 10 ∷ 10 ∷ []) ∷ (1 ∷ 10 ∷ []) ∷ [] ∷ []
  pub lifted : each (lifts_of (dims opened) opened depots.topup done) ≡ 1 ∷ 0 ∷ 1 ∷ 2 ∷ 1 ∷ 0 ∷ []
  -- "on hand is opening less lots to date plus the lift times the lifts": 20 − 6 + 20, 20, 20 − 30 + 10, 20 − 26 + 40, 20 − 11 + 9,980, 20
  pub on_hand_lem : each in_book ∷ each claimed ∷ [] ≡ replicate 2 (positives (34 ∷ 20 ∷ 0 ∷ 34 ∷ 9989 ∷ 20 ∷ []))
  -- "The lifts answered over a list add up to the lifts of all stock rows."
  pub add_up : lifts_answered depots calls ∷ all_lifts (dims opened) opened depots.topup done ∷ [] ≡ 5 ∷ 5 ∷ []
  -- .. under a table that 17 refuses no order is carried out and no lift answered
  pub none_lifted : (done_all (lending depots []) calls ≡ numbered calls (17 ∷ 17 ∷ 0 ∷ 17 ∷ 0 ∷ 17 ∷ [])) × (lifts_answered (lending depots []) calls ≡ 0)
  -- a table lent anew at each call
  pub lent_anew : (map (λ (x : Done). x.number) (done_lent (program []) lendings) ≡ 0 ∷ 17 ∷ 0 ∷ 17 ∷ 0 ∷ [])
      × (take 4 (stocks (after_lent (program []) lendings)) ≡ 0 ∷ 30 ∷ 3 ∷ 0 ∷ [])

pub top_up_cases : TopUpCases
unfolding all_to nat cell balance_ok numbers name_bytes inside place get remap op up_to sum_of lowest largest warehouse_tests district_tests customer_tests item_tests stock_tests slot order_tests line_tests order_ok dims dims_tests size_tests head_ok name_place last_name first_name name_ok padded compare_names named before namesakes found customer_of warehouse_used district_used customer_used item_used stock_used order_used customers_used names_used orders_used who_used line_used last_long last_ok found_ok new_asked price_of orderable new_used new_order_fault margin_of lift_of row_tests row_ok topup_ok lifts restock line_lifts new_order_commit order_total new_order_total new_order_answer new_order_book new_order_noted new_order_last pay_asked pay_used payment_fault payer payment_commit paid_balance payment_answer payment_book is_bad note_commit payment_notes notes_long note_place text_at note_of moved replaced delivery_asked deliverable delivery_used delivery_fault waits oldest line_amounts deliver_order deliver_district deliver_to delivery_commit oldest_ten delivery_answer delivery_book status_asked status_used status_fault status_customer status_order order_shown lines_part status_answer status_part window_first window_count level_asked window_used level_used stock_level_fault line_items window_items is_low low_items stock_level_answer answer_of nums_after last_after notes_after delivery_orders ones orders_of shown_part decimal tabbed line_text answer_line no_form_line printed_for left_after is_number value_of is_name is_who who_read parted_by lines_read read_new_order read_payment read_delivery read_order_status read_stock_level read_fields read_line new_warehouse new_district new_customer new_stock district_new warehouse_new book_new opening_fault opening_answer fault_of lifts_over lifts_of
top_up_cases = record {
  by_item = refl;
  inside_all = refl;
  lift_out = refl;
  margin_out = refl;
  both_out = refl;
  lengths = refl;
  any_row = refl;
  row_by_row = refl;
  at_the_margin = refl;
  below_it = refl;
  then_judged = refl;
  lifted_once = refl;
  named_thrice = refl;
  named_twice = refl;
  all_lines = refl;
  mixed_lines = refl;
  mixed_stocks = refl;
  unprinted = (refl, refl);
  seventeen = (refl, refl);
  first_row = (refl, refl);
  other_lengths = ((refl, refl), ((refl, refl), (refl, refl)));
  one_table = (refl, refl);
  before_eleven = ((refl, refl), (refl, refl));
  thirteen_first = ((refl, refl), (refl, refl));
  nine_first = ((refl, refl), (refl, refl));
  at_opening = refl;
  opened_with = refl;
  others_blind = (refl, refl);
  in_turn = refl;
  said = refl;
  answered_as = refl;
  taken = refl;
  lifted = refl;
  on_hand_lem = refl;
  add_up = refl;
  none_lifted = (refl, refl);
  lent_anew = (refl, refl);
}
