-- R-1: cases computed by the definitions that the calls use, each worked out by hand: what is read, written and refused, and in which order.
-- Assumes nothing.
use mathlib.Core.Path.{◌≡◌, refl}
use mathlib.Core.Bool.{Bool, true, ◌&&◌}
use mathlib.Core.List.{List, [], ◌∷◌, ◌++◌}
use lib.Count.{ones}
use lib.Dec.{eqb}
use lib.IntN.{ℤ, pos, negsuc}
use lib.ListN.{length, set, replicate}
use Rattle.model.specs.Tests.{all_to}
use Rattle.model.specs.Numbers.{nat, cell, balance_ok}
use Rattle.model.specs.Layout.{numbers, name_bytes, inside, place}
use Rattle.model.specs.Store.{get, remap, op}
use Rattle.model.specs.Lists.{up_to, sum_of, lowest, largest}
use Rattle.model.specs.Rows.{warehouse_tests, district_tests, customer_tests, item_tests, stock_tests, slot, order_tests, line_tests, order_ok}
use Rattle.model.specs.Head.{dims, dims_tests, size_tests, head_ok}
use Rattle.model.specs.Names.{by_name, name_place, last_name, first_name, name_ok, padded, compare_names, named, before, namesakes, found, customer_of}
use Rattle.model.specs.Used.{warehouse_used, district_used, customer_used, item_used, stock_used, order_used, customers_used, names_used, orders_used, who_used, line_used}
use Rattle.model.specs.LastOrder.{last_at, last_long, last_ok, found_ok}
use Rattle.model.specs.TopUp.{margin_of, lift_of, row_tests, row_ok, topup_ok, lifts, restock}
use Rattle.model.specs.NewOrder.{new_asked, price_of, orderable, new_used, new_order_fault, line_lifts, new_order_commit, order_total, new_order_total, new_order_answer, new_order_book, new_order_noted, new_order_last}
use Rattle.model.specs.Note.{note_place, text_at, notes_long, note_of, moved, replaced}
use Rattle.model.specs.Payment.{pay_asked, pay_used, payment_fault, payer, payment_commit, paid_balance, payment_answer, payment_book, is_bad, note_commit, payment_notes}
use Rattle.model.specs.Delivery.{delivery_asked, deliverable, delivery_used, delivery_fault, waits, oldest, line_amounts, deliver_order, deliver_district, deliver_to, delivery_commit, oldest_ten, delivery_answer, delivery_orders, delivery_book}
use Rattle.model.specs.OrderStatus.{status_asked, status_used, status_fault, status_customer, status_order, order_shown, lines_part, status_answer, status_part}
use Rattle.model.specs.StockLevel.{window_first, window_count, level_asked, window_used, level_used, stock_level_fault, line_items, window_items, is_low, low_items, stock_level_answer}
use Rattle.model.specs.Request.{Lent, lent, answer_of, orders_of, shown_part, nums_after, last_after, notes_after}
use Rattle.model.specs.Text.{is_number, value_of, decimal, tabbed, line_text, parted_by}
use Rattle.model.specs.RequestLine.{is_name, is_who, who_read, lines_read, read_new_order, read_payment, read_delivery, read_order_status, read_stock_level, read_fields, read_line}
use Rattle.model.specs.AnswerLine.{answer_line, no_form_line, printed_for, left_after}
use Rattle.model.specs.Claim.{last_order}
use Rattle.model.proofs.Listing.{program_book, program_names, program_last, program_notes, program_topup}
use Rattle.model.proofs.Readings.{Case, prints, left, Prints, Refuses, refused_by, opened, everyone, none_ordered, unwritten, as_ever}

-- a book of the program's size with a slice of its own; the program's book
abbrev sized : List ℤ → List ℤ → Lent
sized b last = lent b program_names last program_notes program_topup

abbrev program : List ℤ → Lent
program last = sized program_book last

-- .. with customer 2's number in district 1, at index 1, and customer 1's, at index 0
abbrev second : ℤ → List ℤ
second z = set program_last 1 z

abbrev first : ℤ → List ℤ
first z = set program_last 0 z

abbrev short : List ℤ
short = replicate 19 (pos 0)

-- the program's book with an order of customer 1 in district 1: next order number, at index 10, is 2; the slot starts at index 183
abbrev ordered : List ℤ
ordered =
    set (set (set (set (set (set (set (set (set (set program_book 10 (pos 2)) 183 (pos 1)) 184 (pos 100)) 186 (pos 1)) 187 (pos 1)) 188 (pos 1)) 189 (pos 1)) 190 (pos 1)) 191
    (pos 10)) 192 (pos 1000)

-- "each number is the one the scan would find", for all ten districts and both customers
abbrev scanned : Lent → Bool
scanned s =
    all_to 10 (λ k. all_to 2 (λ c. eqb (nat (last_at (dims s.nums) s.last 1 k c)) (last_order (dims s.nums) s.nums 1 k c)))
    && eqb (length s.last) 20

-- .. after every beginning of a list
abbrev scanned_all : Lent → List Case → Bool
scanned_all s [] = scanned s
scanned_all s (c ∷ cs) = scanned s && scanned_all (left s (c ∷ [])) cs

-- orders of two customers and two districts, one of them refused; the largest number counts, not the date
abbrev history : List Case
history =
    prints "N 1 1 1 100 1 1 10 2 1 3" "N 0 1 1811"
    ∷ prints "N 1 1 2 101 1 1 1" "N 0 2 115"
    ∷ prints "N 1 1 1 101 1 1 1 4 1 1" "N 12 2"
    ∷ prints "S 1 1 #1" "S 0 1 0 1 100 0 1 1 10 1000 0 2 1 3 750 0"
    ∷ prints "S 1 1 #2" "S 0 2 0 2 101 0 1 1 1 100 0"
    ∷ prints "N 1 1 1 50 3 1 2" "N 0 3 2068"
    ∷ prints "S 1 1 #1" "S 0 1 0 3 50 0 3 1 2 1998 0"
    ∷ prints "D 1 3 200" "D 0 9 1 0 0 0 0 0 0 0 0 0"
    ∷ prints "S 1 1 =ALM" "S 0 2 0 2 101 0 1 1 1 100 0"
    ∷ prints "S 1 1 #1" "S 0 1 1750 3 50 0 3 1 2 1998 0"
    ∷ prints "N 1 2 1 60 5 1 1" "N 0 1 1277"
    ∷ prints "S 1 2 #1" "S 0 1 0 1 60 0 5 1 1 1234 0"
    ∷ prints "S 1 2 #2" "S 0 2 0 0 0 0"
    ∷ prints "S 1 3 #1" "S 0 1 0 0 0 0"
    ∷ []

-- two depots: the number of depot 2's district 3's customer 2 is at index 25; a 7 stands in depot 2's district 1, at index 20
abbrev two_depots : Lent
two_depots = lent opened everyone (set (none_ordered opened) 20 (pos 7)) (unwritten opened) (as_ever opened)

abbrev of_two_depots : List Case
of_two_depots =
    prints "N 2 3 2 100 1 1 1" "N 0 1 100"
    ∷ prints "N 1 1 1 100 1 1 1" "N 0 1 100"
    ∷ prints "S 2 1 #1" "S 13 0"
    ∷ prints "N 2 1 1 100 1 1 1" "N 13 0"
    ∷ prints "S 2 3 #2" "S 0 2 0 1 100 0 1 1 1 100 0"
    ∷ []

pub record LastCases : Type 0 where
  -- "New-Order maintains it and alone writes it, one and the same through a list of calls; Order-Status reads it"
  pub printed : Prints (program program_last) history
  pub scan : scanned_all (program program_last) history ≡ true
  pub noted : (left (program program_last) history).last ≡ pos 3 ∷ pos 2 ∷ pos 1 ∷ replicate 17 (pos 0)
  -- 13: "when the slice's length is not 10 × W × C"; the calls that do not take the slice do not look at it
  pub too_short : Prints (program short) (
      prints "S 1 1 #1" "S 13 0"
      ∷ prints "N 1 1 1 100 1 1 1" "N 13 0"
      ∷ prints "P 1 1 1 1 #1 100 500" "P 0 1 -500"
      ∷ prints "D 1 1 100" "D 0 10 0 0 0 0 0 0 0 0 0 0"
      ∷ prints "L 1 1 10" "L 0 0"
      ∷ [])
  pub too_long : Refuses (program (replicate 21 (pos 0))) (prints "S 1 1 #1" "S 13 0" ∷ prints "N 1 1 1 100 1 1 1" "N 13 0" ∷ [])
  pub empty : Refuses (program []) (prints "S 1 1 #1" "S 13 0" ∷ prints "N 1 1 1 100 1 1 1" "N 13 0" ∷ [])
  -- "a number of the call's district is outside 0 to next order number − 1": another customer's, of this district and no other; −1; next itself
  pub of_the_district : Prints (program (second (pos 1))) (
      prints "S 1 1 #1" "S 13 0"
      ∷ prints "N 1 1 1 100 1 1 1" "N 13 0"
      ∷ prints "S 1 2 #1" "S 0 1 0 0 0 0"
      ∷ prints "N 1 2 1 100 1 1 1" "N 0 1 104"
      ∷ [])
  pub other_district : Prints (program (set program_last 3 (pos 7))) (
      prints "S 1 1 #1" "S 0 1 0 0 0 0"
      ∷ prints "N 1 1 1 100 1 1 1" "N 0 1 104"
      ∷ prints "S 1 1 #1" "S 0 1 0 1 100 0 1 1 1 100 0"
      ∷ prints "S 1 2 #1" "S 13 0"
      ∷ [])
  pub negative : Refuses (program (first (negsuc 0))) (prints "S 1 1 #2" "S 13 0" ∷ prints "N 1 1 2 100 1 1 1" "N 13 0" ∷ [])
  pub at_next : Refuses (sized ordered (first (pos 2))) (prints "S 1 1 #1" "S 13 0" ∷ prints "N 1 1 1 5 2 1 1" "N 13 0" ∷ [])
  -- "taking as it stands what 13 passes": customer 2's number names customer 1's order; New-Order writes the new number
  pub as_it_stands : Prints (sized ordered (second (pos 1))) (
      prints "S 1 1 #1" "S 0 1 0 0 0 0"
      ∷ prints "S 1 1 #2" "S 0 2 0 1 100 0 1 1 10 1000 0"
      ∷ prints "N 1 1 2 5 2 1 1" "N 0 2 288"
      ∷ prints "S 1 1 #2" "S 0 2 0 2 5 0 2 1 1 250 0"
      ∷ prints "S 1 1 #1" "S 0 1 0 0 0 0"
      ∷ [])
  -- "or the order that Order-Status finds holds a value out of range": carrier 11; "orders leave the latter's used rows": one that is not found refuses nothing
  pub order_out_of_range : Prints (sized (set ordered 185 (pos 11)) (first (pos 1))) (
      prints "S 1 1 #1" "S 13 0"
      ∷ prints "S 1 1 #2" "S 0 2 0 0 0 0"
      ∷ prints "N 1 1 1 5 2 1 1" "N 0 2 259"
      ∷ prints "S 1 1 #1" "S 0 1 0 2 5 0 2 1 1 250 0"
      ∷ [])
  -- .. and of a line: amount 0
  pub line_out_of_range : Prints (sized (set ordered 192 (pos 0)) (first (pos 1))) (prints "S 1 1 #1" "S 13 0" ∷ prints "S 1 1 =ALM" "S 0 2 0 0 0 0" ∷ [])
  -- "checked after 10": 9 first, of the customer, of the district's next order number, and of a line's stock
  pub nine_first : Refuses (sized (set program_book 40 (pos 1000000000000)) short) (
      prints "S 1 1 #1" "S 9 0"
      ∷ prints "N 1 1 1 100 1 1 1" "N 9 0"
      ∷ prints "S 1 1 =ALM" "S 9 0"
      ∷ [])
  pub next_out_of_range : Refuses (sized (set program_book 10 (pos 6)) (first (pos 9))) (prints "S 1 1 #1" "S 9 0" ∷ prints "N 1 1 1 100 1 1 1" "N 9 0" ∷ [])
  pub line_nine_first : Refuses (sized (set program_book 163 (pos 10000)) short) (prints "N 1 1 1 100 1 1 1" "N 9 0" ∷ prints "N 1 1 1 100 2 1 1" "N 13 0" ∷ [])
  -- 10 first, of a wrong length and of a wrong number
  pub ten_first : Refuses (program short) (prints "S 1 1 =NO" "S 10 0" ∷ prints "S 1 1 =ALM" "S 13 0" ∷ [])
  pub no_name : status_answer program_book program_names short (record { warehouse = 1; district = 1 }) (by_name []) ≡ refused_by 10 0
  pub ten_before_number : Refuses (program (second (pos 1))) (prints "S 1 1 =NO" "S 10 0" ∷ prints "S 1 1 =ALM" "S 13 0" ∷ [])
  -- before 11 and 12, after 8
  pub before_eleven : Refuses (sized (set program_book 10 (pos 5)) (first (pos 5))) (prints "N 1 1 1 100 1 1 1" "N 13 0" ∷ prints "N 1 1 1 100 4 1 1" "N 13 0" ∷ [])
  pub eleven_after : Refuses (sized (set program_book 10 (pos 5)) (first (pos 4))) (prints "N 1 1 1 100 4 1 1" "N 11 0" ∷ prints "N 1 1 1 100 1 1 1" "N 11 0" ∷ [])
  pub before_twelve : Refuses (program short) (
      prints "N 1 1 1 100 4 1 1" "N 13 0"
      ∷ prints "N 1 1 1 100 9 1 1" "N 13 0"
      ∷ prints "N 1 1 1 100 1 1 11" "N 8 1"
      ∷ [])
  -- "per customer", rows by depot, district, number; the district of the call's depot alone
  pub two_depots_lem : Prints two_depots of_two_depots
  pub two_depots_noted : (left two_depots of_two_depots).last ≡ (pos 1 ∷ replicate 19 (pos 0)) ++ (pos 7 ∷ replicate 4 (pos 0)) ++ (pos 1 ∷ replicate 14 (pos 0))

pub last_cases : LastCases
unfolding all_to nat cell balance_ok numbers name_bytes inside place get remap op up_to sum_of lowest largest warehouse_tests district_tests customer_tests item_tests stock_tests slot order_tests line_tests order_ok dims dims_tests size_tests head_ok name_place last_name first_name name_ok padded compare_names named before namesakes found customer_of warehouse_used district_used customer_used item_used stock_used order_used customers_used names_used orders_used who_used line_used last_long last_ok found_ok last_order new_asked price_of orderable new_used new_order_fault margin_of lift_of row_tests row_ok topup_ok lifts restock line_lifts new_order_commit order_total new_order_total new_order_answer new_order_book new_order_noted new_order_last pay_asked pay_used payment_fault payer payment_commit paid_balance payment_answer payment_book is_bad note_commit payment_notes notes_long note_place text_at note_of moved replaced delivery_asked deliverable delivery_used delivery_fault waits oldest line_amounts deliver_order deliver_district deliver_to delivery_commit oldest_ten delivery_answer delivery_book status_asked status_used status_fault status_customer status_order order_shown lines_part status_answer status_part window_first window_count level_asked window_used level_used stock_level_fault line_items window_items is_low low_items stock_level_answer answer_of nums_after last_after notes_after delivery_orders ones orders_of shown_part decimal tabbed line_text answer_line no_form_line printed_for left_after is_number value_of is_name is_who who_read parted_by lines_read read_new_order read_payment read_delivery read_order_status read_stock_level read_fields read_line
last_cases = record {
  printed = refl;
  scan = refl;
  noted = refl;
  too_short = refl;
  too_long = (refl, refl);
  empty = (refl, refl);
  of_the_district = refl;
  other_district = refl;
  negative = (refl, refl);
  at_next = (refl, refl);
  as_it_stands = refl;
  order_out_of_range = refl;
  line_out_of_range = refl;
  nine_first = (refl, refl);
  next_out_of_range = (refl, refl);
  line_nine_first = (refl, refl);
  ten_first = (refl, refl);
  no_name = refl;
  ten_before_number = (refl, refl);
  before_eleven = (refl, refl);
  eleven_after = (refl, refl);
  before_twelve = (refl, refl);
  two_depots_lem = refl;
  two_depots_noted = refl;
}
