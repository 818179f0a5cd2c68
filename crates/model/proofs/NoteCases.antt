-- R-4: cases computed by the definitions that the calls use, each worked out by hand: what is noted, where, what is kept and what is refused, and in
-- which order.
-- Assumes nothing.
use mathlib.Core.Path.{◌≡◌, refl}
use mathlib.Core.List.{List, [], ◌∷◌, ◌++◌}
use Prim.Native.Nat.{ℕ}
use Prim.Native.Char.{code}
use Prim.Native.String.{String, [] as none, ◌∷◌ as ◌then◌}
use lib.Count.{ones}
use lib.IntN.{ℤ, pos}
use lib.ListN.{set, replicate}
use Rattle.model.specs.Tests.{all_to}
use Rattle.model.specs.Numbers.{nat, cell, balance_ok}
use Rattle.model.specs.Layout.{numbers, name_bytes, inside, place}
use Rattle.model.specs.Store.{get, remap, op}
use Rattle.model.specs.Lists.{up_to, sum_of, lowest, largest}
use Rattle.model.specs.Rows.{warehouse_tests, district_tests, customer_tests, item_tests, stock_tests, slot, order_tests, line_tests, order_ok}
use Rattle.model.specs.Head.{dims, dims_tests, size_tests, head_ok}
use Rattle.model.specs.Names.{name_place, last_name, first_name, name_ok, padded, compare_names, named, before, namesakes, found, customer_of}
use Rattle.model.specs.Used.{warehouse_used, district_used, customer_used, item_used, stock_used, order_used, customers_used, names_used, orders_used, who_used, line_used}
use Rattle.model.specs.LastOrder.{last_long, last_ok, found_ok}
use Rattle.model.specs.TopUp.{margin_of, lift_of, row_tests, row_ok, topup_ok, lifts, restock}
use Rattle.model.specs.NewOrder.{new_asked, price_of, orderable, new_used, new_order_fault, line_lifts, new_order_commit, order_total, new_order_total, new_order_answer, new_order_book, new_order_noted, new_order_last}
use Rattle.model.specs.Note.{note_place, text_at, notes_long, note_of, moved, replaced}
use Rattle.model.specs.Payment.{pay_asked, pay_used, payment_fault, payer, payment_commit, paid_balance, payment_answer, payment_book, is_bad, note_commit, payment_notes}
use Rattle.model.specs.Delivery.{delivery_asked, deliverable, delivery_used, delivery_fault, waits, oldest, line_amounts, deliver_order, deliver_district, deliver_to, delivery_commit, oldest_ten, delivery_answer, delivery_orders, delivery_book}
use Rattle.model.specs.OrderStatus.{status_asked, status_used, status_fault, status_customer, status_order, order_shown, lines_part, status_answer, status_part}
use Rattle.model.specs.StockLevel.{window_first, window_count, level_asked, window_used, level_used, stock_level_fault, line_items, window_items, is_low, low_items, stock_level_answer}
use Rattle.model.specs.Request.{Lent, lent, answer_of, orders_of, shown_part, nums_after, last_after, notes_after}
use Rattle.model.specs.Text.{is_number, value_of, decimal, tabbed, line_text, parted_by}
use Rattle.model.specs.RequestLine.{is_name, is_who, who_read, lines_read, read_new_order, read_payment, read_delivery, read_order_status, read_stock_level, read_fields, read_line}
use Rattle.model.specs.AnswerLine.{answer_line, no_form_line, printed_for, left_after}
use Rattle.model.proofs.Listing.{program_book, program_names, program_last, program_notes, program_topup}
use Rattle.model.proofs.Readings.{Case, prints, left, Prints, Refuses, opened, everyone, people, small_of, none_ordered, unwritten, as_ever}

-- bytes as they are written
abbrev written : String → List ℕ
written none = []
written (c then s) = code c ∷ written s

-- the lines print so and leave these texts
abbrev Noting : Lent → List Case → List ℕ → Type 0
Noting s cs notes = Prints s cs × ((left s cs).notes ≡ notes)

-- a book of the program's size with a text of its own
abbrev sized : List ℤ → List ℕ → Lent
sized b notes = lent b program_names program_last notes program_topup

-- the program's book with credit 1 for customer 2 of district 1, whose row starts at index 6 + 2 + 30 + 6; with all 8 slots of history taken; with the
-- depot's money out of range
abbrev bad : List ℤ
bad = set program_book 44 (pos 1)

abbrev bad_full : List ℤ
bad_full = set bad 5 (pos 8)

abbrev bad_spoiled : List ℤ
bad_spoiled = set bad 7 (pos 1000000000000)

-- other bytes than spaces: customer 1 of district 1, customer 2, whose last ten are others, and the rest
abbrev dense : List ℕ
dense = replicate 500 65 ++ (replicate 490 66 ++ replicate 10 67) ++ replicate 9000 0

-- the book of two depots with credit 1 for the customer whose row starts at index p
abbrev two_depots : ℕ → Lent
two_depots p = lent (set opened p (pos 1)) everyone (none_ordered opened) (unwritten opened) (as_ever opened)

-- W 1, C 5, with credit 1 for the last customer, whose row starts at index 6 + 2 + 30 + 6 · 49
abbrev five : Lent
five = lent (set (small_of 5 0 0 1) 332 (pos 1)) people (none_ordered (small_of 5 0 0 1)) (unwritten (small_of 5 0 0 1)) (as_ever (small_of 5 0 0 1))

-- a payment of customer 2, and one that any text of a wrong length refuses
abbrev paid : List Case
paid = prints "P 1 1 1 1 #2 201 500" "P 0 2 -500" ∷ []

abbrev fourteen : List Case
fourteen = prints "P 1 1 1 1 #2 201 500" "P 14 0" ∷ []

-- payments of customer 2 from two districts; a refused one, one of customer 1 and the other calls between them
abbrev history : List Case
history =
    prints "N 1 1 2 100 1 1 10" "N 0 1 1150"
    ∷ prints "P 1 1 1 1 #2 201 500" "P 0 2 -500"
    ∷ prints "P 1 1 1 1 #2 201 99" "P 8 0"
    ∷ prints "D 1 3 200" "D 0 9 1 0 0 0 0 0 0 0 0 0"
    ∷ prints "P 1 1 1 1 #1 202 700" "P 0 1 -700"
    ∷ prints "S 1 1 #2" "S 0 2 500 1 100 3 1 1 10 1000 200"
    ∷ prints "P 1 10 1 1 =ALM 203 123456" "P 0 2 -122956"
    ∷ prints "L 1 1 10" "L 0 0"
    ∷ []

pub record NoteCases : Type 0 where
  -- "A Payment to a customer with credit 1 puts six numbers at its left ..; decimal, one space between, a semicolon after the last."
  pub by_number : Noting (sized bad program_notes) paid (replicate 500 32 ++ written "2 1 1 1 1 500;" ++ replicate 9486 32)
  -- "The old text moves right and what passes byte 500 is lost." "Other customers' texts are untouched." No byte is judged; a name is noted by number
  pub by_name : Noting (sized bad dense) (prints "P 1 1 1 1 =ALM 201 500" "P 0 2 -500" ∷ [])
      (replicate 500 65 ++ (written "2 1 1 1 1 500;" ++ replicate 486 66) ++ replicate 9000 0)
  -- the longest note has 24 bytes; the old text is cut, never the note
  pub longest : moved (note_of (record { warehouse = 19; district = 10; custwarehouse = 20; custdistrict = 10; date = 1; amount = 500000 }) 3000) (replicate 476 65 ++ replicate 24 66)
      ≡ written "3000 10 20 10 19 500000;" ++ replicate 476 65
  -- "the first 500 bytes of their notes, newest first, followed by spaces"; "written by Payment alone"
  pub newest_first_lem : Noting (sized bad program_notes) history (replicate 500 32 ++ written "2 1 1 10 1 123456;2 1 1 1 1 500;" ++ replicate 9468 32)
  -- "customer, its district, its depot, paying district, paying depot, amount": customer 2 of depot 2's district 3 is the 26th, by name customer 1 the 25th
  pub six_numbers : Noting (two_depots 220) (prints "P 1 7 2 3 #2 5 123" "P 0 2 -123" ∷ []) (replicate 12500 32 ++ written "2 3 2 7 1 123;" ++ replicate 7486 32)
  pub six_by_name : Noting (two_depots 214) (prints "P 1 7 2 3 =ALM 5 123" "P 0 1 -123" ∷ []) (replicate 12000 32 ++ written "1 3 2 7 1 123;" ++ replicate 7986 32)
  -- the last customer's text is the last, where C is not W
  pub last_text : Noting five (prints "P 1 1 1 10 #5 1 100" "P 0 5 -100" ∷ []) (replicate 24500 32 ++ written "5 10 1 1 1 100;" ++ replicate 485 32)
  -- "to a customer with credit 1": not with credit 0, nor where customer 2 of the paying district has credit 1
  pub good_credit : Noting (sized bad dense) (prints "P 1 1 1 1 #1 201 500" "P 0 1 -500" ∷ prints "P 1 1 1 2 #2 201 500" "P 0 2 -500" ∷ []) dense
  pub payers_credit : Noting (two_depots 148) (prints "P 1 7 2 3 #2 5 123" "P 0 2 -123" ∷ []) (unwritten opened)
  -- 14: "when the text's length is not 5,000 × W × C" .. "in every Payment", with credit 0 too; one byte short, one too many, none
  pub too_short : Refuses (sized bad (replicate 9999 32)) (
      prints "P 1 1 1 1 #2 201 500" "P 14 0"
      ∷ prints "P 1 1 1 1 #1 201 500" "P 14 0"
      ∷ prints "P 1 1 1 1 =ALM 201 500" "P 14 0"
      ∷ [])
  pub too_long : Refuses (sized bad (replicate 10001 32)) fourteen
  pub empty : Refuses (sized bad []) fourteen
  -- .. 5,000 × W × W, 5,000 × C × C, 500 × W × C
  pub other_factors : Refuses (sized bad (replicate 5000 32)) fourteen × (Refuses (sized bad (replicate 20000 32)) fourteen × Refuses (sized bad (replicate 1000 32)) fourteen)
  -- "straight after 2": 2 first; before 4, 5, 6, 7, 8 and 10, before 9, before 11
  pub two_first : Refuses (sized (set bad 5 (pos 9)) []) (prints "P 1 1 1 1 #2 201 500" "P 2 0" ∷ [])
  pub before_others : Refuses (sized bad []) (
      prints "P 2 1 1 1 #2 201 500" "P 14 0"
      ∷ prints "P 1 1 1 11 #2 201 500" "P 14 0"
      ∷ prints "P 1 1 1 1 #3 201 500" "P 14 0"
      ∷ prints "P 1 1 1 1 #2 0 500" "P 14 0"
      ∷ prints "P 1 1 1 1 #2 201 99" "P 14 0"
      ∷ prints "P 1 1 1 1 =NO 201 500" "P 14 0"
      ∷ [])
  pub before_nine : Refuses (sized bad_spoiled []) fourteen
  pub before_eleven : Refuses (sized bad_full []) fourteen
  -- a refused payment notes nothing
  pub refused_unnoted : Refuses (sized bad program_notes) (
      prints "P 2 1 1 1 #2 201 500" "P 4 0"
      ∷ prints "P 1 1 1 11 #2 201 500" "P 5 0"
      ∷ prints "P 1 1 1 1 #3 201 500" "P 6 0"
      ∷ prints "P 1 1 1 1 #2 0 500" "P 7 0"
      ∷ prints "P 1 1 1 1 #2 201 99" "P 8 0"
      ∷ prints "P 1 1 1 1 =NO 201 500" "P 10 0"
      ∷ [])
  pub nine_unnoted : Refuses (sized bad_spoiled program_notes) (prints "P 1 1 1 1 #2 201 500" "P 9 0" ∷ [])
  pub credit_nine : Refuses (sized (set program_book 44 (pos 2)) program_notes) (prints "P 1 1 1 1 #2 201 500" "P 9 0" ∷ [])
  pub eleven_unnoted : Refuses (sized bad_full program_notes) (prints "P 1 1 1 1 #2 201 500" "P 11 0" ∷ [])
  -- .. of two payments where one slot is left
  pub last_slot : Noting (sized (set bad 5 (pos 7)) program_notes) (prints "P 1 1 1 1 #2 201 500" "P 0 2 -500" ∷ prints "P 1 1 1 1 #2 202 600" "P 11 0" ∷ [])
      (replicate 500 32 ++ written "2 1 1 1 1 500;" ++ replicate 9486 32)
  -- the calls that do not take the text do not look at it
  pub others_blind : Noting (sized bad []) (
      prints "N 1 1 2 100 1 1 10" "N 0 1 1150"
      ∷ prints "D 1 3 200" "D 0 9 1 0 0 0 0 0 0 0 0 0"
      ∷ prints "S 1 1 #2" "S 0 2 1000 1 100 3 1 1 10 1000 200"
      ∷ prints "L 1 1 10" "L 0 0"
      ∷ []) []

pub note_cases : NoteCases
unfolding all_to nat cell balance_ok numbers name_bytes inside place get remap op up_to sum_of lowest largest warehouse_tests district_tests customer_tests item_tests stock_tests slot order_tests line_tests order_ok dims dims_tests size_tests head_ok name_place last_name first_name name_ok padded compare_names named before namesakes found customer_of warehouse_used district_used customer_used item_used stock_used order_used customers_used names_used orders_used who_used line_used last_long last_ok found_ok new_asked price_of orderable new_used new_order_fault margin_of lift_of row_tests row_ok topup_ok lifts restock line_lifts new_order_commit order_total new_order_total new_order_answer new_order_book new_order_noted new_order_last pay_asked pay_used payment_fault payer payment_commit paid_balance payment_answer payment_book is_bad note_commit payment_notes notes_long note_place text_at note_of moved replaced delivery_asked deliverable delivery_used delivery_fault waits oldest line_amounts deliver_order deliver_district deliver_to delivery_commit oldest_ten delivery_answer delivery_book status_asked status_used status_fault status_customer status_order order_shown lines_part status_answer status_part window_first window_count level_asked window_used level_used stock_level_fault line_items window_items is_low low_items stock_level_answer answer_of nums_after last_after notes_after delivery_orders ones orders_of shown_part decimal tabbed line_text answer_line no_form_line printed_for left_after is_number value_of is_name is_who who_read parted_by lines_read read_new_order read_payment read_delivery read_order_status read_stock_level read_fields read_line
note_cases = record {
  by_number = (refl, refl);
  by_name = (refl, refl);
  longest = refl;
  newest_first_lem = (refl, refl);
  six_numbers = (refl, refl);
  six_by_name = (refl, refl);
  last_text = (refl, refl);
  good_credit = (refl, refl);
  payers_credit = (refl, refl);
  too_short = (refl, refl);
  too_long = (refl, refl);
  empty = (refl, refl);
  other_factors = ((refl, refl), ((refl, refl), (refl, refl)));
  two_first = (refl, refl);
  before_others = (refl, refl);
  before_nine = (refl, refl);
  before_eleven = (refl, refl);
  refused_unnoted = (refl, refl);
  nine_unnoted = (refl, refl);
  credit_nine = (refl, refl);
  eleven_unnoted = (refl, refl);
  last_slot = (refl, refl);
  others_blind = (refl, refl);
}
