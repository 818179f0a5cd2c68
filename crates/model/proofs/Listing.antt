-- The program's book of document 01: opening accepts it, and its seven lines print what the paper lists. So demand 3 speaks of something.
-- Assumes nothing.
use mathlib.Core.Path.{◌≡◌, refl}
use mathlib.Core.Bool.{cond}
use mathlib.Core.List.{List, [], ◌∷◌, ◌++◌}
use Prim.Native.Nat.{ℕ, zero, suc}
use Prim.Native.Char.{code}
use Prim.Native.String.{String, [] as none, ◌∷◌ as ◌then◌}
use lib.Count.{ones}
use lib.Dec.{eqb}
use lib.IntN.{ℤ, pos}
use lib.ListN.{length, replicate}
use Rattle.model.specs.Tests.{all_to}
use Rattle.model.specs.Numbers.{nat, cell, balance_ok}
use Rattle.model.specs.Layout.{numbers, name_bytes, inside, place}
use Rattle.model.specs.Store.{get, remap, op}
use Rattle.model.specs.Lists.{up_to, sum_of, lowest, largest}
use Rattle.model.specs.Rows.{warehouse_tests, district_tests, customer_tests, item_tests, stock_tests, slot, order_tests, line_tests, order_ok}
use Rattle.model.specs.Head.{dims, dims_tests, size_tests, head_ok}
use Rattle.model.specs.Names.{name_place, last_name, first_name, name_ok, padded, compare_names, named, before, namesakes, found, customer_of}
use Rattle.model.specs.Used.{warehouse_used, district_used, customer_used, item_used, stock_used, order_used, customers_used, names_used, orders_used, who_used, line_used}
use Rattle.model.specs.LastOrder.{last_long, last_ok, found_ok}
use Rattle.model.specs.TopUp.{margin_of, lift_of, row_tests, row_ok, topup_ok, lifts, restock}
use Rattle.model.specs.Opening.{new_warehouse, new_district, new_customer, new_stock, district_new, warehouse_new, book_new, opening_fault}
use Rattle.model.specs.NewOrder.{new_asked, price_of, orderable, new_used, new_order_fault, line_lifts, new_order_commit, order_total, new_order_total, new_order_answer, new_order_book, new_order_noted, new_order_last}
use Rattle.model.specs.Note.{note_place, text_at, notes_long, note_of, moved, replaced}
use Rattle.model.specs.Payment.{pay_asked, pay_used, payment_fault, payer, payment_commit, paid_balance, payment_answer, payment_book, is_bad, note_commit, payment_notes}
use Rattle.model.specs.Delivery.{delivery_asked, deliverable, delivery_used, delivery_fault, waits, oldest, line_amounts, deliver_order, deliver_district, deliver_to, delivery_commit, oldest_ten, delivery_answer, delivery_orders, delivery_book}
use Rattle.model.specs.OrderStatus.{status_asked, status_used, status_fault, status_customer, status_order, order_shown, lines_part, status_answer, status_part}
use Rattle.model.specs.StockLevel.{window_first, window_count, level_asked, window_used, level_used, stock_level_fault, line_items, window_items, is_low, low_items, stock_level_answer}
use Rattle.model.specs.Request.{Lent, lent, answer_of, orders_of, shown_part, nums_after, last_after, notes_after}
use Rattle.model.specs.Text.{is_number, value_of, decimal, tabbed, line_text, parted_by}
use Rattle.model.specs.RequestLine.{is_name, is_who, who_read, lines_read, read_new_order, read_payment, read_delivery, read_order_status, read_stock_level, read_fields, read_line}
use Rattle.model.specs.AnswerLine.{answer_line, no_form_line, printed_for, left_after}

abbrev pub times : {A : Type 0} → ℕ → List A → List A
times zero xs = []
times (suc n) xs = xs ++ times n xs

-- "W 1, C 2, I 5, O 4, H 8 (3,479 numbers, 640 bytes); depot tax 1,000, district taxes 500; .. discount 1,000 and .. discount 0, credit good,
-- in every district; prices 100, 250, 999, 0, 1,234; on hand 20."
abbrev pub program_book : List ℤ
program_book =
    (pos 1 ∷ pos 2 ∷ pos 5 ∷ pos 4 ∷ pos 8 ∷ pos 0 ∷ [])
    ++ (pos 1000 ∷ pos 0 ∷ [])
    ++ times 10 (pos 500 ∷ pos 0 ∷ pos 1 ∷ [])
    ++ times 10 (pos 0 ∷ pos 1000 ∷ pos 0 ∷ pos 0 ∷ pos 0 ∷ pos 0 ∷ replicate 6 (pos 0))
    ++ (pos 100 ∷ pos 250 ∷ pos 999 ∷ pos 0 ∷ pos 1234 ∷ [])
    ++ times 5 (pos 20 ∷ pos 0 ∷ pos 0 ∷ pos 0 ∷ [])
    ++ replicate 3240 (pos 0)
    ++ replicate 56 (pos 0)

-- "customers 1 ALM, EVA .. and 2 ALM, BO"
abbrev pub program_names : List ℕ
program_names =
    times 10 ((65 ∷ 76 ∷ 77 ∷ replicate 13 32) ++ (69 ∷ 86 ∷ 65 ∷ replicate 13 32) ++ (65 ∷ 76 ∷ 77 ∷ replicate 13 32) ++ (66 ∷ 79 ∷ replicate 14 32))

-- R-1: the slice all 0
abbrev pub program_last : List ℤ
program_last = replicate 20 (pos 0)

-- R-4: the text "starts as spaces", 500 bytes a customer
abbrev pub program_notes : List ℕ
program_notes = replicate 10000 32

-- R-6: 10 and 91 "throughout"
abbrev pub program_topup : List ℤ
program_topup = times 5 (pos 10 ∷ pos 91 ∷ [])

-- a line of the paper, in which each space stands for a tab, as bytes
abbrev pub bytes : String → List ℕ
bytes none = []
bytes (c then s) = cond (eqb (code c) 32) 9 (code c) ∷ bytes s

abbrev pub lines : List String → List (List ℕ)
lines [] = []
lines (s ∷ ss) = (bytes s ++ (10 ∷ [])) ∷ lines ss

abbrev pub answered : Lent → List (List ℕ) → List (List ℕ)
answered s [] = []
answered s (x ∷ xs) = printed_for s (read_line x) ∷ answered (left_after s (read_line x)) xs

pub lengths : (length program_book ∷ length program_names ∷ []) ≡ 3479 ∷ 640 ∷ []
lengths = refl

pub accepted : (opening_fault program_book program_names program_topup).number ≡ 0
unfolding opening_fault margin_of lift_of row_tests row_ok topup_ok head_ok dims cell nat dims_tests size_tests numbers name_bytes book_new warehouse_new district_new new_warehouse new_district new_customer new_stock names_used name_ok name_place item_used item_tests get place inside all_to
accepted = refl

-- the listing of document 01
pub listing : answered (lent program_book program_names program_last program_notes program_topup) (lines (
    "N 1 1 1 100 1 1 10 2 1 3" ∷
    "N 1 1 1 101 1 1 1 4 1 1" ∷
    "N 1 1 2 102 1 1 1" ∷
    "D 1 3 200" ∷
    "P 1 1 1 1 =ALM 201 500" ∷
    "S 1 1 #1" ∷
    "L 1 1 18" ∷ []))
    ≡ lines (
    "N 0 1 1811" ∷
    "N 12 2" ∷
    "N 0 2 115" ∷
    "D 0 9 1 0 0 0 0 0 0 0 0 0" ∷
    "P 0 2 -500" ∷
    "S 0 1 1750 1 100 3 1 1 10 1000 200 2 1 3 750 200" ∷
    "L 0 1" ∷ [])
unfolding all_to nat cell balance_ok numbers name_bytes inside place get remap op up_to sum_of lowest largest warehouse_tests district_tests customer_tests item_tests stock_tests slot order_tests line_tests order_ok dims dims_tests size_tests head_ok name_place last_name first_name name_ok padded compare_names named before namesakes found customer_of warehouse_used district_used customer_used item_used stock_used order_used customers_used names_used orders_used who_used line_used last_long last_ok found_ok new_asked price_of orderable new_used new_order_fault margin_of lift_of row_tests row_ok topup_ok lifts restock line_lifts new_order_commit order_total new_order_total new_order_answer new_order_book new_order_noted new_order_last pay_asked pay_used payment_fault payer payment_commit paid_balance payment_answer payment_book is_bad note_commit payment_notes notes_long note_place text_at note_of moved replaced delivery_asked deliverable delivery_used delivery_fault waits oldest line_amounts deliver_order deliver_district deliver_to delivery_commit oldest_ten delivery_answer delivery_book status_asked status_used status_fault status_customer status_order order_shown lines_part status_answer status_part window_first window_count level_asked window_used level_used stock_level_fault line_items window_items is_low low_items stock_level_answer answer_of nums_after last_after notes_after delivery_orders ones orders_of shown_part decimal tabbed line_text answer_line no_form_line printed_for left_after is_number value_of is_name is_who who_read parted_by lines_read read_new_order read_payment read_delivery read_order_status read_stock_level read_fields read_line
listing = refl
