-- R-5: cases computed by the definitions that the calls use, each worked out by hand: what is queued and run, on which date, what is printed, what is kept
-- and what is refused, and in which order.
-- Assumes nothing.
use mathlib.Core.Path.{◌≡◌, refl}
use mathlib.Core.List.{List, [], ◌∷◌, ◌++◌, map}
use Prim.Native.Nat.{ℕ}
use Prim.Native.String.{String}
use lib.Count.{ones}
use lib.IntN.{ℤ, pos}
use lib.ListN.{set, take, replicate}
use Rattle.model.specs.declared.Queue.{Queue}
use Rattle.model.specs.declared.Waiting.{Waiting}
use Rattle.model.specs.Tests.{all_to}
use Rattle.model.specs.Numbers.{nat, cell, balance_ok}
use Rattle.model.specs.Layout.{numbers, name_bytes, inside, place}
use Rattle.model.specs.Store.{get, remap, op}
use Rattle.model.specs.Lists.{up_to, sum_of, lowest, largest}
use Rattle.model.specs.Rows.{warehouse_tests, district_tests, customer_tests, item_tests, stock_tests, slot, order_tests, line_tests, order_ok}
use Rattle.model.specs.Head.{dims, dims_tests, size_tests, head_ok}
use Rattle.model.specs.Names.{name_place, last_name, first_name, name_ok, padded, compare_names, named, before, namesakes, found, customer_of}
use Rattle.model.specs.Used.{warehouse_used, district_used, customer_used, item_used, stock_used, order_used, customers_used, names_used, orders_used, who_used, line_used}
use Rattle.model.specs.LastOrder.{last_long, last_ok, found_ok}
use Rattle.model.specs.Answer.{Answer, committed}
use Rattle.model.specs.TopUp.{margin_of, lift_of, row_tests, row_ok, topup_ok, lifts, restock}
use Rattle.model.specs.NewOrder.{new_asked, price_of, orderable, new_used, new_order_fault, line_lifts, new_order_commit, order_total, new_order_total, new_order_answer, new_order_book, new_order_noted, new_order_last}
use Rattle.model.specs.Note.{note_place, text_at, notes_long, note_of, moved, replaced}
use Rattle.model.specs.Payment.{pay_asked, pay_used, payment_fault, payer, payment_commit, paid_balance, payment_answer, payment_book, is_bad, note_commit, payment_notes}
use Rattle.model.specs.Delivery.{delivery_asked, deliverable, delivery_used, delivery_fault, waits, oldest, line_amounts, deliver_order, deliver_district, deliver_to, delivery_commit, oldest_ten, delivery_answer, delivery_orders, delivery_book}
use Rattle.model.specs.Queue.{queue_fault, queue_answer, queue_after, run_fault, first_in, run_request, run_queue, run_answer, run_orders, run_book, result_line, run_buffer}
use Rattle.model.specs.OrderStatus.{status_asked, status_used, status_fault, status_customer, status_order, order_shown, lines_part, status_answer, status_part}
use Rattle.model.specs.StockLevel.{window_first, window_count, level_asked, window_used, level_used, stock_level_fault, line_items, window_items, is_low, low_items, stock_level_answer}
use Rattle.model.specs.Request.{Request, new_order, delivery, Lent, lent, fault_of, answer_of, orders_of, shown_part, nums_after, last_after, notes_after}
use Rattle.model.specs.Text.{is_number, value_of, decimal, tabbed, line_text, parted_by}
use Rattle.model.specs.RequestLine.{is_name, is_who, who_read, lines_read, read_new_order, read_payment, read_delivery, read_order_status, read_stock_level, read_fields, read_line}
use Rattle.model.specs.AnswerLine.{answer_line, no_form_line, printed_for, left_after}
use Rattle.model.specs.Tally.{Done}
use Rattle.model.specs.Events.{Event, call, queue, run, Yard, after_event, after_events, stand_as, done_events, Run, runs, queued, taken}
use Rattle.model.proofs.Listing.{bytes, program_book, program_names, program_last, program_notes, program_topup}
use Rattle.model.proofs.Readings.{prints, left, Prints, refused_by}

-- a request: its date of queuing, depot and carrier
abbrev asks : ℕ → ℕ → ℕ → Waiting
asks date w c = record { date = date; warehouse = w; carrier = c }

-- a waiting list that counts n, its first places, and 7 8 9 in all others
abbrev listed : ℕ → List Waiting → Queue
listed n ws = record { count = n; waiting = take 16 (ws ++ replicate 16 (asks 7 8 9)) }

-- the largest number of a record
abbrev most : ℕ
most = 18446744073709551615

-- a buffer of n dots; one with a line at its front, in which each space stands for a tab, and n dots behind
abbrev dots : ℕ → List ℕ
dots n = replicate n 46

abbrev line : String → ℕ → List ℕ
line s n = bytes s ++ (10 ∷ dots n)

-- the program's book; with a history count above H; with district 1's tax out of range; with order 1 of districts 1 and 3 waiting
abbrev lent_as : List ℤ → Lent
lent_as b = lent b program_names program_last program_notes program_topup

abbrev headless : List ℤ
headless = set program_book 5 (pos 9)

abbrev spoiled : List ℤ
spoiled = set program_book 8 (pos 10000)

abbrev ordered : Lent
ordered = left (lent_as program_book) (prints "N 1 1 2 100 1 1 10" "N 0 1 1150" ∷ prints "N 1 3 2 100 1 1 10" "N 0 1 1150" ∷ [])

-- a call that queues answers so and leaves this
abbrev Queues : Queue → Waiting → Answer → Queue → Type 0
Queues q x a r = (queue_answer q x ≡ a) × (queue_after q x ≡ r)

-- .. is refused and leaves the list as it is
abbrev Turns : Queue → Waiting → ℕ → Type 0
Turns q x n = Queues q x (refused_by n 0) q

-- a run on a date answers so, with these ten numbers beside it, and leaves this waiting list and this buffer
abbrev Runs : List ℤ → Queue → ℕ → List ℕ → Answer → List ℕ → Queue → List ℕ → Type 0
Runs b q date buffer a orders r after =
    (run_answer b program_names q date buffer ≡ a)
    × ((run_orders b program_names q date buffer ≡ orders) × ((run_queue q buffer ≡ r) × (run_buffer b program_names q date buffer ≡ after)))

-- .. is refused and leaves the book as it is
abbrev Fails : List ℤ → Queue → ℕ → List ℕ → ℕ → Queue → List ℕ → Type 0
Fails b q date buffer n r after = Runs b q date buffer (refused_by n 0) (replicate 10 0) r after × (run_book b program_names q date buffer ≡ b)

-- .. by 16, and nothing has changed
abbrev Sixteen : List ℤ → Queue → ℕ → List ℕ → Type 0
Sixteen b q date buffer = Fails b q date buffer 16 q buffer

-- two requests
abbrev x : Waiting
x = asks 100 1 3

abbrev y : Waiting
y = asks 101 1 4

-- both wait
abbrev two : Queue
two = listed 2 (x ∷ y ∷ [])

-- .. and then y alone: x was carried out or refused
abbrev one : Queue
one = listed 1 (y ∷ asks 0 0 0 ∷ [])

-- fifteen wait whose depot is not in the book. Then x is queued, and y is refused by 15; a run is refused by 16 for its buffer, another takes the first; y is
-- refused by 7 and then queued; an order comes in; the other fourteen are run, then x, then y; none is left
abbrev yard : Yard
yard = record { lent = ordered; queue = listed 15 (replicate 15 (asks 99 9 3)) }

abbrev order : Request
order = new_order (record { warehouse = 1; district = 3; customer = 2; date = 102 }) (record { item = 1; supply = 1; quantity = 1 } ∷ [])

abbrev events : List Event
events =
    queue x
    ∷ queue y
    ∷ run 200 (dots 399)
    ∷ run 200 (dots 400)
    ∷ queue (asks 0 1 4)
    ∷ queue y
    ∷ call order
    ∷ replicate 14 (run 201 (dots 400)) ++ (run 300 (dots 400) ∷ run 301 (dots 400) ∷ run 302 (dots 400) ∷ [])

abbrev ends : Yard
ends = after_events yard events

-- a Delivery, and how it was answered
abbrev sent : ℕ → ℕ → ℕ → Request
sent w c date = delivery (record { warehouse = w; carrier = c; date = date })

abbrev done : Request → ℕ → Done
done r n = record { request = r; number = n }

pub record QueueCases : Type 0 where
  -- ── queuing ──
  -- "A waiting list of up to 16": the first, the sixteenth
  pub first_queued : Queues (listed 0 []) (asks 100 1 3) (committed (pos 0 ∷ [])) (listed 1 (asks 100 1 3 ∷ []))
  pub last_queued : Queues (listed 15 (replicate 15 (asks 1 2 3))) (asks 100 1 4) (committed (pos 15 ∷ [])) (listed 16 (replicate 15 (asks 1 2 3) ++ (asks 100 1 4 ∷ [])))
  -- 15: "when the record counts 16 or more"
  pub fifteen : Turns (listed 16 []) (asks 100 1 3) 15 × (Turns (listed 17 []) (asks 100 1 3) 15 × Turns (listed most []) (asks 100 1 3) 15)
  -- "before 7 for the queuing date"
  pub fifteen_first : Turns (listed 16 []) (asks 0 1 3) 15 × Turns (listed most []) (asks 6342969601 1 3) 15
  pub seven : Turns (listed 15 []) (asks 0 1 3) 7 × (Turns (listed 0 []) (asks 6342969601 1 3) 7 × Turns (listed 0 []) (asks most 1 3) 7)
  pub dates : Queues (listed 0 []) (asks 1 1 3) (committed (pos 0 ∷ [])) (listed 1 (asks 1 1 3 ∷ []))
      × Queues (listed 1 []) (asks 6342969600 1 3) (committed (pos 1 ∷ [])) (listed 2 (asks 7 8 9 ∷ asks 6342969600 1 3 ∷ []))
  -- ".. the queuing call's one other check": depot and carrier are stored as given
  pub unjudged : Queues (listed 0 []) (asks 100 0 most) (committed (pos 0 ∷ [])) (listed 1 (asks 100 0 most ∷ []))
      × Queues (listed 0 []) (asks 100 most 0) (committed (pos 0 ∷ [])) (listed 1 (asks 100 most 0 ∷ []))
  -- ── 16 ──
  -- "when a run finds a count of 0 or above 16, or a result buffer under 400 bytes"
  pub none_waits : Sixteen program_book (listed 0 (asks 100 1 3 ∷ [])) 200 (dots 400)
  pub too_many : Sixteen program_book (listed 17 (asks 100 1 3 ∷ [])) 200 (dots 400) × Sixteen program_book (listed most (asks 100 1 3 ∷ [])) 200 (dots 400)
  pub short_buffer : Sixteen program_book two 200 (dots 399) × Sixteen program_book two 200 []
  -- "before any other check of the run": before 2, 4, 7, 8, 9
  pub sixteen_first : Sixteen headless (listed 0 []) 200 (dots 400)
      × (Sixteen headless two 200 (dots 399)
      × (Sixteen program_book (listed 1 (asks 100 2 3 ∷ [])) 200 (dots 399)
      × (Sixteen program_book two 0 (dots 399) × (Sixteen program_book (listed 1 (asks 100 1 11 ∷ [])) 200 (dots 399) × Sixteen spoiled two 200 (dots 399)))))
  -- ── a Delivery that is refused ──
  -- "leaves the list too, and its line ends in the refusal number in place of skip count and orders": by 2, 4, 7, 8, 9
  pub two_leaves : Fails headless two 200 (dots 400) 2 one (line "100 1 3 200 2" 386)
  pub four_leaves : Fails program_book (listed 1 (asks 100 2 3 ∷ [])) 200 (dots 400) 4 (listed 0 (asks 0 0 0 ∷ [])) (line "100 2 3 200 4" 386)
  pub seven_leaves : Fails program_book two 0 (dots 400) 7 one (line "100 1 3 0 7" 388)
      × Fails program_book two 6342969601 (dots 400) 7 one (line "100 1 3 6342969601 7" 379)
  pub eight_leaves : Fails program_book (listed 1 (asks 100 1 11 ∷ [])) 200 (dots 400) 8 (listed 0 (asks 0 0 0 ∷ [])) (line "100 1 11 200 8" 385)
  pub nine_leaves : Fails spoiled two 200 (dots 400) 9 one (line "100 1 3 200 9" 386)
  -- 4 before 7, as in Delivery
  pub four_first : Fails program_book (listed 1 (asks 100 2 3 ∷ [])) 0 (dots 400) 4 (listed 0 (asks 0 0 0 ∷ [])) (line "100 2 3 0 4" 388)
  -- ── a Delivery that is carried out ──
  -- "queuing date, depot, carrier, finishing date (the run's), skip count, ten order numbers, parted by tabs, then byte 10, the rest of the buffer kept"
  pub carried_out : Runs ordered.nums two 200 (dots 400) (committed (pos 8 ∷ pos 1018 ∷ [])) (1 ∷ 0 ∷ 1 ∷ replicate 7 0) one (line "100 1 3 200 8 1 0 1 0 0 0 0 0 0 0" 366)
  -- "on the finishing date": what a status shows then
  pub finished : Prints (after_event (record { lent = ordered; queue = two }) (run 200 (dots 400))).lent (
      prints "S 1 1 #2" "S 0 2 1000 1 100 3 1 1 10 1000 200"
      ∷ prints "S 1 3 #2" "S 0 2 1000 1 100 3 1 1 10 1000 200"
      ∷ [])
  -- the queuing date is printed as it stands, never judged; none waits in the program's book; a buffer of 500 bytes
  pub any_date : Runs program_book (listed 1 (asks 0 1 10 ∷ [])) 6342969600 (dots 500) (committed (pos 10 ∷ pos 1023 ∷ [])) (replicate 10 0) (listed 0 (asks 0 0 0 ∷ []))
      (line "0 1 10 6342969600 10 0 0 0 0 0 0 0 0 0 0" 459)
      × Runs program_book (listed 1 (asks most 1 1 ∷ [])) 1 (dots 400) (committed (pos 10 ∷ pos 1023 ∷ [])) (replicate 10 0) (listed 0 (asks 0 0 0 ∷ []))
      (line "18446744073709551615 1 1 1 10 0 0 0 0 0 0 0 0 0 0" 350)
  -- the sixteen move up; the freed place is the last one
  pub full_list : Runs program_book (listed 16 (asks 1 1 1 ∷ asks 2 1 2 ∷ replicate 14 (asks 3 4 5))) 200 (dots 400) (committed (pos 10 ∷ pos 1023 ∷ [])) (replicate 10 0)
      (listed 15 (asks 2 1 2 ∷ replicate 14 (asks 3 4 5) ++ (asks 0 0 0 ∷ []))) (line "1 1 1 200 10 0 0 0 0 0 0 0 0 0 0" 367)
  -- ── a list of calls ──
  -- "A request queued behind j others is run by run number j + 1 after it, refusals by 16 uncounted, however many more are queued meanwhile."
  pub lines_left : map (λ (r : Run). r.left) (runs yard events)
      ≡ line "99 9 3 200 4" 387
      ∷ replicate 14 (line "99 9 3 201 4" 387)
      ++ (line "100 1 3 300 8 1 0 1 0 0 0 0 0 0 0" 366 ∷ line "101 1 4 301 9 0 0 2 0 0 0 0 0 0 0" 366 ∷ [])
  -- "Only the run counts as a Delivery, on the finishing date"
  pub stand_as_lem : stand_as yard events ≡ sent 9 3 200 ∷ order ∷ replicate 14 (sent 9 3 201) ++ (sent 1 3 300 ∷ sent 1 4 301 ∷ [])
  pub answered_as : done_events yard events ≡ done (sent 9 3 200) 4 ∷ done order 0 ∷ replicate 14 (done (sent 9 3 201) 4) ++ (done (sent 1 3 300) 0 ∷ done (sent 1 4 301) 0 ∷ [])
  -- first in, first out
  pub who_joined : queued yard events ≡ x ∷ y ∷ []
  pub who_left : taken yard events ≡ replicate 15 (asks 99 9 3) ++ (x ∷ y ∷ [])
  pub none_left : ends.queue ≡ listed 0 (replicate 16 (asks 0 0 0))
  pub shown_then : Prints ends.lent (prints "S 1 1 #2" "S 0 2 1000 1 100 3 1 1 10 1000 300" ∷ prints "S 1 3 #2" "S 0 2 1100 2 102 4 1 1 1 100 301" ∷ [])

pub queue_cases : QueueCases
unfolding all_to nat cell balance_ok numbers name_bytes inside place get remap op up_to sum_of lowest largest warehouse_tests district_tests customer_tests item_tests stock_tests slot order_tests line_tests order_ok dims dims_tests size_tests head_ok name_place last_name first_name name_ok padded compare_names named before namesakes found customer_of warehouse_used district_used customer_used item_used stock_used order_used customers_used names_used orders_used who_used line_used last_long last_ok found_ok new_asked price_of orderable new_used new_order_fault margin_of lift_of row_tests row_ok topup_ok lifts restock line_lifts new_order_commit order_total new_order_total new_order_answer new_order_book new_order_noted new_order_last pay_asked pay_used payment_fault payer payment_commit paid_balance payment_answer payment_book is_bad note_commit payment_notes notes_long note_place text_at note_of moved replaced delivery_asked deliverable delivery_used delivery_fault waits oldest line_amounts deliver_order deliver_district deliver_to delivery_commit oldest_ten delivery_answer delivery_book status_asked status_used status_fault status_customer status_order order_shown lines_part status_answer status_part window_first window_count level_asked window_used level_used stock_level_fault line_items window_items is_low low_items stock_level_answer answer_of nums_after last_after notes_after delivery_orders ones orders_of shown_part decimal tabbed line_text answer_line no_form_line printed_for left_after is_number value_of is_name is_who who_read parted_by lines_read read_new_order read_payment read_delivery read_order_status read_stock_level read_fields read_line fault_of queue_fault queue_answer queue_after run_fault first_in run_request run_queue run_answer run_orders run_book result_line run_buffer after_event
queue_cases = record {
  first_queued = (refl, refl);
  last_queued = (refl, refl);
  fifteen = ((refl, refl), ((refl, refl), (refl, refl)));
  fifteen_first = ((refl, refl), (refl, refl));
  seven = ((refl, refl), ((refl, refl), (refl, refl)));
  dates = ((refl, refl), (refl, refl));
  unjudged = ((refl, refl), (refl, refl));
  none_waits = ((refl, (refl, (refl, refl))), refl);
  too_many = (((refl, (refl, (refl, refl))), refl), ((refl, (refl, (refl, refl))), refl));
  short_buffer = (((refl, (refl, (refl, refl))), refl), ((refl, (refl, (refl, refl))), refl));
  sixteen_first = (((refl, (refl, (refl, refl))), refl), (((refl, (refl, (refl, refl))), refl), (((refl, (refl, (refl, refl))), refl), (((refl, (refl, (refl, refl))), refl), (((refl, (refl, (refl, refl))), refl), ((refl, (refl, (refl, refl))), refl))))));
  two_leaves = ((refl, (refl, (refl, refl))), refl);
  four_leaves = ((refl, (refl, (refl, refl))), refl);
  seven_leaves = (((refl, (refl, (refl, refl))), refl), ((refl, (refl, (refl, refl))), refl));
  eight_leaves = ((refl, (refl, (refl, refl))), refl);
  nine_leaves = ((refl, (refl, (refl, refl))), refl);
  four_first = ((refl, (refl, (refl, refl))), refl);
  carried_out = (refl, (refl, (refl, refl)));
  finished = refl;
  any_date = ((refl, (refl, (refl, refl))), (refl, (refl, (refl, refl))));
  full_list = (refl, (refl, (refl, refl)));
  lines_left = refl;
  stand_as_lem = refl;
  answered_as = refl;
  who_joined = refl;
  who_left = refl;
  none_left = refl;
  shown_then = refl;
}
