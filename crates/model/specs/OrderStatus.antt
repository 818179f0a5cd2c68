-- "Order-Status (depot, district, who)."
-- Assumes nothing.
use Rattle.std.specs.Prelude.{List, [], ◌∷◌, ℕ, zero, suc, ◌*◌, ℤ, pos, length, take, drop}
use Rattle.model.specs.declared.Dims.{Dims}
use Rattle.model.specs.declared.OrderStatus.{OrderStatus}
use Rattle.model.specs.declared.Part.{Part}
use Rattle.model.specs.Tests.{Refusal}
use Rattle.model.specs.Tests.{every, within, Check, chk, staged}
use Rattle.model.specs.Layout.{shapes, place}
use Rattle.model.specs.Numbers.{nat}
use Rattle.model.specs.Store.{get, num}
use Rattle.model.specs.Rows.{balance, order_col, entry_date, carrier, line_count}
use Rattle.model.specs.Head.{dims, head_ok}
use Rattle.model.specs.Names.{Who, who_tests, customer_of, is_found, found_number}
use Rattle.model.specs.Used.{district_used, who_used}
use Rattle.model.specs.LastOrder.{last_at, last_long, last_ok, found_ok}
use Rattle.model.specs.Answer.{Answer, answer_by, left_by}

-- what the request decides
unfoldable pub status_asked : Dims → OrderStatus → Who → List Check
status_asked d q who =
    chk (within q.warehouse 1 d.warehouses) 4
    ∷ chk (within q.district 1 10) 5
    ∷ chk (every (who_tests d who)) 6
    ∷ []

-- the customer asked about
unfoldable pub status_customer : Dims → List ℕ → OrderStatus → Who → ℕ
status_customer d names q who = found_number (customer_of d names q.warehouse q.district who)

-- "the largest order number of that customer"; R-1: "Order-Status reads it, in demand 2 too taking as it stands what 13 passes": also where that
-- order is another customer's
unfoldable pub status_order : Dims → List ℕ → List ℤ → OrderStatus → Who → ℕ
status_order d names last q who = nat (last_at d last q.warehouse q.district (status_customer d names q who))

-- 9: "Order-Status: district, the customer (by name, all)", since R-1 has "orders leave the latter's used rows". 10: "Nobody in the district has
-- the last name". R-1: 13 is "checked after 10"
unfoldable pub status_used : Dims → List ℤ → List ℕ → List ℤ → OrderStatus → Who → List Check
status_used d b names last q who =
    chk (district_used d b q.warehouse q.district) 9
    ∷ chk (who_used d b names q.warehouse q.district who) 9
    ∷ chk (is_found (customer_of d names q.warehouse q.district who)) 10
    ∷ chk (last_long d last) 13
    ∷ chk (last_ok d b last q.warehouse q.district) 13
    ∷ chk (found_ok d b q.warehouse q.district (status_order d names last q who)) 13
    ∷ []

unfoldable pub status_fault : List ℤ → List ℕ → List ℤ → OrderStatus → Who → Refusal
status_fault b names last q who = staged (head_ok b (length names)) (status_asked (dims b) q who) (status_used (dims b) b names last q who)

-- ".. with entry date and carrier" "No order: number, date and carrier 0 and an empty part."
unfoldable pub order_shown : Dims → List ℤ → ℕ → ℕ → ℕ → List ℤ
order_shown d b w k zero = pos 0 ∷ pos 0 ∷ pos 0 ∷ []
order_shown d b w k (suc o) = pos (suc o) ∷ pos (num (shapes d) b (entry_date d w k (suc o))) ∷ pos (num (shapes d) b (carrier d w k (suc o))) ∷ []

-- a part of the book by where it starts and how many numbers it has, and the numbers
abbrev pub empty_part : Part
empty_part = record { from = 0; count = 0 }

abbrev pub part_of : Part → List ℤ → List ℤ
part_of p b = take p.count (drop p.from b)

-- "returned subslice of the book's numbers: line count times five, starting in the order slot", with its first line; "an empty part" without an order
unfoldable pub lines_part : Dims → List ℤ → ℕ → ℕ → ℕ → Part
lines_part d b w k zero = empty_part
lines_part d b w k (suc o) = record { from = place (shapes d) (order_col d w k (suc o) 6); count = num (shapes d) b (line_count d w k (suc o)) * 5 }

-- "Answered: customer, balance, and the largest order number of that customer with entry date and carrier"
unfoldable pub status_answer : List ℤ → List ℕ → List ℤ → OrderStatus → Who → Answer
status_answer b names last q who =
    answer_by (status_fault b names last q who)
    (pos (status_customer (dims b) names q who)
    ∷ get (shapes (dims b)) b (balance q.warehouse q.district (status_customer (dims b) names q who))
    ∷ order_shown (dims b) b q.warehouse q.district (status_order (dims b) names last q who))

-- "a refused status shows an empty part"
unfoldable pub status_part : List ℤ → List ℕ → List ℤ → OrderStatus → Who → Part
status_part b names last q who =
    left_by (status_fault b names last q who) (lines_part (dims b) b q.warehouse q.district (status_order (dims b) names last q who)) empty_part

-- "its lines are shown as that part of the lent book, not copied"
unfoldable pub status_lines : List ℤ → List ℕ → List ℤ → OrderStatus → Who → List ℤ
status_lines b names last q who = part_of (status_part b names last q who) b
