-- "Payment (depot, district, customer's depot and district, who, date, amount 100 to 500,000)."
-- Assumes nothing.
use Rattle.std.specs.Prelude.{Bool, cond, List, [], ◌∷◌, ℕ, suc, ltb, eqb, ℤ, pos, ◌+ℤ◌, ◌-ℤ◌, length, get_or}
use Rattle.model.specs.declared.Dims.{Dims}
use Rattle.model.specs.declared.Payment.{Payment}
use Rattle.model.specs.Tests.{Refusal}
use Rattle.model.specs.Tests.{every, within, Check, chk, staged}
use Rattle.model.specs.Numbers.{max_date}
use Rattle.model.specs.Layout.{shapes}
use Rattle.model.specs.Store.{get, num, Op, one, row, run}
use Rattle.model.specs.Rows.{history_count, warehouse_ytd, district_ytd, credit, balance, ytd_payment, payment_cnt, history_row}
use Rattle.model.specs.Head.{dims, head_ok}
use Rattle.model.specs.Names.{Who, who_tests, customer_of, is_found, found_number}
use Rattle.model.specs.Used.{warehouse_used, district_used, who_used}
use Rattle.model.specs.Note.{note_place, text_at, notes_long, note_of, moved, replaced}
use Rattle.model.specs.Answer.{Answer, answer_by, left_by}

-- what the request decides
unfoldable pub pay_asked : Dims → Payment → Who → List Check
pay_asked d q who =
    chk (every (within q.warehouse 1 d.warehouses ∷ within q.custwarehouse 1 d.warehouses ∷ [])) 4
    ∷ chk (every (within q.district 1 10 ∷ within q.custdistrict 1 10 ∷ [])) 5
    ∷ chk (every (who_tests d who)) 6
    ∷ chk (within q.date 1 max_date) 7
    ∷ chk (within q.amount 100 500000) 8
    ∷ []

-- what the rows and names decide. 9: "Payment: depot, district, the customer, or by name all customers of its district."
-- 10: "Nobody in the district has the last name". 11: "in Payment the history count is H."
unfoldable pub pay_used : Dims → List ℤ → List ℕ → Payment → Who → List Check
pay_used d b names q who =
    chk (warehouse_used d b q.warehouse) 9
    ∷ chk (district_used d b q.warehouse q.district) 9
    ∷ chk (who_used d b names q.custwarehouse q.custdistrict who) 9
    ∷ chk (is_found (customer_of d names q.custwarehouse q.custdistrict who)) 10
    ∷ chk (ltb (num (shapes d) b history_count) d.histories) 11
    ∷ []

-- R-4: 14 "when the text's length is not 5,000 × W × C, straight after 2 in every Payment"
abbrev pub pay_first : Dims → List ℕ → Payment → Who → List Check
pay_first d notes q who = chk (notes_long d notes) 14 ∷ pay_asked d q who

unfoldable pub payment_fault : List ℤ → List ℕ → List ℕ → Payment → Who → Refusal
payment_fault b names notes q who = staged (head_ok b (length names)) (pay_first (dims b) notes q who) (pay_used (dims b) b names q who)

-- the customer who pays
unfoldable pub payer : Dims → List ℕ → Payment → Who → ℕ
payer d names q who = found_number (customer_of d names q.custwarehouse q.custdistrict who)

-- customer, its district, its depot, paying district, paying depot, date, amount
abbrev pub history_numbers : Payment → ℕ → List ℤ
history_numbers q c =
    pos c
    ∷ pos q.custdistrict
    ∷ pos q.custwarehouse
    ∷ pos q.district
    ∷ pos q.warehouse
    ∷ pos q.date
    ∷ pos q.amount
    ∷ []

-- "Depot and district money rise, balance falls, payments to date and count rise, a history row is added.": c pays, h rows stood before
abbrev pub pay_ops : ℕ → Payment → ℕ → List Op
pay_ops h q c =
    one (warehouse_ytd q.warehouse) (λ z. z +ℤ pos q.amount)
    ∷ one (district_ytd q.warehouse q.district) (λ z. z +ℤ pos q.amount)
    ∷ one (balance q.custwarehouse q.custdistrict c) (λ z. z -ℤ pos q.amount)
    ∷ one (ytd_payment q.custwarehouse q.custdistrict c) (λ z. z +ℤ pos q.amount)
    ∷ one (payment_cnt q.custwarehouse q.custdistrict c) (λ z. z +ℤ pos 1)
    ∷ row (history_row (suc h)) (λ col z. get_or (history_numbers q c) col (pos 0))
    ∷ one history_count (λ z. z +ℤ pos 1)
    ∷ []

unfoldable pub payment_commit : Dims → List ℤ → Payment → ℕ → List ℤ
payment_commit d b q c = run (shapes d) (pay_ops (num (shapes d) b history_count) q c) b

-- the balance after the payment
unfoldable pub paid_balance : Dims → List ℤ → Payment → ℕ → ℤ
paid_balance d b q c = get (shapes d) b (balance q.custwarehouse q.custdistrict c) -ℤ pos q.amount

-- R-4: "A Payment to a customer with credit 1", as the call finds it
unfoldable pub is_bad : Dims → List ℤ → ℕ → ℕ → ℕ → Bool
is_bad d b w k c = eqb (num (shapes d) b (credit w k c)) 1

-- its note is put at the left of the customer's text; no other byte changes
unfoldable pub note_commit : Dims → List ℤ → List ℕ → Payment → ℕ → List ℕ
note_commit d b notes q c =
    cond (is_bad d b q.custwarehouse q.custdistrict c)
    (replaced (note_place d q.custwarehouse q.custdistrict c) (moved (note_of q c) (text_at d notes q.custwarehouse q.custdistrict c)) notes)
    notes

-- "Answered: customer, balance."
unfoldable pub payment_answer : List ℤ → List ℕ → List ℕ → Payment → Who → Answer
payment_answer b names notes q who =
    answer_by (payment_fault b names notes q who)
    (pos (payer (dims b) names q who) ∷ paid_balance (dims b) b q (payer (dims b) names q who) ∷ [])

unfoldable pub payment_book : List ℤ → List ℕ → List ℕ → Payment → Who → List ℤ
payment_book b names notes q who = left_by (payment_fault b names notes q who) (payment_commit (dims b) b q (payer (dims b) names q who)) b

unfoldable pub payment_notes : List ℤ → List ℕ → List ℕ → Payment → Who → List ℕ
payment_notes b names notes q who = left_by (payment_fault b names notes q who) (note_commit (dims b) b notes q (payer (dims b) names q who)) notes
