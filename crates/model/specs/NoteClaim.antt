-- R-4: what the customers' texts are after any list of calls on any book, whatever bytes and however many are lent. The note is written out anew, and
-- whether a customer's credit is 1 is read off its row.
-- Assumes nothing.
use Rattle.std.specs.Prelude.{◌≡◌, Bool, true, false, not, cond, List, [], ◌∷◌, ◌++◌, ◌≢◌, ℕ, pos, length, take, replicate}
use Rattle.model.specs.Tests.{all_of}
use Rattle.model.specs.Layout.{shapes}
use Rattle.model.specs.Store.{get}
use Rattle.model.specs.Rows.{customer_row}
use Rattle.model.specs.Head.{dims}
use Rattle.model.specs.Text.{decimal}
use Rattle.model.specs.Note.{text_at, note_bytes}
use Rattle.model.specs.Request.{Request, new_order, payment, delivery, order_status, stock_level, Lent, after}
use Rattle.model.specs.Tally.{Paid, is3, after_all, done_all, tallied}
use Rattle.model.specs.Claim.{R, NeverBy}

-- a committed payment's note, its six numbers one by one
abbrev pub note_for : Paid → List ℕ
note_for p =
    decimal p.customer
    ++ (32 ∷ decimal p.request.custdistrict
    ++ (32 ∷ decimal p.request.custwarehouse
    ++ (32 ∷ decimal p.request.district
    ++ (32 ∷ decimal p.request.warehouse
    ++ (32 ∷ decimal p.request.amount
    ++ (59 ∷ []))))))

-- a payment is that of customer c of district k of depot w
abbrev pub paid_by : ℕ → ℕ → ℕ → Paid → Bool
paid_by w k c p = is3 p.request.custwarehouse p.request.custdistrict p.customer w k c

-- the notes of one customer's payments, "newest first"; the list has the oldest first
abbrev pub newest_first : ℕ → ℕ → ℕ → List Paid → List ℕ
newest_first w k c [] = []
newest_first w k c (p ∷ ps) = newest_first w k c ps ++ cond (paid_by w k c p) (note_for p) []

-- "For every list of committed payments to one such customer, the text is the first 500 bytes of their notes, newest first, followed by" what it was
-- before them
abbrev pub NewestFirst : Type 0
NewestFirst =
    (s : Lent) (rs : List Request) (w k c : ℕ) → R (dims s.nums).warehouses w → R 10 k → R (dims s.nums).customers c
    → get (shapes (dims s.nums)) s.nums (customer_row w k c) ≡ pos 1
    → text_at (dims s.nums) (after_all s rs).notes w k c ≡ take 500 (newest_first w k c (tallied s rs).payments ++ text_at (dims s.nums) s.notes w k c)

-- ".. followed by spaces": the text "starts as spaces"
abbrev pub ThenSpaces : Type 0
ThenSpaces =
    (s : Lent) → s.notes ≡ replicate (note_bytes (dims s.nums)) 32
    → (rs : List Request) (w k c : ℕ) → R (dims s.nums).warehouses w → R 10 k → R (dims s.nums).customers c
    → get (shapes (dims s.nums)) s.nums (customer_row w k c) ≡ pos 1
    → text_at (dims s.nums) (after_all s rs).notes w k c ≡ take 500 (newest_first w k c (tallied s rs).payments ++ replicate 500 32)

-- "to a customer with credit 1": any other customer's text is never written
abbrev pub NoneForGoodCredit : Type 0
NoneForGoodCredit =
    (s : Lent) (rs : List Request) (w k c : ℕ) → R (dims s.nums).warehouses w → R 10 k → R (dims s.nums).customers c
    → get (shapes (dims s.nums)) s.nums (customer_row w k c) ≢ pos 1
    → text_at (dims s.nums) (after_all s rs).notes w k c ≡ text_at (dims s.nums) s.notes w k c

-- "Other customers' texts are untouched.": that of a customer of whom the list has no committed payment
abbrev pub OthersUntouched : Type 0
OthersUntouched =
    (s : Lent) (rs : List Request) (w k c : ℕ) → R (dims s.nums).warehouses w → R 10 k → R (dims s.nums).customers c
    → all_of (λ p. not (paid_by w k c p)) (tallied s rs).payments ≡ true
    → text_at (dims s.nums) (after_all s rs).notes w k c ≡ text_at (dims s.nums) s.notes w k c

abbrev pub is_payment : Request → Bool
is_payment (new_order q lines) = false
is_payment (payment q who) = true
is_payment (delivery q) = false
is_payment (order_status q who) = false
is_payment (stock_level q) = false

-- "written by Payment alone"
abbrev pub PaymentAlone : Type 0
PaymentAlone = (s : Lent) (r : Request) → is_payment r ≡ false → (after s r).notes ≡ s.notes

-- the text's length stays, so a list from a text of the right length is never answered 14
abbrev pub LengthStays : Type 0
LengthStays = (s : Lent) (rs : List Request) → length (after_all s rs).notes ≡ length s.notes

abbrev pub NotesServe : Type 0
NotesServe = (s : Lent) → length s.notes ≡ note_bytes (dims s.nums) → (rs : List Request) → NeverBy 14 (done_all s rs)
