-- What the program prints for a request line.
-- Byte 63 is ?.
-- Assumes nothing.
use Rattle.std.specs.Prelude.{List, [], ◌∷◌, ◌++◌, ℕ, ℤ, pos, take}
use Rattle.model.specs.Answer.{Answer, committed, refused}
use Rattle.model.specs.Request.{Request, new_order, payment, delivery, order_status, stock_level, Lent, answer_of, orders_of, shown_of, after}
use Rattle.model.specs.Text.{positives, text_of}
use Rattle.model.specs.RequestLine.{letter, Reading, read, no_form, refused1}

-- "order and total (N), skip count and ten orders (D), customer and balance (P), customer, balance, order, date, carrier and five fields a line (S),
-- count (L)": from the figures, Delivery's ten numbers and the lines that a status shows. R-6: New-Order's lifts are "unprinted"
abbrev pub printed : Request → List ℤ → List ℕ → List ℤ → List ℤ
printed (new_order q lines) figures orders shown = take 2 figures
printed (payment q who) figures orders shown = figures
printed (delivery q) figures orders shown = take 1 figures ++ positives orders
printed (order_status q who) figures orders shown = figures ++ shown
printed (stock_level q) figures orders shown = figures

-- "letter, 0, then ..; or letter, refusal, detail"
abbrev pub told : Request → Answer → List ℕ → List ℤ → List ℤ
told r (committed figures) orders shown = pos 0 ∷ printed r figures orders shown
told r (refused f) orders shown = pos f.number ∷ pos f.detail ∷ []

unfoldable pub answer_line : Lent → Request → List ℕ
answer_line s r = text_of (letter r) (told r (answer_of s r) (orders_of s r) (shown_of s r))

-- "A line refused by 1 prints ?, 1, 0."
unfoldable pub no_form_line : List ℕ
no_form_line = text_of 63 (pos refused1.number ∷ pos refused1.detail ∷ [])

-- what a line of input prints, and what it leaves
unfoldable pub printed_for : Lent → Reading → List ℕ
printed_for s (read r) = answer_line s r
printed_for s no_form = no_form_line

unfoldable pub left_after : Lent → Reading → Lent
left_after s (read r) = after s r
left_after s no_form = s
