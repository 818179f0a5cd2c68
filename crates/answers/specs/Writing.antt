-- What a writer of answers leaves.
-- Assumes nothing.
use Rattle.std.specs.Prelude.{◌≡◌, Bool, ◌&&◌, cond, Option, Some, None, List, [], ℕ, leb, ℤ, length}
use Rattle.model.specs.declared.RequestOutcome.{RequestOutcome}
use Rattle.model.specs.declared.RequestOutcome.TheVariants as RequestCase
use Rattle.model.specs.Answer.{request_says}
use Rattle.model.specs.Text.{text_of, on_front}
use Rattle.model.specs.Names.{by_number}
use Rattle.model.specs.Request.{Request, new_order, payment, delivery, order_status, stock_level}
use Rattle.model.specs.RequestLine.{letter}
use Rattle.model.specs.AnswerLine.{told}

-- a request of the kind that an outcome answers; what is printed depends on its kind alone
abbrev pub sample : RequestOutcome → Request
sample (RequestCase.NewOrder o) = new_order (record { warehouse = 0; district = 0; customer = 0; date = 0 }) []
sample (RequestCase.Payment o) = payment (record { warehouse = 0; district = 0; custwarehouse = 0; custdistrict = 0; date = 0; amount = 0 }) (by_number 0)
sample (RequestCase.Delivery o) = delivery (record { warehouse = 0; carrier = 0; date = 0 })
sample (RequestCase.OrderStatus o) = order_status (record { warehouse = 0; district = 0 }) (by_number 0)
sample (RequestCase.StockLevel o) = stock_level (record { warehouse = 0; district = 0; threshold = 0 })

-- the line of an outcome with Delivery's ten numbers and the lines that a status shows
unfoldable pub outcome_line : RequestOutcome → List ℕ → List ℤ → List ℕ
outcome_line o orders shown = text_of (letter (sample o)) (told (sample o) (request_says o) orders shown)

-- a buffer of 2,048 bytes has room for every line that shows at most 15 order lines, five numbers each
abbrev pub has_room : List ℕ → List ℤ → Bool
has_room buffer shown = leb 2048 (length buffer) && leb (length shown) 75

-- a line at the front of a buffer where there is room, and the length that is answered; none where there is none
abbrev pub with_line : Bool → List ℕ → List ℕ → List ℕ
with_line t text buffer = cond t (on_front text buffer) buffer

abbrev pub length_if : Bool → List ℕ → Option ℕ
length_if t text = cond t (Some (length text)) None

-- what a writer of answers leaves: a line where there is room, and its length
pub record Answered (t : Bool) (text old new : List ℕ) (n : Option ℕ) : Type 0 where
  pub long : n ≡ length_if t text
  pub bytes : new ≡ with_line t text old
