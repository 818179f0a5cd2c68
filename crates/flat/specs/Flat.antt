-- An answer as flat numbers: document 01's number, 0 where committed, its detail, then the figures, 0 where refused.
-- Assumes nothing.
use Rattle.std.specs.Prelude.{Bool, cond, List, [], ◌∷◌, ℕ, ℤ, pos, get_or}
use Rattle.model.specs.declared.Payment.{Payment}
use Rattle.model.specs.declared.NewOrder.{NewOrder}
use Rattle.model.specs.declared.Delivery.{Delivery}
use Rattle.model.specs.declared.Waiting.{Waiting}
use Rattle.model.specs.declared.OrderStatus.{OrderStatus}
use Rattle.model.specs.declared.Part.{Part}
use Rattle.model.specs.declared.StockLevel.{StockLevel}
use Rattle.model.specs.Numbers.{nat}
use Rattle.model.specs.Answer.{Answer, committed, refused}
use Rattle.model.specs.Names.{Who, by_number, by_name}

abbrev pub number_in : Answer → ℕ
number_in (committed figures) = 0
number_in (refused r) = r.number

abbrev pub detail_in : Answer → ℕ
detail_in (committed figures) = 0
detail_in (refused r) = r.detail

abbrev pub figure_in : Answer → ℕ → ℤ
figure_in (committed figures) k = get_or figures k (pos 0)
figure_in (refused r) k = pos 0

-- no figure
abbrev pub bare_out : Answer → List ℕ
bare_out a = number_in a ∷ detail_in a ∷ []

-- one figure, the first
abbrev pub one_out : Answer → List ℕ
one_out a = number_in a ∷ detail_in a ∷ nat (figure_in a 0) ∷ []

-- two figures
abbrev pub two_out : Answer → List ℕ
two_out a = number_in a ∷ detail_in a ∷ nat (figure_in a 0) ∷ nat (figure_in a 1) ∷ []

-- three figures
abbrev pub three_out : Answer → List ℕ
three_out a = number_in a ∷ detail_in a ∷ nat (figure_in a 0) ∷ nat (figure_in a 1) ∷ nat (figure_in a 2) ∷ []

-- the balance, the second figure of Payment and Order-Status
abbrev pub balance_out : Answer → List ℤ
balance_out a = figure_in a 1 ∷ []

-- Order-Status: customer, order, date, carrier, then where the shown part starts and how many numbers it has
abbrev pub status_out : Answer → Part → List ℕ
status_out a p =
    number_in a ∷ detail_in a ∷ nat (figure_in a 0) ∷ nat (figure_in a 2) ∷ nat (figure_in a 3) ∷ nat (figure_in a 4) ∷ p.from ∷ p.count ∷ []

-- who: by the last name, or by the number
abbrev pub selection_of : Bool → ℕ → List ℕ → Who
selection_of t number name = cond t (by_name name) (by_number number)

-- the requests by their numbers
abbrev pub new_order_of : ℕ → ℕ → ℕ → ℕ → NewOrder
new_order_of w k c date = record { warehouse = w; district = k; customer = c; date = date }

abbrev pub payment_of : ℕ → ℕ → ℕ → ℕ → ℕ → ℕ → Payment
payment_of w k cw ck date amount = record { warehouse = w; district = k; custwarehouse = cw; custdistrict = ck; date = date; amount = amount }

abbrev pub delivery_of : ℕ → ℕ → ℕ → Delivery
delivery_of w carrier date = record { warehouse = w; carrier = carrier; date = date }

abbrev pub waiting_of : ℕ → ℕ → ℕ → Waiting
waiting_of w carrier date = record { date = date; warehouse = w; carrier = carrier }

abbrev pub status_of : ℕ → ℕ → OrderStatus
status_of w k = record { warehouse = w; district = k }

abbrev pub stock_level_of : ℕ → ℕ → ℕ → StockLevel
stock_level_of w k threshold = record { warehouse = w; district = k; threshold = threshold }
