-- R-6: "A lent table has for each item a margin .. and a lift .., which replace 10 and 91": 17, and the rule that lifts a stock.
-- Assumes nothing.
use Rattle.std.specs.Prelude.{Bool, not, cond, List, [], ◌∷◌, ℕ, ◌+◌, ◌-◌, ◌*◌, leb, eqb, ℤ, length}
use Rattle.model.specs.declared.Dims.{Dims}
use Rattle.model.specs.Tests.{every, within, all_to}
use Rattle.model.specs.Numbers.{cell}

-- two numbers an item, by item number: its margin, its lift
unfoldable pub margin_of : List ℤ → ℕ → ℕ
margin_of topup i = cell topup (2 * (i - 1))

unfoldable pub lift_of : List ℤ → ℕ → ℕ
lift_of topup i = cell topup (2 * (i - 1) + 1)

-- "a margin of 0 to 9,990 and a lift of 10 to 9,999 .. Margin plus lift is at most 10,000"; a negative number is above every range
unfoldable pub row_tests : ℕ → ℕ → List Bool
row_tests margin lift = leb margin 9990 ∷ within lift 10 9999 ∷ leb (margin + lift) 10000 ∷ []

-- an item's row keeps them
unfoldable pub row_ok : List ℤ → ℕ → Bool
row_ok topup i = every (row_tests (margin_of topup i) (lift_of topup i))

-- 17: "when the table is not 2 × I numbers or a row breaks these rules": any row, not those of an order's lines alone
unfoldable pub topup_ok : Dims → List ℤ → Bool
topup_ok d topup = every (eqb (length topup) (2 * d.items) ∷ all_to d.items (row_ok topup) ∷ [])

-- document 01: "if on hand − quantity is at least 10 that is the new on hand, otherwise it plus 91", with the margin for 10 and the lift for 91.
-- "The step that changes a stock row now also says whether it lifted"
unfoldable pub lifts : ℕ → ℕ → ℕ → Bool
lifts margin hand quantity = not (leb (margin + quantity) hand)

unfoldable pub restock : ℕ → ℕ → ℕ → ℕ → ℕ
restock margin lift hand quantity = cond (lifts margin hand quantity) (hand + lift - quantity) (hand - quantity)
