-- "Stock-Level (depot, district, threshold 10 to 20)."
-- Assumes nothing.
use Rattle.std.specs.Prelude.{Bool, cond, List, [], ◌∷◌, ◌++◌, ℕ, zero, suc, ◌+◌, ◌-◌, leb, ltb, ℤ, pos, length}
use Rattle.model.specs.declared.Dims.{Dims}
use Rattle.model.specs.Tests.{Refusal}
use Rattle.model.specs.declared.StockLevel.{StockLevel}
use Rattle.model.specs.Tests.{within, all_to, Check, chk, staged}
use Rattle.model.specs.Numbers.{nat}
use Rattle.model.specs.Layout.{shapes}
use Rattle.model.specs.Store.{num, row_of}
use Rattle.model.specs.Rows.{next_order, on_hand, order_row, line}
use Rattle.model.specs.Head.{dims, head_ok}
use Rattle.model.specs.Lists.{up_to, keeping, distinct}
use Rattle.model.specs.Used.{district_used, stock_used, order_used}
use Rattle.model.specs.Answer.{Answer, answer_by}

-- "orders numbered from next − 20 (or 1) to next − 1": the first of them, and how many there are
unfoldable pub window_first : ℕ → ℕ
window_first next = cond (leb next 20) 1 (next - 20)

unfoldable pub window_count : ℕ → ℕ
window_count next = next - window_first next

-- what the request decides
unfoldable pub level_asked : Dims → StockLevel → List Check
level_asked d q =
    chk (within q.warehouse 1 d.warehouses) 4
    ∷ chk (within q.district 1 10) 5
    ∷ chk (within q.threshold 10 20) 8
    ∷ []

-- the windowed orders of a district
unfoldable pub window_used : Dims → List ℤ → ℕ → ℕ → Bool
window_used d b w k =
    let next = num (shapes d) b (next_order w k) in
    all_to (window_count next) (λ j. order_used d b w k (window_first next + (j - 1)))

-- 9: "Stock-Level: district, the windowed orders, the depot's stock."
unfoldable pub level_used : Dims → List ℤ → StockLevel → List Check
level_used d b q =
    chk (district_used d b q.warehouse q.district) 9
    ∷ chk (window_used d b q.warehouse q.district) 9
    ∷ chk (all_to d.items (stock_used d b q.warehouse)) 9
    ∷ []

unfoldable pub stock_level_fault : List ℤ → List ℕ → StockLevel → Refusal
stock_level_fault b names q = staged (head_ok b (length names)) (level_asked (dims b) q) (level_used (dims b) b q)

-- the items on an order's lines in use
unfoldable pub line_items : (ℕ → ℤ) → List ℕ
line_items r = up_to (nat (r 3)) (λ j. nat (line r j 0))

-- the items on the n orders from number o on
unfoldable pub window_items : Dims → List ℤ → ℕ → ℕ → ℕ → ℕ → List ℕ
window_items d b w k o zero = []
window_items d b w k o (suc n) = window_items d b w k o n ++ line_items (row_of (shapes d) b (order_row d w k (o + n)))

-- "whose on hand at this depot is below the threshold"
unfoldable pub is_low : Dims → List ℤ → ℕ → ℕ → ℕ → Bool
is_low d b w threshold i = ltb (num (shapes d) b (on_hand w i)) threshold

-- "Distinct items on orders .., counted."
unfoldable pub low_items : Dims → List ℤ → StockLevel → ℕ
low_items d b q =
    let next = num (shapes d) b (next_order q.warehouse q.district) in
    length (keeping (is_low d b q.warehouse q.threshold) (distinct (window_items d b q.warehouse q.district (window_first next) (window_count next))))

unfoldable pub stock_level_answer : List ℤ → List ℕ → StockLevel → Answer
stock_level_answer b names q = answer_by (stock_level_fault b names q) (pos (low_items (dims b) b q) ∷ [])
