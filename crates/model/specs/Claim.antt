-- Demand 3: "What follows is one claim about the whole list." Each field is a sentence of the paper, by addresses of the book and by the tally.
-- Assumes nothing.
use Rattle.std.specs.Prelude.{◌≡◌, cond, List, [], ◌∷◌, ◌≢◌, ℕ, ◌+◌, ◌-◌, ◌*◌, ◌≤◌, ltb, eqb, ℤ, pos, ◌+ℤ◌, ◌-ℤ◌, length, get_or, replicate}
use Rattle.model.specs.declared.Dims.{Dims}
use Rattle.model.specs.Layout.{shapes}
use Rattle.model.specs.Store.{get, num}
use Rattle.model.specs.Rows.{history_count, warehouse_ytd, district_ytd, next_order, balance, ytd_payment, on_hand, stock_ytd, order_customer, waiting, history_col}
use Rattle.model.specs.Head.{dims}
use Rattle.model.specs.Lists.{largest}
use Rattle.model.specs.LastOrder.{last_at}
use Rattle.model.specs.TopUp.{lift_of}
use Rattle.model.specs.Opening.{Accepted}
use Rattle.model.specs.Request.{Request, Lent}
use Rattle.model.specs.Tally.{Tally, Done, Paid, N, M, charged, after_all, done_all, tallied}

-- x is one of 1, .., n
pub record R (n x : ℕ) : Type 0 where
  pub lo : 1 ≤ x
  pub hi : x ≤ n

-- "the history rows up to it are those payments in list order, all seven fields"
pub record HistoryIs (d : Dims) (b : List ℤ) (h : ℕ) (p : Paid) : Type 0 where
  pub customer : get (shapes d) b (history_col h 0) ≡ pos p.customer
  pub custdistrict : get (shapes d) b (history_col h 1) ≡ pos p.request.custdistrict
  pub custwarehouse : get (shapes d) b (history_col h 2) ≡ pos p.request.custwarehouse
  pub district : get (shapes d) b (history_col h 3) ≡ pos p.request.district
  pub warehouse : get (shapes d) b (history_col h 4) ≡ pos p.request.warehouse
  pub date : get (shapes d) b (history_col h 5) ≡ pos p.request.date
  pub amount : get (shapes d) b (history_col h 6) ≡ pos p.request.amount

-- "on hand and (opening − lots to date) differ by a multiple of" the item's lift, which replaces 91: hand = opening − lots + lift · times
pub record Restocked (lift opening lots : ℕ) (hand : ℤ) : Type 0 where
  pub left : ℕ
  pub times : ℕ
  pub is : hand ≡ pos left
  pub sum : left + lots ≡ opening + lift * times

-- no payment at all: stands where a list is too short
abbrev pub no_paid : Paid
no_paid = record { request = record { warehouse = 0; district = 0; custwarehouse = 0; custdistrict = 0; date = 0; amount = 0 }; customer = 0 }

-- what no top-up table decides; t is the tally of the list, b the book after it
pub record Books (d : Dims) (t : Tally) (b : List ℤ) : Type 0 where
  -- "to-date money of depots and districts equals the tally"
  pub warehouse_money : (w : ℕ) → R d.warehouses w → get (shapes d) b (warehouse_ytd w) ≡ pos (t.warehouse w)
  pub district_money : (w k : ℕ) → R d.warehouses w → R 10 k → get (shapes d) b (district_ytd w k) ≡ pos (t.district w k)
  -- "a balance equals the sums of that customer's orders numbered 1 to M less its payments"
  pub balances : (w k c : ℕ) → R d.warehouses w → R 10 k → R d.customers c
      → get (shapes d) b (balance w k c) ≡ pos (charged t w k c) -ℤ pos (t.paid w k c)
  -- "and balance plus payments to date is the first part alone"
  pub balances_paid : (w k c : ℕ) → R d.warehouses w → R 10 k → R d.customers c
      → get (shapes d) b (balance w k c) +ℤ get (shapes d) b (ytd_payment w k c) ≡ pos (charged t w k c)
  -- "next order number is N + 1"
  pub next_orders : (w k : ℕ) → R d.warehouses w → R 10 k → get (shapes d) b (next_order w k) ≡ pos (N t w k + 1)
  -- "waiting orders are exactly M + 1 to N"
  pub waiting_orders : (w k o : ℕ) → R d.warehouses w → R 10 k → R (N t w k) o
      → get (shapes d) b (waiting d w k o) ≡ pos (cond (ltb (M t w k) o) 1 0)
  pub delivered_first : (w k : ℕ) → R d.warehouses w → R 10 k → M t w k ≤ N t w k
  -- "lots to date equal the tally"
  pub lots : (w i : ℕ) → R d.warehouses w → R d.items i → get (shapes d) b (stock_ytd w i) ≡ pos (t.lots w i)
  -- "the history count is the number of committed payments"
  pub history_count : get (shapes d) b history_count ≡ pos (length t.payments)
  pub history_rows : (h : ℕ) → R (length t.payments) h → HistoryIs d b h (get_or t.payments (h - 1) no_paid)
  -- on hand is in range
  pub hands : (w i : ℕ) → R d.warehouses w → R d.items i → num (shapes d) b (on_hand w i) ≤ 9999

-- b₀ is the opening book, topup the one table through the list: "which replace 10 and 91, in the tally and demand 3 too while the table is unchanged"
pub record Claim (d : Dims) (b₀ topup : List ℤ) (t : Tally) (b : List ℤ) : Type 0 where
  pub books : Books d t b
  pub on_hand : (w i : ℕ) → R d.warehouses w → R d.items i
      → Restocked (lift_of topup i) (num (shapes d) b₀ (on_hand w i)) (t.lots w i) (get (shapes d) b (on_hand w i))

-- "Numbers 2, 3 and 9 below are never answered by the calls of such a list."
abbrev pub Never : List Done → Type 0
Never [] = Unit {0}
Never (x ∷ xs) = (x.number ≢ 2) × ((x.number ≢ 3) × ((x.number ≢ 9) × Never xs))

-- "Take any list of the five calls .., refused ones included, from a book that opening has just accepted.", whatever is lent beside it
abbrev pub Demand : Type 0
Demand =
    (s : Lent) → Accepted s.nums s.names → (rs : List Request)
    → Claim (dims s.nums) s.nums s.topup (tallied s rs) (after_all s rs).nums × Never (done_all s rs)

-- ── R-1 ──
-- "the one the scan would find": of the orders before next the largest number of one that is the customer's, 0 where none is
unfoldable pub last_order : Dims → List ℤ → ℕ → ℕ → ℕ → ℕ
last_order d b w k c = largest (λ o. eqb (num (shapes d) b (order_customer d w k o)) c) (num (shapes d) b (next_order w k) - 1)

-- "from an opened book with this slice all 0"
pub record Started (s : Lent) : Type 0 where
  pub accepted : Accepted s.nums s.names
  pub zeros : s.last ≡ replicate (10 * (dims s.nums).warehouses * (dims s.nums).customers) (pos 0)

-- "For every list of calls .., each number is the one the scan would find."; the slice keeps its length
abbrev pub LastOrders : Type 0
LastOrders =
    (s : Lent) → Started s → (rs : List Request)
    → (length (after_all s rs).last ≡ 10 * (dims s.nums).warehouses * (dims s.nums).customers)
    × ((w k c : ℕ) → R (dims s.nums).warehouses w → R 10 k → R (dims s.nums).customers c
    → last_at (dims s.nums) (after_all s rs).last w k c ≡ pos (last_order (dims s.nums) (after_all s rs).nums w k c))

-- a refusal that no call of a list was answered
abbrev pub NeverBy : ℕ → List Done → Type 0
NeverBy n [] = Unit {0}
NeverBy n (x ∷ xs) = (x.number ≢ n) × NeverBy n xs

-- 13 is never answered by the calls of such a list
abbrev pub LastServes : Type 0
LastServes = (s : Lent) → Started s → (rs : List Request) → NeverBy 13 (done_all s rs)
