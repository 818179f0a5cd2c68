-- R-6: what a top-up table makes of the stocks over every list of calls, and what holds whatever table each call is lent. The rule is said anew: no
-- definition here is one that New-Order writes or answers by.
-- Assumes nothing.
use Rattle.std.specs.Prelude.{◌≡◌, true, cond, List, [], ◌∷◌, ◌++◌, ℕ, ◌+◌, ◌-◌, ◌*◌, ltb, eqb, ℤ, pos, ◌+ℤ◌, ◌-ℤ◌, get_or}
use Rattle.model.specs.declared.Dims.{Dims}
use Rattle.model.specs.declared.Line.{Line}
use Rattle.model.specs.Numbers.{nat}
use Rattle.model.specs.Layout.{shapes}
use Rattle.model.specs.Store.{get, num}
use Rattle.model.specs.Rows.{on_hand, stock_ytd}
use Rattle.model.specs.Head.{dims}
use Rattle.model.specs.Lists.{up_to, sum_of}
use Rattle.model.specs.LastOrder.{last_at}
use Rattle.model.specs.TopUp.{margin_of, lift_of, topup_ok}
use Rattle.model.specs.Answer.{Answer, committed, refused}
use Rattle.model.specs.Opening.{Accepted, opening_fault}
use Rattle.model.specs.Request.{Request, new_order, payment, delivery, order_status, stock_level, Lent, lent, fault_of, answer_of, after}
use Rattle.model.specs.Tally.{Done, is2, opened_of, start, tally, after_all, done_all}
use Rattle.model.specs.Claim.{R, Books, Never, NeverBy, last_order, Started}

-- ── on hand ──
-- "that stock's committed lines in turn": the quantities that were taken from depot w's stock of item i, by the requests and whether each answer was 0
abbrev pub quantities_from : ℕ → ℕ → List Line → List ℕ
quantities_from w i [] = []
quantities_from w i (l ∷ lines) = cond (is2 l.supply l.item w i) (l.quantity ∷ []) [] ++ quantities_from w i lines

abbrev pub taken_by : ℕ → ℕ → Request → List ℕ
taken_by w i (new_order q lines) = quantities_from w i lines
taken_by w i (payment q who) = []
taken_by w i (delivery q) = []
taken_by w i (order_status q who) = []
taken_by w i (stock_level q) = []

abbrev pub taken_from : ℕ → ℕ → List Done → List ℕ
taken_from w i [] = []
taken_from w i (x ∷ xs) = cond (eqb x.number 0) (taken_by w i x.request) [] ++ taken_from w i xs

-- "the lifts this rule gives over" them, from what was on hand: where on hand less the quantity would be below the margin, the lift is added, which
-- counts once
unfoldable pub lifts_over : ℕ → ℕ → ℕ → List ℕ → ℕ
lifts_over margin lift hand [] = 0
lifts_over margin lift hand (q ∷ qs) =
    cond (ltb hand (margin + q)) (1 + lifts_over margin lift (hand + lift - q) qs) (lifts_over margin lift (hand - q) qs)

-- those of one stock row, b₀ being the opening book
unfoldable pub lifts_of : Dims → List ℤ → List ℤ → List Done → ℕ → ℕ → ℕ
lifts_of d b₀ topup done w i = lifts_over (margin_of topup i) (lift_of topup i) (num (shapes d) b₀ (on_hand w i)) (taken_from w i done)

-- "Under one unchanged table, on hand is opening less lots to date plus the lift times the lifts this rule gives over that stock's committed lines in turn
-- from opening."
abbrev pub OnHand : Type 0
OnHand =
    (s : Lent) → Accepted s.nums s.names → (rs : List Request)
    → (w i : ℕ) → R (dims s.nums).warehouses w → R (dims s.nums).items i
    → get (shapes (dims s.nums)) (after_all s rs).nums (on_hand w i)
    ≡ pos (num (shapes (dims s.nums)) s.nums (on_hand w i)) -ℤ get (shapes (dims s.nums)) (after_all s rs).nums (stock_ytd w i)
    +ℤ pos (lift_of s.topup i * lifts_of (dims s.nums) s.nums s.topup (done_all s rs) w i)

-- ── lifts answered ──
-- the third figure of a committed New-Order
abbrev pub third_of : Answer → ℕ
third_of (committed figures) = nat (get_or figures 2 (pos 0))
third_of (refused f) = 0

abbrev pub lifts_said : Request → Answer → ℕ
lifts_said (new_order q lines) a = third_of a
lifts_said (payment q who) a = 0
lifts_said (delivery q) a = 0
lifts_said (order_status q who) a = 0
lifts_said (stock_level q) a = 0

abbrev pub lifts_answered : Lent → List Request → ℕ
lifts_answered s [] = 0
lifts_answered s (r ∷ rs) = lifts_said r (answer_of s r) + lifts_answered (after s r) rs

abbrev pub all_lifts : Dims → List ℤ → List ℤ → List Done → ℕ
all_lifts d b₀ topup done = sum_of (up_to d.warehouses (λ w. sum_of (up_to d.items (lifts_of d b₀ topup done w))))

-- "The lifts answered over a list add up to the lifts of all stock rows."
abbrev pub LiftsAddUp : Type 0
LiftsAddUp =
    (s : Lent) → Accepted s.nums s.names → (rs : List Request) → lifts_answered s rs ≡ all_lifts (dims s.nums) s.nums s.topup (done_all s rs)

-- ── whatever table each call is lent ──
pub record Lending : Type 0 where
  pub topup : List ℤ
  pub request : Request

abbrev pub lending : Lent → List ℤ → Lent
lending s topup = lent s.nums s.names s.last s.notes topup

abbrev pub after_lent : Lent → List Lending → Lent
after_lent s [] = s
after_lent s (x ∷ xs) = after_lent (after (lending s x.topup) x.request) xs

abbrev pub done_lent : Lent → List Lending → List Done
done_lent s [] = []
done_lent s (x ∷ xs) =
    record { request = x.request; number = (fault_of (lending s x.topup) x.request).number } ∷ done_lent (after (lending s x.topup) x.request) xs

-- demand 3 but for the lift
abbrev pub DemandAnyTables : Type 0
DemandAnyTables =
    (s : Lent) → Accepted s.nums s.names → (xs : List Lending)
    → Books (dims s.nums) (tally (opened_of s.nums s.names) (done_lent s xs) start) (after_lent s xs).nums × Never (done_lent s xs)

-- R-1, "For every list of calls from an opened book with this slice all 0", so too
abbrev pub LastOrdersAnyTables : Type 0
LastOrdersAnyTables =
    (s : Lent) → Started s → (xs : List Lending)
    → ((w k c : ℕ) → R (dims s.nums).warehouses w → R 10 k → R (dims s.nums).customers c
    → last_at (dims s.nums) (after_lent s xs).last w k c ≡ pos (last_order (dims s.nums) (after_lent s xs).nums w k c))
    × NeverBy 13 (done_lent s xs)

-- ── 17 ──
-- opening answers 0 where the book is accepted and 17 lets the table through, and nowhere else
abbrev pub OpeningAccepts : Type 0
OpeningAccepts =
    (b : List ℤ) (names : List ℕ) (topup : List ℤ)
    → ((opening_fault b names topup).number ≡ 0 → Accepted b names × (topup_ok (dims b) topup ≡ true))
    × (Accepted b names → topup_ok (dims b) topup ≡ true → (opening_fault b names topup).number ≡ 0)

-- no call writes the table, and one that 17 lets through is never answered 17, on any book
abbrev pub TableKept : Type 0
TableKept = (s : Lent) (rs : List Request) → (after_all s rs).topup ≡ s.topup

abbrev pub TableServes : Type 0
TableServes = (s : Lent) → topup_ok (dims s.nums) s.topup ≡ true → (rs : List Request) → NeverBy 17 (done_all s rs)
