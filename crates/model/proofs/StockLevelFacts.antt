-- What is known where a Stock-Level is not refused: cited by the code's proofs and by the theorem.
-- Assumes nothing.
use mathlib.Core.Path.{◌≡◌, refl, sym, ap, ◌∙◌}
use mathlib.Core.Bool.{Bool, true, false, cond}
use mathlib.Core.List.{List}
use Prim.Native.Nat.{ℕ, ◌+◌, ◌-◌, ◌≤◌, ◌<◌}
use native.Mathlib.Omega.{arith}
use lib.Dec.{leb}
use lib.ListN.{length}
use lib.IntN.{ℤ}
use borrow.Author.Tests.{leb-true, leb-false}
use Rattle.model.specs.declared.Dims.{Dims}
use Rattle.model.specs.declared.StockLevel.{StockLevel}
use Rattle.model.specs.Tests.{fault}
use Rattle.model.specs.Layout.{shapes}
use Rattle.model.specs.Store.{num}
use Rattle.model.specs.Head.{dims, head_ok}
use Rattle.model.specs.Rows.{next_order}
use Rattle.model.specs.Used.{stock_used, order_used}
use Rattle.model.specs.StockLevel.{window_first, window_count, level_asked, window_used, level_used, stock_level_fault}
use Rattle.model.specs.Claim.{R}
use Rattle.model.proofs.TestLaws.{all-at, all-to, passed, numbered, within_in, in_range, staged_clear}
use Rattle.model.proofs.Fields.{Shaped, head-shaped}
use Rattle.model.proofs.RowFacts.{DistrictIn, StockIn, OrderIn, district_in, stock_in, order_in, in_order}

-- the request's numbers are in range
pub record LevelAsked (d : Dims) (q : StockLevel) : Type 0 where
  pub w : R d.warehouses q.warehouse
  pub k : R 10 q.district
  pub threshold_low : 10 ≤ q.threshold
  pub threshold_high : q.threshold ≤ 20

-- the rows that are read are in range
pub record LevelUsed (d : Dims) (b : List ℤ) (q : StockLevel) : Type 0 where
  pub district : DistrictIn d b q.warehouse q.district
  pub orders : (o : ℕ) → window_first (num (shapes d) b (next_order q.warehouse q.district)) ≤ o → o < num (shapes d) b (next_order q.warehouse q.district) → OrderIn d b q.warehouse q.district o
  pub stock : (i : ℕ) → R d.items i → StockIn d b q.warehouse i

pub record LevelReady (d : Dims) (b : List ℤ) (n : ℕ) (q : StockLevel) : Type 0 where
  pub shaped : Shaped d b n
  pub asked : LevelAsked d q
  pub used : LevelUsed d b q

-- the window: its first order is 1 or more, its last is the one before next, and it has at most 20
pub record Window (next : ℕ) : Type 0 where
  pub low : 1 ≤ window_first next
  pub high : window_first next ≤ next
  pub sum : window_first next + window_count next ≡ next
  pub few : window_count next ≤ 20

pub window : (next : ℕ) → 1 ≤ next → Window next
unfolding window_first window_count
window next h = go (leb next 20) refl
  where
    first : Bool → ℕ
    first t = cond t 1 (next - 20)

    go : (t : Bool) → leb next 20 ≡ t → Window next
    go true p = record { low = rw p (omega arith); high = rw p (omega arith); sum = rw p (omega arith); few = rw p (omega (arith, leb-true next 20 p)) }
    go false p = let g = leb-false next 20 p in record { low = rw p (omega arith); high = rw p (omega arith); sum = rw p (omega arith); few = rw p (omega arith) }

pub level_asked_numbered : (d : Dims) (q : StockLevel) → numbered (level_asked d q) ≡ true
unfolding level_asked
level_asked_numbered d q = refl

pub level_used_numbered : (d : Dims) (b : List ℤ) (q : StockLevel) → numbered (level_used d b q) ≡ true
unfolding level_used
level_used_numbered d b q = refl

pub level_asked_lem : (d : Dims) (q : StockLevel) → (fault (level_asked d q)).number ≡ 0 → LevelAsked d q
unfolding level_asked
level_asked_lem d q e =
    let h = passed (level_asked d q) refl e in
    let f8 = within_in q.threshold 10 20 h.1.1.0 in
    record {
      w = in_range q.warehouse d.warehouses h.0;
      k = in_range q.district 10 h.1.0;
      threshold_low = f8.0;
      threshold_high = f8.1;
    }

-- one order of the window
pub window-at : (d : Dims) (b : List ℤ) (w k o : ℕ) → window_used d b w k ≡ true → 1 ≤ num (shapes d) b (next_order w k)
    → window_first (num (shapes d) b (next_order w k)) ≤ o → o < num (shapes d) b (next_order w k) → OrderIn d b w k o
unfolding window_used
window-at d b w k o e n low high =
    let next = num (shapes d) b (next_order w k) in
    let ww = window next n in
    let j = o - window_first next + 1 in
    let f : ℕ → Bool = λ i. order_used d b w k (window_first next + (i - 1)) in
    let p : f j ≡ true = all-at f (window_count next) e j (record { lo = omega arith; hi = omega (arith, ww.sum) }) in
    let q : window_first next + (j - 1) ≡ o = omega arith in
    order_in d b w k o (ap (λ (i : ℕ). order_used d b w k i) (sym q) ∙ p)

pub at-window : (d : Dims) (b : List ℤ) (w k : ℕ) → 1 ≤ num (shapes d) b (next_order w k)
    → ((o : ℕ) → R (num (shapes d) b (next_order w k) - 1) o → OrderIn d b w k o) → window_used d b w k ≡ true
unfolding window_used
at-window d b w k n h =
    let next = num (shapes d) b (next_order w k) in
    let ww = window next n in
    all-to (λ i. order_used d b w k (window_first next + (i - 1))) (window_count next)
    (λ j r. in_order d b w k (window_first next + (j - 1)) (h (window_first next + (j - 1)) (record { lo = omega (arith, ww.low); hi = omega (arith, ww.sum, ww.low, r.lo, r.hi) })))

pub level_used_lem : (d : Dims) (b : List ℤ) (q : StockLevel) → (fault (level_used d b q)).number ≡ 0 → LevelUsed d b q
unfolding level_used
level_used_lem d b q e =
    let h = passed (level_used d b q) refl e in
    let k = district_in d b q.warehouse q.district h.0 in
    record {
      district = k;
      orders = λ o low high. window-at d b q.warehouse q.district o h.1.0 k.next_low low high;
      stock = λ i r. stock_in d b q.warehouse i (all-at (stock_used d b q.warehouse) d.items h.1.1.0 i r);
    }

-- a Stock-Level that is not refused
pub level_ready : (b : List ℤ) (names : List ℕ) (q : StockLevel) → (stock_level_fault b names q).number ≡ 0 → LevelReady (dims b) b (length names) q
unfolding stock_level_fault
level_ready b names q e =
    let h = staged_clear (head_ok b (length names)) (level_asked (dims b) q) (level_used (dims b) b q) (level_asked_numbered (dims b) q) e in
    record {
      shaped = head-shaped b (length names) h.fine;
      asked = level_asked_lem (dims b) q h.asked_none;
      used = level_used_lem (dims b) b q h.used_none;
    }
