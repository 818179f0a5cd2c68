-- One turn more of the loops that note items, and of the search in the list; the count against the model's.
-- Assumes nothing.
use mathlib.Core.Path.{◌≡◌, refl, sym, ap, ◌∙◌, subst}
use mathlib.Core.List.{List, [], ◌++◌}
use Prim.Native.Nat.{ℕ, zero, suc, ◌+◌, ◌-◌, ◌*◌, ◌<◌, ◌≤◌}
use native.Mathlib.Numerals.{add-one}
use native.Mathlib.Omega.{arith}
use lib.Dec.{ltb}
use lib.ListN.{length, get_or}
use lib.IntN.{ℤ, pos}
use Rattle.model.specs.declared.Dims.{Dims}
use Rattle.model.specs.declared.StockLevel.{StockLevel}
use Rattle.model.specs.Numbers.{nat, cell}
use Rattle.model.specs.Layout.{place, shapes, numbers}
use Rattle.model.specs.Store.{get, num, from, row_of}
use Rattle.model.specs.Lists.{up_to, keeping, distinct}
use Rattle.model.specs.Rows.{next_order, on_hand, stock_row, slot, order_row, line}
use Rattle.model.specs.StockLevel.{window_first, window_count, line_items, window_items, is_low, low_items}
use Rattle.model.specs.Claim.{R}
use Rattle.model.proofs.Fields.{from_cell, row_read}
use Rattle.model.proofs.RowFacts.{AllIn, OrderIn}
use Rattle.model.proofs.StockLevelFacts.{window}
use Rattle.layout.specs.declared.Run.{Run}
use Rattle.layout.specs.Runs.{row_in, RunOf}
use Rattle.rows.proofs.Runs.{stock-run, First, window-first}
use Rattle.stock_level.specs.Notes.{noted, note_all, low_at, item_in, items_in, ItemReads, OrderReads, Ready}
use Rattle.stock_level.proofs.Lists.{note_append, note_up, note_distinct, in_append, in_up, in_distinct, keeping_alike}

-- ── the lines of an order, the orders of a window ──
pub lines-cell : (b : List ℤ) (p : ℕ) → cell b (p + 3) ≡ nat (from b p 3)
lines-cell b p = sym (from_cell b p 3)

pub item-cell : (b : List ℤ) (p j : ℕ) → cell b (p + 6 + 5 * j) ≡ item_in b p (j + 1)
item-cell b p j =
    let e : p + 6 + 5 * j ≡ p + (1 + 5 * (j + 1) + 0) = omega arith in
    ap (λ (i : ℕ). cell b i) e ∙ sym (from_cell b p (1 + 5 * (j + 1) + 0))

pub line_turn : (b : List ℤ) (stock threshold : ℕ) (seen : List ℕ) (p j : ℕ) {l : List ℕ} {x : ℕ} (now : List ℕ)
    → now ≡ note_all (low_at b stock threshold) seen (up_to j (item_in b p)) → x ≡ cell b (p + 6 + 5 * j)
    → l ≡ noted (low_at b stock threshold) now x → l ≡ note_all (low_at b stock threshold) seen (up_to (j + 1) (item_in b p))
line_turn b stock threshold seen p j {l} {x} now e ex el =
    el
    ∙ ap (λ (s : List ℕ). noted (low_at b stock threshold) s x) e
    ∙ ap (noted (low_at b stock threshold) (note_all (low_at b stock threshold) seen (up_to j (item_in b p)))) (ex ∙ item-cell b p j)
    ∙ sym (note_up (low_at b stock threshold) seen j (item_in b p))

pub lines-all : (b : List ℤ) (p n : ℕ) → n ≡ nat (from b p 3) → up_to n (item_in b p) ≡ line_items (from b p)
unfolding line_items
lines-all b p n e = ap (λ (m : ℕ). up_to m (item_in b p)) e

pub run_turn : (b : List ℤ) (stock threshold : ℕ) (run : Run) (i : ℕ) {l : List ℕ} {p : ℕ} (now : List ℕ)
    → now ≡ note_all (low_at b stock threshold) [] (items_in b run i) → p ≡ row_in run i
    → l ≡ note_all (low_at b stock threshold) now (line_items (from b p))
    → l ≡ note_all (low_at b stock threshold) [] (items_in b run (i + 1))
unfolding items_in
run_turn b stock threshold run i {l} {p} now e ep el =
    el
    ∙ ap (λ (s : List ℕ). note_all (low_at b stock threshold) s (line_items (from b p))) e
    ∙ ap (λ (j : ℕ). note_all (low_at b stock threshold) (note_all (low_at b stock threshold) [] (items_in b run i)) (line_items (from b j))) ep
    ∙ sym (note_append (low_at b stock threshold) [] (items_in b run i) (line_items (from b (row_in run i))))
    ∙ ap (λ (n : ℕ). note_all (low_at b stock threshold) [] (items_in b run n)) (sym (add-one i))

-- ── the count ──
module _ (d : Dims) (b : List ℤ) (q : StockLevel) (v : Ready d b q) (next first : ℕ)
    (en : next ≡ num (shapes d) b (next_order q.warehouse q.district)) (ef : first ≡ window_first next) where
  abbrev w : ℕ
  w = q.warehouse

  abbrev k : ℕ
  k = q.district

  next_in : R (d.orders + 1) next
  next_in = record { lo = omega (arith, en, v.used.district.next_low); hi = omega (arith, en, v.used.district.next_high) }

  pub first_in_lem : First next d.orders first
  first_in_lem = subst (λ (n : ℕ). First next d.orders n) (sym ef) (window-first next d.orders next_in.lo next_in.hi v.booked.dimsd.orders_low)

  pub few : next - first ≤ 20
  unfolding window_count
  few = let x = window next next_in.lo in omega (arith, x.few, ef)

  module _ {run : Run} (r : RunOf d q.warehouse q.district first (next - first) run) (stock : ℕ) (es : stock ≡ place (shapes d) (stock_row q.warehouse 1)) where
    -- order i, from 0, of the window
    order_is : (i : ℕ) → i < next - first → from b (row_in run i) ≡ row_of (shapes d) b (order_row d w k (first + i))
    order_is i h = ap (from b) (r.each i h) ∙ row_read (shapes d) b 6 w k (slot d (first + i))

    order_in : (i : ℕ) → i < next - first → OrderIn d b w k (first + i)
    order_in i h = v.used.orders (first + i) (omega (arith, ef, en, ap window_first en)) (omega (arith, en))

    item_in_lem : (i j : ℕ) → i < next - first → R (nat (row_of (shapes d) b (order_row d w k (first + i)) 3)) j → R d.items (nat (line (row_of (shapes d) b (order_row d w k (first + i))) j 0))
    item_in_lem i j h s = let l = (order_in i h).lines j s in record { lo = l.item_low; hi = l.item_high }

    -- the stock row of an item
    at-stock : (x : ℕ) → R d.items x → (stock + 4 * (x - 1) ≡ place (shapes d) (on_hand w x)) × (stock + 4 * x ≤ length b)
    at-stock x s =
        let e = stock-run d w (x - 1) v.asked.w (omega arith) in
        let f : x - 1 + 1 ≡ x = omega arith in
        let g : place (shapes d) (stock_row w 1) + 4 * (x - 1) ≡ place (shapes d) (stock_row w x) = e.0 ∙ ap (λ (i : ℕ). place (shapes d) (stock_row w i)) f in
        let m : place (shapes d) (stock_row w x) + 4 ≤ numbers d = subst (λ (i : ℕ). place (shapes d) (stock_row w i) + 4 ≤ numbers d) f e.1 in
        (ap (λ (i : ℕ). i + 4 * (x - 1)) es ∙ g, omega (arith, g, m, es, s, v.booked.long))

    pub reads : (i : ℕ) → i < run.count → OrderReads b stock (row_in run i)
    reads i c =
        let h : i < next - first = omega (arith, c, r.count) in
        let o = row_of (shapes d) b (order_row d w k (first + i)) in
        let t : (nat (o 3) ≤ 15) × ((j : ℕ) → R (nat (o 3)) j → ItemReads b stock (nat (line o j 0))) =
        ((order_in i h).count_high, λ j s. record { low = (item_in_lem i j h s).lo; high = (at-stock (nat (line o j 0)) (item_in_lem i j h s)).1 }) in
        let u = subst (λ (f : ℕ → ℤ). (nat (f 3) ≤ 15) × ((j : ℕ) → R (nat (f 3)) j → ItemReads b stock (nat (line f j 0)))) (sym (order_is i h)) t in
        record { ends = omega (arith, r.ends i h, v.booked.long); lines = u.0; items = u.1 }

    items_are : (n : ℕ) → n ≤ next - first → items_in b run n ≡ window_items d b w k first n
    unfolding items_in window_items
    items_are zero h = refl
    items_are (suc n) h =
        ap (λ (l : List ℕ). l ++ line_items (from b (row_in run n))) (items_are n (omega arith))
        ∙ ap (λ (o : ℕ → ℤ). window_items d b w k first n ++ line_items o) (order_is n (omega arith))

    low-is : (threshold x : ℕ) → R d.items x → low_at b stock threshold x ≡ is_low d b w threshold x
    unfolding low_at is_low cell get
    low-is threshold x s = ap (λ (i : ℕ). ltb (nat (get_or b i (pos 0))) threshold) (at-stock x s).0

    lows : (threshold n : ℕ) → n ≤ next - first → AllIn (λ x. low_at b stock threshold x ≡ is_low d b w threshold x) (window_items d b w k first n)
    unfolding window_items line_items
    lows threshold zero h = tt
    lows threshold (suc n) h =
        let o = row_of (shapes d) b (order_row d w k (first + n)) in
        in_append (λ x. low_at b stock threshold x ≡ is_low d b w threshold x) (window_items d b w k first n) (up_to (nat (o 3)) (λ j. nat (line o j 0)))
        (lows threshold n (omega arith))
        (in_up (λ x. low_at b stock threshold x ≡ is_low d b w threshold x) (nat (o 3)) (λ j. nat (line o j 0)) (λ j s. low-is threshold (nat (line o j 0)) (item_in_lem n j (omega arith) s)))

    pub count_is : {l : List ℕ} {n : ℕ} → n ≡ length l → l ≡ note_all (low_at b stock q.threshold) [] (items_in b run run.count) → n ≡ low_items d b q
    unfolding low_items window_count
    count_is c e =
        let low = low_at b stock q.threshold in
        let m = next - first in
        let p = lows q.threshold m (omega arith) in
        c
        ∙ ap length
        (e
        ∙ ap (λ (i : ℕ). note_all low [] (items_in b run i)) r.count
        ∙ note_distinct low (items_in b run m)
        ∙ ap (λ (xs : List ℕ). keeping low (distinct xs)) (items_are m (omega arith))
        ∙ keeping_alike low (is_low d b w q.threshold) (distinct (window_items d b w k first m)) (in_distinct (λ x. low x ≡ is_low d b w q.threshold x) (window_items d b w k first m) p)
        ∙ ap (λ (i : ℕ). keeping (is_low d b w q.threshold) (distinct (window_items d b w k i (next - i)))) ef
        ∙ ap (λ (i : ℕ). keeping (is_low d b w q.threshold) (distinct (window_items d b w k (window_first i) (i - window_first i)))) en)
