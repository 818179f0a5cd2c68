-- What no call changes, from any book: its length, the head's five sizes and every customer's credit.
-- Assumes nothing.
use mathlib.Core.Path.{◌≡◌, refl, ap, ◌∙◌}
use mathlib.Core.Bool.{Bool, true, false, cond, true≢false}
use mathlib.Core.List.{List, [], ◌∷◌}
use Prim.Native.Nat.{ℕ, zero, suc, ◌-◌, ◌≤◌}
use native.Mathlib.Omega.{arith}
use lib.Dec.{eqb}
use lib.IntN.{ℤ}
use lib.ListN.{length}
use borrow.Author.Tests.{eqb-true}
use Rattle.model.specs.declared.Delivery.{Delivery}
use Rattle.model.specs.declared.Dims.{Dims}
use Rattle.model.specs.declared.Line.{Line}
use Rattle.model.specs.declared.NewOrder.{NewOrder}
use Rattle.model.specs.declared.Payment.{Payment}
use Rattle.model.specs.Numbers.{nat}
use Rattle.model.specs.Layout.{shapes, total, Addr, at}
use Rattle.model.specs.Store.{get, num, row_of, Op, run}
use Rattle.model.specs.Rows.{history_count, next_order, customer_row, on_hand, order_row, order_customer, line_count}
use Rattle.model.specs.Lists.{sum_of}
use Rattle.model.specs.Head.{dims}
use Rattle.model.specs.Names.{Who}
use Rattle.model.specs.NewOrder.{new_order_fault, price_of, line_ops, take_lines, join_ops, new_order_commit, new_order_book}
use Rattle.model.specs.Payment.{payment_fault, payer, pay_ops, payment_commit, payment_book}
use Rattle.model.specs.Delivery.{delivery_fault, oldest, line_amounts, deliver_ops, deliver_order, deliver_district, deliver_to, delivery_commit, delivery_book}
use Rattle.model.specs.Request.{Request, new_order, payment, delivery, order_status, stock_level, Lent, nums_after}
use Rattle.model.specs.Claim.{R}
use Rattle.model.proofs.Places.{Valid, row_same}
use Rattle.model.proofs.Frame.{Fine, seen, get-run, length_run}
use Rattle.model.proofs.Fields.{v0, v2, v3, v5, v6, slot_in}
use Rattle.model.proofs.RowFacts.{AllIn, book_long}
use Rattle.model.proofs.PaymentFacts.{pay_ready, pay_ready_fine}
use Rattle.model.proofs.NewOrderFacts.{LineReady, new_ready, lines-ready, line-fine, new_ready_fine}
use Rattle.model.proofs.DeliveryFacts.{DeliveryReady, delivery-ready, oldest_in_lem, deliver_fine}
use Rattle.model.proofs.Parts.{dims-same}

-- b' has the length of b, the sizes d and the credits of b
pub record Steady (d : Dims) (b b' : List ℤ) : Type 0 where
  pub len : length b' ≡ length b
  pub head : dims b' ≡ d
  pub credit : (w k c : ℕ) → R d.warehouses w → R 10 k → R d.customers c → get (shapes d) b' (customer_row w k c) ≡ get (shapes d) b (customer_row w k c)

steady-same : (b : List ℤ) → Steady (dims b) b b
steady-same b = record { len = refl; head = refl; credit = λ w k c r s u. refl }

-- changes that write none of the five sizes and no credit: `refl`s for a literal list
abbrev Spares : List Op → Type 0
Spares os =
    (v : ℤ)
    → (seen (at 0 1 1 1 0) os v ≡ v)
    × ((seen (at 0 1 1 1 1) os v ≡ v)
    × ((seen (at 0 1 1 1 2) os v ≡ v)
    × ((seen (at 0 1 1 1 3) os v ≡ v)
    × ((seen (at 0 1 1 1 4) os v ≡ v)
    × ((w k c : ℕ) → seen (customer_row w k c) os v ≡ v)))))

module _ (d : Dims) (b : List ℤ) (long : length b ≡ total (shapes d)) where
  steady-run : (b₁ : List ℤ) (os : List Op) → Fine (shapes d) os → Spares os → Steady d b b₁ → Steady d b (run (shapes d) os b₁)
  steady-run b₁ os fine spares s = record {
    len = length_run (shapes d) os b₁ ∙ s.len;
    head =
        dims-same d b₁ (run (shapes d) os b₁)
        (look (at 0 1 1 1 0) (v0 d 0 (omega arith)) ∙ (spares _).0)
        (look (at 0 1 1 1 1) (v0 d 1 (omega arith)) ∙ (spares _).1.0)
        (look (at 0 1 1 1 2) (v0 d 2 (omega arith)) ∙ (spares _).1.1.0)
        (look (at 0 1 1 1 3) (v0 d 3 (omega arith)) ∙ (spares _).1.1.1.0)
        (look (at 0 1 1 1 4) (v0 d 4 (omega arith)) ∙ (spares _).1.1.1.1.0) s.head;
    credit = λ w k c x y z. look (customer_row w k c) (v3 d x y z 0 (omega arith)) ∙ (spares _).1.1.1.1.1 w k c ∙ s.credit w k c x y z;
  }
    where
      look : (a : Addr) → Valid (shapes d) a → get (shapes d) (run (shapes d) os b₁) a ≡ seen a os (get (shapes d) b₁ a)
      look a v = get-run (shapes d) os b₁ a (s.len ∙ long) fine v

  -- the lines of a New-Order, in turn
  lines-steady : (topup : List ℤ) (w : ℕ) (ls : List Line) → AllIn (LineReady d b) ls → (b₁ : List ℤ) → Steady d b b₁ → Steady d b (take_lines d topup w ls b₁)
  lines-steady topup w [] f b₁ s = s
  lines-steady topup w (l ∷ ls) f b₁ s =
      lines-steady topup w ls f.1 (run (shapes d) (line_ops topup w l) b₁)
      (steady-run b₁ (line_ops topup w l) (line-fine d topup w l f.0.asked.supply f.0.used.item) (λ v. (refl, (refl, (refl, (refl, (refl, λ x y z. refl)))))) s)

-- ── Delivery: the next order numbers and the orders' customers stay too, so that each district finds an order and a customer of the book ──
record Handing (d : Dims) (b b' : List ℤ) : Type 0 where
  pub steady : Steady d b b'
  pub next : (w k : ℕ) → R d.warehouses w → R 10 k → get (shapes d) b' (next_order w k) ≡ get (shapes d) b (next_order w k)
  pub buyer : (w k o : ℕ) → R d.warehouses w → R 10 k → R d.orders o → get (shapes d) b' (order_customer d w k o) ≡ get (shapes d) b (order_customer d w k o)
  pub hand : (w i : ℕ) → R d.warehouses w → R d.items i → get (shapes d) b' (on_hand w i) ≡ get (shapes d) b (on_hand w i)

cond_same : (x : Bool) (v : ℤ) → cond x v v ≡ v
cond_same true v = refl
cond_same false v = refl

module _ (d : Dims) (b : List ℤ) (n : ℕ) (q : Delivery) (r : DeliveryReady d b n q) where
  -- order o of customer c is handed over
  hand-kept : (k o c sum m : ℕ) → R 10 k → R d.orders o → R d.customers c → (b₁ : List ℤ) → Handing d b b₁
      → Handing d b (run (shapes d) (deliver_ops d q k o c sum m) b₁)
  hand-kept k o c sum m rk ro rc b₁ h = record {
    steady = steady-run d b (book_long r.shaped) b₁ ops fine (λ v. (refl, (refl, (refl, (refl, (refl, λ x y z. refl)))))) h.steady;
    next = λ w j x y. look (next_order w j) (v2 d x y 2 (omega arith)) ∙ h.next w j x y;
    buyer = λ w j p x y z.
        look (order_customer d w j p) (v6 d x y (slot_in d z) 0 (omega arith))
        ∙ cond_same (row_same (order_customer d w j p) (order_row d q.warehouse k o)) _
        ∙ h.buyer w j p x y z;
    hand = λ w i x y. look (on_hand w i) (v5 d x y 0 (omega arith)) ∙ h.hand w i x y;
  }
    where
      ops : List Op
      ops = deliver_ops d q k o c sum m

      fine : Fine (shapes d) ops
      fine = deliver_fine d q k o c sum m r.asked.w rk ro rc

      look : (a : Addr) → Valid (shapes d) a → get (shapes d) (run (shapes d) ops b₁) a ≡ seen a ops (get (shapes d) b₁ a)
      look a v = get-run (shapes d) ops b₁ a (h.steady.len ∙ book_long r.shaped) fine v

  district-kept : (k : ℕ) → R 10 k → (b₁ : List ℤ) → Handing d b b₁ → Handing d b (deliver_district d q k b₁)
  unfolding deliver_district deliver_order
  district-kept k rk b₁ h = go (oldest d b₁ q.warehouse k) refl
    where
      go : (o : ℕ) → oldest d b₁ q.warehouse k ≡ o → Handing d b (deliver_order d q k o b₁)
      go zero e = h
      go (suc o) e =
          let u = r.used.each k rk in
          let n = next_order q.warehouse k in
          let en : num (shapes d) b₁ n ≡ num (shapes d) b n = ap nat (h.next q.warehouse k r.asked.w rk) in
          let x : R (num (shapes d) b n - 1) (suc o) = omega (arith, en, oldest_in_lem d b₁ q.warehouse k o e) in
          let ro : R d.orders (suc o) = omega (arith, x, u.district.next_high) in
          let a = order_customer d q.warehouse k (suc o) in
          let ec : num (shapes d) b₁ a ≡ num (shapes d) b a = ap nat (h.buyer q.warehouse k (suc o) r.asked.w rk ro) in
          let i = u.orders (suc o) x in
          let rc : R d.customers (num (shapes d) b₁ a) = omega (arith, ec, i.customer_low, i.customer_high) in
          hand-kept k (suc o) (num (shapes d) b₁ a)
          (sum_of (line_amounts (row_of (shapes d) b₁ (order_row d q.warehouse k (suc o)))))
          (num (shapes d) b₁ (line_count d q.warehouse k (suc o))) rk ro rc b₁ h

  districts_kept : (m : ℕ) → m ≤ 10 → Handing d b b → Handing d b (deliver_to d q m b)
  unfolding deliver_to
  districts_kept zero h s = s
  districts_kept (suc m) h s = district-kept (suc m) (record { lo = omega arith; hi = h }) (deliver_to d q m b) (districts_kept m (omega arith) s)

-- ── any call ──
-- a call that is refused leaves the book
if_done : (b b' : List ℤ) (x : Bool) → (x ≡ true → Steady (dims b) b b') → Steady (dims b) b (cond x b' b)
if_done b b' true h = h refl
if_done b b' false h = steady-same b

pay_steady : (b : List ℤ) (names notes : List ℕ) (q : Payment) (who : Who) → Steady (dims b) b (payment_book b names notes q who)
unfolding payment_book payment_commit
pay_steady b names notes q who = if_done b (payment_commit (dims b) b q (payer (dims b) names q who)) (eqb (payment_fault b names notes q who).number 0) (λ e.
    let r = pay_ready b names notes q who (eqb-true _ _ e) in
    let ops = pay_ops (num (shapes (dims b)) b history_count) q (payer (dims b) names q who) in
    steady-run (dims b) b (book_long r.shaped) b ops (pay_ready_fine (dims b) b names notes q who r) (λ v. (refl, (refl, (refl, (refl, (refl, λ x y z. refl)))))) (steady-same b))

new_steady : (b : List ℤ) (names : List ℕ) (last topup : List ℤ) (q : NewOrder) (ls : List Line) → Steady (dims b) b (new_order_book b names last topup q ls)
unfolding new_order_book new_order_commit
new_steady b names last topup q ls = if_done b (new_order_commit (dims b) b topup q ls) (eqb (new_order_fault b names last topup q ls).number 0) (λ e.
    let r = new_ready b names last topup q ls (eqb-true _ _ e) in
    let lines = lines-steady (dims b) b (book_long r.shaped) topup q.warehouse ls (lines-ready (dims b) b (length names) q ls r) b (steady-same b) in
    let ops = join_ops (dims b) (price_of (dims b) b) (num (shapes (dims b)) b (next_order q.warehouse q.district)) q ls in
    steady-run (dims b) b (book_long r.shaped) (take_lines (dims b) topup q.warehouse ls b) ops (new_ready_fine (dims b) b (length names) (price_of (dims b) b) q ls r)
    (λ v. (refl, (refl, (refl, (refl, (refl, λ x y z. refl)))))) lines)

delivered-kept : (b : List ℤ) (names : List ℕ) (q : Delivery) → Handing (dims b) b (delivery_book b names q)
unfolding delivery_book delivery_commit
delivered-kept b names q = go (eqb (delivery_fault b names q).number 0) refl
  where
    same : Handing (dims b) b b
    same = record { steady = steady-same b; next = λ w k x y. refl; buyer = λ w k o x y z. refl; hand = λ w i x y. refl }

    go : (x : Bool) → eqb (delivery_fault b names q).number 0 ≡ x → Handing (dims b) b (cond x (deliver_to (dims b) q 10 b) b)
    go false e = same
    go true e = districts_kept (dims b) b (length names) q (delivery-ready b names q (eqb-true _ _ e)) 10 (omega arith) same

pub steady-call : (s : Lent) (r : Request) → Steady (dims s.nums) s.nums (nums_after s r)
unfolding nums_after
steady-call s (new_order q ls) = new_steady s.nums s.names s.last s.topup q ls
steady-call s (payment q who) = pay_steady s.nums s.names s.notes q who
steady-call s (delivery q) = (delivered-kept s.nums s.names q).steady
steady-call s (order_status q who) = steady-same s.nums
steady-call s (stock_level q) = steady-same s.nums

-- ── on hand: New-Order alone writes it ──
pay_hands : (b : List ℤ) (names notes : List ℕ) (q : Payment) (who : Who) (w i : ℕ) → R (dims b).warehouses w → R (dims b).items i
    → get (shapes (dims b)) (payment_book b names notes q who) (on_hand w i) ≡ get (shapes (dims b)) b (on_hand w i)
unfolding payment_book payment_commit
pay_hands b names notes q who w i x y = go (eqb (payment_fault b names notes q who).number 0) refl
  where
    go : (t : Bool) → eqb (payment_fault b names notes q who).number 0 ≡ t
        → get (shapes (dims b)) (cond t (payment_commit (dims b) b q (payer (dims b) names q who)) b) (on_hand w i) ≡ get (shapes (dims b)) b (on_hand w i)
    go false e = refl
    go true e =
        let r = pay_ready b names notes q who (eqb-true _ _ e) in
        get-run (shapes (dims b)) (pay_ops (num (shapes (dims b)) b history_count) q (payer (dims b) names q who)) b (on_hand w i) (book_long r.shaped)
        (pay_ready_fine (dims b) b names notes q who r) (v5 (dims b) x y 0 (omega arith))

abbrev pub ordering : Request → Bool
ordering (new_order q ls) = true
ordering (payment q who) = false
ordering (delivery q) = false
ordering (order_status q who) = false
ordering (stock_level q) = false

pub hands-kept : (s : Lent) (r : Request) → ordering r ≡ false → (w i : ℕ) → R (dims s.nums).warehouses w → R (dims s.nums).items i
    → get (shapes (dims s.nums)) (nums_after s r) (on_hand w i) ≡ get (shapes (dims s.nums)) s.nums (on_hand w i)
unfolding nums_after
hands-kept s (new_order q ls) e w i x y = absurd (true≢false e)
hands-kept s (payment q who) e w i x y = pay_hands s.nums s.names s.notes q who w i x y
hands-kept s (delivery q) e w i x y = (delivered-kept s.nums s.names q).hand w i x y
hands-kept s (order_status q who) e w i x y = refl
hands-kept s (stock_level q) e w i x y = refl
