-- R-1: the slice of last orders after every list of the five calls from a book that opening accepts.
-- Assumes nothing.
use mathlib.Core.Path.{◌≡◌, refl, sym, subst}
use mathlib.Core.Logic.{◌≢◌}
use mathlib.Core.Bool.{Bool, true, false, cond}
use mathlib.Core.List.{List, [], ◌∷◌, ◌++◌}
use Prim.Native.Nat.{ℕ}
use native.Mathlib.Omega.{arith}
use lib.Dec.{eqb}
use lib.IntN.{ℤ}
use lib.ListN.{length}
use borrow.Author.Tests.{eqb-true}
use Rattle.model.specs.declared.Dims.{Dims}
use Rattle.model.specs.declared.Line.{Line}
use Rattle.model.specs.declared.NewOrder.{NewOrder}
use Rattle.model.specs.declared.OrderStatus.{OrderStatus}
use Rattle.model.specs.Tests.{Check, chk, fault}
use Rattle.model.specs.Head.{dims, head_ok}
use Rattle.model.specs.Names.{Who}
use Rattle.model.specs.NewOrder.{new_asked, new_used, new_order_fault, new_order_noted, new_order_last}
use Rattle.model.specs.Payment.{pay_asked, pay_used, pay_first, payment_fault}
use Rattle.model.specs.Delivery.{delivery_asked, delivery_used, delivery_fault}
use Rattle.model.specs.OrderStatus.{status_asked, status_used, status_fault, status_customer, status_order}
use Rattle.model.specs.StockLevel.{level_asked, level_used, stock_level_fault}
use Rattle.model.specs.Request.{Request, new_order, payment, delivery, order_status, stock_level, Lent, lent, fault_of, last_after, after}
use Rattle.model.specs.Tally.{Tally, Order, worth, tally_lines, tally_order, tally_payment, tally_districts, count, start, tally, opened_of, after_all, done_all, tallied}
use Rattle.model.specs.Claim.{Started, LastOrders, NeverBy, LastServes}
use Rattle.model.proofs.TestLaws.{PassAt, not_answered, in_range}
use Rattle.model.proofs.NameLaws.{found_number_lem}
use Rattle.model.proofs.NewOrderFacts.{NewAsked, new_ready}
use Rattle.model.proofs.Calls.{Good, opened_at, counted, call_step}
use Rattle.model.proofs.Never.{avoided, behind}
use Rattle.model.proofs.LastLaws.{Lasts, lasts-start, lasts_pay, lasts_districts, lasts_new, lasts-scan, lasts-long, lasts-ok, lasts-found}
use Rattle.model.proofs.Demand.{history_good}

module _ (D : Dims) (b₀ : List ℤ) (names : List ℕ) (t : Tally) (b : List ℤ) (g : Good D b₀ t b) (last : List ℤ) (l : Lasts D t last) (topup : List ℤ) where
  -- ── one call keeps slice and tally together ──
  new_lasts : (q : NewOrder) (ls : List Line)
      → Lasts D (cond (eqb (new_order_fault b names last topup q ls).number 0) (count (opened_at D b₀ names) (new_order q ls) t) t) (new_order_last b names last topup q ls)
  unfolding new_order_last new_order_noted count
  new_lasts q ls = go (eqb (new_order_fault b names last topup q ls).number 0) refl
    where
      o : Order
      o = record { customer = q.customer; sum = worth (opened_at D b₀ names).prices ls }

      go : (x : Bool) → eqb (new_order_fault b names last topup q ls).number 0 ≡ x
          → Lasts D (cond x (tally_order q.warehouse q.district o (tally_lines ls t)) t) (cond x (new_order_noted (dims b) b last q) last)
      go false e = l
      go true e =
          let a = subst (λ (d : Dims). NewAsked d q ls) g.agrees.head.head (new_ready b names last topup q ls (eqb-true _ _ e)).asked in
          subst (λ (d : Dims). Lasts D (tally_order q.warehouse q.district o (tally_lines ls t)) (new_order_noted d b last q)) (sym g.agrees.head.head)
          (lasts_new D b₀ t b g q.warehouse q.district a.w a.k last l ls o a.c)

  -- a call that does not write the slice
  unwritten : (x : Bool) (t' : Tally) → Lasts D t' last → Lasts D (cond x t' t) last
  unwritten true t' h = h
  unwritten false t' h = l

  lasts-call : (notes : List ℕ) (r : Request) → Lasts D (counted D b₀ t (lent b names last notes topup) r) (last_after (lent b names last notes topup) r)
  unfolding fault_of last_after count
  lasts-call notes (new_order q ls) = new_lasts q ls
  lasts-call notes (payment q who) =
      let c = (opened_at D b₀ names).picks q.custwarehouse q.custdistrict who in
      unwritten (eqb (payment_fault b names notes q who).number 0) (tally_payment q c t) (lasts_pay D q c t last l)
  lasts-call notes (delivery q) = unwritten (eqb (delivery_fault b names q).number 0) (tally_districts q.warehouse 10 t) (lasts_districts D q.warehouse 10 t last l)
  lasts-call notes (order_status q who) = unwritten (eqb (status_fault b names last q who).number 0) t l
  lasts-call notes (stock_level q) = unwritten (eqb (stock_level_fault b names q).number 0) t l

  -- ── 13, call by call ──
  new_13 : (q : NewOrder) (ls : List Line) → PassAt 13 (new_asked D q ls ++ new_used D b last topup q ls)
  unfolding new_asked new_used
  new_13 q ls = behind 13 (new_asked D q ls) (new_used D b last topup q ls) refl (λ h.
      let w = in_range q.warehouse D.warehouses h.0 in
      let k = in_range q.district 10 h.1.0 in
      let ok = lasts-ok D b₀ t b g q.warehouse q.district w k last l in
      (tt, λ _. (tt, λ _. (tt, λ _. (tt, λ _. (lasts-long D t last l, λ _. (ok, λ _. (tt, λ _. (tt, λ _. (tt, λ _. tt))))))))))

  status_13 : (q : OrderStatus) (who : Who) → PassAt 13 (status_asked D q who ++ status_used D b names last q who)
  unfolding status_asked status_used status_customer status_order
  status_13 q who = behind 13 (status_asked D q who) (status_used D b names last q who) refl (λ h.
      let w = in_range q.warehouse D.warehouses h.0 in
      let k = in_range q.district 10 h.1.0 in
      let ok = lasts-ok D b₀ t b g q.warehouse q.district w k last l in
      let found = lasts-found D b₀ t b g q.warehouse q.district w k last l (status_customer D names q who) in
      (tt, λ _. (tt, λ _. (tt, λ e. (lasts-long D t last l, λ _. (ok, λ _. (found (found_number_lem D names q.warehouse q.district who h.1.1.0 e), λ _. tt)))))))

  -- the tests at the book's own size
  not_13 : (f : Dims → List Check) → PassAt 13 (f D) → (fault (chk (head_ok b (length names)) 2 ∷ f (dims b))).number ≢ 13
  not_13 f p =
      not_answered 13 (chk (head_ok b (length names)) 2 ∷ f (dims b)) (omega arith) (tt, λ _. subst (λ (d : Dims). PassAt 13 (f d)) (sym g.agrees.head.head) p)

  serves_call : (notes : List ℕ) (r : Request) → (fault_of (lent b names last notes topup) r).number ≢ 13
  unfolding fault_of new_order_fault payment_fault delivery_fault status_fault stock_level_fault pay_asked pay_used delivery_asked delivery_used level_asked level_used
  serves_call notes (new_order q ls) = not_13 (λ d. new_asked d q ls ++ new_used d b last topup q ls) (new_13 q ls)
  serves_call notes (payment q who) = not_13 (λ d. pay_first d notes q who ++ pay_used d b names q who) (avoided 13 (pay_first D notes q who ++ pay_used D b names q who) refl)
  serves_call notes (delivery q) = not_13 (λ d. delivery_asked d q ++ delivery_used d b q) (avoided 13 (delivery_asked D q ++ delivery_used D b q) refl)
  serves_call notes (order_status q who) = not_13 (λ d. status_asked d q who ++ status_used d b names last q who) (status_13 q who)
  serves_call notes (stock_level q) = not_13 (λ d. level_asked d q ++ level_used d b q) (avoided 13 (level_asked D q ++ level_used D b q) refl)

-- ── any list ──
module _ (D : Dims) (b₀ : List ℤ) where
  -- one call more
  pub next-lasts : (t : Tally) (s : Lent) → Good D b₀ t s.nums → Lasts D t s.last → (r : Request) → Lasts D (counted D b₀ t s r) (last_after s r)
  next-lasts t s g l r = lasts-call D b₀ s.names t s.nums g s.last l s.topup s.notes r

  lasts_list : (rs : List Request) (t : Tally) (s : Lent) → Good D b₀ t s.nums → Lasts D t s.last
      → Lasts D (tally (opened_at D b₀ s.names) (done_all s rs) t) (after_all s rs).last
  lasts_list [] t s g l = l
  lasts_list (r ∷ rs) t s g l = lasts_list rs (counted D b₀ t s r) (after s r) (call_step D b₀ t s g r) (next-lasts t s g l r)

  pub serves_next : (t : Tally) (s : Lent) → Good D b₀ t s.nums → Lasts D t s.last → (r : Request) → (fault_of s r).number ≢ 13
  serves_next t s g l r = serves_call D b₀ s.names t s.nums g s.last l s.topup s.notes r

  serves_list : (rs : List Request) (t : Tally) (s : Lent) → Good D b₀ t s.nums → Lasts D t s.last → NeverBy 13 (done_all s rs)
  serves_list [] t s g l = tt
  serves_list (r ∷ rs) t s g l =
      (serves_next t s g l r, serves_list rs (counted D b₀ t s r) (after s r) (call_step D b₀ t s g r) (next-lasts t s g l r))

-- all 0 is the empty tally's slice
pub started_lasts : (s : Lent) → Started s → Lasts (dims s.nums) start s.last
started_lasts s h = subst (λ (last : List ℤ). Lasts (dims s.nums) start last) (sym h.zeros) (lasts-start (dims s.nums))

-- the slice and the tally after any list
history-lasts : (s : Lent) → Started s → (rs : List Request)
    → Lasts (dims s.nums) (tallied s rs) (after_all s rs).last
unfolding opened_of
history-lasts s h rs = lasts_list (dims s.nums) s.nums rs start s (history_good s h.accepted []) (started_lasts s h)

-- "each number is the one the scan would find"
pub last-orders : LastOrders
last-orders s h rs =
    let D = dims s.nums in
    let t = tallied s rs in
    let l = history-lasts s h rs in
    (l.long, λ w k c r d u. lasts-scan D s.nums t (after_all s rs).nums (history_good s h.accepted rs) w k r d (after_all s rs).last l c u)

-- 13 is never answered
pub last_serves : LastServes
last_serves s h rs = serves_list (dims s.nums) s.nums rs start s (history_good s h.accepted []) (started_lasts s h)
