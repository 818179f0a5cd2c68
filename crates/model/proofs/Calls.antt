-- Each call, committed or refused, keeps the book and the tally in agreement, and the tally within its bounds.
-- Assumes nothing.
use mathlib.Core.Path.{◌≡◌, refl, sym, ap, ◌∙◌, subst}
use mathlib.Core.Bool.{Bool, true, false, cond}
use mathlib.Core.List.{List, [], ◌∷◌}
use Prim.Native.Nat.{ℕ, suc, ◌≤◌, ◌<◌}
use native.Mathlib.Omega.{arith}
use lib.Dec.{eqb}
use lib.IntN.{ℤ}
use lib.ListN.{length}
use borrow.Author.Tests.{eqb-true}
use Rattle.model.specs.declared.Delivery.{Delivery}
use Rattle.model.specs.declared.Dims.{Dims}
use Rattle.model.specs.declared.Line.{Line}
use Rattle.model.specs.declared.NewOrder.{NewOrder}
use Rattle.model.specs.declared.Payment.{Payment}
use Rattle.model.specs.Numbers.{nat}
use Rattle.model.specs.Layout.{shapes}
use Rattle.model.specs.Store.{num, run}
use Rattle.model.specs.Rows.{history_count, next_order, price}
use Rattle.model.specs.Head.{dims}
use Rattle.model.specs.Names.{Who, customer_of, found_number}
use Rattle.model.specs.NewOrder.{new_order_fault, price_of, take_lines, join_ops, new_order_commit, new_order_book}
use Rattle.model.specs.Payment.{payment_fault, payer, pay_ops, payment_commit, payment_book}
use Rattle.model.specs.Delivery.{delivery_fault, delivery_commit, delivery_book}
use Rattle.model.specs.Request.{Request, new_order, payment, delivery, order_status, stock_level, Lent, fault_of, nums_after, after}
use Rattle.model.specs.Tally.{Opened, Tally, Order, N, worth, tally_payment, tally_lines, tally_order, tally_districts, count, tally, after_all, done_all}
use Rattle.model.specs.Claim.{R}
use Rattle.model.proofs.NumberLaws.{nat-pos}
use Rattle.model.proofs.RuleLaws.{Tabled, tabled, price-is}
use Rattle.model.proofs.RowFacts.{AllIn, all_in_map}
use Rattle.model.proofs.PaymentFacts.{PayReady, pay_ready}
use Rattle.model.proofs.NewOrderFacts.{LineReady, NewReady, new_ready, new_tabled, lines-ready}
use Rattle.model.proofs.DeliveryFacts.{DeliveryReady, delivery-ready}
use Rattle.model.proofs.OrderRows.{LineStep, Priced}
use Rattle.model.proofs.Parts.{Agrees}
use Rattle.model.proofs.StepPay.{PayStep, pay_agrees}
use Rattle.model.proofs.StepLine.{line_steps, lines_agree}
use Rattle.model.proofs.StepJoin.{NewStep, join-agrees}
use Rattle.model.proofs.StepDeliver.{next-num, delivers_agree}
use Rattle.model.proofs.Sane.{Sane, lines_leave, sane_pay, sane_new, sane_districts}
use Rattle.model.proofs.Booked.{Booked, booked_pay, booked-lines, booked-order, booked_districts}

pub record Good (D : Dims) (b₀ : List ℤ) (t : Tally) (b : List ℤ) : Type 0 where
  pub agrees : Agrees D b₀ t b
  pub sane : Sane D t
  pub booked : Booked t

-- the opening book's prices, and whom a Payment's who picks, at the size D
abbrev pub opened_at : Dims → List ℤ → List ℕ → Opened
opened_at D b₀ names = record {
  prices = λ i. num (shapes D) b₀ (price i);
  picks = λ w k who. found_number (customer_of D names w k who);
}

worth-same : (D : Dims) (f g : ℕ → ℕ) → ((i : ℕ) → R D.items i → f i ≡ g i) → (ls : List Line) → AllIn (LineStep D) ls → worth f ls ≡ worth g ls
worth-same D f g h [] r = refl
worth-same D f g h (l ∷ ls) r = cc (h l.item r.0.item, worth-same D f g h ls r.1)

module _ (D : Dims) (b₀ : List ℤ) (names : List ℕ) (t : Tally) (b : List ℤ) (g : Good D b₀ t b) where
  -- ── a committed call ──
  pay_step : (notes : List ℕ) (q : Payment) (who : Who) → PayReady D b names notes q who → Good D b₀ (tally_payment q (payer D names q who) t) (payment_commit D b q (payer D names q who))
  unfolding payment_commit
  pay_step notes q who r =
      let c = payer D names q who in
      let en : num (shapes D) b history_count ≡ length t.payments = ap nat g.agrees.head.count ∙ nat-pos (length t.payments) in
      let f : PayStep D t q c = record {
        w = r.asked.w;
        k = r.asked.k;
        cw = r.asked.cw;
        ck = r.asked.ck;
        payer = r.used.c;
        high = r.asked.amount_high;
        room = subst (λ (n : ℕ). n < D.histories) en r.used.room;
      } in
      record {
        agrees = subst (λ (h : ℕ). Agrees D b₀ (tally_payment q c t) (run (shapes D) (pay_ops h q c) b)) (sym en) (pay_agrees D b₀ t b g.agrees q c f);
        sane = sane_pay D t q c g.sane r.asked.amount_high;
        booked = booked_pay t q c r.asked.k g.booked;
      }

  new_step : (topup : List ℤ) (n : ℕ) (q : NewOrder) (ls : List Line) → Tabled D topup → NewReady D b n q ls
      → Good D b₀ (tally_order q.warehouse q.district (record { customer = q.customer; sum = worth (opened_at D b₀ names).prices ls }) (tally_lines ls t)) (new_order_commit D b topup q ls)
  unfolding new_order_commit
  new_step topup n q ls u r =
      let ready = lines-ready D b n q ls r in
      let ranges = line_steps D b ls ready in
      let pr : ℕ → ℕ = price_of D b in
      let is : (i : ℕ) → pr i ≡ num (shapes D) b (price i) = price-is D b in
      let priced : AllIn (Priced pr) ls = all_in_map (LineReady D b) (Priced pr) (λ l p. record { low = rw (is l.item) p.used.price_low; high = rw (is l.item) p.used.price_high }) ls ready in
      let left = lines_leave ls t in
      let en₁ : N (tally_lines ls t) q.warehouse q.district ≡ N t q.warehouse q.district = ap (λ (f : ℕ → ℕ → List Order). length (f q.warehouse q.district)) left.orders in
      let en : num (shapes D) b (next_order q.warehouse q.district) ≡ suc (N (tally_lines ls t) q.warehouse q.district) =
      next-num D b₀ t b g.agrees q.warehouse q.district r.asked.w r.asked.k ∙ ap suc (sym en₁) in
      let es : worth pr ls ≡ worth (opened_at D b₀ names).prices ls = worth-same D pr (opened_at D b₀ names).prices (λ i s. is i ∙ ap nat (g.agrees.item.prices i s)) ls ranges in
      let f : NewStep D (tally_lines ls t) pr q ls = record {
        w = r.asked.w;
        k = r.asked.k;
        c = r.asked.c;
        date = r.asked.date;
        count = r.asked.count;
        lines = ranges;
        priced = priced;
        room = subst (λ (i : ℕ). i ≤ D.orders) en r.used.next.hi;
      } in
      let a = join-agrees D b₀ (tally_lines ls t) (take_lines D topup q.warehouse ls b) (lines_agree D b₀ topup u q.warehouse ls ranges t b g.agrees) pr q ls f in
      let a' = subst (λ (i : ℕ). Agrees D b₀ (tally_order q.warehouse q.district (record { customer = q.customer; sum = worth pr ls }) (tally_lines ls t)) (run (shapes D) (join_ops D pr i q ls) (take_lines D topup q.warehouse ls b))) (sym en) a in
      let s = sane_new D t q ls pr g.sane r.asked.w r.asked.k r.asked.count.hi ranges priced in
      subst (λ (i : ℕ). Good D b₀ (tally_order q.warehouse q.district (record { customer = q.customer; sum = i }) (tally_lines ls t)) (run (shapes D) (join_ops D pr (num (shapes D) b (next_order q.warehouse q.district)) q ls) (take_lines D topup q.warehouse ls b))) es
      (record { agrees = a'; sane = s; booked = booked-order q.warehouse q.district (record { customer = q.customer; sum = worth pr ls }) (tally_lines ls t) (booked-lines ls t g.booked) })

  deliver_step : (n : ℕ) (q : Delivery) → DeliveryReady D b n q → Good D b₀ (tally_districts q.warehouse 10 t) (delivery_commit D b q)
  unfolding delivery_commit
  deliver_step n q r = record {
    agrees = delivers_agree D b₀ q r.asked 10 (omega arith) t b g.agrees;
    sane = sane_districts D q.warehouse 10 t g.sane;
    booked = booked_districts q.warehouse 10 t g.booked;
  }

  -- ── any call ──
  pay_any : (notes : List ℕ) (q : Payment) (who : Who)
      → Good D b₀ (cond (eqb (payment_fault b names notes q who).number 0) (tally_payment q (payer D names q who) t) t) (payment_book b names notes q who)
  unfolding payment_book
  pay_any notes q who = go (eqb (payment_fault b names notes q who).number 0) refl
    where
      go : (x : Bool) → eqb (payment_fault b names notes q who).number 0 ≡ x
          → Good D b₀ (cond x (tally_payment q (payer D names q who) t) t) (cond x (payment_commit (dims b) b q (payer (dims b) names q who)) b)
      go false e = g
      go true e =
          let r : PayReady D b names notes q who = subst (λ (d : Dims). PayReady d b names notes q who) g.agrees.head.head (pay_ready b names notes q who (eqb-true _ _ e)) in
          subst (λ (d : Dims). Good D b₀ (tally_payment q (payer D names q who) t) (payment_commit d b q (payer d names q who))) (sym g.agrees.head.head) (pay_step notes q who r)

  new_any : (last topup : List ℤ) (q : NewOrder) (ls : List Line)
      → Good D b₀ (cond (eqb (new_order_fault b names last topup q ls).number 0)
      (tally_order q.warehouse q.district (record { customer = q.customer; sum = worth (opened_at D b₀ names).prices ls }) (tally_lines ls t)) t) (new_order_book b names last topup q ls)
  unfolding new_order_book
  new_any last topup q ls = go (eqb (new_order_fault b names last topup q ls).number 0) refl
    where
      go : (x : Bool) → eqb (new_order_fault b names last topup q ls).number 0 ≡ x
          → Good D b₀ (cond x (tally_order q.warehouse q.district (record { customer = q.customer; sum = worth (opened_at D b₀ names).prices ls }) (tally_lines ls t)) t)
          (cond x (new_order_commit (dims b) b topup q ls) b)
      go false e = g
      go true e =
          let r : NewReady D b (length names) q ls = subst (λ (d : Dims). NewReady d b (length names) q ls) g.agrees.head.head (new_ready b names last topup q ls (eqb-true _ _ e)) in
          let u : Tabled D topup = subst (λ (d : Dims). Tabled d topup) g.agrees.head.head (tabled (dims b) topup (new_tabled b names last topup q ls (eqb-true _ _ e))) in
          subst (λ (d : Dims). Good D b₀ (tally_order q.warehouse q.district (record { customer = q.customer; sum = worth (opened_at D b₀ names).prices ls }) (tally_lines ls t)) (new_order_commit d b topup q ls)) (sym g.agrees.head.head)
          (new_step topup (length names) q ls u r)

  deliver_any : (q : Delivery) → Good D b₀ (cond (eqb (delivery_fault b names q).number 0) (tally_districts q.warehouse 10 t) t) (delivery_book b names q)
  unfolding delivery_book
  deliver_any q = go (eqb (delivery_fault b names q).number 0) refl
    where
      go : (x : Bool) → eqb (delivery_fault b names q).number 0 ≡ x → Good D b₀ (cond x (tally_districts q.warehouse 10 t) t) (cond x (delivery_commit (dims b) b q) b)
      go false e = g
      go true e =
          let r : DeliveryReady D b (length names) q = subst (λ (d : Dims). DeliveryReady d b (length names) q) g.agrees.head.head (delivery-ready b names q (eqb-true _ _ e)) in
          subst (λ (d : Dims). Good D b₀ (tally_districts q.warehouse 10 t) (delivery_commit d b q)) (sym g.agrees.head.head) (deliver_step (length names) q r)

  idle : (x : Bool) → Good D b₀ (cond x t t) b
  idle true = g
  idle false = g

-- ── any call, whatever is lent beside numbers and names ──
module _ (D : Dims) (b₀ : List ℤ) where
  -- what a call counts
  abbrev pub counted : Tally → Lent → Request → Tally
  counted t s r = cond (eqb (fault_of s r).number 0) (count (opened_at D b₀ s.names) r t) t

  pub call_step : (t : Tally) (s : Lent) → Good D b₀ t s.nums → (r : Request) → Good D b₀ (counted t s r) (nums_after s r)
  unfolding fault_of nums_after count payer
  call_step t s g (new_order q ls) = new_any D b₀ s.names t s.nums g s.last s.topup q ls
  call_step t s g (payment q who) = pay_any D b₀ s.names t s.nums g s.notes q who
  call_step t s g (delivery q) = deliver_any D b₀ s.names t s.nums g q
  call_step t s g (order_status q who) = idle D b₀ s.names t s.nums g (eqb (fault_of s (order_status q who)).number 0)
  call_step t s g (stock_level q) = idle D b₀ s.names t s.nums g (eqb (fault_of s (stock_level q)).number 0)

  -- ── any list ──
  pub list_step : (rs : List Request) (t : Tally) (s : Lent) → Good D b₀ t s.nums → Good D b₀ (tally (opened_at D b₀ s.names) (done_all s rs) t) (after_all s rs).nums
  list_step [] t s g = g
  list_step (r ∷ rs) t s g = list_step rs (counted t s r) (after s r) (call_step t s g r)
