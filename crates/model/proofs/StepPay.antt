-- A committed payment keeps the book and the tally in agreement.
-- Assumes nothing.
use mathlib.Core.Path.{◌≡◌, refl, sym, ap, ◌∙◌}
use mathlib.Core.Bool.{Bool, true, false, cond}
use mathlib.Core.List.{List, [], ◌∷◌, ◌++◌}
use Prim.Native.Nat.{ℕ, suc, ◌+◌, ◌≤◌, ◌<◌}
use native.Mathlib.Nat.{suc_inj}
use native.Mathlib.Omega.{arith}
use lib.Dec.{eqb}
use lib.IntN.{ℤ, pos}
use lib.ListN.{length, get_or, length-append, get_or-append}
use lib.Seq.{get_or-append_seam}
use borrow.Author.Tests.{eqb-true, eqb-false}
use Rattle.model.specs.declared.Dims.{Dims}
use Rattle.model.specs.declared.Payment.{Payment}
use Rattle.model.specs.Layout.{shapes, Addr, at}
use Rattle.model.specs.Store.{get, run}
use Rattle.model.specs.Rows.{history_count, warehouse_tax, warehouse_ytd, district_tax, district_ytd, next_order, customer_row, discount, balance, ytd_payment, payment_cnt, delivery_cnt, history_col}
use Rattle.model.specs.Payment.{pay_ops, history_numbers}
use Rattle.model.specs.Tally.{Tally, Paid, is2, is3, tally_payment}
use Rattle.model.specs.Claim.{R, no_paid}
use Rattle.model.proofs.Places.{Valid}
use Rattle.model.proofs.Frame.{seen, get-run, length_run}
use Rattle.model.proofs.Fields.{v0, v1, v2, v3, v7}
use Rattle.model.proofs.PaymentFacts.{pay_fine}
use Rattle.model.proofs.Parts.{Agrees, is_payer, times_more, dims-same, item-same, stock-same, order_same, bumped, paid-from}

-- what a committed payment by customer c is known by
pub record PayStep (D : Dims) (t : Tally) (q : Payment) (c : ℕ) : Type 0 where
  pub w : R D.warehouses q.warehouse
  pub k : R 10 q.district
  pub cw : R D.warehouses q.custwarehouse
  pub ck : R 10 q.custdistrict
  pub payer : R D.customers c
  pub high : q.amount ≤ 500000
  pub room : length t.payments < D.histories

module _ (D : Dims) (b₀ : List ℤ) (t : Tally) (b : List ℤ) (ag : Agrees D b₀ t b) (q : Payment) (c : ℕ) (f : PayStep D t q c) where
  pub look : (a : Addr) → Valid (shapes D) a
      → get (shapes D) (run (shapes D) (pay_ops (length t.payments) q c) b) a ≡ seen a (pay_ops (length t.payments) q c) (get (shapes D) b a)
  look a v =
      get-run (shapes D) (pay_ops (length t.payments) q c) b a ag.head.len
      (pay_fine D q (length t.payments) c f.w f.k f.cw f.ck f.payer f.room) v

  row_is : (p : Paid) → p ≡ record { request = q; customer = c } → (j : ℕ) → j < length t.payments + 1 → (k : ℕ) → k < 7 → (e : Bool) → eqb (suc j) (suc (length t.payments)) ≡ e
      → cond e (get_or (history_numbers q c) k (pos 0)) (get (shapes D) b (history_col (suc j) k))
      ≡ get_or (history_numbers (get_or (t.payments ++ p ∷ []) j no_paid).request (get_or (t.payments ++ p ∷ []) j no_paid).customer) k (pos 0)
  row_is p ep j hj k hk true e =
      let ej : j ≡ length t.payments = suc_inj (eqb-true (suc j) (suc (length t.payments)) e) in
      let eq : get_or (t.payments ++ p ∷ []) j no_paid ≡ p = ap (λ (i : ℕ). get_or (t.payments ++ p ∷ []) i no_paid) ej ∙ get_or-append_seam t.payments p [] no_paid in
      ap (λ (x : Paid). get_or (history_numbers x.request x.customer) k (pos 0)) (sym (eq ∙ ep))
  row_is p ep j hj k hk false e =
      let ne : ¬ (suc j ≡ suc (length t.payments)) = eqb-false (suc j) (suc (length t.payments)) e in
      let lt : j < length t.payments = omega arith in
      ag.history.rows j lt k hk
      ∙ ap (λ (x : Paid). get_or (history_numbers x.request x.customer) k (pos 0)) (sym (get_or-append t.payments (p ∷ []) no_paid j lt))

  pub pay_agrees : Agrees D b₀ (tally_payment q c t) (run (shapes D) (pay_ops (length t.payments) q c) b)
  unfolding tally_payment
  pay_agrees =
      let b' = run (shapes D) (pay_ops (length t.payments) q c) b in
      let p : Paid = record { request = q; customer = c } in
      let more = length-append t.payments (p ∷ []) in
      record {
        head = record {
          len = length_run (shapes D) (pay_ops (length t.payments) q c) b ∙ ag.head.len;
          head =
              dims-same D b b' (look (at 0 1 1 1 0) (v0 D 0 (omega arith))) (look (at 0 1 1 1 1) (v0 D 1 (omega arith))) (look (at 0 1 1 1 2) (v0 D 2 (omega arith)))
              (look (at 0 1 1 1 3) (v0 D 3 (omega arith))) (look (at 0 1 1 1 4) (v0 D 4 (omega arith))) ag.head.head;
          count = look history_count (v0 D 5 (omega arith)) ∙ rw ag.head.count (ap pos (sym more));
          room = omega (arith, more, f.room);
        };
        warehouse = record {
          tax = λ w r. look (warehouse_tax w) (v1 D r 0 (omega arith)) ∙ ag.warehouse.tax w r;
          ytd = λ w r. look (warehouse_ytd w) (v1 D r 1 (omega arith)) ∙ bumped (eqb w q.warehouse) q.amount (ag.warehouse.ytd w r);
        };
        district = record {
          tax = λ w k r s. look (district_tax w k) (v2 D r s 0 (omega arith)) ∙ ag.district.tax w k r s;
          ytd = λ w k r s. look (district_ytd w k) (v2 D r s 1 (omega arith)) ∙ bumped (is2 q.warehouse q.district w k) q.amount (ag.district.ytd w k r s);
          next = λ w k r s. look (next_order w k) (v2 D r s 2 (omega arith)) ∙ ag.district.next w k r s;
        };
        customer = record {
          credit = λ w k x r s u. look (customer_row w k x) (v3 D r s u 0 (omega arith)) ∙ ag.customer.credit w k x r s u;
          rate = λ w k x r s u. look (discount w k x) (v3 D r s u 1 (omega arith)) ∙ ag.customer.rate w k x r s u;
          bals = λ w k x r s u.
              look (balance w k x) (v3 D r s u 2 (omega arith))
              ∙ paid-from (is3 q.custwarehouse q.custdistrict c w k x) _ (t.paid w k x) q.amount (ag.customer.bals w k x r s u);
          ytd = λ w k x r s u.
              look (ytd_payment w k x) (v3 D r s u 3 (omega arith)) ∙ bumped (is3 q.custwarehouse q.custdistrict c w k x) q.amount (ag.customer.ytd w k x r s u);
          payments_are = λ w k x r s u.
              look (payment_cnt w k x) (v3 D r s u 4 (omega arith))
              ∙ bumped (is3 q.custwarehouse q.custdistrict c w k x) 1 (ag.customer.payments_are w k x r s u)
              ∙ ap pos (sym (times_more (is_payer w k x) t.payments p));
          deliveries_are = λ w k x r s u. look (delivery_cnt w k x) (v3 D r s u 5 (omega arith)) ∙ ag.customer.deliveries_are w k x r s u;
        };
        item = item-same D b b' b₀ (λ x y z k v. look (at 4 x y z k) v) ag.item;
        stock = stock-same D b b' t.lots (λ x y z k v. look (at 5 x y z k) v) ag.stock;
        order = order_same D b b' t.orders t.delivered (λ x y z k v. look (at 6 x y z k) v) ag.order;
        history = record {
          rows = λ j hj k hk.
              let hj' : j < length t.payments + 1 = rw more at hj in
              look (history_col (suc j) k) (v7 D (record { lo = omega arith; hi = omega (arith, f.room) }) k hk)
              ∙ row_is p refl j hj' k hk (eqb (suc j) (suc (length t.payments))) refl;
        };
      }
