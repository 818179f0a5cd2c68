-- Demand 3: the one claim about every list of the five calls from a book that opening accepts.
-- Assumes nothing.
use mathlib.Core.Path.{◌≡◌, refl, sym, ap, ◌∙◌, subst}
use mathlib.Core.Bool.{Bool, cond}
use mathlib.Core.List.{List}
use Prim.Native.Nat.{ℕ, zero, suc, ◌+◌, ◌*◌, ◌-◌}
use native.Mathlib.Omega.{arith}
use lib.Dec.{ltb, leb-suc-suc}
use lib.IntN.{ℤ, pos}
use lib.ListN.{length, get_or}
use Rattle.model.specs.declared.Dims.{Dims}
use Rattle.model.specs.Layout.{shapes}
use Rattle.model.specs.Store.{get, num}
use Rattle.model.specs.Rows.{on_hand, waiting}
use Rattle.model.specs.Head.{dims}
use Rattle.model.specs.TopUp.{lift_of}
use Rattle.model.specs.Opening.{Accepted}
use Rattle.model.specs.Request.{Request, Lent}
use Rattle.model.specs.Tally.{Tally, N, M, charged, start, opened_of, after_all, done_all, tallied}
use Rattle.model.specs.Claim.{R, HistoryIs, no_paid, Restocked, Books, Demand}
use Rattle.model.specs.TopUpClaim.{lifts_of}
use Rattle.model.proofs.Parts.{Agrees, count_is, count-nat, bal_back}
use Rattle.model.proofs.Booked.{start-booked}
use Rattle.model.proofs.Fresh.{opened_fresh, fresh_agrees, start-sane}
use Rattle.model.proofs.Calls.{Good, list_step}
use Rattle.model.proofs.Never.{never_list}
use Rattle.model.proofs.TopUpLaws.{list_took, lots_list}

-- a book that agrees with the tally is as the paper claims, but for the lift
pub agrees-books : (D : Dims) (b₀ : List ℤ) (t : Tally) (b : List ℤ) → Agrees D b₀ t b → Books D t b
agrees-books D b₀ t b ag = record {
  warehouse_money = ag.warehouse.ytd;
  district_money = ag.district.ytd;
  balances = ag.customer.bals;
  balances_paid = λ w k c r s u. rw (ag.customer.bals w k c r s u, ag.customer.ytd w k c r s u) (bal_back (charged t w k c) (t.paid w k c));
  next_orders = λ w k r s. ag.district.next w k r s ∙ ap pos (one_more (N t w k));
  waiting_orders = waits-at;
  delivered_first = λ w k r s. ag.order.mle w k;
  lots = ag.stock.ytd;
  history_count = ag.head.count;
  history_rows = rows_at;
  hands = λ w i r s. count-nat (ag.stock.hand w i r s);
}
  where
    one_more : (n : ℕ) → suc n ≡ n + 1
    one_more n = omega arith

    waits-at : (w k o : ℕ) → R D.warehouses w → R 10 k → R (N t w k) o → get (shapes D) b (waiting D w k o) ≡ pos (cond (ltb (M t w k) o) 1 0)
    waits-at w k zero r s u = absurd (omega (arith, u.lo))
    waits-at w k (suc j) r s u = (ag.order.slots w k j r s u.hi).flag ∙ ap (λ (x : Bool). pos (cond x 1 0)) (sym (leb-suc-suc (M t w k) j))

    rows_at : (h : ℕ) → R (length t.payments) h → HistoryIs D b h (get_or t.payments (h - 1) no_paid)
    rows_at zero r = absurd (omega (arith, r.lo))
    rows_at (suc j) r =
        let at = ag.history.rows j r.hi in
        let e : j ≡ suc j - 1 = omega arith in
        subst (λ (i : ℕ). HistoryIs D b (suc j) (get_or t.payments i no_paid)) e (record {
          customer = at 0 (omega arith);
          custdistrict = at 1 (omega arith);
          custwarehouse = at 2 (omega arith);
          district = at 3 (omega arith);
          warehouse = at 4 (omega arith);
          date = at 5 (omega arith);
          amount = at 6 (omega arith);
        })

-- the book and the empty tally at the start
pub fresh_good : (b : List ℤ) (names : List ℕ) → Accepted b names → Good (dims b) b start b
fresh_good b names e = record { agrees = fresh_agrees (dims b) b names (opened_fresh b names e); sane = start-sane (dims b); booked = start-booked }

-- the book and the tally after any list
pub history_good : (s : Lent) → Accepted s.nums s.names → (rs : List Request)
    → Good (dims s.nums) s.nums (tallied s rs) (after_all s rs).nums
unfolding opened_of
history_good s e rs = list_step (dims s.nums) s.nums rs start s (fresh_good s.nums s.names e)

-- on hand by the item's own lift, and how often it was added
pub hand-sum : (s : Lent) → Accepted s.nums s.names → (rs : List Request) (w i : ℕ) → R (dims s.nums).warehouses w → R (dims s.nums).items i
    → num (shapes (dims s.nums)) (after_all s rs).nums (on_hand w i) + (tallied s rs).lots w i
    ≡ num (shapes (dims s.nums)) s.nums (on_hand w i) + lift_of s.topup i * lifts_of (dims s.nums) s.nums s.topup (done_all s rs) w i
unfolding lifts_of start
hand-sum s e rs w i r u =
    omega (arith, (list_took (dims s.nums) rs s refl w i r u).sum, lots_list w i (opened_of s.nums s.names) (done_all s rs) start)

hand_claimed : (s : Lent) → Accepted s.nums s.names → (rs : List Request) (w i : ℕ) → R (dims s.nums).warehouses w → R (dims s.nums).items i
    → Restocked (lift_of s.topup i) (num (shapes (dims s.nums)) s.nums (on_hand w i)) ((tallied s rs).lots w i) (get (shapes (dims s.nums)) (after_all s rs).nums (on_hand w i))
hand_claimed s e rs w i r u = record {
  left = num (shapes (dims s.nums)) (after_all s rs).nums (on_hand w i);
  times = lifts_of (dims s.nums) s.nums s.topup (done_all s rs) w i;
  is = count_is ((history_good s e rs).agrees.stock.hand w i r u);
  sum = hand-sum s e rs w i r u;
}

pub demand : Demand
demand s e rs =
    let b = s.nums in
    let fr = opened_fresh b s.names e in (
      record { books = agrees-books (dims b) b (tallied s rs) (after_all s rs).nums (history_good s e rs).agrees; on_hand = hand_claimed s e rs },
      never_list (dims b) b rs start s fr (fresh_good b s.names e),
    )
