-- R-6: the theorems about top-up tables.
-- Assumes nothing.
use mathlib.Core.Path.{◌≡◌, refl, sym, ap, ◌∙◌}
use mathlib.Core.Bool.{true}
use mathlib.Core.List.{List, [], ◌∷◌, ◌++◌}
use mathlib.Core.Logic.{◌≢◌}
use Prim.Native.Nat.{ℕ, ◌*◌}
use native.Mathlib.Omega.{arith}
use lib.IntN.{ℤ, pos, ◌-ℤ◌, +ℤ-neg_ℤ_cancel}
use lib.ListN.{length}
use Rattle.model.specs.declared.Dims.{Dims}
use Rattle.model.specs.Tests.{Check, chk, staged}
use Rattle.model.specs.Layout.{shapes}
use Rattle.model.specs.Store.{num}
use Rattle.model.specs.Rows.{on_hand}
use Rattle.model.specs.Head.{dims, head_ok}
use Rattle.model.specs.TopUp.{lift_of, topup_ok}
use Rattle.model.specs.Opening.{book_tests, Accepted, opening_fault}
use Rattle.model.specs.NewOrder.{new_asked, new_used, new_order_fault}
use Rattle.model.specs.Payment.{pay_first, pay_asked, pay_used, payment_fault}
use Rattle.model.specs.Delivery.{delivery_asked, delivery_used, delivery_fault}
use Rattle.model.specs.OrderStatus.{status_asked, status_used, status_fault}
use Rattle.model.specs.StockLevel.{level_asked, level_used, stock_level_fault}
use Rattle.model.specs.Request.{Request, new_order, payment, delivery, order_status, stock_level, Lent, fault_of, after}
use Rattle.model.specs.Tally.{Tally, opened_of, start, tally, tallied, after_all, done_all}
use Rattle.model.specs.Claim.{Never, NeverBy}
use Rattle.model.specs.TopUpClaim.{lifts_of, OnHand, LiftsAddUp, Lending, lending, after_lent, done_lent, DemandAnyTables, LastOrdersAnyTables, OpeningAccepts, TableKept, TableServes}
use Rattle.model.proofs.TestLaws.{passed, not_answered}
use Rattle.model.proofs.Parts.{count_is, bal_charge}
use Rattle.model.proofs.Fresh.{Fresh, opened_fresh}
use Rattle.model.proofs.Calls.{Good, opened_at, counted, call_step}
use Rattle.model.proofs.Never.{avoids, unanswered, behind, never-step}
use Rattle.model.proofs.Steady.{steady-call}
use Rattle.model.proofs.LastLaws.{Lasts, lasts-scan}
use Rattle.model.proofs.LastDemand.{next-lasts, serves_next, started_lasts}
use Rattle.model.proofs.TopUpLaws.{list_lifts}
use Rattle.model.proofs.Demand.{agrees-books, fresh_good, history_good, hand-sum}

-- ── on hand, and lifts answered ──
pub on_hand_lem : OnHand
unfolding lifts_of
on_hand_lem s e rs w i r u =
    let D = dims s.nums in
    let ag = (history_good s e rs).agrees.stock in
    let h₀ = num (shapes D) s.nums (on_hand w i) in
    let left = num (shapes D) (after_all s rs).nums (on_hand w i) in
    let lots = (tallied s rs).lots w i in
    let more = lift_of s.topup i * lifts_of D s.nums s.topup (done_all s rs) w i in
    count_is (ag.hand w i r u)
    ∙ sym (rw (ag.ytd w i r u) (bal_charge h₀ lots more ∙ ap (λ (x : ℕ). pos x -ℤ pos lots) (sym (hand-sum s e rs w i r u)) ∙ +ℤ-neg_ℤ_cancel (pos left) (pos lots)))

pub lifts_add_up : LiftsAddUp
unfolding lifts_of
lifts_add_up s e rs = list_lifts (dims s.nums) rs s refl

-- ── whatever table each call is lent ──
module _ (D : Dims) (b₀ : List ℤ) where
  good_lent : (xs : List Lending) (t : Tally) (s : Lent) → Good D b₀ t s.nums → Good D b₀ (tally (opened_at D b₀ s.names) (done_lent s xs) t) (after_lent s xs).nums
  good_lent [] t s g = g
  good_lent (x ∷ xs) t s g =
      let s' = lending s x.topup in
      good_lent xs (counted D b₀ t s' x.request) (after s' x.request) (call_step D b₀ t s' g x.request)

  never-lent : (xs : List Lending) (t : Tally) (s : Lent) → Fresh D b₀ s.names → Good D b₀ t s.nums → Never (done_lent s xs)
  never-lent [] t s fr g = tt
  never-lent (x ∷ xs) t s fr g =
      let s' = lending s x.topup in
      let n = never-step D b₀ t s' fr g x.request in
      (n.0, (n.1.0, (n.1.1, never-lent xs (counted D b₀ t s' x.request) (after s' x.request) fr (call_step D b₀ t s' g x.request))))

  lasts-lent : (xs : List Lending) (t : Tally) (s : Lent) → Good D b₀ t s.nums → Lasts D t s.last
      → Lasts D (tally (opened_at D b₀ s.names) (done_lent s xs) t) (after_lent s xs).last
  lasts-lent [] t s g l = l
  lasts-lent (x ∷ xs) t s g l =
      let s' = lending s x.topup in
      lasts-lent xs (counted D b₀ t s' x.request) (after s' x.request) (call_step D b₀ t s' g x.request) (next-lasts D b₀ t s' g l x.request)

  serves_lent : (xs : List Lending) (t : Tally) (s : Lent) → Good D b₀ t s.nums → Lasts D t s.last → NeverBy 13 (done_lent s xs)
  serves_lent [] t s g l = tt
  serves_lent (x ∷ xs) t s g l =
      let s' = lending s x.topup in (
        serves_next D b₀ t s' g l x.request,
        serves_lent xs (counted D b₀ t s' x.request) (after s' x.request) (call_step D b₀ t s' g x.request) (next-lasts D b₀ t s' g l x.request),
      )

pub demand_any_tables : DemandAnyTables
unfolding opened_of
demand_any_tables s e xs =
    let b = s.nums in
    let g = fresh_good b s.names e in
    (agrees-books (dims b) b _ _ (good_lent (dims b) b xs start s g).agrees, never-lent (dims b) b xs start s (opened_fresh b s.names e) g)

pub last_orders_any_tables : LastOrdersAnyTables
unfolding opened_of
last_orders_any_tables s h xs =
    let D = dims s.nums in
    let g = fresh_good s.nums s.names h.accepted in
    let l = started_lasts s h in (
      λ w k c r d u.
          lasts-scan D s.nums _ (after_lent s xs).nums (good_lent D s.nums xs start s g) w k r d (after_lent s xs).last (lasts-lent D s.nums xs start s g l) c u,
      serves_lent D s.nums xs start s g l,
    )

-- ── 17 ──
pub opening_accepts : OpeningAccepts
unfolding Accepted opening_fault
opening_accepts b names topup = (
  λ e. let h = passed (book_tests b names ++ (chk (topup_ok (dims b) topup) 17 ∷ [])) refl e in (rw (h.0, h.1.0) refl, h.1.1.0),
  λ a t. let h = passed (book_tests b names) refl a in rw (h.0, h.1.0, t) refl,
)

pub table_kept : TableKept
table_kept s [] = refl
table_kept s (r ∷ rs) = table_kept (after s r) rs

-- a call without a test that 17 is the number of
not_17 : (s : Lent) (asked used : List Check) → avoids 17 (asked ++ used) ≡ true → (staged (head_ok s.nums (length s.names)) asked used).number ≢ 17
not_17 s asked used e = unanswered 17 (chk (head_ok s.nums (length s.names)) 2 ∷ asked ++ used) (omega arith) e

serves_call : (s : Lent) → topup_ok (dims s.nums) s.topup ≡ true → (r : Request) → (fault_of s r).number ≢ 17
unfolding fault_of new_order_fault payment_fault delivery_fault status_fault stock_level_fault new_asked new_used pay_asked pay_used delivery_asked delivery_used status_asked status_used level_asked level_used
serves_call s e (new_order q ls) =
    let d = dims s.nums in
    not_answered 17 (chk (head_ok s.nums (length s.names)) 2 ∷ new_asked d q ls ++ new_used d s.nums s.last s.topup q ls) (omega arith)
    (behind 17 (chk (head_ok s.nums (length s.names)) 2 ∷ new_asked d q ls) (new_used d s.nums s.last s.topup q ls) refl
    (λ _. (tt, λ _. (tt, λ _. (tt, λ _. (tt, λ _. (tt, λ _. (tt, λ _. (e, λ _. (tt, λ _. (tt, λ _. tt)))))))))))
serves_call s e (payment q who) = not_17 s (pay_first (dims s.nums) s.notes q who) (pay_used (dims s.nums) s.nums s.names q who) refl
serves_call s e (delivery q) = not_17 s (delivery_asked (dims s.nums) q) (delivery_used (dims s.nums) s.nums q) refl
serves_call s e (order_status q who) = not_17 s (status_asked (dims s.nums) q who) (status_used (dims s.nums) s.nums s.names s.last q who) refl
serves_call s e (stock_level q) = not_17 s (level_asked (dims s.nums) q) (level_used (dims s.nums) s.nums q) refl

pub table_serves : TableServes
table_serves s e [] = tt
table_serves s e (r ∷ rs) =
    let e' = ap (λ (d : Dims). topup_ok d s.topup) (steady-call s r).head ∙ e in
    (serves_call s e r, table_serves (after s r) e' rs)
