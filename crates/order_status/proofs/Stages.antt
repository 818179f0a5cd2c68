-- The stages of a status's tests, and what is shown.
-- Assumes nothing.
use mathlib.Core.Path.{◌≡◌, refl, sym, ◌∙◌}
use mathlib.Core.Bool.{Bool, true, false, ◌&&◌, cond}
use mathlib.Core.Logic.{◌≢◌}
use mathlib.Core.List.{List, [], ◌∷◌, ◌++◌}
use Prim.Native.Nat.{ℕ, zero, suc, ◌+◌, ◌*◌, ◌≤◌, ◌<◌}
use native.Mathlib.Omega.{arith}
use lib.IntN.{ℤ, pos}
use lib.ListN.{length}
use borrow.Author.Tests.{eq-eqb, ne_eqb}
use Rattle.model.specs.declared.Dims.{Dims}
use Rattle.model.specs.declared.OrderStatus.{OrderStatus}
use Rattle.model.specs.Tests.{Refusal}
use Rattle.model.specs.Tests.{bare, fault}
use Rattle.model.specs.Numbers.{nat}
use Rattle.model.specs.Layout.{shapes, place}
use Rattle.model.specs.Store.{get, num, from}
use Rattle.model.specs.Rows.{balance, slot, order_row, entry_date, carrier, line_count, order_ok}
use Rattle.model.specs.Head.{dims, head_ok}
use Rattle.model.specs.Names.{Who}
use Rattle.model.specs.Used.{district_used}
use Rattle.model.specs.LastOrder.{last_at, last_long, last_ok, found_ok}
use Rattle.std.specs.Prelude.{Result, Ok, Err}
use Rattle.model.specs.declared.StatusFigures.{StatusFigures}
use Rattle.model.specs.declared.Part.{Part}
use Rattle.model.specs.declared.Refused.{Refused}
use Rattle.model.specs.Answer.{numbered}
use Rattle.model.specs.OrderStatus.{status_asked, status_used, status_fault, status_customer, status_order, order_shown, empty_part, lines_part, status_answer, status_part}
use Rattle.model.specs.Claim.{R}
use Rattle.model.proofs.TestLaws.{and_same, fault-first, fault_then, staged-head}
use Rattle.model.proofs.Fields.{place_col}
use Rattle.model.proofs.RowFacts.{district_in}
use Rattle.model.proofs.LastFacts.{last_fits}
use Rattle.model.proofs.StatusFacts.{StatusAsked, StatusReady, status_ready, status_asked_lem, status_asked_numbered}
use Rattle.model.proofs.AnswerLaws.{some-fits, nothing-fits}
use Rattle.layout.specs.Heads.{Read}
use Rattle.layout.proofs.Heads.{behind_head}
use Rattle.rows.proofs.RowTests.{order_test, shaped-booked}
use Rattle.rows.specs.Book.{Booked}
use Rattle.order_status.specs.declared.Seen.{Seen}
use Rattle.order_status.specs.Seen.{last_tests, shown_of, ShownCall}

-- ── 13's three tests, made in another order ──
pub last-false : (s : Bool) {t : Bool} → false ≡ t → false ≡ (s && t)
last-false true e = e
last-false false e = refl

pub last-true : (s : Bool) {a t : Bool} → s ≡ a → true ≡ t → s ≡ (a && t)
last-true true e f = and_same e f
last-true false e f = and_same {t = true} e f

module _ (d : Dims) (b last : List ℤ) (w k : ℕ) where
  -- a number above every slot's is not below next
  pub too_high : (c : ℕ) → district_used d b w k ≡ true → last_long d last ≡ true → R d.customers c → d.orders < nat (last_at d last w k c) → false ≡ last_ok d b last w k
  too_high c e l r h = go (last_ok d b last w k) refl
    where
      go : (t : Bool) → last_ok d b last w k ≡ t → false ≡ t
      go false f = refl
      go true f = absurd (omega (arith, (last_fits d b last w k l f).each c r, (district_in d b w k e).next_high))

  -- the three as entries of a list of tests, each refused by x; f is the first refusal of the tests behind
  pub as_one : (o : ℕ) (f x : Refusal) → cond (last_tests d b last w k o) f x ≡ cond (last_long d last) (cond (last_ok d b last w k) (cond (found_ok d b w k o) f x) x) x
  as_one o f x = go (last_long d last) (last_ok d b last w k)
    where
      go : (s t : Bool) → cond (s && (t && found_ok d b w k o)) f x ≡ cond s (cond t (cond (found_ok d b w k o) f x) x) x
      go true true = refl
      go true false = refl
      go false t = refl

-- ── the order that is found ──
module _ (d : Dims) (b : List ℤ) (w k : ℕ) where
  pub found_none : {o : ℕ} → o ≡ 0 → true ≡ found_ok d b w k o
  unfolding found_ok
  found_none e = rw e

  pub found_some : (o : ℕ) {p : ℕ} {t : Bool} → o ≢ 0 → p ≡ place (shapes d) (order_row d w k o) → t ≡ order_ok d (from b p) → t ≡ found_ok d b w k o
  unfolding found_ok
  found_some zero n e h = absurd (n refl)
  found_some (suc o) n e h = order_test d b w k (suc o) e h

-- ── what is shown of an order ──
module _ (d : Dims) (b : List ℤ) (w k : ℕ) where
  pub shown_none : {o : ℕ} → o ≡ 0 → pos 0 ∷ pos 0 ∷ pos 0 ∷ [] ≡ order_shown d b w k o
  unfolding order_shown
  shown_none e = rw e

  pub shown_some : (o : ℕ) {x y : ℕ} → o ≢ 0 → x ≡ num (shapes d) b (entry_date d w k o) → y ≡ num (shapes d) b (carrier d w k o)
      → pos o ∷ pos x ∷ pos y ∷ [] ≡ order_shown d b w k o
  unfolding order_shown
  shown_some zero n e f = absurd (n refl)
  shown_some (suc o) n e f = rw (e, f)

  pub lines_none : {o : ℕ} → o ≡ 0 → empty_part ≡ lines_part d b w k o
  unfolding lines_part
  lines_none e = rw e

  pub lines-some : (o : ℕ) {n p : ℕ} → 1 ≤ o → n ≡ num (shapes d) b (line_count d w k o) → p ≡ place (shapes d) (order_row d w k o)
      → record { from = p + 6; count = n * 5 } ≡ lines_part d b w k o
  unfolding lines_part
  lines-some zero h e f = absurd (omega arith)
  lines-some (suc o) h e f = rw (e, f, place_col (shapes d) b 6 w k (slot d (suc o)) 6)

-- ── a status step by step ──
module _ (b : List ℤ) (names : List ℕ) (last : List ℤ) (q : OrderStatus) (who : Who) where
  refused_call : (r : Refused) {o : Result (StatusFigures × Part) Refused} → o ≡ Err r → numbered r ≡ status_fault b names last q who → ShownCall b names last q who (shown_of o)
  unfolding status_answer status_part
  refused_call r e f =
      let z : (status_fault b names last q who).number ≢ 0 = some-fits r f in
      rw e (record { says = rw (ne_eqb _ _ z, f); within = omega arith; shows = rw (ne_eqb _ _ z) })

  pub refused_head : (r : Refused) {o : Result (StatusFigures × Part) Refused} → o ≡ Err r → (head_ok b (length names) ≡ false) × (r ≡ Refused.Head) → ShownCall b names last q who (shown_of o)
  unfolding status_fault
  refused_head r e h = refused_call r e (rw h.1 (staged-head (head_ok b (length names)) (status_asked (dims b) q who) (status_used (dims b) b names last q who) h.0))

  -- behind 2
  module _ {d : Dims} (v : Read b (length names) d) where
    behind : {r : Refusal} → r ≡ fault (status_asked d q who ++ status_used d b names last q who) → r ≡ status_fault b names last q who
    unfolding status_fault
    behind e = behind_head b (length names) (λ x. status_asked x q who) (λ x. status_used x b names last q who) v e

    pub refused_asked : (r : Refused) {o : Result (StatusFigures × Part) Refused} → o ≡ Err r → numbered r ≡ fault (status_asked d q who) → ShownCall b names last q who (shown_of o)
    refused_asked r e f = refused_call r e (behind (f ∙ sym (fault-first (status_asked d q who) (status_used d b names last q who) (some-fits r f))))

    module _ (a : bare 0 ≡ fault (status_asked d q who)) where
      pub asked_in : StatusAsked d q who
      asked_in = status_asked_lem d q who (nothing-fits a)

      used_first : fault (status_used d b names last q who) ≡ status_fault b names last q who
      used_first = behind (sym (fault_then (status_asked d q who) (status_used d b names last q who) (nothing-fits a) (status_asked_numbered d q who)))

      pub refused_used : (r : Refused) {o : Result (StatusFigures × Part) Refused} → o ≡ Err r → numbered r ≡ fault (status_used d b names last q who) → ShownCall b names last q who (shown_of o)
      refused_used r e f = refused_call r e (f ∙ used_first)

      module _ (u : bare 0 ≡ fault (status_used d b names last q who)) {s : Seen} (customer-is : s.customer ≡ status_customer d names q who) (order-is : s.order ≡ status_order d names last q who) where
        none : (status_fault b names last q who).number ≡ 0
        none = nothing-fits (u ∙ used_first)

        ready : StatusReady d b names last q who
        ready = rw v.same (status_ready b names last q who none)

        -- what the figures and the part ask
        pub figured : R d.warehouses q.warehouse × (R 10 q.district × (R d.customers s.customer × (s.order ≤ d.orders)))
        figured = let y = ready in (y.asked.w, (y.asked.k, (rw customer-is y.used.c, rw order-is y.used.high)))

        pub placed : R d.warehouses q.warehouse × (R 10 q.district × ((s.order ≤ d.orders) × (s.order ≢ 0 → R 15 (num (shapes d) b (line_count d q.warehouse q.district s.order)))))
        placed =
            let y = ready in
            (y.asked.w, (y.asked.k, (rw order-is y.used.high, rw order-is (λ n. let x = y.used.order n in record { lo = x.count_low; hi = x.count_high }))))

        pub shown : {f : StatusFigures} {p : Part} → f.customer ≡ s.customer → f.balance ≡ get (shapes d) b (balance q.warehouse q.district s.customer)
            → pos f.order ∷ pos f.date ∷ pos f.carrier ∷ [] ≡ order_shown d b q.warehouse q.district s.order
            → p.from + p.count ≤ length b → p ≡ lines_part d b q.warehouse q.district s.order → ShownCall b names last q who (shown_of (Ok (f, p)))
        unfolding status_answer status_part
        shown fc fb fo w e =
            record {
              says = rw (fc, fb, fo, customer-is, order-is, v.same, eq-eqb _ _ none);
              within = w;
              shows = e ∙ rw (order-is, v.same, eq-eqb _ _ none);
            }
