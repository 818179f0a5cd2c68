-- What is known where an Order-Status is not refused: cited by the code's proofs and by the theorem.
-- Assumes nothing.
use mathlib.Core.Path.{◌≡◌, refl}
use mathlib.Core.Logic.{◌≢◌}
use mathlib.Core.Bool.{true}
use mathlib.Core.List.{List}
use Prim.Native.Nat.{ℕ, ◌≤◌}
use native.Mathlib.Omega.{arith}
use lib.ListN.{length}
use lib.IntN.{ℤ}
use Rattle.model.specs.declared.Dims.{Dims}
use Rattle.model.specs.declared.OrderStatus.{OrderStatus}
use Rattle.model.specs.Tests.{every, fault}
use Rattle.model.specs.Head.{dims, head_ok}
use Rattle.model.specs.Names.{Who, who_tests}
use Rattle.model.specs.OrderStatus.{status_asked, status_used, status_fault, status_customer, status_order}
use Rattle.model.specs.Claim.{R}
use Rattle.model.proofs.TestLaws.{passed, numbered, in_range, staged_clear}
use Rattle.model.proofs.Fields.{Shaped, head-shaped}
use Rattle.model.proofs.RowFacts.{DistrictIn, CustomerIn, OrderIn, district_in}
use Rattle.model.proofs.LastFacts.{LastFits, last_fits, found_in}
use Rattle.model.proofs.NameLaws.{found_number_lem}
use Rattle.model.proofs.NameFacts.{who-used}

-- the request's numbers are in range
pub record StatusAsked (d : Dims) (q : OrderStatus) (who : Who) : Type 0 where
  pub w : R d.warehouses q.warehouse
  pub k : R 10 q.district
  pub who_ok : every (who_tests d who) ≡ true

-- the rows that are read are in range, and so is the order that is found
pub record StatusUsed (d : Dims) (b : List ℤ) (names : List ℕ) (last : List ℤ) (q : OrderStatus) (who : Who) : Type 0 where
  pub district : DistrictIn d b q.warehouse q.district
  pub c : R d.customers (status_customer d names q who)
  pub customer : CustomerIn d b q.warehouse q.district (status_customer d names q who)
  pub fits : LastFits d b last q.warehouse q.district
  pub high : status_order d names last q who ≤ d.orders
  pub order : status_order d names last q who ≢ 0 → OrderIn d b q.warehouse q.district (status_order d names last q who)

pub record StatusReady (d : Dims) (b : List ℤ) (names : List ℕ) (last : List ℤ) (q : OrderStatus) (who : Who) : Type 0 where
  pub shaped : Shaped d b (length names)
  pub asked : StatusAsked d q who
  pub used : StatusUsed d b names last q who

pub status_asked_numbered : (d : Dims) (q : OrderStatus) (who : Who) → numbered (status_asked d q who) ≡ true
unfolding status_asked
status_asked_numbered d q who = refl

pub status_used_numbered : (d : Dims) (b : List ℤ) (names : List ℕ) (last : List ℤ) (q : OrderStatus) (who : Who) → numbered (status_used d b names last q who) ≡ true
unfolding status_used
status_used_numbered d b names last q who = refl

pub status_asked_lem : (d : Dims) (q : OrderStatus) (who : Who) → (fault (status_asked d q who)).number ≡ 0 → StatusAsked d q who
unfolding status_asked
status_asked_lem d q who e =
    let h = passed (status_asked d q who) refl e in
    record {
      w = in_range q.warehouse d.warehouses h.0;
      k = in_range q.district 10 h.1.0;
      who_ok = h.1.1.0;
    }

pub status_used_lem : (d : Dims) (b : List ℤ) (names : List ℕ) (last : List ℤ) (q : OrderStatus) (who : Who) → every (who_tests d who) ≡ true
    → (fault (status_used d b names last q who)).number ≡ 0 → StatusUsed d b names last q who
unfolding status_used status_customer status_order
status_used_lem d b names last q who a e =
    let h = passed (status_used d b names last q who) refl e in
    let k = district_in d b q.warehouse q.district h.0 in
    let r = found_number_lem d names q.warehouse q.district who a h.1.1.0 in
    let f = last_fits d b last q.warehouse q.district h.1.1.1.0 h.1.1.1.1.0 in
    record {
      district = k;
      c = r;
      customer = who-used d names q.warehouse q.district b who h.1.0 r;
      fits = f;
      high = omega (arith, f.each (status_customer d names q who) r, k.next_high);
      order = found_in d b q.warehouse q.district (status_order d names last q who) h.1.1.1.1.1.0;
    }

-- an Order-Status that is not refused
pub status_ready : (b : List ℤ) (names : List ℕ) (last : List ℤ) (q : OrderStatus) (who : Who) → (status_fault b names last q who).number ≡ 0
    → StatusReady (dims b) b names last q who
unfolding status_fault
status_ready b names last q who e =
    let h = staged_clear (head_ok b (length names)) (status_asked (dims b) q who) (status_used (dims b) b names last q who) (status_asked_numbered (dims b) q who) e in
    let a = status_asked_lem (dims b) q who h.asked_none in
    record {
      shaped = head-shaped b (length names) h.fine;
      asked = a;
      used = status_used_lem (dims b) b names last q who a.who_ok h.used_none;
    }
