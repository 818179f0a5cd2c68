-- What is known where a payment is not refused: cited by the code's proofs and by the theorem.
-- Assumes nothing.
use mathlib.Core.Path.{◌≡◌, refl}
use mathlib.Core.Bool.{true}
use mathlib.Core.List.{List, [], ◌∷◌}
use Prim.Native.Nat.{ℕ, ◌≤◌, ◌<◌}
use native.Mathlib.Omega.{arith}
use lib.ListN.{length}
use lib.IntN.{ℤ}
use borrow.Author.Tests.{ltb-true, eqb-true}
use Rattle.model.specs.declared.Dims.{Dims}
use Rattle.model.specs.declared.Payment.{Payment}
use Rattle.model.specs.Tests.{every, fault, within}
use Rattle.model.specs.Numbers.{max_date}
use Rattle.model.specs.Layout.{shapes}
use Rattle.model.specs.Store.{num}
use Rattle.model.specs.Head.{dims, head_ok}
use Rattle.model.specs.Names.{Who, who_tests}
use Rattle.model.specs.Rows.{history_count}
use Rattle.model.specs.Note.{note_bytes, notes_long}
use Rattle.model.specs.Payment.{pay_asked, pay_used, pay_first, payment_fault, payer, pay_ops}
use Rattle.model.specs.Claim.{R}
use Rattle.model.proofs.TestLaws.{every-each, passed, numbered, within_in, in_range, staged_clear}
use Rattle.model.proofs.Frame.{Fine}
use Rattle.model.proofs.Fields.{v0, v1, v2, v3, v7, Shaped, head-shaped}
use Rattle.model.proofs.RowFacts.{WarehouseIn, DistrictIn, CustomerIn, warehouse_in, district_in}
use Rattle.model.proofs.NameLaws.{found_number_lem}
use Rattle.model.proofs.NameFacts.{who-used}

-- the request's numbers are in range
pub record PayAsked (d : Dims) (q : Payment) (who : Who) : Type 0 where
  pub w : R d.warehouses q.warehouse
  pub k : R 10 q.district
  pub cw : R d.warehouses q.custwarehouse
  pub ck : R 10 q.custdistrict
  pub who_ok : every (who_tests d who) ≡ true
  pub date : R 6342969600 q.date
  pub amount_low : 100 ≤ q.amount
  pub amount_high : q.amount ≤ 500000

-- the rows that a payment reads or changes are in range, and there is room in the history
pub record PayUsed (d : Dims) (b : List ℤ) (names : List ℕ) (q : Payment) (who : Who) : Type 0 where
  pub warehouse : WarehouseIn d b q.warehouse
  pub district : DistrictIn d b q.warehouse q.district
  pub c : R d.customers (payer d names q who)
  pub customer : CustomerIn d b q.custwarehouse q.custdistrict (payer d names q who)
  pub room : num (shapes d) b history_count < d.histories

pub record PayReady (d : Dims) (b : List ℤ) (names notes : List ℕ) (q : Payment) (who : Who) : Type 0 where
  pub shaped : Shaped d b (length names)
  pub noted : length notes ≡ note_bytes d
  pub asked : PayAsked d q who
  pub used : PayUsed d b names q who

pub pay_asked_numbered : (d : Dims) (q : Payment) (who : Who) → numbered (pay_asked d q who) ≡ true
unfolding pay_asked
pay_asked_numbered d q who = refl

pub pay_used_numbered : (d : Dims) (b : List ℤ) (names : List ℕ) (q : Payment) (who : Who) → numbered (pay_used d b names q who) ≡ true
unfolding pay_used
pay_used_numbered d b names q who = refl

pub pay_asked_lem : (d : Dims) (q : Payment) (who : Who) → (fault (pay_asked d q who)).number ≡ 0 → PayAsked d q who
unfolding pay_asked
pay_asked_lem d q who e =
    let h = passed (pay_asked d q who) refl e in
    let f4 = every-each (within q.warehouse 1 d.warehouses ∷ within q.custwarehouse 1 d.warehouses ∷ []) h.0 in
    let f5 = every-each (within q.district 1 10 ∷ within q.custdistrict 1 10 ∷ []) h.1.0 in
    let f8 = within_in q.amount 100 500000 h.1.1.1.1.0 in
    record {
      w = in_range q.warehouse d.warehouses f4.0;
      k = in_range q.district 10 f5.0;
      cw = in_range q.custwarehouse d.warehouses f4.1.0;
      ck = in_range q.custdistrict 10 f5.1.0;
      who_ok = h.1.1.0;
      date = in_range q.date max_date h.1.1.1.0;
      amount_low = f8.0;
      amount_high = f8.1;
    }

pub pay_used_lem : (d : Dims) (b : List ℤ) (names : List ℕ) (q : Payment) (who : Who) → every (who_tests d who) ≡ true
    → (fault (pay_used d b names q who)).number ≡ 0 → PayUsed d b names q who
unfolding pay_used payer
pay_used_lem d b names q who a e =
    let h = passed (pay_used d b names q who) refl e in
    let r = found_number_lem d names q.custwarehouse q.custdistrict who a h.1.1.1.0 in
    record {
      warehouse = warehouse_in d b q.warehouse h.0;
      district = district_in d b q.warehouse q.district h.1.0;
      c = r;
      customer = who-used d names q.custwarehouse q.custdistrict b who h.1.1.0 r;
      room = ltb-true _ _ h.1.1.1.1.0;
    }

-- the tests before the rows
pub pay_first_numbered : (d : Dims) (notes : List ℕ) (q : Payment) (who : Who) → numbered (pay_first d notes q who) ≡ true
unfolding pay_asked
pay_first_numbered d notes q who = refl

pub notes-long : (d : Dims) (notes : List ℕ) → notes_long d notes ≡ true → length notes ≡ note_bytes d
unfolding notes_long
notes-long d notes e = eqb-true _ _ e

-- a payment that is not refused
pub pay_ready : (b : List ℤ) (names notes : List ℕ) (q : Payment) (who : Who) → (payment_fault b names notes q who).number ≡ 0 → PayReady (dims b) b names notes q who
unfolding payment_fault
pay_ready b names notes q who e =
    let first = pay_first (dims b) notes q who in
    let h = staged_clear (head_ok b (length names)) first (pay_used (dims b) b names q who) (pay_first_numbered (dims b) notes q who) e in
    let f = (passed first (pay_first_numbered (dims b) notes q who) h.asked_none).0 in
    let a = pay_asked_lem (dims b) q who (rw f at h).asked_none in
    record {
      shaped = head-shaped b (length names) h.fine;
      noted = notes-long (dims b) notes f;
      asked = a;
      used = pay_used_lem (dims b) b names q who a.who_ok h.used_none;
    }

-- every change is at an address of the book
pub pay_fine : (d : Dims) (q : Payment) (h c : ℕ) → R d.warehouses q.warehouse → R 10 q.district → R d.warehouses q.custwarehouse → R 10 q.custdistrict
    → R d.customers c → h < d.histories → Fine (shapes d) (pay_ops h q c)
pay_fine d q h c w k cw ck rc room =
    (v1 d w 1 (omega arith), tt, (v2 d w k 1 (omega arith), tt, (v3 d cw ck rc 2 (omega arith), tt, (v3 d cw ck rc 3 (omega arith), tt, (v3 d cw ck rc 4 (omega arith), tt, (v7 d (record { lo = omega arith; hi = omega arith }) 0 (omega arith), refl, (v0 d 5 (omega arith), tt, tt)))))))

pub pay_ready_fine : (d : Dims) (b : List ℤ) (names notes : List ℕ) (q : Payment) (who : Who) → PayReady d b names notes q who
    → Fine (shapes d) (pay_ops (num (shapes d) b history_count) q (payer d names q who))
pay_ready_fine d b names notes q who r =
    let a = r.asked in
    pay_fine d q (num (shapes d) b history_count) (payer d names q who) a.w a.k a.cw a.ck r.used.c r.used.room
