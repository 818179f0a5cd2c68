use Rattle.model.specs.Layout.{shapes}
use Rattle.model.specs.Store.{get}
use Rattle.model.specs.Numbers.{cell}
use Rattle.model.proofs.Fields.{head-num, head-place, get_col}
use Rattle.rows.proofs.RowTests.{read_is, read_first}
use Rattle.payment.proofs.Joint.{col}
use Rattle.model.specs.Payment.{is_bad}
use Rattle.payment.specs.Plan.{plan_of}
use Rattle.cells.proofs.Signed.{held}
use mathlib.Core.Path.{refl}
use Prim.Native.Nat.{◌≤◌, ◌<◌}
use native.Mathlib.Omega.{arith}
use borrow.Author.Rules.{rules}
use Rattle.payment.proofs.plan_of.Goals as goal

pub held-requires : goal.held-requires
held-requires c =
    (search rules, omega (arith, read_is c.args.d c.args.b.now 1 c.args.q.warehouse 1 1 1 refl c.warehouse_at-warehouse.ensures.0, c.requires.warehouse.ytd))

pub overflow_add-warehouseytd : goal.overflow_add-warehouseytd
overflow_add-warehouseytd c =
    let h1 : c.held.result ≤ 999999999999 = rw (read_is c.args.d c.args.b.now 1 c.args.q.warehouse 1 1 1 c.held.ensures c.warehouse_at-warehouse.ensures.0) c.requires.warehouse.ytd in omega (arith, c.requires.amount_high)

pub held-requires-2 : goal.held-requires-2
held-requires-2 c =
    (search rules, omega (arith, read_is c.args.d c.args.b.now 2 c.args.q.warehouse c.args.q.district 1 1 refl c.district_at-district.ensures.0, c.requires.district.ytd))

pub overflow_add-districtytd : goal.overflow_add-districtytd
overflow_add-districtytd c =
    let h2 : c.held-2.result ≤ 999999999999 = rw (read_is c.args.d c.args.b.now 2 c.args.q.warehouse c.args.q.district 1 1 c.held-2.ensures c.district_at-district.ensures.0) c.requires.district.ytd in omega (arith, c.requires.amount_high)

pub balance_less-newbalance-requires : goal.balance_less-newbalance-requires
balance_less-newbalance-requires c =
    (rw (held c.get_signed.type_inv, c.get_signed.ensures, c.customer_at-row.ensures.0, get_col (shapes c.args.d) c.args.b.now 3 c.args.q.custwarehouse c.args.q.custdistrict c.args.c 2) c.requires.customer.balanced, omega (arith, c.requires.amount_high))

pub held-requires-3 : goal.held-requires-3
held-requires-3 c =
    (search rules, omega (arith, read_is c.args.d c.args.b.now 3 c.args.q.custwarehouse c.args.q.custdistrict c.args.c 3 refl c.customer_at-row.ensures.0, c.requires.customer.paid))

pub overflow_add-newpaid : goal.overflow_add-newpaid
overflow_add-newpaid c =
    let h3 : c.held-3.result ≤ 999999999999 = rw (read_is c.args.d c.args.b.now 3 c.args.q.custwarehouse c.args.q.custdistrict c.args.c 3 c.held-3.ensures c.customer_at-row.ensures.0) c.requires.customer.paid in omega (arith, c.requires.amount_high)

pub held-newpayments-requires : goal.held-newpayments-requires
held-newpayments-requires c =
    (search rules, omega (arith, read_is c.args.d c.args.b.now 3 c.args.q.custwarehouse c.args.q.custdistrict c.args.c 4 refl c.customer_at-row.ensures.0, c.requires.customer.payments))

pub overflow_add-newpayments : goal.overflow_add-newpayments
overflow_add-newpayments c =
    let h4 : c.held-newpayments.result ≤ 999999999 = rw (read_is c.args.d c.args.b.now 3 c.args.q.custwarehouse c.args.q.custdistrict c.args.c 4 c.held-newpayments.ensures c.customer_at-row.ensures.0) c.requires.customer.payments in omega arith

pub held-count-requires : goal.held-count-requires
held-count-requires c =
    (search rules, omega (arith, head-num c.args.d c.args.b.now, c.requires.room, c.requires.dimsd))

pub overflow_add-count : goal.overflow_add-count
overflow_add-count c =
    let h5 : c.held-count.result < c.args.d.histories = rw (c.held-count.ensures, head-num c.args.d c.args.b.now) c.requires.room in omega (arith, c.requires.dimsd)

pub history_at-history-requires : goal.history_at-history-requires
history_at-history-requires c =
    let h5 : c.held-count.result < c.args.d.histories = rw (c.held-count.ensures, head-num c.args.d c.args.b.now) c.requires.room in (c.requires.dimsd, omega arith)

pub held-bad-requires : goal.held-bad-requires
held-bad-requires c =
    (search rules, omega (arith, read_first c.args.d c.args.b.now 3 c.args.q.custwarehouse c.args.q.custdistrict c.args.c refl c.customer_at-row.ensures.0, c.requires.customer.credit))

pub returns : goal.returns
unfolding plan_of is_bad cell get
returns c =
    let h1 : c.held.result ≤ 999999999999 = rw (read_is c.args.d c.args.b.now 1 c.args.q.warehouse 1 1 1 c.held.ensures c.warehouse_at-warehouse.ensures.0) c.requires.warehouse.ytd in
    let h2 : c.held-2.result ≤ 999999999999 = rw (read_is c.args.d c.args.b.now 2 c.args.q.warehouse c.args.q.district 1 1 c.held-2.ensures c.district_at-district.ensures.0) c.requires.district.ytd in
    let h3 : c.held-3.result ≤ 999999999999 = rw (read_is c.args.d c.args.b.now 3 c.args.q.custwarehouse c.args.q.custdistrict c.args.c 3 c.held-3.ensures c.customer_at-row.ensures.0) c.requires.customer.paid in
    let h4 : c.held-newpayments.result ≤ 999999999 = rw (read_is c.args.d c.args.b.now 3 c.args.q.custwarehouse c.args.q.custdistrict c.args.c 4 c.held-newpayments.ensures c.customer_at-row.ensures.0) c.requires.customer.payments in
    let h5 : c.held-count.result < c.args.d.histories = rw (c.held-count.ensures, head-num c.args.d c.args.b.now) c.requires.room in (
      rw (
        held c.balance_less-newbalance.type_inv,
        c.balance_less-newbalance.ensures,
        held c.get_signed.type_inv,
        c.get_signed.ensures,
        c.held.ensures,
        c.held-2.ensures,
        c.held-3.ensures,
        c.held-newpayments.ensures,
        c.history_at-history.ensures.0,
        c.held-count.ensures,
        c.held-bad.ensures,
        c.warehouse_at-warehouse.ensures.0,
        c.district_at-district.ensures.0,
        c.customer_at-row.ensures.0,
        col c.args.d 1 c.args.q.warehouse 1 1 1,
        col c.args.d 2 c.args.q.warehouse c.args.q.district 1 1,
        col c.args.d 3 c.args.q.custwarehouse c.args.q.custdistrict c.args.c 2,
        col c.args.d 3 c.args.q.custwarehouse c.args.q.custdistrict c.args.c 3,
        col c.args.d 3 c.args.q.custwarehouse c.args.q.custdistrict c.args.c 4,
        head-place c.args.d,
      ),
      omega (arith, c.requires.long, c.requires.six, c.requires.amount_high, c.requires.dimsd, c.warehouse_at-warehouse.ensures, c.district_at-district.ensures, c.customer_at-row.ensures, c.history_at-history.ensures),
    )
