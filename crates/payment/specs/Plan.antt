-- What the code does between reading and answering. No rule of the book is here: the positions and the numbers are the model's.
-- Assumes nothing.
use Rattle.std.specs.Prelude.{◌≡◌, List, ℕ, ◌+◌, ◌≤◌, ◌<◌, ◌^◌, length, set, ℤ, pos, ◌-ℤ◌}
use Rattle.model.specs.declared.Dims.{Dims}
use Rattle.model.specs.declared.Payment.{Payment}
use Rattle.model.specs.Layout.{shapes, place, numbers}
use Rattle.model.specs.Store.{get, num}
use Rattle.model.specs.Rows.{history_count, warehouse_ytd, district_ytd, balance, ytd_payment, payment_cnt, history_row}
use Rattle.model.specs.Payment.{history_numbers, payment_commit, paid_balance, is_bad, note_commit}
use Rattle.model.specs.Claim.{R}
use Rattle.model.proofs.Fields.{Dimensioned}
use Rattle.model.proofs.RowFacts.{WarehouseIn, DistrictIn, CustomerIn}
use Rattle.model.proofs.Rewrite.{puts}
use Rattle.payment.specs.declared.Plan.{Plan}

-- a payment by customer c that no refusal applies to
pub record Payable (d : Dims) (b : List ℤ) (q : Payment) (c : ℕ) : Type 0 where
  pub dimsd : Dimensioned d
  pub long : length b ≡ numbers d
  pub six : 6 ≤ length b
  pub w : R d.warehouses q.warehouse
  pub k : R 10 q.district
  pub cw : R d.warehouses q.custwarehouse
  pub ck : R 10 q.custdistrict
  pub rc : R d.customers c
  pub date_high : q.date ≤ 6342969600
  pub amount_high : q.amount ≤ 500000
  pub warehouse : WarehouseIn d b q.warehouse
  pub district : DistrictIn d b q.warehouse q.district
  pub customer : CustomerIn d b q.custwarehouse q.custdistrict c
  pub room : num (shapes d) b history_count < d.histories

unfoldable pub plan_of : Dims → List ℤ → Payment → ℕ → Plan
plan_of d b q c = record {
  warehouse = place (shapes d) (warehouse_ytd q.warehouse);
  warehouseytd = num (shapes d) b (warehouse_ytd q.warehouse) + q.amount;
  district = place (shapes d) (district_ytd q.warehouse q.district);
  districtytd = num (shapes d) b (district_ytd q.warehouse q.district) + q.amount;
  balance = place (shapes d) (balance q.custwarehouse q.custdistrict c);
  newbalance = get (shapes d) b (balance q.custwarehouse q.custdistrict c) -ℤ pos q.amount;
  paid = place (shapes d) (ytd_payment q.custwarehouse q.custdistrict c);
  newpaid = num (shapes d) b (ytd_payment q.custwarehouse q.custdistrict c) + q.amount;
  payments = place (shapes d) (payment_cnt q.custwarehouse q.custdistrict c);
  newpayments = num (shapes d) b (payment_cnt q.custwarehouse q.custdistrict c) + 1;
  history = place (shapes d) (history_row (num (shapes d) b history_count + 1));
  count = num (shapes d) b history_count + 1;
  bad = is_bad d b q.custwarehouse q.custdistrict c;
}

-- a plan that can be stored in a book of n numbers
pub record Storable (n : ℕ) (p : Plan) : Type 0 where
  pub six : 6 ≤ n
  pub warehouse_in : p.warehouse < n
  pub warehouseytd_fits : p.warehouseytd < 2 ^ 63
  pub district_in : p.district < n
  pub districtytd_fits : p.districtytd < 2 ^ 63
  pub balance_in : p.balance < n
  pub paid_in : p.paid < n
  pub paid_fits : p.newpaid < 2 ^ 63
  pub payments_in : p.payments < n
  pub payments_fits : p.newpayments < 2 ^ 63
  pub history_in : p.history + 7 ≤ n
  pub count_fits : p.count < 2 ^ 63

-- a request and a customer whose numbers can be stored
pub record Small (q : Payment) (c : ℕ) : Type 0 where
  pub customer_fits : c < 2 ^ 63
  pub custdistrict_fits : q.custdistrict < 2 ^ 63
  pub custwarehouse_fits : q.custwarehouse < 2 ^ 63
  pub district_fits : q.district < 2 ^ 63
  pub warehouse_fits : q.warehouse < 2 ^ 63
  pub date_fits : q.date < 2 ^ 63
  pub amount_fits : q.amount < 2 ^ 63

unfoldable pub store_plan : List ℤ → Plan → Payment → ℕ → List ℤ
store_plan b p q c =
    let b1 = set b p.warehouse (pos p.warehouseytd) in
    let b2 = set b1 p.district (pos p.districtytd) in
    let b3 = set b2 p.balance p.newbalance in
    let b4 = set b3 p.paid (pos p.newpaid) in
    let b5 = set b4 p.payments (pos p.newpayments) in
    set (puts b5 p.history 0 (history_numbers q c)) 5 (pos p.count)

-- a payment carried out: the balance answered, the numbers and the texts left
pub record Settled (d : Dims) (b : List ℤ) (notes : List ℕ) (q : Payment) (c : ℕ) (balance : ℤ) (left : List ℤ) (written : List ℕ) : Type 0 where
  pub answers : balance ≡ paid_balance d b q c
  pub leaves : left ≡ payment_commit d b q c
  pub writes : written ≡ note_commit d b notes q c
