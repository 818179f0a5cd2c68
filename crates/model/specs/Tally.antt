-- "The tally that history is judged by", a list of calls, and what it leaves.
-- Assumes nothing.
use Rattle.std.specs.Prelude.{Bool, ◌&&◌, cond, List, [], ◌∷◌, ◌++◌, ℕ, zero, suc, ◌+◌, ◌*◌, ltb, eqb, ℤ, length, take}
use Rattle.model.specs.declared.Line.{Line}
use Rattle.model.specs.declared.Payment.{Payment}
use Rattle.model.specs.Layout.{shapes}
use Rattle.model.specs.Store.{num}
use Rattle.model.specs.Rows.{price}
use Rattle.model.specs.Head.{dims}
use Rattle.model.specs.Names.{Who, customer_of, found_number}
use Rattle.model.specs.Request.{Request, new_order, payment, delivery, order_status, stock_level, Lent, fault_of, after}

-- "The tally reads the opening book's prices and names ..": this much of it, the names by whom a Payment's who picks among them
pub record Opened : Type 0 where
  pub prices : ℕ → ℕ
  pub picks : ℕ → ℕ → Who → ℕ

unfoldable pub opened_of : List ℤ → List ℕ → Opened
opened_of b names = record {
  prices = λ i. num (shapes (dims b)) b (price i);
  picks = λ w k who. found_number (customer_of (dims b) names w k who);
}

-- ".. the requests, and whether each answer was 0; never the later book."
pub record Done : Type 0 where
  pub request : Request
  pub number : ℕ

-- "a list of orders, numbered from 1 as they join, each a customer and a sum of quantity × price"
pub record Order : Type 0 where
  pub customer : ℕ
  pub sum : ℕ

-- a committed Payment and the customer who paid
pub record Paid : Type 0 where
  pub request : Payment
  pub customer : ℕ

-- Per district (warehouse, district): the orders, whose number is N, and M, how many are delivered. Per stock (warehouse, item): lots.
-- Payments: per paying warehouse, per paying district, per customer (warehouse, district, customer), and all of them in list order.
pub record Tally : Type 0 where
  pub orders : ℕ → ℕ → List Order
  pub delivered : ℕ → ℕ → ℕ
  pub lots : ℕ → ℕ → ℕ
  pub warehouse : ℕ → ℕ
  pub district : ℕ → ℕ → ℕ
  pub paid : ℕ → ℕ → ℕ → ℕ
  pub payments : List Paid

-- N and M of a district
abbrev pub N : Tally → ℕ → ℕ → ℕ
N t w k = length (t.orders w k)

abbrev pub M : Tally → ℕ → ℕ → ℕ
M t w k = t.delivered w k

-- "both 0 at first"
unfoldable pub start : Tally
start = record {
  orders = λ w k. [];
  delivered = λ w k. 0;
  lots = λ w i. 0;
  warehouse = λ w. 0;
  district = λ w k. 0;
  paid = λ w k c. 0;
  payments = [];
}

abbrev pub is2 : ℕ → ℕ → ℕ → ℕ → Bool
is2 w₀ k₀ w k = eqb k k₀ && eqb w w₀

abbrev pub is3 : ℕ → ℕ → ℕ → ℕ → ℕ → ℕ → Bool
is3 w₀ k₀ c₀ w k c = eqb c c₀ && (eqb k k₀ && eqb w w₀)

abbrev pub add_if : Bool → ℕ → ℕ → ℕ
add_if t n m = cond t (m + n) m

-- the sum of quantity × price, at the opening book's prices
abbrev pub worth : (ℕ → ℕ) → List Line → ℕ
worth prices [] = 0
worth prices (l ∷ lines) = l.quantity * prices l.item + worth prices lines

-- "New-Order answered 0: N rises by 1, the order joins the list, and each line's quantity is added for its supplying depot and item."
unfoldable pub tally_line : Line → Tally → Tally
tally_line l t = record {
  orders = t.orders;
  delivered = t.delivered;
  lots = λ w i. add_if (is2 l.supply l.item w i) l.quantity (t.lots w i);
  warehouse = t.warehouse;
  district = t.district;
  paid = t.paid;
  payments = t.payments;
}

abbrev pub tally_lines : List Line → Tally → Tally
tally_lines [] t = t
tally_lines (l ∷ lines) t = tally_lines lines (tally_line l t)

unfoldable pub tally_order : ℕ → ℕ → Order → Tally → Tally
tally_order w₀ k₀ o t = record {
  orders = λ w k. cond (is2 w₀ k₀ w k) (t.orders w k ++ (o ∷ [])) (t.orders w k);
  delivered = t.delivered;
  lots = t.lots;
  warehouse = t.warehouse;
  district = t.district;
  paid = t.paid;
  payments = t.payments;
}

-- "Delivery answered 0: in each of the depot's ten districts with M < N, M rises by 1."
unfoldable pub tally_district : ℕ → ℕ → Tally → Tally
tally_district w₀ k₀ t = record {
  orders = t.orders;
  delivered = λ w k. cond (is2 w₀ k₀ w k) (add_if (ltb (M t w k) (N t w k)) 1 (M t w k)) (M t w k);
  lots = t.lots;
  warehouse = t.warehouse;
  district = t.district;
  paid = t.paid;
  payments = t.payments;
}

-- districts 1, .., n
abbrev pub tally_districts : ℕ → ℕ → Tally → Tally
tally_districts w zero t = t
tally_districts w (suc n) t = tally_district w (suc n) (tally_districts w n t)

-- "Payment answered 0: its amount is added for paying depot, paying district and customer"
unfoldable pub tally_payment : Payment → ℕ → Tally → Tally
tally_payment q c₀ t = record {
  orders = t.orders;
  delivered = t.delivered;
  lots = t.lots;
  warehouse = λ w. add_if (eqb w q.warehouse) q.amount (t.warehouse w);
  district = λ w k. add_if (is2 q.warehouse q.district w k) q.amount (t.district w k);
  paid = λ w k c. add_if (is3 q.custwarehouse q.custdistrict c₀ w k c) q.amount (t.paid w k c);
  payments = t.payments ++ (record { request = q; customer = c₀ } ∷ []);
}

-- a call answered 0
unfoldable pub count : Opened → Request → Tally → Tally
count o (new_order q lines) t =
    tally_order q.warehouse q.district (record { customer = q.customer; sum = worth o.prices lines }) (tally_lines lines t)
count o (payment q who) t = tally_payment q (o.picks q.custwarehouse q.custdistrict who) t
count o (delivery q) t = tally_districts q.warehouse 10 t
count o (order_status q who) t = t
count o (stock_level q) t = t

-- "All else: no change."
abbrev pub tally : Opened → List Done → Tally → Tally
tally o [] t = t
tally o (x ∷ xs) t = tally o xs (cond (eqb x.number 0) (count o x.request t) t)

-- the sums of a customer's orders in a list
abbrev pub sums : ℕ → List Order → ℕ
sums c [] = 0
sums c (o ∷ os) = cond (eqb c o.customer) o.sum 0 + sums c os

-- "the sums of that customer's orders numbered 1 to M"
abbrev pub charged : Tally → ℕ → ℕ → ℕ → ℕ
charged t w k c = sums c (take (M t w k) (t.orders w k))

-- "Take any list of the five calls below, refused ones included .. Each call gets both slices as the one before left them"; R-1's slice and R-4's
-- text are "one and the same through a list of calls"
abbrev pub after_all : Lent → List Request → Lent
after_all s [] = s
after_all s (r ∷ rs) = after_all (after s r) rs

abbrev pub done_all : Lent → List Request → List Done
done_all s [] = []
done_all s (r ∷ rs) = record { request = r; number = (fault_of s r).number } ∷ done_all (after s r) rs

-- the tally of a list of calls from what is lent at its start
abbrev pub tallied : Lent → List Request → Tally
tallied s rs = tally (opened_of s.nums s.names) (done_all s rs) start
