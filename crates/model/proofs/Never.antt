-- Numbers 2, 3 and 9 are never answered.
-- Assumes nothing.
use mathlib.Core.Path.{◌≡◌, refl, sym, ap, ◌∙◌, subst}
use mathlib.Core.Logic.{◌≢◌}
use mathlib.Core.Bool.{Bool, true, false, not, ◌&&◌, cond}
use mathlib.Core.List.{List, [], ◌∷◌, ◌++◌}
use Prim.Native.Nat.{ℕ, zero, suc, ◌+◌, ◌*◌, ◌-◌, ◌≤◌, ◌<◌}
use native.Mathlib.Nat.{mul-le-mul}
use native.Mathlib.Omega.{arith}
use lib.Dec.{eqb, leb, ltb}
use lib.IntN.{ℤ, pos, negsuc}
use lib.ListN.{length}
use borrow.Author.Tests.{not-true, eq-eqb, leb-true, le-leb}
use Rattle.model.specs.declared.Delivery.{Delivery}
use Rattle.model.specs.declared.Dims.{Dims}
use Rattle.model.specs.declared.Line.{Line}
use Rattle.model.specs.declared.NewOrder.{NewOrder}
use Rattle.model.specs.declared.OrderStatus.{OrderStatus}
use Rattle.model.specs.declared.Payment.{Payment}
use Rattle.model.specs.declared.StockLevel.{StockLevel}
use Rattle.model.specs.Tests.{every, all_of, failing, Check, chk, fault, within}
use Rattle.model.specs.Numbers.{nat, cell, balance_ok}
use Rattle.model.specs.Layout.{shapes, total, numbers, name_bytes}
use Rattle.model.specs.Store.{num}
use Rattle.model.specs.Rows.{next_order, history_count}
use Rattle.model.specs.Head.{dims, dims_tests, size_tests, head_ok}
use Rattle.model.specs.Names.{Who, by_number, by_name, who_tests}
use Rattle.model.specs.Used.{customers_used, names_used, orders_used, district_used, item_used, stock_used, listed, line_used, who_used}
use Rattle.model.specs.NewOrder.{suppliable, new_asked, new_used, new_order_fault}
use Rattle.model.specs.Payment.{pay_asked, pay_used, pay_first, payment_fault}
use Rattle.model.specs.Delivery.{delivery_asked, deliverable, delivery_used, delivery_fault}
use Rattle.model.specs.OrderStatus.{status_asked, status_used, status_fault}
use Rattle.model.specs.StockLevel.{level_asked, level_used, stock_level_fault}
use Rattle.model.specs.Request.{Request, new_order, payment, delivery, order_status, stock_level, Lent, lent, fault_of, after}
use Rattle.model.specs.Tally.{Tally, N, M, charged, done_all}
use Rattle.model.specs.Claim.{R, Never}
use Rattle.model.proofs.TestLaws.{every-each, each-every, and_left, and_right, all-to, Passed, PassAt, Need, not_answered, in_within, in_range}
use Rattle.model.proofs.NumberLaws.{nat-pos}
use Rattle.model.proofs.Fields.{Dimensioned, head-num}
use Rattle.model.proofs.RowFacts.{WarehouseIn, DistrictIn, CustomerIn, ItemIn, StockIn, OrderIn, in_warehouse, in_district, in_customer, in_item, in_stock, at-customers, at-orders, all_in_map, none-failing, in_all_of}
use Rattle.model.proofs.NewOrderFacts.{line-asked}
use Rattle.model.proofs.StockLevelFacts.{at-window}
use Rattle.model.proofs.OrderRows.{nat_low, nat-high}
use Rattle.model.proofs.Parts.{bal, count-nat, times_of, is_payer, times_le, handed_to, orders_by_le}
use Rattle.model.proofs.StepDeliver.{next-num}
use Rattle.model.proofs.Sane.{placed_le, sums_le}
use Rattle.model.proofs.Fresh.{Fresh}
use Rattle.model.proofs.Calls.{Good, counted, call_step}

-- no test has the number: `refl` for a literal list
abbrev pub avoids : ℕ → List Check → Bool
avoids n [] = true
avoids n (c ∷ cs) = not (eqb c.number n) && avoids n cs

pub avoided : (n : ℕ) (cs : List Check) → avoids n cs ≡ true → PassAt n cs
avoided n [] e = tt
avoided n (c ∷ cs) e =
    let ne = not-true (eqb c.number n) (and_left (not (eqb c.number n)) (avoids n cs) e) in
    let rest = avoided n cs (and_right (not (eqb c.number n)) (avoids n cs) e) in
    (subst (λ (x : Bool). Need x (c.ok ≡ true)) (sym ne) tt, λ _. rest)

-- such a number is not answered
pub unanswered : (n : ℕ) (cs : List Check) → 1 ≤ n → avoids n cs ≡ true → (fault cs).number ≢ n
unanswered n cs h e = not_answered n cs h (avoided n cs e)

-- a number whose tests all stand behind xs
pub behind : (n : ℕ) (xs ys : List Check) → avoids n xs ≡ true → (Passed xs → PassAt n ys) → PassAt n (xs ++ ys)
behind n [] ys e h = h tt
behind n (c ∷ xs) ys e h = ((avoided n (c ∷ xs) e).0, λ p. behind n xs ys (and_right (not (eqb c.number n)) (avoids n xs) e) (λ q. h (p, q)))

-- a balance within the money's range on both sides
bal_fits : (a p : ℕ) → a ≤ 999999999999 → p ≤ 999999999999 → balance_ok (bal a p) ≡ true
unfolding balance_ok
bal_fits a zero h h' = le-leb (a + 0) 999999999999 (omega arith)
bal_fits a (suc p) h h' = go (ltb a (suc p))
  where
    go : (x : Bool) → balance_ok (cond x (negsuc (suc p - suc a)) (pos (a - suc p))) ≡ true
    go true = le-leb (suc p - suc a) 999999999998 (omega arith)
    go false = le-leb (a - suc p) 999999999999 (omega arith)

long_of : (d : Dims) (b : List ℤ) → length b ≡ total (shapes d) → length b ≡ numbers d
unfolding numbers
long_of d b e = e

dims_pass : (d : Dims) → Dimensioned d → every (dims_tests d) ≡ true
unfolding dims_tests
dims_pass d h =
    each-every (dims_tests d) (
      in_within d.warehouses 1 20 h.warehouses_low h.warehouses_high,
      (
        in_within d.customers 1 3000 h.customers_low h.customers_high,
        (
          in_within d.items 1 100000 h.items_low h.items_high,
          (in_within d.orders 1 10000 h.orders_low h.orders_high, (in_within d.histories 1 1000000 h.histories_low h.histories_high, tt)),
        ),
      ),
    )

-- ── the orders before next are in range ──
module _ (D : Dims) (b₀ : List ℤ) (t : Tally) (b : List ℤ) (g : Good D b₀ t b) where
  order_row : (w k j : ℕ) → R D.warehouses w → R 10 k → j < N t w k → OrderIn D b w k (suc j)
  order_row w k j r s h =
      let x = (g.agrees.order.slots w k j r s h).row in
      record {
        customer_low = nat_low x.customer;
        customer_high = nat-high x.customer;
        date_low = nat_low x.date;
        date_high = nat-high x.date;
        carried = nat-high x.carrier;
        count_low = nat_low x.count;
        count_high = nat-high x.count;
        local = nat-high x.local;
        waits = nat-high x.waits;
        lines = λ j q.
            let l = x.lines j q in
            record {
              item_low = nat_low l.item;
              item_high = nat-high l.item;
              supply_low = nat_low l.supply;
              supply_high = nat-high l.supply;
              quantity_low = nat_low l.quantity;
              quantity_high = nat-high l.quantity;
              amount_low = nat_low l.amount;
              amount_high = nat-high l.amount;
              date_high = nat-high l.date;
            };
      }

  pub orders_in : (w k : ℕ) → R D.warehouses w → R 10 k → (o : ℕ) → R (num (shapes D) b (next_order w k) - 1) o → OrderIn D b w k o
  orders_in w k r s zero q = absurd (omega (arith, q.lo))
  orders_in w k r s (suc j) q = order_row w k j r s (omega (arith, q.hi, next-num D b₀ t b g.agrees w k r s))

module _ (D : Dims) (b₀ : List ℤ) (names : List ℕ) (fr : Fresh D b₀ names) (t : Tally) (b : List ℤ) (g : Good D b₀ t b) where
  -- ── the bounds, in numbers ──
  payments_le : length t.payments ≤ 1000000
  payments_le = omega (arith, g.agrees.head.room, fr.shaped.dimsd.histories_high)

  lots_le : (w i : ℕ) → t.lots w i ≤ 300000000
  lots_le w i =
      omega (
        arith,
        g.sane.lots w i,
        placed_le D t g.agrees.order.nle,
        mul-le-mul tens fr.shaped.dimsd.warehouses_high,
      )
    where
      tens : D.orders * 10 ≤ 100000
      tens = omega (arith, fr.shaped.dimsd.orders_high)

  orders_le : (w k : ℕ) → N t w k ≤ 10000
  orders_le w k = omega (arith, g.agrees.order.nle w k, fr.shaped.dimsd.orders_high)

  charged_le : (w k c : ℕ) → charged t w k c ≤ 999999999999
  charged_le w k c = omega (arith, sums_le c (t.orders w k) (M t w k) (g.sane.low w k), orders_le w k)

  -- ── every row is in range ──
  warehouse-row : (w : ℕ) → R D.warehouses w → WarehouseIn D b w
  warehouse-row w r = record {
    tax = rw (g.agrees.warehouse.tax w r) (fr.warehouse_tax_lem w r);
    ytd = rw (g.agrees.warehouse.ytd w r, nat-pos (t.warehouse w)) (omega (arith, g.sane.warehouse w, payments_le));
  }

  district-row : (w k : ℕ) → R D.warehouses w → R 10 k → DistrictIn D b w k
  district-row w k r s =
      let en = next-num D b₀ t b g.agrees w k r s in
      record {
        tax = rw (g.agrees.district.tax w k r s) (fr.district_tax_lem w k r s);
        ytd = rw (g.agrees.district.ytd w k r s, nat-pos (t.district w k)) (omega (arith, g.sane.district w k, payments_le));
        next_low = omega (arith, en);
        next_high = omega (arith, en, g.agrees.order.nle w k);
      }

  customer-row : (w k c : ℕ) → R D.warehouses w → R 10 k → R D.customers c → CustomerIn D b w k c
  customer-row w k c r s u =
      let paid-le : t.paid w k c ≤ 999999999999 = omega (arith, g.sane.paid w k c, payments_le) in
      record {
        credit = rw (g.agrees.customer.credit w k c r s u) (fr.credit w k c r s u);
        rate = rw (g.agrees.customer.rate w k c r s u) (fr.rate w k c r s u);
        balanced = ap balance_ok (g.agrees.customer.bals w k c r s u) ∙ bal_fits (charged t w k c) (t.paid w k c) (charged_le w k c) paid-le;
        paid = rw (g.agrees.customer.ytd w k c r s u, nat-pos (t.paid w k c)) paid-le;
        payments = rw (g.agrees.customer.payments_are w k c r s u, nat-pos (times_of (is_payer w k c) t.payments)) (omega (arith, times_le (is_payer w k c) t.payments, payments_le));
        deliveries = rw (g.agrees.customer.deliveries_are w k c r s u, nat-pos (handed_to t w k c)) (omega (arith, orders_by_le c (t.orders w k) (M t w k), orders_le w k));
      }

  item-row : (i : ℕ) → R D.items i → ItemIn D b i
  item-row i r = record { price_high = rw (g.agrees.item.prices i r) (fr.prices i r) }

  stock-row : (w i : ℕ) → R D.warehouses w → R D.items i → StockIn D b w i
  stock-row w i r s =
      record {
        hand = count-nat (g.agrees.stock.hand w i r s);
        ytd = rw (g.agrees.stock.ytd w i r s, nat-pos (t.lots w i)) (omega (arith, lots_le w i));
        orders = omega (arith, count-nat (g.agrees.stock.orders_to w i r s), lots_le w i);
        remotes = omega (arith, count-nat (g.agrees.stock.remotes_to w i r s), lots_le w i);
      }

  -- ── the tests of used rows ──
  head_pass : head_ok b (length names) ≡ true
  unfolding head_ok size_tests
  head_pass =
      let ed = g.agrees.head.head in
      let en : num (shapes D) b history_count ≡ length t.payments = ap nat g.agrees.head.count ∙ nat-pos (length t.payments) in
      let el : length b ≡ numbers D = long_of D b g.agrees.head.len in
      subst (λ (d : Dims). every (leb 6 (length b) ∷ every (dims_tests d) ∷ every (leb (cell b 5) d.histories ∷ eqb (length b) (numbers d) ∷ eqb (length names) (name_bytes d) ∷ []) ∷ []) ≡ true) (sym ed)
      (each-every (leb 6 (length b) ∷ every (dims_tests D) ∷ every (leb (cell b 5) D.histories ∷ eqb (length b) (numbers D) ∷ eqb (length names) (name_bytes D) ∷ []) ∷ []) (
        le-leb 6 (length b) (omega (arith, el, fr.shaped.long, fr.shaped.six)),
        (
          dims_pass D fr.shaped.dimsd,
          (
            each-every (leb (cell b 5) D.histories ∷ eqb (length b) (numbers D) ∷ eqb (length names) (name_bytes D) ∷ [])
                (le-leb (cell b 5) D.histories (omega (arith, head-num D b, en, g.agrees.head.room)), (eq-eqb _ _ el, (eq-eqb _ _ fr.shaped.names, tt))),
            tt,
          ),
        ),
      ))

  who_pass : (w k : ℕ) (who : Who) → R D.warehouses w → R 10 k → every (who_tests D who) ≡ true → who_used D b names w k who ≡ true
  unfolding who_used
  who_pass w k (by_number c) r s e = in_customer D b w k c (customer-row w k c r s (in_range c D.customers e))
  who_pass w k (by_name name) r s e =
      each-every (customers_used D b w k ∷ names_used D names w k ∷ []) (at-customers D b w k (λ c u. customer-row w k c r s u), (fr.named w k r s, tt))

  line_pass : (l : Line) → R D.warehouses l.supply → line_used D b l ≡ true
  unfolding line_used
  line_pass l r = go (listed D l) refl
    where
      go : (x : Bool) → listed D l ≡ x → cond x (every (item_used D b l.item ∷ stock_used D b l.supply l.item ∷ [])) true ≡ true
      go false e = refl
      go true e =
          let i : R D.items l.item = record {
            lo = leb-true _ _ (and_left (leb 1 l.item) (leb l.item D.items) e);
            hi = leb-true _ _ (and_right (leb 1 l.item) (leb l.item D.items) e);
          } in
          each-every (item_used D b l.item ∷ stock_used D b l.supply l.item ∷ [])
          (in_item D b l.item (item-row l.item i), (in_stock D b l.supply l.item (stock-row l.supply l.item r i), tt))

  lines_pass : (ls : List Line) → eqb (failing (suppliable D) 1 ls) 0 ≡ true → all_of (line_used D b) ls ≡ true
  lines_pass ls e =
      in_all_of (line_used D b) ls
      (all_in_map (λ l. suppliable D l ≡ true) (λ l. line_used D b l ≡ true) (λ l p. line_pass l (line-asked D l p).supply) ls (none-failing (suppliable D) 0 ls e))

  deliverable_pass : (w k : ℕ) → R D.warehouses w → R 10 k → deliverable D b w k ≡ true
  unfolding deliverable
  deliverable_pass w k r s =
      each-every (district_used D b w k ∷ customers_used D b w k ∷ orders_used D b w k ∷ [])
      (in_district D b w k (district-row w k r s), (at-customers D b w k (λ c u. customer-row w k c r s u), (at-orders D b w k (orders_in D b₀ t b g w k r s), tt)))

  -- ── 9, call by call ──
  pay_9 : (notes : List ℕ) (q : Payment) (who : Who) → PassAt 9 (chk (head_ok b (length names)) 2 ∷ pay_first D notes q who ++ pay_used D b names q who)
  unfolding pay_asked pay_used
  pay_9 notes q who = (
    tt,
    λ _. (
      tt,
      λ _. (
        tt,
        λ e4. (
          tt,
          λ e5. (
            tt,
            λ e6. (
              tt,
              λ _. (
                tt,
                λ _.
                    let f4 = every-each (within q.warehouse 1 D.warehouses ∷ within q.custwarehouse 1 D.warehouses ∷ []) e4 in
                    let f5 = every-each (within q.district 1 10 ∷ within q.custdistrict 1 10 ∷ []) e5 in
                    let w = in_range q.warehouse D.warehouses f4.0 in
                    let cw = in_range q.custwarehouse D.warehouses f4.1.0 in
                    let k = in_range q.district 10 f5.0 in
                    let ck = in_range q.custdistrict 10 f5.1.0 in (
                      in_warehouse D b q.warehouse (warehouse-row q.warehouse w),
                      λ _. (
                        in_district D b q.warehouse q.district (district-row q.warehouse q.district w k),
                        λ _.
                            (who_pass q.custwarehouse q.custdistrict who cw ck e6, λ _. (tt, λ _. (tt, λ _. tt))),
                      ),
                    ),
              ),
            ),
          ),
        ),
      ),
    ),
  )

  new_9 : (last topup : List ℤ) (q : NewOrder) (ls : List Line) → PassAt 9 (chk (head_ok b (length names)) 2 ∷ new_asked D q ls ++ new_used D b last topup q ls)
  unfolding new_asked new_used
  new_9 last topup q ls = (
    tt,
    λ _. (
      tt,
      λ e4. (
        tt,
        λ e5. (
          tt,
          λ e6. (
            tt,
            λ _. (
              tt,
              λ _. (
                tt,
                λ e8.
                    let w = in_range q.warehouse D.warehouses e4 in
                    let k = in_range q.district 10 e5 in
                    let c = in_range q.customer D.customers e6 in (
                      in_warehouse D b q.warehouse (warehouse-row q.warehouse w),
                      λ _. (
                        in_district D b q.warehouse q.district (district-row q.warehouse q.district w k),
                        λ _. (
                          in_customer D b q.warehouse q.district q.customer (customer-row q.warehouse q.district q.customer w k c),
                          λ _. (lines_pass ls e8, λ _. (tt, λ _. (tt, λ _. (tt, λ _. (tt, λ _. (tt, λ _. tt)))))),
                        ),
                      ),
                    ),
              ),
            ),
          ),
        ),
      ),
    ),
  )

  delivery_9 : (q : Delivery) → PassAt 9 (chk (head_ok b (length names)) 2 ∷ delivery_asked D q ++ delivery_used D b q)
  unfolding delivery_asked delivery_used
  delivery_9 q =
      (tt, λ _. (tt, λ e4. (tt, λ _. (tt, λ _. (all-to (deliverable D b q.warehouse) 10 (λ k s. deliverable_pass q.warehouse k (in_range q.warehouse D.warehouses e4) s), λ _. tt)))))

  status_9 : (last : List ℤ) (q : OrderStatus) (who : Who) → PassAt 9 (chk (head_ok b (length names)) 2 ∷ status_asked D q who ++ status_used D b names last q who)
  unfolding status_asked status_used
  status_9 last q who = (
    tt,
    λ _. (
      tt,
      λ e4. (
        tt,
        λ e5. (
          tt,
          λ e6.
              let w = in_range q.warehouse D.warehouses e4 in
              let k = in_range q.district 10 e5 in (
                in_district D b q.warehouse q.district (district-row q.warehouse q.district w k),
                λ _. (
                  who_pass q.warehouse q.district who w k e6,
                  λ _. (tt, λ _. (tt, λ _. (tt, λ _. (tt, λ _. tt)))),
                ),
              ),
        ),
      ),
    ),
  )

  level_9 : (q : StockLevel) → PassAt 9 (chk (head_ok b (length names)) 2 ∷ level_asked D q ++ level_used D b q)
  unfolding level_asked level_used
  level_9 q = (
    tt,
    λ _. (
      tt,
      λ e4. (
        tt,
        λ e5. (
          tt,
          λ _.
              let w = in_range q.warehouse D.warehouses e4 in
              let k = in_range q.district 10 e5 in
              let d = district-row q.warehouse q.district w k in (
                in_district D b q.warehouse q.district d,
                λ _. (
                  at-window D b q.warehouse q.district d.next_low (orders_in D b₀ t b g q.warehouse q.district w k),
                  λ _. (all-to (stock_used D b q.warehouse) D.items (λ i s. in_stock D b q.warehouse i (stock-row q.warehouse i w s)), λ _. tt),
                ),
              ),
        ),
      ),
    ),
  )

  -- ── 2, 3 and 9, any call ──
  abbrev Not239 : ℕ → Type 0
  Not239 n = (n ≢ 2) × ((n ≢ 3) × (n ≢ 9))

  all_three : (cs : List Check) → avoids 2 cs ≡ true → avoids 3 cs ≡ true → PassAt 9 (chk (head_ok b (length names)) 2 ∷ cs) → Not239 (fault (chk (head_ok b (length names)) 2 ∷ cs)).number
  all_three cs e2 e3 p = (
    not_answered 2 (chk (head_ok b (length names)) 2 ∷ cs) (omega arith) (head_pass, λ _. avoided 2 cs e2),
    (not_answered 3 (chk (head_ok b (length names)) 2 ∷ cs) (omega arith) (tt, λ _. avoided 3 cs e3), not_answered 9 (chk (head_ok b (length names)) 2 ∷ cs) (omega arith) p),
  )

  sized : (f : Dims → List Check) → Not239 (fault (chk (head_ok b (length names)) 2 ∷ f D)).number → Not239 (fault (chk (head_ok b (length names)) 2 ∷ f (dims b))).number
  sized f h = subst (λ (d : Dims). Not239 (fault (chk (head_ok b (length names)) 2 ∷ f d)).number) (sym g.agrees.head.head) h

  never-call : (last : List ℤ) (notes : List ℕ) (topup : List ℤ) (r : Request) → Not239 (fault_of (lent b names last notes topup) r).number
  unfolding fault_of new_order_fault payment_fault delivery_fault status_fault stock_level_fault new_asked new_used pay_asked pay_used delivery_asked delivery_used status_asked status_used level_asked level_used
  never-call last notes topup (new_order q ls) = sized (λ d. new_asked d q ls ++ new_used d b last topup q ls) (all_three (new_asked D q ls ++ new_used D b last topup q ls) refl refl (new_9 last topup q ls))
  never-call last notes topup (payment q who) = sized (λ d. pay_first d notes q who ++ pay_used d b names q who) (all_three (pay_first D notes q who ++ pay_used D b names q who) refl refl (pay_9 notes q who))
  never-call last notes topup (delivery q) = sized (λ d. delivery_asked d q ++ delivery_used d b q) (all_three (delivery_asked D q ++ delivery_used D b q) refl refl (delivery_9 q))
  never-call last notes topup (order_status q who) = sized (λ d. status_asked d q who ++ status_used d b names last q who) (all_three (status_asked D q who ++ status_used D b names last q who) refl refl (status_9 last q who))
  never-call last notes topup (stock_level q) = sized (λ d. level_asked d q ++ level_used d b q) (all_three (level_asked D q ++ level_used D b q) refl refl (level_9 q))

-- one call, whatever is lent beside numbers and names
pub never-step : (D : Dims) (b₀ : List ℤ) (t : Tally) (s : Lent) → Fresh D b₀ s.names → Good D b₀ t s.nums → (r : Request)
    → ((fault_of s r).number ≢ 2) × (((fault_of s r).number ≢ 3) × ((fault_of s r).number ≢ 9))
never-step D b₀ t s fr g r = never-call D b₀ s.names fr t s.nums g s.last s.notes s.topup r

pub never_list : (D : Dims) (b₀ : List ℤ) (rs : List Request) (t : Tally) (s : Lent) → Fresh D b₀ s.names → Good D b₀ t s.nums → Never (done_all s rs)
never_list D b₀ [] t s fr g = tt
never_list D b₀ (r ∷ rs) t s fr g =
    let n = never-step D b₀ t s fr g r in
    (n.0, (n.1.0, (n.1.1, never_list D b₀ rs (counted D b₀ t s r) (after s r) fr (call_step D b₀ t s g r))))
