-- An order's row, as a function of the column: in range, with its customer, the sum of its amounts, its carrier and dates; when it joins and
-- when it is delivered.
-- Assumes nothing.
use mathlib.Core.Path.{◌≡◌, refl, ap, ◌∙◌, subst}
use mathlib.Core.Bool.{Bool, true, false, cond}
use mathlib.Core.List.{List, [], ◌∷◌}
use Prim.Native.Nat.{ℕ, zero, suc, ◌+◌, ◌*◌, ◌-◌, ◌%◌, ◌≤◌, ◌<◌}
use native.Mathlib.Nat.{mul-le-mul, not-suc-le-zero}
use native.Mathlib.Omega.{arith}
use native.Mathlib.Decide.{dec_lt}
use lib.Dec.{eqb, leb}
use lib.IntN.{ℤ, pos}
use lib.ListN.{length, get_or}
use borrow.Author.Tests.{eq-eqb, ne_eqb, le-leb, lt-leb}
use Rattle.model.specs.declared.Dims.{Dims}
use Rattle.model.specs.declared.Line.{Line}
use Rattle.model.specs.declared.NewOrder.{NewOrder}
use Rattle.model.specs.Tests.{all_of}
use Rattle.model.specs.Numbers.{nat}
use Rattle.model.specs.Lists.{up_to, sum_of}
use Rattle.model.specs.Rows.{line}
use Rattle.model.specs.NewOrder.{line_numbers, order_numbers}
use Rattle.model.specs.Delivery.{line_amounts, hand_over}
use Rattle.model.specs.Tally.{Order, worth}
use Rattle.model.specs.Claim.{R}
use Rattle.model.proofs.ListLaws.{up_same, up_cons}
use Rattle.model.proofs.NumberLaws.{nat-pos}
use Rattle.model.proofs.RowFacts.{AllIn}

pub record Between (lo hi : ℕ) (z : ℤ) : Type 0 where
  pub n : ℕ
  pub is : z ≡ pos n
  pub low : lo ≤ n
  pub high : n ≤ hi

pub nat_low : {lo hi : ℕ} {z : ℤ} → Between lo hi z → lo ≤ nat z
nat_low h = rw (h.is, nat-pos h.n) h.low

pub nat-high : {lo hi : ℕ} {z : ℤ} → Between lo hi z → nat z ≤ hi
nat-high h = rw (h.is, nat-pos h.n) h.high

pub moved : {lo hi : ℕ} {z z' : ℤ} → z' ≡ z → Between lo hi z → Between lo hi z'
moved e h = record { n = h.n; is = e ∙ h.is; low = h.low; high = h.high }

pub exact : {lo hi : ℕ} (n : ℕ) → lo ≤ n → n ≤ hi → Between lo hi (pos n)
exact n h k = record { n = n; is = refl; low = h; high = k }

-- a line, by its five columns
pub record LineIs (D : Dims) (l : ℕ → ℤ) : Type 0 where
  pub item : Between 1 D.items (l 0)
  pub supply : Between 1 D.warehouses (l 1)
  pub quantity : Between 1 10 (l 2)
  pub amount : Between 1 999990 (l 3)
  pub date : Between 0 6342969600 (l 4)

pub record RowIs (D : Dims) (r : ℕ → ℤ) : Type 0 where
  pub customer : Between 1 D.customers (r 0)
  pub date : Between 1 6342969600 (r 1)
  pub carrier : Between 0 10 (r 2)
  pub count : Between 1 15 (r 3)
  pub local : Between 0 1 (r 4)
  pub waits : Between 0 1 (r 5)
  pub lines : (j : ℕ) → R (nat (r 3)) j → LineIs D (line r j)

pub record Undelivered (r : ℕ → ℤ) : Type 0 where
  pub carrier : r 2 ≡ pos 0
  pub dates : (j : ℕ) → R (nat (r 3)) j → line r j 4 ≡ pos 0

pub record Delivered (r : ℕ → ℤ) : Type 0 where
  pub carrier : 1 ≤ nat (r 2)
  pub dates : (j : ℕ) → R (nat (r 3)) j → 1 ≤ nat (line r j 4)

-- the row of an order of the tally; wait: it is not delivered
pub record SlotIs (D : Dims) (r : ℕ → ℤ) (x : Order) (wait : Bool) : Type 0 where
  pub flag : r 5 ≡ pos (cond wait 1 0)
  pub customer : r 0 ≡ pos x.customer
  pub in_range : R D.customers x.customer
  pub sum : sum_of (line_amounts r) ≡ x.sum
  pub row : RowIs D r
  pub unused : (j : ℕ) → nat (r 3) < j → j ≤ 15 → (c : ℕ) → c ≤ 4 → line r j c ≡ pos 0
  pub waiting : wait ≡ true → Undelivered r
  pub done : wait ≡ false → Delivered r

-- ── a row that moved as a whole ──
line_col : (n j c : ℕ) → n ≤ 15 → R n j → c ≤ 4 → 1 + 5 * j + c < 81
line_col n j c h r k = omega arith

pub slot-moved : (D : Dims) (r r' : ℕ → ℤ) (x : Order) (wait : Bool) → ((k : ℕ) → k < 81 → r' k ≡ r k) → SlotIs D r x wait → SlotIs D r' x wait
unfolding line_amounts
slot-moved D r r' x wait e s = record {
  flag = e 5 (omega arith) ∙ s.flag;
  customer = e 0 (omega arith) ∙ s.customer;
  in_range = s.in_range;
  sum =
      ap sum_of (ap (λ (z : ℤ). up_to (nat z) (λ j. nat (line r' j 3))) (e 3 (omega arith))
      ∙ up_same (nat (r 3)) (λ j. nat (line r' j 3)) (λ j. nat (line r j 3)) (λ j q. ap nat (at-line j 3 q (omega arith)))) ∙ s.sum;
  row = record {
    customer = moved (e 0 (omega arith)) s.row.customer;
    date = moved (e 1 (omega arith)) s.row.date;
    carrier = moved (e 2 (omega arith)) s.row.carrier;
    count = moved (e 3 (omega arith)) s.row.count;
    local = moved (e 4 (omega arith)) s.row.local;
    waits = moved (e 5 (omega arith)) s.row.waits;
    lines = λ j q.
        let q' = back j q in
        let l = s.row.lines j q' in
        record {
          item = moved (at-line j 0 q' (omega arith)) l.item;
          supply = moved (at-line j 1 q' (omega arith)) l.supply;
          quantity = moved (at-line j 2 q' (omega arith)) l.quantity;
          amount = moved (at-line j 3 q' (omega arith)) l.amount;
          date = moved (at-line j 4 q' (omega arith)) l.date;
        };
  };
  unused = λ j h k c hc.
      e (1 + 5 * j + c) (omega arith) ∙ s.unused j (subst (λ (z : ℤ). nat z < j) (e 3 (omega arith)) h) k c hc;
  waiting = λ w. record {
    carrier = e 2 (omega arith) ∙ (s.waiting w).carrier;
    dates = λ j q. at-line j 4 (back j q) (omega arith) ∙ (s.waiting w).dates j (back j q);
  };
  done = λ w. record {
    carrier = rw (e 2 (omega arith)) (s.done w).carrier;
    dates = λ j q. rw (at-line j 4 (back j q) (omega arith)) ((s.done w).dates j (back j q));
  };
}
  where
    back : (j : ℕ) → R (nat (r' 3)) j → R (nat (r 3)) j
    back j q = subst (λ (z : ℤ). R (nat z) j) (e 3 (omega arith)) q

    at-line : (j c : ℕ) → R (nat (r 3)) j → c ≤ 4 → line r' j c ≡ line r j c
    at-line j c q h = e (1 + 5 * j + c) (line_col (nat (r 3)) j c (nat-high s.row.count) q h)

-- ── an order joins ──
-- what is known of a line, at the prices pr
pub record LineStep (D : Dims) (l : Line) : Type 0 where
  pub item : R D.items l.item
  pub supply : R D.warehouses l.supply
  pub quantity : R 10 l.quantity

pub record Priced (pr : ℕ → ℕ) (l : Line) : Type 0 where
  pub low : 1 ≤ pr l.item
  pub high : pr l.item ≤ 99999

module _ (D : Dims) (pr : ℕ → ℕ) where
  words_in : (ls : List Line) → AllIn (LineStep D) ls → AllIn (Priced pr) ls → (i : ℕ) → i < length ls → LineIs D (λ c. get_or (line_numbers pr ls) (5 * i + c) (pos 0))
  words_in [] s p i h = absurd (not-suc-le-zero h)
  words_in (l ∷ ls) s p zero h = record {
    item = exact l.item s.0.item.lo s.0.item.hi;
    supply = exact l.supply s.0.supply.lo s.0.supply.hi;
    quantity = exact l.quantity s.0.quantity.lo s.0.quantity.hi;
    amount = exact (l.quantity * pr l.item) (omega (arith, mul-le-mul s.0.quantity.lo p.0.low)) (omega (arith, mul-le-mul s.0.quantity.hi p.0.high));
    date = exact 0 (omega arith) (omega arith);
  }
  words_in (l ∷ ls) s p (suc i) h =
      let ih = words_in ls s.1 p.1 i (omega arith) in
      record {
        item = moved (shift 0) ih.item;
        supply = moved (shift 1) ih.supply;
        quantity = moved (shift 2) ih.quantity;
        amount = moved (shift 3) ih.amount;
        date = moved (shift 4) ih.date;
      }
    where
      shift : (c : ℕ) → get_or (line_numbers pr (l ∷ ls)) (5 * suc i + c) (pos 0) ≡ get_or (line_numbers pr ls) (5 * i + c) (pos 0)
      shift c =
          let e : 5 * suc i + c ≡ suc (suc (suc (suc (suc (5 * i + c))))) = omega arith in
          ap (λ (k : ℕ). get_or (line_numbers pr (l ∷ ls)) k (pos 0)) e

  words_dates : (ls : List Line) (i : ℕ) → i < length ls → get_or (line_numbers pr ls) (5 * i + 4) (pos 0) ≡ pos 0
  words_dates [] i h = absurd (not-suc-le-zero h)
  words_dates (l ∷ ls) zero h = refl
  words_dates (l ∷ ls) (suc i) h =
      let e : 5 * suc i + 4 ≡ suc (suc (suc (suc (suc (5 * i + 4))))) = omega arith in
      ap (λ (k : ℕ). get_or (line_numbers pr (l ∷ ls)) k (pos 0)) e ∙ words_dates ls i (omega arith)

  words_rest : (ls : List Line) (i c : ℕ) → length ls ≤ i → get_or (line_numbers pr ls) (5 * i + c) (pos 0) ≡ pos 0
  words_rest [] i c h = refl
  words_rest (l ∷ ls) zero c h = absurd (omega arith)
  words_rest (l ∷ ls) (suc i) c h =
      let e : 5 * suc i + c ≡ suc (suc (suc (suc (suc (5 * i + c))))) = omega arith in
      ap (λ (k : ℕ). get_or (line_numbers pr (l ∷ ls)) k (pos 0)) e ∙ words_rest ls i c (omega arith)

  words_sum : (ls : List Line) → sum_of (up_to (length ls) (λ j. nat (get_or (line_numbers pr ls) (5 * (j - 1) + 3) (pos 0)))) ≡ worth pr ls
  unfolding sum_of up_to nat
  words_sum [] = refl
  words_sum (l ∷ ls) =
      ap sum_of (up_cons (length ls) (λ j. nat (get_or (line_numbers pr (l ∷ ls)) (5 * (j - 1) + 3) (pos 0))))
      ∙ ap (λ (xs : List ℕ). l.quantity * pr l.item + sum_of xs) (up_same (length ls) _ _ (λ j q. ap (λ (k : ℕ). nat (get_or (line_numbers pr (l ∷ ls)) k (pos 0))) (five j q.lo)))
      ∙ ap (λ (n : ℕ). l.quantity * pr l.item + n) (words_sum ls)
    where
      five : (j : ℕ) → 1 ≤ j → 5 * (suc j - 1) + 3 ≡ suc (suc (suc (suc (suc (5 * (j - 1) + 3)))))
      five j h = omega arith

one_or : (x : Bool) → Between 0 1 (pos (cond x 1 0))
one_or true = exact 1 (omega arith) (omega arith)
one_or false = exact 0 (omega arith) (omega arith)

pub new_slot : (D : Dims) (pr : ℕ → ℕ) (q : NewOrder) (ls : List Line) → R D.customers q.customer → R 6342969600 q.date → R 15 (length ls)
    → AllIn (LineStep D) ls → AllIn (Priced pr) ls
    → SlotIs D (λ k. get_or (order_numbers pr q ls) k (pos 0)) (record { customer = q.customer; sum = worth pr ls }) true
unfolding line_amounts nat
new_slot D pr q ls rc rd rl s p = record {
  flag = refl;
  customer = refl;
  in_range = rc;
  sum = ap sum_of (up_same (length ls) _ _ (λ j h. ap nat (up j 3 h.lo))) ∙ words_sum D pr ls;
  row = record {
    customer = exact q.customer rc.lo rc.hi;
    date = exact q.date rd.lo rd.hi;
    carrier = exact 0 (omega arith) (omega arith);
    count = exact (length ls) rl.lo rl.hi;
    local = one_or (all_of (λ l. eqb l.supply q.warehouse) ls);
    waits = exact 1 (omega arith) (omega arith);
    lines = λ j h.
        let l = words_in D pr ls s p (j - 1) (omega arith) in
        record {
          item = moved (up j 0 h.lo) l.item;
          supply = moved (up j 1 h.lo) l.supply;
          quantity = moved (up j 2 h.lo) l.quantity;
          amount = moved (up j 3 h.lo) l.amount;
          date = moved (up j 4 h.lo) l.date;
        };
  };
  unused = λ j h k c hc. up j c (omega arith) ∙ words_rest D pr ls (j - 1) c (omega arith);
  waiting = λ w. record { carrier = refl; dates = λ j h. up j 4 h.lo ∙ words_dates D pr ls (j - 1) (omega arith) };
  done = λ w. let z : ◌≡◌ {A = ℕ} 0 1 = cc in absurd (omega arith);
}
  where
    up : (j c : ℕ) → 1 ≤ j → get_or (order_numbers pr q ls) (1 + 5 * j + c) (pos 0) ≡ get_or (line_numbers pr ls) (5 * (j - 1) + c) (pos 0)
    up j c h =
        let e : 1 + 5 * j + c ≡ suc (suc (suc (suc (suc (suc (5 * (j - 1) + c)))))) = omega arith in
        ap (λ (k : ℕ). get_or (order_numbers pr q ls) k (pos 0)) e

-- ── an order is delivered ──
abbrev pub handed : ℕ → ℕ → ℕ → (ℕ → ℤ) → ℕ → ℤ
handed car date n r k = hand_over car date n k (r k)

module _ (car date n : ℕ) (r : ℕ → ℤ) where
  -- a column of a line that is no date
  hand-plain : (j c : ℕ) → 1 ≤ j → c ≤ 3 → line (handed car date n r) j c ≡ line r j c
  hand-plain j c h k =
      let e2 : eqb (1 + 5 * j + c) 2 ≡ false = ne_eqb _ _ (λ (e : 1 + 5 * j + c ≡ 2). omega arith) in
      let e5 : eqb (1 + 5 * j + c) 5 ≡ false = ne_eqb _ _ (λ (e : 1 + 5 * j + c ≡ 5). omega arith) in
      let em : eqb ((1 + 5 * j + c) % 5) 0 ≡ false = ne_eqb _ _ (λ (e : (1 + 5 * j + c) % 5 ≡ 0). omega arith) in
      rw (e2, e5, em)

  hand-date : (j : ℕ) → R n j → line (handed car date n r) j 4 ≡ pos date
  hand-date j q =
      let e2 : eqb (1 + 5 * j + 4) 2 ≡ false = ne_eqb _ _ (λ (e : 1 + 5 * j + 4 ≡ 2). omega (arith, q.lo)) in
      let e5 : eqb (1 + 5 * j + 4) 5 ≡ false = ne_eqb _ _ (λ (e : 1 + 5 * j + 4 ≡ 5). omega (arith, q.lo)) in
      let em : eqb ((1 + 5 * j + 4) % 5) 0 ≡ true = eq-eqb ((1 + 5 * j + 4) % 5) 0 (omega arith) in
      let el : leb 10 (1 + 5 * j + 4) ≡ true = le-leb 10 (1 + 5 * j + 4) (omega (arith, q.lo)) in
      let eh : leb (1 + 5 * j + 4) (5 * n + 5) ≡ true = le-leb (1 + 5 * j + 4) (5 * n + 5) (omega (arith, q.hi)) in
      rw (e2, e5, em, el, eh)

  -- a line that is not in use
  hand-unused : (j c : ℕ) → n < j → c ≤ 4 → line (handed car date n r) j c ≡ line r j c
  hand-unused j c h k = go (dec_lt c 4)
    where
      go : Dec (c < 4) → line (handed car date n r) j c ≡ line r j c
      go (yes q) = hand-plain j c (omega arith) (omega arith)
      go (no q) =
          let e2 : eqb (1 + 5 * j + c) 2 ≡ false = ne_eqb _ _ (λ (e : 1 + 5 * j + c ≡ 2). omega arith) in
          let e5 : eqb (1 + 5 * j + c) 5 ≡ false = ne_eqb _ _ (λ (e : 1 + 5 * j + c ≡ 5). omega arith) in
          let eh : leb (1 + 5 * j + c) (5 * n + 5) ≡ false = lt-leb (1 + 5 * j + c) (5 * n + 5) (omega arith) in
          let em : eqb ((1 + 5 * j + c) % 5) 0 ≡ true = eq-eqb ((1 + 5 * j + c) % 5) 0 (omega arith) in
          let el : leb 10 (1 + 5 * j + c) ≡ true = le-leb 10 (1 + 5 * j + c) (omega arith) in
          rw (e2, e5, em, el, eh)

pub done-slot : (D : Dims) (car date : ℕ) (r : ℕ → ℤ) (x : Order) (wait : Bool) → R 10 car → R 6342969600 date → SlotIs D r x wait → SlotIs D (handed car date (nat (r 3)) r) x false
unfolding line_amounts
done-slot D car date r x wait rc rd s = record {
  flag = refl;
  customer = s.customer;
  in_range = s.in_range;
  sum = ap sum_of (up_same (nat (r 3)) _ _ (λ j q. ap nat (hand-plain car date (nat (r 3)) r j 3 q.lo (omega arith)))) ∙ s.sum;
  row = record {
    customer = s.row.customer;
    date = s.row.date;
    carrier = exact car (omega arith) rc.hi;
    count = s.row.count;
    local = s.row.local;
    waits = exact 0 (omega arith) (omega arith);
    lines = λ j q.
        let l = s.row.lines j q in
        record {
          item = moved (hand-plain car date (nat (r 3)) r j 0 q.lo (omega arith)) l.item;
          supply = moved (hand-plain car date (nat (r 3)) r j 1 q.lo (omega arith)) l.supply;
          quantity = moved (hand-plain car date (nat (r 3)) r j 2 q.lo (omega arith)) l.quantity;
          amount = moved (hand-plain car date (nat (r 3)) r j 3 q.lo (omega arith)) l.amount;
          date = moved (hand-date car date (nat (r 3)) r j q) (exact date (omega arith) rd.hi);
        };
  };
  unused = λ j h k c hc. hand-unused car date (nat (r 3)) r j c h hc ∙ s.unused j h k c hc;
  waiting = λ w. let z : ◌≡◌ {A = ℕ} 0 1 = cc in absurd (omega arith);
  done = λ w. record { carrier = rw (nat-pos car) rc.lo; dates = λ j q. rw (hand-date car date (nat (r 3)) r j q, nat-pos date) rd.lo };
}
