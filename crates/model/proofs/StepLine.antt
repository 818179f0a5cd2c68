-- A line of a committed New-Order keeps the book and the tally in agreement.
-- Assumes nothing.
use mathlib.Core.Path.{◌≡◌, refl, ◌∙◌}
use mathlib.Core.Bool.{Bool, true, false, cond}
use mathlib.Core.List.{List, [], ◌∷◌}
use Prim.Native.Nat.{ℕ, ◌≤◌}
use native.Mathlib.Omega.{arith}
use lib.Dec.{eqb}
use lib.IntN.{ℤ, pos}
use lib.ListN.{length}
use Rattle.model.specs.declared.Dims.{Dims}
use Rattle.model.specs.declared.Line.{Line}
use Rattle.model.specs.Numbers.{nat}
use Rattle.model.specs.Layout.{shapes, Addr, at}
use Rattle.model.specs.Store.{get, run}
use Rattle.model.specs.Rows.{on_hand, stock_ytd, order_cnt, remote_cnt}
use Rattle.model.specs.TopUp.{restock}
use Rattle.model.specs.NewOrder.{line_ops, take_lines}
use Rattle.model.specs.Tally.{Tally, is2, charged, tally_line, tally_lines}
use Rattle.model.specs.Claim.{R}
use Rattle.model.proofs.RuleLaws.{Ruled, restocked, Tabled}
use Rattle.model.proofs.Places.{Valid}
use Rattle.model.proofs.Frame.{seen, get-run, length_run}
use Rattle.model.proofs.Fields.{v5}
use Rattle.model.proofs.NewOrderFacts.{LineReady, line-fine}
use Rattle.model.proofs.RowFacts.{AllIn, all_in_map}
use Rattle.model.proofs.OrderRows.{LineStep}
use Rattle.model.proofs.Parts.{Agrees, Count, count-nat, handed_to, counted, count-up, head-same, warehouse-same, district-same, customer-same, item-same, order_same, history-same, bumped}

-- the lines of an order that is not refused are in range
pub line_steps : (D : Dims) (b : List ℤ) (ls : List Line) → AllIn (LineReady D b) ls → AllIn (LineStep D) ls
line_steps D b = all_in_map (LineReady D b) (LineStep D) (λ l p. record { item = p.used.item; supply = p.asked.supply; quantity = p.asked.quantity })

-- on hand stays in range
hand-taken : {z : ℤ} (t : Bool) {m l : ℕ} (q : ℕ) → Ruled m l → R 10 q → Count 9999 z → Count 9999 (cond t (pos (restock m l (nat z) q)) z)
hand-taken false q u r s = s
hand-taken {z} true {m} {l} q u r s = record { m = restock m l (nat z) q; is = refl; high = (restocked m l (nat z) q u r.hi).high (count-nat s) }

remote_le : (t : Bool) (q : ℕ) → 1 ≤ q → cond t 0 1 ≤ q
remote_le true q h = omega arith
remote_le false q h = h

module _ (D : Dims) (b₀ : List ℤ) (t : Tally) (b : List ℤ) (ag : Agrees D b₀ t b) (topup : List ℤ) (u : Tabled D topup) (w₀ : ℕ) (l : Line) (f : LineStep D l) where
  pub line-look : (a : Addr) → Valid (shapes D) a → get (shapes D) (run (shapes D) (line_ops topup w₀ l) b) a ≡ seen a (line_ops topup w₀ l) (get (shapes D) b a)
  line-look a v = get-run (shapes D) (line_ops topup w₀ l) b a ag.head.len (line-fine D topup w₀ l f.supply f.item) v

  pub line-agrees : Agrees D b₀ (tally_line l t) (run (shapes D) (line_ops topup w₀ l) b)
  unfolding tally_line
  line-agrees =
      let b' = run (shapes D) (line_ops topup w₀ l) b in
      record {
        head = head-same D b b' t.payments (length_run (shapes D) (line_ops topup w₀ l) b) (λ x y z k v. line-look (at 0 x y z k) v) ag.head;
        warehouse = warehouse-same D b b' b₀ t.warehouse (λ x y z k v. line-look (at 1 x y z k) v) ag.warehouse;
        district = district-same D b b' b₀ t.district t.orders (λ x y z k v. line-look (at 2 x y z k) v) ag.district;
        customer = customer-same D b b' b₀ (charged t) (handed_to t) t.paid t.payments (λ x y z k v. line-look (at 3 x y z k) v) ag.customer;
        item = item-same D b b' b₀ (λ x y z k v. line-look (at 4 x y z k) v) ag.item;
        stock = record {
          hand = λ w i r s. counted (line-look (on_hand w i) (v5 D r s 0 (omega arith))) (hand-taken (is2 l.supply l.item w i) l.quantity (u.each l.item f.item) f.quantity (ag.stock.hand w i r s));
          ytd = λ w i r s. line-look (stock_ytd w i) (v5 D r s 1 (omega arith)) ∙ bumped (is2 l.supply l.item w i) l.quantity (ag.stock.ytd w i r s);
          orders_to = λ w i r s.
              counted (line-look (order_cnt w i) (v5 D r s 2 (omega arith))) (count-up (is2 l.supply l.item w i) 1 l.quantity f.quantity.lo (ag.stock.orders_to w i r s));
          remotes_to = λ w i r s.
              counted (line-look (remote_cnt w i) (v5 D r s 3 (omega arith)))
              (count-up (is2 l.supply l.item w i) (cond (eqb l.supply w₀) 0 1) l.quantity (remote_le (eqb l.supply w₀) l.quantity f.quantity.lo) (ag.stock.remotes_to w i r s));
        };
        order = order_same D b b' t.orders t.delivered (λ x y z k v. line-look (at 6 x y z k) v) ag.order;
        history = history-same D b b' t.payments ag.head.room (λ x y z k v. line-look (at 7 x y z k) v) ag.history;
      }

pub take_long : (d : Dims) (topup : List ℤ) (w : ℕ) (ls : List Line) (b : List ℤ) → length (take_lines d topup w ls b) ≡ length b
take_long d topup w [] b = refl
take_long d topup w (l ∷ ls) b = take_long d topup w ls (run (shapes d) (line_ops topup w l) b) ∙ length_run (shapes d) (line_ops topup w l) b

-- all lines, in turn
pub lines_agree : (D : Dims) (b₀ topup : List ℤ) → Tabled D topup → (w : ℕ) (ls : List Line) → AllIn (LineStep D) ls → (t : Tally) (b : List ℤ) → Agrees D b₀ t b
    → Agrees D b₀ (tally_lines ls t) (take_lines D topup w ls b)
lines_agree D b₀ topup u w [] f t b ag = ag
lines_agree D b₀ topup u w (l ∷ ls) f t b ag =
    lines_agree D b₀ topup u w ls f.1 (tally_line l t) (run (shapes D) (line_ops topup w l) b) (line-agrees D b₀ t b ag topup u w l f.0)
