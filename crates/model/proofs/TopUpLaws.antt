-- R-6: what the rule gives over quantities taken in turn, and what each call takes from each stock, on any book.
-- Assumes nothing.
use mathlib.Core.Path.{◌≡◌, refl, sym, ap, ◌∙◌, subst}
use mathlib.Core.Bool.{Bool, true, false, ◌&&◌, cond}
use mathlib.Core.List.{List, [], ◌∷◌, ◌++◌}
use Prim.Native.Nat.{ℕ, zero, suc, ◌+◌, ◌-◌, ◌*◌, ◌≤◌, ◌<◌}
use native.Mathlib.Omega.{arith}
use lib.Dec.{leb, ltb, eqb}
use lib.IntN.{ℤ, pos}
use lib.ListN.{length}
use borrow.Author.Tests.{le-leb, lt-leb, leb-true, leb-false, eq-eqb, ne_eqb, eqb-true}
use Rattle.model.specs.declared.Dims.{Dims}
use Rattle.model.specs.declared.Line.{Line}
use Rattle.model.specs.declared.NewOrder.{NewOrder}
use Rattle.model.specs.Numbers.{nat}
use Rattle.model.specs.Layout.{shapes, total}
use Rattle.model.specs.Store.{get, num, run}
use Rattle.model.specs.Rows.{on_hand, next_order}
use Rattle.model.specs.Head.{dims}
use Rattle.model.specs.Lists.{sum_of}
use Rattle.model.specs.TopUp.{margin_of, lift_of, lifts, restock}
use Rattle.model.specs.NewOrder.{new_order_fault, price_of, line_ops, take_lines, line_lifts, lines_lifting, join_ops, new_order_commit, new_order_total, new_order_answer, new_order_book}
use Rattle.model.specs.Answer.{committed, refused}
use Rattle.model.specs.Request.{Request, new_order, payment, delivery, order_status, stock_level, Lent, fault_of, answer_of, nums_after, after}
use Rattle.model.specs.Tally.{Tally, Opened, Done, is2, add_if, tally_line, tally_lines, tally_order, tally_payment, tally_district, tally_districts, count, tally, after_all, done_all}
use Rattle.model.specs.Claim.{R}
use Rattle.model.specs.TopUpClaim.{quantities_from, taken_by, taken_from, lifts_over, third_of, lifts_said, lifts_answered}
use Rattle.model.proofs.NumberLaws.{nat-pos}
use Rattle.model.proofs.Lifting.{lifts-not}
use Rattle.model.proofs.RuleLaws.{lifts_so, Ruled, restocked, Tabled, tabled}
use Rattle.model.proofs.TestLaws.{and_left}
use Rattle.model.proofs.ListLaws.{sum_append}
use Rattle.model.proofs.Sums.{sum_up, sum_same, sum-zero, sum_both, sum_alone}
use Rattle.model.proofs.Parts.{and_no}
use Rattle.model.proofs.OrderRows.{LineStep}
use Rattle.model.proofs.StepLine.{line_steps, take_long}
use Rattle.model.proofs.Frame.{get-run, length_run}
use Rattle.model.proofs.Fields.{v5}
use Rattle.model.proofs.RowFacts.{AllIn, book_long}
use Rattle.model.proofs.NewOrderFacts.{NewReady, new_ready, new_tabled, lines-ready, line-fine, new_ready_fine}
use Rattle.model.proofs.Steady.{steady-call, hands-kept}

-- ── the rule said anew is the call's ──
same_test : (m h q : ℕ) → ltb h (m + q) ≡ lifts m h q
same_test m h q = go (leb (m + q) h) refl
  where
    go : (t : Bool) → leb (m + q) h ≡ t → ltb h (m + q) ≡ lifts m h q
    go true e = let g : m + q ≤ h = leb-true _ _ e in lt-leb (suc h) (m + q) (omega arith) ∙ sym (lifts-not m h q g)
    go false e = let g : h < m + q = leb-false _ _ e in le-leb (suc h) (m + q) (omega arith) ∙ sym (lifts_so m h q g)

-- on hand after quantities in turn
abbrev pub hand_after : ℕ → ℕ → ℕ → List ℕ → ℕ
hand_after m l h [] = h
hand_after m l h (q ∷ qs) = hand_after m l (restock m l h q) qs

lifts-first : (m l h q : ℕ) (qs : List ℕ) → lifts_over m l h (q ∷ qs) ≡ cond (lifts m h q) 1 0 + lifts_over m l (restock m l h q) qs
unfolding lifts_over restock
lifts-first m l h q qs = rw (same_test m h q) (go (lifts m h q))
  where
    go : (t : Bool) → cond t (1 + lifts_over m l (h + l - q) qs) (lifts_over m l (h - q) qs) ≡ cond t 1 0 + lifts_over m l (cond t (h + l - q) (h - q)) qs
    go true = refl
    go false = omega arith

lifts-none : (m l h : ℕ) → lifts_over m l h [] ≡ 0
unfolding lifts_over
lifts-none m l h = refl

pub lifts_then : (m l h : ℕ) (ps qs : List ℕ) → lifts_over m l h (ps ++ qs) ≡ lifts_over m l h ps + lifts_over m l (hand_after m l h ps) qs
lifts_then m l h [] qs = omega (arith, lifts-none m l h)
lifts_then m l h (p ∷ ps) qs = omega (arith, lifts-first m l h p (ps ++ qs), lifts-first m l h p ps, lifts_then m l (restock m l h p) ps qs)

hand_then : (m l h : ℕ) (ps qs : List ℕ) → hand_after m l h (ps ++ qs) ≡ hand_after m l (hand_after m l h ps) qs
hand_then m l h [] qs = refl
hand_then m l h (p ∷ ps) qs = hand_then m l (restock m l h p) ps qs

-- quantities taken in turn from h leave h'
pub record Took (m l h : ℕ) (qs : List ℕ) (h' : ℕ) : Type 0 where
  pub left : h' ≡ hand_after m l h qs
  pub sum : h' + sum_of qs ≡ h + l * lifts_over m l h qs

took_none : (m l h : ℕ) → Took m l h [] h
unfolding lifts_over sum_of
took_none m l h = record { left = refl; sum = omega arith }

took_one : (m l h q : ℕ) → Ruled m l → q ≤ 10 → Took m l h (q ∷ []) (restock m l h q)
unfolding sum_of
took_one m l h q r k = record {
  left = refl;
  sum = rw (lifts-first m l h q [], lifts-none m l (restock m l h q)) (omega (arith, (restocked m l h q r k).sum));
}

took_then : (m l h : ℕ) (ps : List ℕ) (h' : ℕ) (qs : List ℕ) (h'' : ℕ) → Took m l h ps h' → Took m l h' qs h'' → Took m l h (ps ++ qs) h''
took_then m l h ps h' qs h'' a b = record {
  left = b.left ∙ ap (λ (x : ℕ). hand_after m l x qs) a.left ∙ sym (hand_then m l h ps qs);
  sum = rw (lifts_then m l h ps qs, sum_append ps qs, ← a.left) (omega (arith, a.sum, b.sum));
}

-- ── over all stocks ──
-- the sum of a figure of each
abbrev over_all : Dims → (ℕ → ℕ → ℕ) → ℕ
over_all D f = sum_up D.warehouses (λ w. sum_up D.items (f w))

module _ (D : Dims) where
  over_zero : (f : ℕ → ℕ → ℕ) → ((w i : ℕ) → R D.warehouses w → R D.items i → f w i ≡ 0) → over_all D f ≡ 0
  over_zero f h = sum-zero D.warehouses _ (λ w r. sum-zero D.items (f w) (λ i s. h w i r s))

  -- a figure of one stock alone
  over_one : (f : ℕ → ℕ → ℕ) (w₀ i₀ a : ℕ) → R D.warehouses w₀ → R D.items i₀ → ((w i : ℕ) → is2 w₀ i₀ w i ≡ false → f w i ≡ 0) → f w₀ i₀ ≡ a → over_all D f ≡ a
  over_one f w₀ i₀ a r s h e =
      sum_alone D.warehouses w₀ a (λ w. sum_up D.items (f w)) r
      (λ w ne. sum-zero D.items (f w) (λ i u. h w i (ap (λ (x : Bool). eqb i i₀ && x) (ne_eqb w w₀ ne) ∙ and_no (eqb i i₀))))
      (sum_alone D.items i₀ a (f w₀) s (λ i ne. h w₀ i (ap (λ (x : Bool). x && eqb w₀ w₀) (ne_eqb i i₀ ne))) e)

  -- lifts over quantities of each stock, and over more from what they leave
  over_then : (m l : ℕ → ℕ) (h h' : ℕ → ℕ → ℕ) (ps qs : ℕ → ℕ → List ℕ)
      → ((w i : ℕ) → R D.warehouses w → R D.items i → h' w i ≡ hand_after (m i) (l i) (h w i) (ps w i))
      → over_all D (λ w i. lifts_over (m i) (l i) (h w i) (ps w i)) + over_all D (λ w i. lifts_over (m i) (l i) (h' w i) (qs w i))
      ≡ over_all D (λ w i. lifts_over (m i) (l i) (h w i) (ps w i ++ qs w i))
  over_then m l h h' ps qs e =
      sym (sum_both D.warehouses _ _)
      ∙ sum_same D.warehouses _ _ (λ w r. sym (sum_both D.items _ _)
      ∙ sum_same D.items _ _ (λ i s. ap (λ (x : ℕ). lifts_over (m i) (l i) (h w i) (ps w i) + lifts_over (m i) (l i) x (qs w i)) (e w i r s)
      ∙ sym (lifts_then (m i) (l i) (h w i) (ps w i) (qs w i))))

-- ── the lines of an order ──
abbrev pub hand_of : Dims → List ℤ → ℕ → ℕ → ℕ
hand_of D b w i = num (shapes D) b (on_hand w i)

module _ (D : Dims) (topup : List ℤ) (u : Tabled D topup) (w₀ : ℕ) where
  -- what a line takes from a stock
  abbrev takes : Line → ℕ → ℕ → List ℕ
  takes l w i = cond (is2 l.supply l.item w i) (l.quantity ∷ []) []

  line_took : (b : List ℤ) → length b ≡ total (shapes D) → (l : Line) → LineStep D l → (w i : ℕ) → R D.warehouses w → R D.items i
      → Took (margin_of topup i) (lift_of topup i) (hand_of D b w i) (takes l w i) (hand_of D (run (shapes D) (line_ops topup w₀ l) b) w i)
  line_took b n l f w i r s =
      subst (λ (z : ℤ). Took (margin_of topup i) (lift_of topup i) (hand_of D b w i) (takes l w i) (nat z))
      (sym (get-run (shapes D) (line_ops topup w₀ l) b (on_hand w i) n (line-fine D topup w₀ l f.supply f.item) (v5 D r s 0 (omega arith))))
      (go (is2 l.supply l.item w i) refl)
    where
      go : (t : Bool) → is2 l.supply l.item w i ≡ t
          → Took (margin_of topup i) (lift_of topup i) (hand_of D b w i) (cond t (l.quantity ∷ []) [])
          (nat (cond t (pos (restock (margin_of topup l.item) (lift_of topup l.item) (hand_of D b w i) l.quantity)) (get (shapes D) b (on_hand w i))))
      go false e = took_none (margin_of topup i) (lift_of topup i) (hand_of D b w i)
      go true e =
          let h = hand_of D b w i in
          let q = l.quantity in
          let ei : i ≡ l.item = eqb-true i l.item (and_left (eqb i l.item) (eqb w l.supply) e) in
          rw (ei, nat-pos (restock (margin_of topup l.item) (lift_of topup l.item) (hand_of D b w l.item) q))
          (took_one (margin_of topup l.item) (lift_of topup l.item) (hand_of D b w l.item) q (u.each l.item f.item) f.quantity.hi)

  lines_took : (ls : List Line) → AllIn (LineStep D) ls → (b : List ℤ) → length b ≡ total (shapes D) → (w i : ℕ) → R D.warehouses w → R D.items i
      → Took (margin_of topup i) (lift_of topup i) (hand_of D b w i) (quantities_from w i ls) (hand_of D (take_lines D topup w₀ ls b) w i)
  lines_took [] f b n w i r s = took_none (margin_of topup i) (lift_of topup i) (hand_of D b w i)
  lines_took (l ∷ ls) f b n w i r s =
      let b₁ = run (shapes D) (line_ops topup w₀ l) b in
      took_then (margin_of topup i) (lift_of topup i) (hand_of D b w i) (takes l w i) (hand_of D b₁ w i) (quantities_from w i ls) _ (line_took b n l f.0 w i r s)
      (lines_took ls f.1 b₁ (length_run (shapes D) (line_ops topup w₀ l) b ∙ n) w i r s)

  line-lifts : (b : List ℤ) (l : Line) → LineStep D l
      → over_all D (λ w i. lifts_over (margin_of topup i) (lift_of topup i) (hand_of D b w i) (takes l w i)) ≡ cond (line_lifts D b topup l) 1 0
  unfolding line_lifts
  line-lifts b l f =
      over_one D (λ w i. lifts_over (margin_of topup i) (lift_of topup i) (hand_of D b w i) (takes l w i)) l.supply l.item _ f.supply f.item
      (λ w i e. rw e (lifts-none (margin_of topup i) (lift_of topup i) (hand_of D b w i)))
      (rw (eq-eqb l.item l.item refl, eq-eqb l.supply l.supply refl)
      (omega (
        arith,
        lifts-first (margin_of topup l.item) (lift_of topup l.item) (hand_of D b l.supply l.item) l.quantity [],
        lifts-none (margin_of topup l.item) (lift_of topup l.item) (restock (margin_of topup l.item) (lift_of topup l.item) (hand_of D b l.supply l.item) l.quantity),
      )))

  lines_lift : (ls : List Line) → AllIn (LineStep D) ls → (b : List ℤ) → length b ≡ total (shapes D)
      → lines_lifting D topup w₀ ls b ≡ over_all D (λ w i. lifts_over (margin_of topup i) (lift_of topup i) (hand_of D b w i) (quantities_from w i ls))
  lines_lift [] f b n = sym (over_zero D _ (λ w i r s. lifts-none (margin_of topup i) (lift_of topup i) (hand_of D b w i)))
  lines_lift (l ∷ ls) f b n =
      let b₁ = run (shapes D) (line_ops topup w₀ l) b in
      let n₁ = length_run (shapes D) (line_ops topup w₀ l) b ∙ n in
      ap (λ (x : ℕ). x + lines_lifting D topup w₀ ls b₁) (sym (line-lifts b l f.0))
      ∙ ap (λ (x : ℕ). over_all D (λ w i. lifts_over (margin_of topup i) (lift_of topup i) (hand_of D b w i) (takes l w i)) + x) (lines_lift ls f.1 b₁ n₁)
      ∙ over_then D (margin_of topup) (lift_of topup) (hand_of D b) (hand_of D b₁) (takes l) (λ w i. quantities_from w i ls) (λ w i r s. (line_took b n l f.0 w i r s).left)

-- ── one call ──
abbrev carried : Lent → Request → Bool
carried s r = eqb (fault_of s r).number 0

-- what a call takes from a stock
abbrev took : Lent → Request → ℕ → ℕ → List ℕ
took s r w i = cond (carried s r) (taken_by w i r) []

none_took : (x : Bool) {m l h h' : ℕ} → h' ≡ h → Took m l h (cond x [] []) h'
none_took true {m} {l} {h} e = rw e (took_none m l h)
none_took false {m} {l} {h} e = rw e (took_none m l h)

module _ (s : Lent) where
  abbrev D : Dims
  D = dims s.nums

  abbrev margin : ℕ → ℕ
  margin = margin_of s.topup

  abbrev lift : ℕ → ℕ
  lift = lift_of s.topup

  abbrev hand : ℕ → ℕ → ℕ
  hand = hand_of D s.nums

  module _ (q : NewOrder) (ls : List Line) where
    abbrev fault : ℕ
    fault = (new_order_fault s.nums s.names s.last s.topup q ls).number

    -- an order that is carried out
    module _ (e : eqb fault 0 ≡ true) where
      ready : NewReady D s.nums (length s.names) q ls
      ready = new_ready s.nums s.names s.last s.topup q ls (eqb-true _ _ e)

      steps : AllIn (LineStep D) ls
      steps = line_steps D s.nums ls (lines-ready D s.nums (length s.names) q ls ready)

      table : Tabled D s.topup
      table = tabled D s.topup (new_tabled s.nums s.names s.last s.topup q ls (eqb-true _ _ e))

      order_took : (w i : ℕ) → R D.warehouses w → R D.items i
          → Took (margin i) (lift i) (hand w i) (quantities_from w i ls) (hand_of D (new_order_commit D s.nums s.topup q ls) w i)
      unfolding new_order_commit
      order_took w i x y =
          let b₁ = take_lines D s.topup q.warehouse ls s.nums in
          let ops = join_ops D (price_of D s.nums) (num (shapes D) s.nums (next_order q.warehouse q.district)) q ls in
          subst (λ (z : ℤ). Took (margin i) (lift i) (hand w i) (quantities_from w i ls) (nat z))
          (sym (get-run (shapes D) ops b₁ (on_hand w i) (take_long D s.topup q.warehouse ls s.nums ∙ book_long ready.shaped)
          (new_ready_fine D s.nums (length s.names) (price_of D s.nums) q ls ready) (v5 D x y 0 (omega arith))))
          (lines_took D s.topup table q.warehouse ls steps s.nums (book_long ready.shaped) w i x y)

      order-lifts : lines_lifting D s.topup q.warehouse ls s.nums ≡ over_all D (λ w i. lifts_over (margin i) (lift i) (hand w i) (quantities_from w i ls))
      order-lifts = lines_lift D s.topup table q.warehouse ls steps s.nums (book_long ready.shaped)

  call_took : (r : Request) (w i : ℕ) → R D.warehouses w → R D.items i → Took (margin i) (lift i) (hand w i) (took s r w i) (hand_of D (nums_after s r) w i)
  unfolding fault_of nums_after new_order_book
  call_took (new_order q ls) w i x y = go (eqb (fault q ls) 0) refl
    where
      go : (t : Bool) → eqb (fault q ls) 0 ≡ t
          → Took (margin i) (lift i) (hand w i) (cond t (quantities_from w i ls) []) (hand_of D (cond t (new_order_commit D s.nums s.topup q ls) s.nums) w i)
      go true e = order_took q ls e w i x y
      go false e = took_none (margin i) (lift i) (hand w i)
  call_took (payment q who) w i x y = none_took (carried s (payment q who)) (ap nat (hands-kept s (payment q who) refl w i x y))
  call_took (delivery q) w i x y = none_took (carried s (delivery q)) (ap nat (hands-kept s (delivery q) refl w i x y))
  call_took (order_status q who) w i x y = none_took (carried s (order_status q who)) refl
  call_took (stock_level q) w i x y = none_took (carried s (stock_level q)) refl

  none-lifts : (x : Bool) → 0 ≡ over_all D (λ w i. lifts_over (margin i) (lift i) (hand w i) (cond x [] []))
  none-lifts true = sym (over_zero D _ (λ w i r u. lifts-none (margin i) (lift i) (hand w i)))
  none-lifts false = sym (over_zero D _ (λ w i r u. lifts-none (margin i) (lift i) (hand w i)))

  call-lifts : (r : Request) → lifts_said r (answer_of s r) ≡ over_all D (λ w i. lifts_over (margin i) (lift i) (hand w i) (took s r w i))
  unfolding fault_of answer_of new_order_answer nat
  call-lifts (new_order q ls) = go (eqb (fault q ls) 0) refl
    where
      go : (t : Bool) → eqb (fault q ls) 0 ≡ t
          → third_of (cond t (committed (pos (num (shapes D) s.nums (next_order q.warehouse q.district)) ∷ pos (new_order_total D s.nums q ls)
          ∷ pos (lines_lifting D s.topup q.warehouse ls s.nums) ∷ [])) (refused (new_order_fault s.nums s.names s.last s.topup q ls)))
          ≡ over_all D (λ w i. lifts_over (margin i) (lift i) (hand w i) (cond t (quantities_from w i ls) []))
      go true e = order-lifts q ls e
      go false e = none-lifts false
  call-lifts (payment q who) = none-lifts (carried s (payment q who))
  call-lifts (delivery q) = none-lifts (carried s (delivery q))
  call-lifts (order_status q who) = none-lifts (carried s (order_status q who))
  call-lifts (stock_level q) = none-lifts (carried s (stock_level q))

-- ── any list, from any book ──
module _ (D : Dims) where
  at_size : (r : Request) (s : Lent) → dims s.nums ≡ D → (w i : ℕ) → R D.warehouses w → R D.items i
      → Took (margin_of s.topup i) (lift_of s.topup i) (hand_of D s.nums w i) (took s r w i) (hand_of D (nums_after s r) w i)
  at_size r s e = subst (λ (d : Dims). (w i : ℕ) → R d.warehouses w → R d.items i
      → Took (margin_of s.topup i) (lift_of s.topup i) (hand_of d s.nums w i) (took s r w i) (hand_of d (nums_after s r) w i)) e (call_took s r)

  pub list_took : (rs : List Request) (s : Lent) → dims s.nums ≡ D → (w i : ℕ) → R D.warehouses w → R D.items i
      → Took (margin_of s.topup i) (lift_of s.topup i) (hand_of D s.nums w i) (taken_from w i (done_all s rs)) (hand_of D (after_all s rs).nums w i)
  list_took [] s e w i x y = took_none (margin_of s.topup i) (lift_of s.topup i) (hand_of D s.nums w i)
  list_took (r ∷ rs) s e w i x y =
      took_then (margin_of s.topup i) (lift_of s.topup i) (hand_of D s.nums w i) (took s r w i) (hand_of D (nums_after s r) w i) (taken_from w i (done_all (after s r) rs)) _
      (at_size r s e w i x y) (list_took rs (after s r) ((steady-call s r).head ∙ e) w i x y)

  pub list_lifts : (rs : List Request) (s : Lent) → dims s.nums ≡ D
      → lifts_answered s rs ≡ over_all D (λ w i. lifts_over (margin_of s.topup i) (lift_of s.topup i) (hand_of D s.nums w i) (taken_from w i (done_all s rs)))
  list_lifts [] s e = sym (over_zero D _ (λ w i r u. lifts-none (margin_of s.topup i) (lift_of s.topup i) (hand_of D s.nums w i)))
  list_lifts (r ∷ rs) s e =
      let said = subst (λ (d : Dims). lifts_said r (answer_of s r) ≡ over_all d (λ w i. lifts_over (margin_of s.topup i) (lift_of s.topup i) (hand_of d s.nums w i) (took s r w i))) e (call-lifts s r) in
      rw (said, list_lifts rs (after s r) ((steady-call s r).head ∙ e))
      (over_then D (margin_of s.topup) (lift_of s.topup) (hand_of D s.nums) (hand_of D (nums_after s r)) (took s r) (λ w i. taken_from w i (done_all (after s r) rs))
      (λ w i x y. (at_size r s e w i x y).left))

-- ── the tally's lots are what was taken ──
module _ (w i : ℕ) where
  lots-line : (l : Line) (t : Tally) → (tally_line l t).lots w i ≡ t.lots w i + sum_of (cond (is2 l.supply l.item w i) (l.quantity ∷ []) [])
  unfolding tally_line sum_of
  lots-line l t = go (is2 l.supply l.item w i)
    where
      go : (x : Bool) → add_if x l.quantity (t.lots w i) ≡ t.lots w i + sum_of (cond x (l.quantity ∷ []) [])
      go true = omega arith
      go false = omega arith

  lots-lines : (ls : List Line) (t : Tally) → (tally_lines ls t).lots w i ≡ t.lots w i + sum_of (quantities_from w i ls)
  unfolding sum_of
  lots-lines [] t = omega arith
  lots-lines (l ∷ ls) t =
      let one = cond (is2 l.supply l.item w i) (l.quantity ∷ []) [] in
      omega (arith, lots-lines ls (tally_line l t), lots-line l t, sum_append one (quantities_from w i ls))

  lots_districts : (w₀ n : ℕ) (t : Tally) → (tally_districts w₀ n t).lots ≡ t.lots
  unfolding tally_district
  lots_districts w₀ zero t = refl
  lots_districts w₀ (suc n) t = lots_districts w₀ n t

  lots-call : (o : Opened) (r : Request) (t : Tally) → (count o r t).lots w i ≡ t.lots w i + sum_of (taken_by w i r)
  unfolding count tally_order tally_payment sum_of
  lots-call o (new_order q ls) t = lots-lines ls t
  lots-call o (payment q who) t = omega arith
  lots-call o (delivery q) t = ap (λ (f : ℕ → ℕ → ℕ). f w i) (lots_districts q.warehouse 10 t) ∙ omega arith
  lots-call o (order_status q who) t = omega arith
  lots-call o (stock_level q) t = omega arith

  lots-done : (o : Opened) (x : Done) (t : Tally) (b : Bool) → (cond b (count o x.request t) t).lots w i ≡ t.lots w i + sum_of (cond b (taken_by w i x.request) [])
  unfolding sum_of
  lots-done o x t true = lots-call o x.request t
  lots-done o x t false = omega arith

  pub lots_list : (o : Opened) (xs : List Done) (t : Tally) → (tally o xs t).lots w i ≡ t.lots w i + sum_of (taken_from w i xs)
  unfolding sum_of
  lots_list o [] t = omega arith
  lots_list o (x ∷ xs) t =
      let t' = cond (eqb x.number 0) (count o x.request t) t in
      let one = cond (eqb x.number 0) (taken_by w i x.request) [] in
      omega (arith, lots_list o xs t', lots-done o x t (eqb x.number 0), sum_append one (taken_from w i xs))
