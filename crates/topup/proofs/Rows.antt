-- The pass over the table's rows: what the ors of a row's numbers, and of their sums, say of the row.
-- Assumes nothing.
use Rattle.std.proofs.Common.{◌≡◌, ℕ, ◌+◌, ◌-◌, ◌*◌, ◌%◌, ◌^◌, ◌<◌, ◌≤◌, Bool, true, false, cond, ◌&&◌, leb, List, [], ◌∷◌, length, ℤ, sym, refl, ap, ◌∙◌, mod-eq_of_lt, arith, ltb-true, lt-ltb, le-leb, leb-true}
use native.Mathlib.Nat.{mod-eq-sub-mod}
use native.Mathlib.Decide.{dec_lt}
use lib.Bits.{bit_or}
use Rattle.model.specs.declared.Dims.{Dims}
use Rattle.model.specs.Tests.{every, all_to}
use Rattle.model.specs.Numbers.{cell}
use Rattle.model.specs.TopUp.{margin_of, lift_of, row_tests, row_ok}
use Rattle.model.specs.Claim.{R}
use Rattle.model.proofs.RuleLaws.{Tabled}
use Rattle.model.proofs.TestLaws.{and_left, and_right, and_both, every-each, each-every, all_none, all-step}
use Rattle.cells.proofs.Ors.{below, or_below, sorted, same_truth}

-- a number whose bits are x is in range
small : (x top : ℕ) → top < 2 ^ 63 → cond (below x) x (2 ^ 63) ≤ top → cond (below x) x (2 ^ 63) ≡ x
small x top h = go (below x)
  where
    go : (t : Bool) → cond t x (2 ^ 63) ≤ top → cond t x (2 ^ 63) ≡ x
    go true k = refl
    go false k = absurd (omega arith)

-- margin and lift by their bits m and l; o: how much the lift is over 10; s: that with the margin; a and b: both raised
module _ (m l o s a b : ℕ) (fits : l < 2 ^ 64) (o_is : o ≡ (l + 18446744073709551606) % 2 ^ 64) (s-is : s ≡ (m + o) % 2 ^ 64)
    (a-is : a ≡ (o + 9223372036854765818) % 2 ^ 64) (b-is : b ≡ (s + 9223372036854765817) % 2 ^ 64) where
  over : 10 ≤ l → o ≡ l - 10
  over h =
      let k : l + 18446744073709551606 - 2 ^ 64 ≡ l - 10 = omega arith in
      o_is ∙ mod-eq-sub-mod {n = l + 18446744073709551606} {m = 2 ^ 64} (omega arith) ∙ ap (λ (x : ℕ). x % 2 ^ 64) k ∙ mod-eq_of_lt (omega arith)

  under : l < 10 → o ≡ l + 18446744073709551606
  under h = o_is ∙ mod-eq_of_lt (omega arith)

  raised_over : o < 2 ^ 63 → a ≡ o + 9223372036854765818
  raised_over h = a-is ∙ mod-eq_of_lt (omega arith)

  with_margin : m < 2 ^ 63 → o < 2 ^ 63 → s ≡ m + o
  with_margin h k = s-is ∙ mod-eq_of_lt (omega arith)

  raised_both : m < 2 ^ 63 → o ≤ 9989 → b ≡ m + o + 9223372036854765817
  raised_both h k = b-is ∙ ap (λ (x : ℕ). (x + 9223372036854765817) % 2 ^ 64) (with_margin h (omega arith)) ∙ mod-eq_of_lt (omega arith)

  ten : o < 2 ^ 63 → Dec (l < 10) → 10 ≤ l
  ten h (yes k) = absurd (omega (arith, under k))
  ten h (no k) = omega arith

  row_is : ((below m && below a) && (below o && below b)) ≡ every (row_tests (cond (below m) m (2 ^ 63)) (cond (below l) l (2 ^ 63)))
  unfolding row_tests
  row_is = same_truth _ _ to back
    where
      to : ((below m && below a) && (below o && below b)) ≡ true → every (row_tests (cond (below m) m (2 ^ 63)) (cond (below l) l (2 ^ 63))) ≡ true
      to e =
          let f = and_left (below m && below a) (below o && below b) e in
          let g = and_right (below m && below a) (below o && below b) e in
          let em = and_left (below m) (below a) f in
          let hm = ltb-true m (2 ^ 63) em in
          let ho = ltb-true o (2 ^ 63) (and_left (below o) (below b) g) in
          let ha = ltb-true a (2 ^ 63) (and_right (below m) (below a) f) in
          let hb = ltb-true b (2 ^ 63) (and_right (below o) (below b) g) in
          let ho' : o ≤ 9989 = omega (arith, raised_over ho) in
          let hs : m + o ≤ 9990 = omega (arith, raised_both hm ho') in
          let low : 10 ≤ l = ten ho (dec_lt l 10) in
          let hl : o ≡ l - 10 = over low in
          let el : below l ≡ true = lt-ltb l (2 ^ 63) (omega arith) in
          rw (em, el)
          (each-every (row_tests m l) (le-leb m 9990 (omega arith), (each-every (leb 10 l ∷ leb l 9999 ∷ []) (le-leb 10 l low, (le-leb l 9999 (omega arith), tt)), (le-leb (m + l) 10000 (omega arith), tt))))

      back : every (row_tests (cond (below m) m (2 ^ 63)) (cond (below l) l (2 ^ 63))) ≡ true → ((below m && below a) && (below o && below b)) ≡ true
      back e =
          let h = every-each (row_tests (cond (below m) m (2 ^ 63)) (cond (below l) l (2 ^ 63))) e in
          let g = every-each (leb 10 (cond (below l) l (2 ^ 63)) ∷ leb (cond (below l) l (2 ^ 63)) 9999 ∷ []) h.1.0 in
          let km = small m 9990 (omega arith) (leb-true _ _ h.0) in
          let kl = small l 9999 (omega arith) (leb-true _ _ g.1.0) in
          let low : 10 ≤ l = rw (← kl) (leb-true _ _ g.0) in
          let high : l ≤ 9999 = rw (← kl) (leb-true _ _ g.1.0) in
          let most : m + l ≤ 10000 = rw (← km, ← kl) (leb-true _ _ h.1.1.0) in
          let ho : o ≡ l - 10 = over low in
          and_both (below m && below a) (below o && below b)
          (and_both (below m) (below a) (lt-ltb m (2 ^ 63) (omega arith)) (lt-ltb a (2 ^ 63) (omega (arith, raised_over (omega arith)))))
          (and_both (below o) (below b) (lt-ltb o (2 ^ 63) (omega arith)) (lt-ltb b (2 ^ 63) (omega (arith, raised_both (omega arith) (omega arith)))))

-- ── the rows in turn ──
module _ (topup : List ℤ) where
  -- what the first i rows have given
  abbrev pub Kept : ℕ → ℕ → ℕ → Type 0
  Kept low high i = (below low && below high) ≡ all_to i (row_ok topup)

  pub none_kept : Kept 0 0 0
  none_kept = sym (all_none (row_ok topup))

  pub kept_step : (low high i m l o s a b : ℕ) → l < 2 ^ 64 → cell topup (2 * i) ≡ cond (below m) m (2 ^ 63) → cell topup (2 * i + 1) ≡ cond (below l) l (2 ^ 63)
      → o ≡ (l + 18446744073709551606) % 2 ^ 64 → s ≡ (m + o) % 2 ^ 64 → a ≡ (o + 9223372036854765818) % 2 ^ 64 → b ≡ (s + 9223372036854765817) % 2 ^ 64
      → Kept low high i → Kept (bit_or low (bit_or m o)) (bit_or high (bit_or a b)) (i + 1)
  unfolding row_ok margin_of lift_of
  kept_step low high i m l o s a b fits em el o_is s-is a-is b-is e =
      let p : 2 * (i + 1 - 1) ≡ 2 * i = omega arith in
      let row : ((below m && below a) && (below o && below b)) ≡ row_ok topup (i + 1) =
      row_is m l o s a b fits o_is s-is a-is b-is ∙ rw (← em, ← el, p) in
      rw (or_below low (bit_or m o), or_below m o, or_below high (bit_or a b), or_below a b, all-step (row_ok topup) i, ← e, ← row)
      (sorted (below low) (below high) (below m) (below a) (below o) (below b))

-- ── an item's two numbers ──
module _ (d : Dims) (topup : List ℤ) (t : Tabled d topup) (i : ℕ) (r : R d.items i) where
  pub margin_held : (2 * (i - 1) < length topup) × (cell topup (2 * (i - 1)) < 2 ^ 63)
  unfolding margin_of
  margin_held = (omega (arith, t.long, r.lo, r.hi), omega (arith, (t.each i r).both))

  pub lift_held : (2 * (i - 1) + 1 < length topup) × (cell topup (2 * (i - 1) + 1) < 2 ^ 63)
  unfolding lift_of
  lift_held = (omega (arith, t.long, r.lo, r.hi), omega (arith, (t.each i r).both))

module _ (topup : List ℤ) (i : ℕ) {v : ℕ} where
  pub margin_read : v ≡ cell topup (2 * (i - 1)) → v ≡ margin_of topup i
  unfolding margin_of
  margin_read e = e

  pub lift_read : v ≡ cell topup (2 * (i - 1) + 1) → v ≡ lift_of topup i
  unfolding lift_of
  lift_read e = e
