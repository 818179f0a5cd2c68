-- What the row of an order of the tally says of its carrier, its lines and its dates.
-- Assumes nothing.
use mathlib.Core.Path.{◌≡◌, refl, ap, ◌∙◌}
use mathlib.Core.Bool.{Bool, true, false, not, ◌&&◌, cond}
use Prim.Native.Nat.{ℕ, ◌≤◌, ◌<◌}
use native.Mathlib.Omega.{arith}
use native.Mathlib.Decide.{dec_lt}
use lib.Dec.{eqb}
use lib.IntN.{ℤ, pos}
use borrow.Author.Tests.{ne_eqb}
use Rattle.model.specs.declared.Dims.{Dims}
use Rattle.model.specs.Numbers.{nat}
use Rattle.model.specs.Rows.{line}
use Rattle.model.specs.Delivery.{line_amounts}
use Rattle.model.specs.Tally.{Order}
use Rattle.model.specs.Claim.{R}
use Rattle.model.proofs.NumberLaws.{nat-pos}
use Rattle.model.proofs.OrderRows.{SlotIs, nat_low, nat-high}
use Rattle.model.proofs.Sums.{sum_up, how_many, sum_same, sum-zero, sum_ones, sum_past}

pos-eqb : (n : ℕ) → 1 ≤ n → eqb n 0 ≡ false
pos-eqb n h = ne_eqb n 0 (λ (e : n ≡ 0). omega arith)

zero-eqb : (z : ℤ) → z ≡ pos 0 → eqb (nat z) 0 ≡ true
zero-eqb z e = ap (λ (x : ℤ). eqb (nat x) 0) e ∙ ap (λ (n : ℕ). eqb n 0) (nat-pos 0)

flag : (x : Bool) → eqb (nat (pos (cond x 1 0))) 1 ≡ x
unfolding nat
flag true = refl
flag false = refl

module _ (D : Dims) (r : ℕ → ℤ) (x : Order) (wait : Bool) (s : SlotIs D r x wait) where
  pub slot-waits : eqb (nat (r 5)) 1 ≡ wait
  slot-waits = ap (λ (z : ℤ). eqb (nat z) 1) s.flag ∙ flag wait

  pub slot-customer : nat (r 0) ≡ x.customer
  slot-customer = ap nat s.customer ∙ nat-pos x.customer

  count_high : nat (r 3) ≤ 15
  count_high = nat-high s.row.count

  in_use : (j : ℕ) → R (nat (r 3)) j → not (eqb (nat (line r j 0)) 0) ≡ true
  in_use j q = ap not (pos-eqb (nat (line r j 0)) (nat_low (s.row.lines j q).item))

  not_in_use : (j : ℕ) → nat (r 3) < j → j ≤ 15 → not (eqb (nat (line r j 0)) 0) ≡ false
  not_in_use j h k = ap not (zero-eqb (line r j 0) (s.unused j h k 0 (omega arith)))

  -- the lines whose item is not 0 are as many as the line count
  pub slot-lines : how_many 15 (λ j. not (eqb (nat (line r j 0)) 0)) ≡ nat (r 3)
  slot-lines =
      sum_past (nat (r 3)) 15 (λ j. cond (not (eqb (nat (line r j 0)) 0)) 1 0) count_high (λ j h k. ap (λ (b : Bool). cond b 1 0) (not_in_use j h k))
      ∙ sum_ones (nat (r 3)) (λ j. cond (not (eqb (nat (line r j 0)) 0)) 1 0) (λ j q. ap (λ (b : Bool). cond b 1 0) (in_use j q))

  pub slot-used : (j : ℕ) → R 15 j → not (eqb (nat (line r j 0)) 0) ≡ true → R (nat (r 3)) j
  slot-used j q e = go (dec_lt (nat (r 3)) j)
    where
      go : Dec (nat (r 3) < j) → R (nat (r 3)) j
      go (yes h) = let f = not_in_use j h q.hi in let z : ◌≡◌ {A = ℕ} 0 1 = cc in absurd (omega arith)
      go (no h) = record { lo = q.lo; hi = omega arith }

-- by whether it waits
module _ (D : Dims) (r : ℕ → ℤ) (x : Order) where
  pub slot-carrier : (wait : Bool) → SlotIs D r x wait → eqb (nat (r 2)) 0 ≡ wait
  slot-carrier true s = zero-eqb (r 2) (s.waiting refl).carrier
  slot-carrier false s = pos-eqb (nat (r 2)) (s.done refl).carrier

  pub slot-dates : (wait : Bool) → SlotIs D r x wait → (j : ℕ) → R (nat (r 3)) j → eqb (nat (line r j 4)) 0 ≡ wait
  slot-dates true s j q = zero-eqb (line r j 4) ((s.waiting refl).dates j q)
  slot-dates false s j q = pos-eqb (nat (line r j 4)) ((s.done refl).dates j q)

  -- the amounts of the lines that have a delivery date
  pub slot-amounts : (wait : Bool) → SlotIs D r x wait
      → sum_up 15 (λ j. cond (not (eqb (nat (line r j 0)) 0) && not (eqb (nat (line r j 4)) 0)) (nat (line r j 3)) 0) ≡ cond wait 0 x.sum
  unfolding line_amounts
  slot-amounts wait s =
      sum_past (nat (r 3)) 15 f (count_high D r x wait s) (λ j h k. ap (λ (b : Bool). cond (b && not (eqb (nat (line r j 4)) 0)) (nat (line r j 3)) 0) (not_in_use D r x wait s j h k)) ∙ go wait s
    where
      f : ℕ → ℕ
      f j = cond (not (eqb (nat (line r j 0)) 0) && not (eqb (nat (line r j 4)) 0)) (nat (line r j 3)) 0

      at : (wait : Bool) (s : SlotIs D r x wait) (j : ℕ) → R (nat (r 3)) j → f j ≡ cond (not wait) (nat (line r j 3)) 0
      at wait s j q =
          ap (λ (b : Bool). cond (b && not (eqb (nat (line r j 4)) 0)) (nat (line r j 3)) 0) (in_use D r x wait s j q)
          ∙ ap (λ (b : Bool). cond (not b) (nat (line r j 3)) 0) (slot-dates wait s j q)

      go : (wait : Bool) → SlotIs D r x wait → sum_up (nat (r 3)) f ≡ cond wait 0 x.sum
      go true s = sum-zero (nat (r 3)) f (at true s)
      go false s = sum_same (nat (r 3)) f (λ j. nat (line r j 3)) (at false s) ∙ s.sum
