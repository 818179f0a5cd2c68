-- R-2: the order total is the nearest cent, an exact half the upper one.
-- Assumes nothing.
use mathlib.Core.Path.{◌≡◌, sym}
use Prim.Native.Nat.{ℕ, ◌+◌, ◌*◌, ◌/◌}
use native.Mathlib.Nat.{le_antisymm}
use native.Mathlib.Omega.{arith}
use Rattle.model.specs.NewOrder.{order_total}
use Rattle.model.specs.Rounding.{apart_by, Nearest, HalfUp}

-- no other whole number is the nearest: `Nearest` settles the total
pub nearest_one : {n unit t u : ℕ} → Nearest n unit t → Nearest n unit u → t ≡ u
nearest_one {n} {unit} {t} {u} p q =
    let e : apart_by (t * unit) n ≡ apart_by (u * unit) n = le_antisymm (p.near u) (q.near t) in
    le_antisymm (q.up t e) (p.up u (sym e))

rounded : (n : ℕ) → Nearest n 100000000 ((n + 50000000) / 100000000)
rounded n = record { near = λ m. omega arith; up = λ m e. omega arith }

pub half_up : HalfUp
unfolding order_total
half_up sum disc tax₁ tax₂ = rounded _
