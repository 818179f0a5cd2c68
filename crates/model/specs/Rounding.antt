-- R-2: "The cooperatives' billing rule now rounds an order total to the nearest cent, an exact half upwards." Said by distance, not by the rule
-- that the total is found with.
-- Assumes nothing.
use Rattle.std.specs.Prelude.{◌≡◌, ℕ, ◌+◌, ◌-◌, ◌*◌, ◌≤◌}
use Rattle.model.specs.NewOrder.{order_total}

-- how far two numbers are apart
abbrev pub apart_by : ℕ → ℕ → ℕ
apart_by a b = (a - b) + (b - a)

-- t is the whole number nearest to n / unit: none is nearer, and of two equally near it is the upper
pub record Nearest (n unit t : ℕ) : Type 0 where
  pub near : (m : ℕ) → apart_by (t * unit) n ≤ apart_by (m * unit) n
  pub up : (m : ℕ) → apart_by (m * unit) n ≡ apart_by (t * unit) n → m ≤ t

-- for every sum, discount and taxes
abbrev pub HalfUp : Type 0
HalfUp =
    (sum disc tax₁ tax₂ : ℕ) → Nearest (sum * (10000 - disc) * (10000 + (tax₁ + tax₂))) 100000000 (order_total sum disc tax₁ tax₂)
