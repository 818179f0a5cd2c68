-- What the functions of the crate ask of a book: its dimensions are in range and its length is what they imply.
-- Assumes nothing.
use Rattle.std.specs.Prelude.{◌≡◌, Bool, List, ℕ, ◌+◌, ◌-◌, ◌*◌, length, ℤ}
use Rattle.model.specs.declared.Dims.{Dims}
use Rattle.model.specs.Tests.{every, all_to}
use Rattle.model.specs.Layout.{numbers}
use Rattle.model.specs.Rows.{customer_tests, line, line_tests, order_ok}
use Rattle.model.specs.Store.{from}
use Rattle.model.specs.Used.{order_used}
use Rattle.model.proofs.Fields.{Dimensioned}
use Rattle.layout.specs.declared.Run.{Run}
use Rattle.layout.specs.Runs.{row_in}

pub record Booked (d : Dims) (b : List ℤ) : Type 0 where
  pub dimsd : Dimensioned d
  pub long : length b ≡ numbers d

-- the first n lines of an order's row are in range
abbrev pub lines_ok : Dims → (ℕ → ℤ) → ℕ → Bool
lines_ok d r n = all_to n (λ j. every (line_tests d (line r j)))

-- row c, from 1, of the customers' rows from an index on is in range
unfoldable pub customer_in : List ℤ → ℕ → ℕ → Bool
customer_in b base c = every (customer_tests (from b (base + 6 * (c - 1))))

-- row j, from 1, of a run of orders' rows is in range
unfoldable pub ok_at : Dims → List ℤ → Run → ℕ → Bool
ok_at d b run j = order_ok d (from b (row_in run (j - 1)))

-- the n orders of a district from a number on are in range
abbrev pub orders_from : Dims → List ℤ → ℕ → ℕ → ℕ → ℕ → Bool
orders_from d b w k first n = all_to n (λ j. order_used d b w k (first + (j - 1)))
