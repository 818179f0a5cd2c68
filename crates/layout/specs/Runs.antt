-- Rows of orders that follow each other. No rule of the book is here: where an order stands is the model's `place`.
-- Assumes nothing.
use Rattle.std.specs.Prelude.{◌≡◌, ℕ, ◌+◌, ◌*◌, ◌≤◌, ◌<◌}
use Rattle.model.specs.declared.Dims.{Dims}
use Rattle.model.specs.Layout.{shapes, place, numbers}
use Rattle.model.specs.Rows.{order_row}
use Rattle.layout.specs.declared.Run.{Run}

-- where row i, from 0, starts
unfoldable pub row_in : Run → ℕ → ℕ
row_in r i = r.at + 81 * i

-- the rows of the n orders of a district from number `first` on
pub record RunOf (d : Dims) (w k first n : ℕ) (r : Run) : Type 0 where
  pub count : r.count ≡ n
  pub each : (i : ℕ) → i < n → row_in r i ≡ place (shapes d) (order_row d w k (first + i))
  pub ends : (i : ℕ) → i < n → row_in r i + 81 ≤ numbers d

-- the rows of the first n orders of a district's section
pub record SectionRun (n : ℕ) (r : Run) : Type 0 where
  pub count : r.count ≡ n
  pub each : (i : ℕ) → row_in r i ≡ 81 * i

-- every row of a run ends within the first m numbers
abbrev pub RowsIn : Run → ℕ → Type 0
RowsIn r m = (i : ℕ) → i < r.count → row_in r i + 81 ≤ m
