-- How the code gathers the low items of a window: an item goes to the end of a list where it is low and does not stand there yet.
-- Assumes nothing.
use Rattle.std.specs.Prelude.{Bool, cond, List, [], ◌∷◌, ◌++◌, ℕ, zero, suc, ◌+◌, ◌*◌, ◌-◌, ◌≤◌, eqb, ltb, ℤ, length}
use Rattle.std.specs.List.{list_any}
use Rattle.model.specs.declared.Dims.{Dims}
use Rattle.model.specs.declared.StockLevel.{StockLevel}
use Rattle.model.specs.Numbers.{nat, cell}
use Rattle.model.specs.Store.{from}
use Rattle.model.specs.Rows.{line}
use Rattle.model.specs.StockLevel.{line_items}
use Rattle.model.specs.Claim.{R}
use Rattle.model.proofs.StockLevelFacts.{LevelAsked, LevelUsed}
use Rattle.layout.specs.declared.Run.{Run}
use Rattle.layout.specs.Runs.{row_in}
use Rattle.rows.specs.Book.{Booked}

abbrev pub member : ℕ → List ℕ → Bool
member x = list_any (λ y. eqb y x)

abbrev pub noted : (ℕ → Bool) → List ℕ → ℕ → List ℕ
noted test seen x = cond (test x) (cond (member x seen) seen (seen ++ (x ∷ []))) seen

abbrev pub note_all : (ℕ → Bool) → List ℕ → List ℕ → List ℕ
note_all test seen [] = seen
note_all test seen (x ∷ xs) = note_all test (noted test seen x) xs

-- item i has fewer than the threshold on hand, by the stock rows that start at `stock`
unfoldable pub low_at : List ℤ → ℕ → ℕ → ℕ → Bool
low_at b stock threshold i = ltb (cell b (stock + 4 * (i - 1))) threshold

-- the item of line j, from 1, of the order at p
abbrev pub item_in : List ℤ → ℕ → ℕ → ℕ
item_in b p j = nat (line (from b p) j 0)

-- the items of the first n orders of a run
unfoldable pub items_in : List ℤ → Run → ℕ → List ℕ
items_in b run zero = []
items_in b run (suc n) = items_in b run n ++ line_items (from b (row_in run n))

-- the stock row of item x is in the book
pub record ItemReads (b : List ℤ) (stock x : ℕ) : Type 0 where
  pub low : 1 ≤ x
  pub high : stock + 4 * x ≤ length b

-- the order at p is in the book, and so are the stock rows of its items
pub record OrderReads (b : List ℤ) (stock p : ℕ) : Type 0 where
  pub ends : p + 81 ≤ length b
  pub lines : nat (from b p 3) ≤ 15
  pub items : (j : ℕ) → R (nat (from b p 3)) j → ItemReads b stock (item_in b p j)

-- a Stock-Level that is not refused
pub record Ready (d : Dims) (b : List ℤ) (q : StockLevel) : Type 0 where
  pub booked : Booked d b
  pub asked : LevelAsked d q
  pub used : LevelUsed d b q
