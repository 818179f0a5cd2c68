-- The stores that fill the program's book give document 01's.
-- Assumes nothing.
use mathlib.Core.Path.{◌≡◌, refl}
use lib.IntN.{pos}
use lib.ListN.{replicate}
use Rattle.model.proofs.Listing.{program_book}
use Rattle.desk.specs.Filling.{head_to, districts_to, prices_to, stocks_to}

pub numbers_filled : stocks_to 5 (prices_to (districts_to 10 (head_to (replicate 3479 (pos 0))))) ≡ program_book
unfolding head_to districts_to prices_to stocks_to
numbers_filled = refl
