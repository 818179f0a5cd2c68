-- The twelve cases of document 01 and the one of R-2, computed by the definitions that the calls use; and totals at both sides of half a cent.
-- Assumes nothing.
use mathlib.Core.Path.{◌≡◌, refl}
use mathlib.Core.List.{[], ◌∷◌}
use Rattle.model.specs.Names.{place_of}
use Rattle.model.specs.TopUp.{lifts, restock}
use Rattle.model.specs.NewOrder.{order_total}
use Rattle.model.specs.StockLevel.{window_first, window_count}

pub thirteen_cases :
    -- "On hand 20, quantity 10 gives 10; 10 and 1 gives 100; 0 and 10 gives 81; 9,999 and 10 gives 9,989."
    (restock 10 91 20 10 ∷ restock 10 91 10 1 ∷ restock 10 91 0 10 ∷ restock 10 91 9999 10 ∷ [] ≡ 10 ∷ 100 ∷ 81 ∷ 9989 ∷ [])
    -- "Sum 1,750, discount 1,000, taxes 1,000 and 500: 1,811. Sum 100, no discount, same taxes: 115."
    × ((order_total 1750 1000 1000 500 ∷ order_total 100 0 1000 500 ∷ [] ≡ 1811 ∷ 115 ∷ [])
    -- R-2: "Sum 10, discount 0, taxes 500 in all: 10 becomes 11."
    × ((order_total 10 0 250 250 ≡ 11)
    -- "Place for n = 1, 2, 3: 1, 1, 2."
    × ((place_of 1 ∷ place_of 2 ∷ place_of 3 ∷ [] ≡ 1 ∷ 1 ∷ 2 ∷ [])
    -- "Next 1: window empty. Next 21: orders 1 to 20. Next 22: 2 to 21."
    × ((window_count 1 ≡ 0)
    × ((window_first 21 ∷ window_count 21 ∷ [] ≡ 1 ∷ 20 ∷ [])
    × (window_first 22 ∷ window_count 22 ∷ [] ≡ 2 ∷ 20 ∷ []))))))
unfolding lifts restock order_total window_first window_count
thirteen_cases = (refl, (refl, (refl, (refl, (refl, (refl, refl))))))

pub totals :
    -- 10.5 by taxes 500 in all, of one, the other, both; 11.5 by taxes; 1.5 and 2.5 by discount
    (order_total 10 0 500 0 ∷ order_total 10 0 0 500 ∷ order_total 10 0 250 250 ∷ order_total 10 0 1000 500 ∷ order_total 3 5000 0 0 ∷ order_total 5 5000 0 0 ∷ []
    ≡ 11 ∷ 11 ∷ 11 ∷ 12 ∷ 2 ∷ 3 ∷ [])
    -- 0.5, 0.4999, 0.5001, 0.0001; 0.5, 0.4995, 0.5, 9.5; 30.498, 30.501, 7.4998, 7.5005
    × ((order_total 1 5000 0 0 ∷ order_total 1 5001 0 0 ∷ order_total 1 4999 0 0 ∷ order_total 1 9999 0 0 ∷ [] ≡ 1 ∷ 0 ∷ 1 ∷ 0 ∷ [])
    × ((order_total 5 9000 0 0 ∷ order_total 5 9001 0 0 ∷ order_total 2 7500 0 0 ∷ order_total 10 500 0 0 ∷ [] ≡ 1 ∷ 0 ∷ 1 ∷ 10 ∷ [])
    × ((order_total 30 0 166 0 ∷ order_total 30 0 167 0 ∷ order_total 7 0 714 0 ∷ order_total 7 0 715 0 ∷ [] ≡ 30 ∷ 31 ∷ 7 ∷ 8 ∷ [])
    -- 23.49999999 and 26.50000001: as near to a half as a total comes
    × ((order_total 23 307 541 0 ∷ order_total 31 1959 0 631 ∷ [] ≡ 23 ∷ 27 ∷ [])
    -- whole cents, none, and the ends of the ranges
    × ((order_total 0 0 0 0 ∷ order_total 1 0 0 0 ∷ order_total 20 2500 0 0 ∷ order_total 9999 1 1 0 ∷ [] ≡ 0 ∷ 1 ∷ 15 ∷ 9999 ∷ [])
    × (order_total 14999850 0 9999 9999 ∷ order_total 14999850 9999 0 0 ∷ [] ≡ 44996550 ∷ 1500 ∷ []))))))
unfolding order_total
totals = (refl, (refl, (refl, (refl, (refl, (refl, refl))))))
