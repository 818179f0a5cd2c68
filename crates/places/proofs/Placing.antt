-- What the tests say, and the figures by what the code of positions answers.
-- Assumes nothing.
use mathlib.Core.Path.{◌≡◌, refl}
use mathlib.Core.Bool.{true, false}
use mathlib.Core.List.{List, [], ◌∷◌}
use Prim.Native.Nat.{ℕ}
use Rattle.model.specs.declared.Dims.{Dims}
use Rattle.model.specs.Tests.{every}
use Rattle.model.specs.Layout.{numbers, name_bytes, shapes, place}
use Rattle.model.specs.Head.{dims_tests}
use Rattle.model.specs.Rows.{warehouse_row, district_row, customer_row, price, stock_row, slot, order_row, history_row}
use Rattle.model.specs.Names.{name_place}
use Rattle.model.proofs.TestLaws.{and_left, and_right, every-each, in_range as in_range_lem}
use Rattle.model.proofs.Fields.{Dimensioned, dims_are}
use Rattle.places.specs.declared.Spot.{Spot}
use Rattle.places.specs.Places.{spot_tests, Spotted, slot_row, places_of, in_range, places_out}

-- "Order number k is in slot k"
pub in_slot : (d : Dims) (w k n : ℕ) → order_row d w k n ≡ slot_row w k n
unfolding slot
in_slot d w k n = refl

module _ (d : Dims) (s : Spot) where
  spotted : every (spot_tests d s) ≡ true → Spotted d s
  unfolding spot_tests
  spotted e =
      let h = every-each (spot_tests d s) e in
      record {
        warehouse_in = in_range_lem _ _ h.0;
        district_in = in_range_lem _ _ h.1.0;
        customer_in = in_range_lem _ _ h.1.1.0;
        item_in = in_range_lem _ _ h.1.1.1.0;
        slot_in = in_range_lem _ _ h.1.1.1.1.0;
        history_in = in_range_lem _ _ h.1.1.1.1.1.0;
      }

  pub ready : in_range d s ≡ true → Dimensioned d × Spotted d s
  ready e =
      (dims_are d (and_left (every (dims_tests d)) (every (spot_tests d s)) e), spotted (and_right (every (dims_tests d)) (every (spot_tests d s)) e))

  pub found : {r : List ℕ} → in_range d s ≡ true → r ≡ 0 ∷ 0 ∷ places_of d s → r ≡ places_out d s
  found e p = rw e p

  pub refused : in_range d s ≡ false → 2 ∷ 0 ∷ 0 ∷ 0 ∷ 0 ∷ 0 ∷ 0 ∷ 0 ∷ 0 ∷ 0 ∷ 0 ∷ 0 ∷ [] ≡ places_out d s
  refused e = rw e

  -- the figures, one by one
  pub figures : {n b w k c i t o h m : ℕ}
      → n ≡ numbers d
      → b ≡ name_bytes d
      → w ≡ place (shapes d) (warehouse_row s.warehouse)
      → k ≡ place (shapes d) (district_row s.warehouse s.district)
      → c ≡ place (shapes d) (customer_row s.warehouse s.district s.customer)
      → i ≡ place (shapes d) (price s.item)
      → t ≡ place (shapes d) (stock_row s.warehouse s.item)
      → o ≡ place (shapes d) (order_row d s.warehouse s.district s.slot)
      → h ≡ place (shapes d) (history_row s.history)
      → m ≡ name_place d s.warehouse s.district s.customer
      → 0 ∷ 0 ∷ n ∷ b ∷ w ∷ k ∷ c ∷ i ∷ t ∷ o ∷ h ∷ m ∷ [] ≡ 0 ∷ 0 ∷ places_of d s
  unfolding places_of
  figures e1 e2 e3 e4 e5 e6 e7 e8 e9 e10 =
      rw (e1, e2, e3, e4, e5, e6, e7, e8, e9, e10, in_slot d s.warehouse s.district s.slot)
