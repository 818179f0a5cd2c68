-- Where the rows of a book of given sizes stand, as flat numbers. No rule of the book is here: sizes, rows and places are the model's.
-- Assumes nothing.
use Rattle.std.specs.Prelude.{Bool, ◌&&◌, cond, List, [], ◌∷◌, ℕ}
use Rattle.model.specs.declared.Dims.{Dims}
use Rattle.model.specs.Tests.{every, within}
use Rattle.model.specs.Layout.{Addr, at, numbers, name_bytes, shapes, place}
use Rattle.model.specs.Head.{dims_tests}
use Rattle.model.specs.Rows.{warehouse_row, district_row, customer_row, price, stock_row, history_row}
use Rattle.model.specs.Names.{name_place}
use Rattle.model.specs.Claim.{R}
use Rattle.places.specs.declared.Spot.{Spot}

-- the sizes, and the rows asked for, by their numbers
abbrev pub dims_of : ℕ → ℕ → ℕ → ℕ → ℕ → Dims
dims_of w c i o h = record { warehouses = w; customers = c; items = i; orders = o; histories = h }

abbrev pub spot_of : ℕ → ℕ → ℕ → ℕ → ℕ → ℕ → Spot
spot_of w k c i n h = record { warehouse = w; district = k; customer = c; item = i; slot = n; history = h }

-- each is 1 to its size
unfoldable pub spot_tests : Dims → Spot → List Bool
spot_tests d s =
    within s.warehouse 1 d.warehouses
    ∷ within s.district 1 10
    ∷ within s.customer 1 d.customers
    ∷ within s.item 1 d.items
    ∷ within s.slot 1 d.orders
    ∷ within s.history 1 d.histories
    ∷ []

-- .. as code knows it
pub record Spotted (d : Dims) (s : Spot) : Type 0 where
  pub warehouse_in : R d.warehouses s.warehouse
  pub district_in : R 10 s.district
  pub customer_in : R d.customers s.customer
  pub item_in : R d.items s.item
  pub slot_in : R d.orders s.slot
  pub history_in : R d.histories s.history

-- "Order, O slots per district": the row of slot n, which is that of the order in it
abbrev pub slot_row : ℕ → ℕ → ℕ → Addr
slot_row w k n = at 6 w k n 0

-- the two lengths, where the seven rows start among the numbers, where the customer's names start among the name bytes
unfoldable pub places_of : Dims → Spot → List ℕ
places_of d s =
    numbers d
    ∷ name_bytes d
    ∷ place (shapes d) (warehouse_row s.warehouse)
    ∷ place (shapes d) (district_row s.warehouse s.district)
    ∷ place (shapes d) (customer_row s.warehouse s.district s.customer)
    ∷ place (shapes d) (price s.item)
    ∷ place (shapes d) (stock_row s.warehouse s.item)
    ∷ place (shapes d) (slot_row s.warehouse s.district s.slot)
    ∷ place (shapes d) (history_row s.history)
    ∷ name_place d s.warehouse s.district s.customer
    ∷ []

-- the sizes are in the head's ranges, and each row is one of the book
abbrev pub in_range : Dims → Spot → Bool
in_range d s = every (dims_tests d) && every (spot_tests d s)

-- number, detail, then the ten figures: 0 where the number is 2, "a head number is out of range", which is answered for a row out of its range too
abbrev pub places_out : Dims → Spot → List ℕ
places_out d s = cond (in_range d s) (0 ∷ 0 ∷ places_of d s) (2 ∷ 0 ∷ 0 ∷ 0 ∷ 0 ∷ 0 ∷ 0 ∷ 0 ∷ 0 ∷ 0 ∷ 0 ∷ 0 ∷ [])
