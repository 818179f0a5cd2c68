-- "The numbers lie in this order, fields as listed, rows by depot, district, number."
-- The book is eight sections. Section s has xs · ys · zs rows of ks numbers each, rows by x, y, z, which count from 1.
-- Assumes nothing.
use Rattle.std.specs.Prelude.{List, [], ◌∷◌, ℕ, zero, suc, ◌+◌, ◌*◌, ◌-◌, get_or}
use Rattle.model.specs.declared.Dims.{Dims}

pub record Shape : Type 0 where
  pub xs : ℕ
  pub ys : ℕ
  pub zs : ℕ
  pub ks : ℕ

abbrev pub sh : ℕ → ℕ → ℕ → ℕ → Shape
sh x y z k = record { xs = x; ys = y; zs = z; ks = k }

-- how many numbers a district row has
abbrev pub district_size : ℕ
district_size = 3

-- 0 head, 1 warehouse, 2 district, 3 customer, 4 item, 5 stock, 6 order, 7 history
abbrev pub shapes : Dims → List Shape
shapes d =
    sh 1 1 1 6
    ∷ sh d.warehouses 1 1 2
    ∷ sh d.warehouses 10 1 district_size
    ∷ sh d.warehouses 10 d.customers 6
    ∷ sh d.items 1 1 1
    ∷ sh d.warehouses d.items 1 4
    ∷ sh d.warehouses 10 d.orders 81
    ∷ sh d.histories 1 1 7
    ∷ []

abbrev pub size : Shape → ℕ
size s = s.xs * s.ys * s.zs * s.ks

abbrev pub none : Shape
none = sh 0 0 0 0

-- where section n starts
abbrev pub base : List Shape → ℕ → ℕ
base [] n = 0
base (h ∷ t) zero = 0
base (h ∷ t) (suc n) = size h + base t n

abbrev pub total : List Shape → ℕ
total [] = 0
total (h ∷ t) = size h + total t

-- the lengths that the head implies: numbers, and name bytes ("Names are 32 bytes per customer")
unfoldable pub numbers : Dims → ℕ
numbers d = total (shapes d)

unfoldable pub name_bytes : Dims → ℕ
name_bytes d = 32 * (10 * d.warehouses * d.customers)

-- an address: section, row by up to three coordinates that count from 1 (1 where the section has fewer), column from 0
pub record Addr : Type 0 where
  pub s : ℕ
  pub x : ℕ
  pub y : ℕ
  pub z : ℕ
  pub k : ℕ

abbrev pub at : ℕ → ℕ → ℕ → ℕ → ℕ → Addr
at s x y z k = record { s = s; x = x; y = y; z = z; k = k }

unfoldable pub inside : Shape → Addr → ℕ
inside h a = (((a.x - 1) * h.ys + (a.y - 1)) * h.zs + (a.z - 1)) * h.ks + a.k

-- the index of an address
unfoldable pub place : List Shape → Addr → ℕ
place l a = base l a.s + inside (get_or l a.s none) a

-- a slice beside the book with one number per customer, rows by depot, district, number: one section
abbrev pub per_customer : Dims → List Shape
per_customer d = sh d.warehouses 10 d.customers 1 ∷ []

abbrev pub of_customer : ℕ → ℕ → ℕ → Addr
of_customer w k c = at 0 w k c 0
