-- After any list of calls every master field of the book is as at opening. The names are lent to be read only: no call changes them.
-- Assumes nothing.
use mathlib.Core.Path.{◌≡◌, sym, ◌∙◌}
use mathlib.Core.List.{List}
use Prim.Native.Nat.{ℕ}
use lib.IntN.{ℤ}
use lib.ListN.{length}
use Rattle.model.specs.declared.Dims.{Dims}
use Rattle.model.specs.Layout.{shapes}
use Rattle.model.specs.Store.{get}
use Rattle.model.specs.Rows.{warehouse_tax, district_tax, customer_row, discount, price}
use Rattle.model.specs.Head.{dims}
use Rattle.model.specs.Opening.{Accepted}
use Rattle.model.specs.Request.{Request, Lent}
use Rattle.model.specs.Tally.{after_all}
use Rattle.model.specs.Claim.{R}
use Rattle.model.proofs.RowFacts.{book_long}
use Rattle.model.proofs.Fresh.{opened_fresh}
use Rattle.model.proofs.Demand.{history_good}

-- b₀ is the opening book, b a later one, d the size of both
pub record Masters (d : Dims) (b₀ b : List ℤ) : Type 0 where
  pub long : length b ≡ length b₀
  pub sized : dims b ≡ dims b₀
  pub warehouse_tax_lem : (w : ℕ) → R d.warehouses w → get (shapes d) b (warehouse_tax w) ≡ get (shapes d) b₀ (warehouse_tax w)
  pub district_tax_lem : (w k : ℕ) → R d.warehouses w → R 10 k → get (shapes d) b (district_tax w k) ≡ get (shapes d) b₀ (district_tax w k)
  pub credit : (w k c : ℕ) → R d.warehouses w → R 10 k → R d.customers c → get (shapes d) b (customer_row w k c) ≡ get (shapes d) b₀ (customer_row w k c)
  pub discounts : (w k c : ℕ) → R d.warehouses w → R 10 k → R d.customers c → get (shapes d) b (discount w k c) ≡ get (shapes d) b₀ (discount w k c)
  pub prices : (i : ℕ) → R d.items i → get (shapes d) b (price i) ≡ get (shapes d) b₀ (price i)

pub names_and_masters : (s : Lent) → Accepted s.nums s.names → (rs : List Request) → Masters (dims s.nums) s.nums (after_all s rs).nums
names_and_masters s e rs =
    let a = (history_good s e rs).agrees in
    record {
      long = a.head.len ∙ sym (book_long (opened_fresh s.nums s.names e).shaped);
      sized = a.head.head;
      warehouse_tax_lem = a.warehouse.tax;
      district_tax_lem = a.district.tax;
      credit = a.customer.credit;
      discounts = a.customer.rate;
      prices = a.item.prices;
    }
