use Rattle.model.specs.Rows.{order_row}
use Rattle.model.specs.Layout.{numbers, shapes, place}
use Rattle.layout.proofs.Bounds.{order-run}
use Rattle.layout.specs.Runs.{row_in}
use Prim.Native.Nat.{ℕ, ◌≤◌, ◌<◌, ◌+◌, ◌*◌}
use mathlib.Core.Path.{◌≡◌, refl}
use native.Mathlib.Omega.{arith}
use Rattle.layout.proofs.orders_run.Goals as goal

pub returns : goal.returns
unfolding row_in
returns c =
    let at : (i : ℕ) → i < c.args.n → (c.order_at-at.result + 81 * i ≡ place (shapes c.args.d) (order_row c.args.d c.args.w c.args.k (c.args.first + i))) × (c.order_at-at.result + 81 * i + 81 ≤ numbers c.args.d) = λ i h.
    let e = order-run c.args.d c.args.w c.args.k c.args.first i c.requires.1.0 c.requires.1.1.0 c.requires.1.1.1.0.lo (omega (arith, h, c.requires.1.1.1.1)) in
    (omega (arith, e, c.order_at-at.ensures.0), omega (arith, e, c.order_at-at.ensures.0)) in
    record { count = refl; each = λ i h. (at i h).0; ends = λ i h. (at i h).1 }
