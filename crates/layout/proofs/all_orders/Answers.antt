use mathlib.Core.Path.{refl}
use Rattle.layout.specs.Layout.{all_orders}
use Rattle.layout.proofs.Bounds.{orders_max}
use Rattle.layout.proofs.all_orders.Goals as goal

pub returns : goal.returns
unfolding all_orders
returns c = (refl, orders_max _ c.requires)
