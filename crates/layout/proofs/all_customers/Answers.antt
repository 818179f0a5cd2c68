use mathlib.Core.Path.{refl}
use Rattle.layout.specs.Layout.{all_customers}
use Rattle.layout.proofs.Bounds.{customers_max}
use Rattle.layout.proofs.all_customers.Goals as goal

pub returns : goal.returns
unfolding all_customers
returns c = (refl, customers_max _ c.requires)
