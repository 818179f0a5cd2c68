use mathlib.Core.Path.{refl}
use Rattle.layout.specs.Layout.{all_stocks}
use Rattle.layout.proofs.Bounds.{stocks_max}
use Rattle.layout.proofs.all_stocks.Goals as goal

pub returns : goal.returns
unfolding all_stocks
returns c = (refl, stocks_max _ c.requires)
