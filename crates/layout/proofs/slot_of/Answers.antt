use Rattle.model.specs.Rows.{slot}
use mathlib.Core.Path.{refl}
use Rattle.layout.proofs.slot_of.Goals as goal

pub returns : goal.returns
unfolding slot
returns c = (refl, c.requires)
