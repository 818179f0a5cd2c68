use Rattle.layout.proofs.Bounds.{item-is}
use native.Mathlib.Omega.{arith}
use Rattle.layout.proofs.item_at.Goals as goal

pub returns : goal.returns
returns c = omega (arith, item-is c.args.d c.args.i c.requires.1)
