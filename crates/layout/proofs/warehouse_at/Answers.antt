use Rattle.layout.proofs.Bounds.{warehouse-is}
use native.Mathlib.Omega.{arith}
use Rattle.layout.proofs.warehouse_at.Goals as goal

pub returns : goal.returns
returns c = omega (arith, warehouse-is c.args.d c.args.w c.requires.1)
