use Rattle.layout.proofs.Bounds.{stock-is}
use native.Mathlib.Omega.{arith}
use Rattle.layout.proofs.stock_at.Goals as goal

pub returns : goal.returns
returns c = omega (arith, stock-is c.args.d c.args.w c.args.i c.requires.1.0 c.requires.1.1)
