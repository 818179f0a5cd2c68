use Rattle.layout.proofs.Bounds.{numbers-is}
use native.Mathlib.Omega.{arith}
use Rattle.layout.proofs.numbers_of.Goals as goal

pub returns : goal.returns
returns c = omega (arith, numbers-is c.args.d)
