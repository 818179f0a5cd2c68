use Rattle.layout.proofs.Bounds.{district-is}
use native.Mathlib.Omega.{arith}
use Rattle.layout.proofs.district_at.Goals as goal

pub returns : goal.returns
returns c = omega (arith, district-is c.args.d c.args.w c.args.k c.requires.1.0 c.requires.1.1)
