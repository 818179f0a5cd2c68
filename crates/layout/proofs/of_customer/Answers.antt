use Rattle.layout.proofs.Bounds.{last-is}
use native.Mathlib.Omega.{arith}
use Rattle.layout.proofs.of_customer.Goals as goal

pub returns : goal.returns
returns c =
    omega (arith, last-is c.args.d c.args.w c.args.k c.args.c c.requires.1.0 c.requires.1.1.0 c.requires.1.1.1)
