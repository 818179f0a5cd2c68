use Rattle.layout.proofs.Bounds.{customer-is}
use native.Mathlib.Omega.{arith}
use Rattle.layout.proofs.customer_at.Goals as goal

pub returns : goal.returns
returns c =
    omega (arith, customer-is c.args.d c.args.w c.args.k c.args.c c.requires.1.0 c.requires.1.1.0 c.requires.1.1.1)
