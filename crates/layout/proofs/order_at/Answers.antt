use Rattle.layout.proofs.Bounds.{order_is}
use native.Mathlib.Omega.{arith}
use Rattle.layout.proofs.order_at.Goals as goal

pub returns : goal.returns
returns c =
    omega (arith, order_is c.args.d c.args.w c.args.k c.args.o c.requires.1.0 c.requires.1.1.0 c.requires.1.1.1)
