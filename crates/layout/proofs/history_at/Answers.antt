use Rattle.layout.proofs.Bounds.{history-is}
use native.Mathlib.Omega.{arith}
use Rattle.layout.proofs.history_at.Goals as goal

pub returns : goal.returns
returns c = omega (arith, history-is c.args.d c.args.h c.requires.1)
