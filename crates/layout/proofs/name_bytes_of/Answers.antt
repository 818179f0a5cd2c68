use Rattle.layout.proofs.Bounds.{names-is}
use native.Mathlib.Omega.{arith}
use Rattle.layout.proofs.name_bytes_of.Goals as goal

pub returns : goal.returns
returns c = omega (arith, names-is c.args.d)
