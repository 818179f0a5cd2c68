use native.Mathlib.Omega.{arith}
use Rattle.text.proofs.Putting.{whole-line}
use Rattle.text.proofs.three_line.Goals as goal

pub returns : goal.returns
returns c = (whole-line _ _ _ _ _ c.put_numbers-p.ensures.0, omega (arith, c.put_numbers-p.ensures.1))
