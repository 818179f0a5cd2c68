use Rattle.std.proofs.Common.{arith, to_z-of_z}
use Rattle.text.proofs.Putting.{fields_then, whole-line}
use Rattle.answers.proofs.payment_line.Goals as goal

pub returns : goal.returns
returns c =
    (whole-line _ _ _ _ _ (fields_then _ _ _ _ _ _ _ _ c.put_numbers-a.ensures.0 (rw (to_z-of_z c.ranges.balance) at c.put_signed-p.ensures.0)), omega (arith, c.put_numbers-a.ensures.1, c.put_signed-p.ensures.1))
