use Rattle.std.proofs.Common.{arith}
use Rattle.text.proofs.Putting.{fields_then, whole-line, positives_text}
use Rattle.answers.proofs.delivery_line.Goals as goal

pub returns : goal.returns
returns c =
    (whole-line _ _ _ _ _ (fields_then _ _ _ _ _ _ _ _ c.put_numbers-a.ensures.0 (rw (positives_text c.args.orders) at c.put_numbers-p.ensures.0)), omega (arith, c.put_numbers-a.ensures.1, c.put_numbers-p.ensures.1))
