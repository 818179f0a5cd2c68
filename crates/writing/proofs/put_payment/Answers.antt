use Rattle.std.proofs.Common.{arith}
use Rattle.model.specs.RequestLine.{fields_of, line_of}
use Rattle.text.proofs.Putting.{fields_then, whole-line}
use Rattle.writing.proofs.put_payment.Goals as goal

pub returns : goal.returns
unfolding fields_of line_of
returns c =
    (whole-line _ _ _ _ _ (fields_then _ _ _ _ _ _ _ _ (fields_then _ _ _ _ _ _ _ _ c.put_numbers-a.ensures.0 c.put_who-b.ensures.0) c.put_numbers-p.ensures.0), omega (arith, c.put_numbers-a.ensures.1, c.put_who-b.ensures.1, c.put_numbers-p.ensures.1))
