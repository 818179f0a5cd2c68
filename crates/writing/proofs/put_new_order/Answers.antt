use Rattle.std.proofs.Common.{arith}
use Rattle.model.specs.RequestLine.{fields_of, line_of}
use Rattle.text.proofs.Putting.{fields_then, whole-line}
use Rattle.writing.proofs.put_new_order.Goals as goal

pub returns : goal.returns
unfolding fields_of line_of
returns c =
    (whole-line _ _ _ _ _ (fields_then _ _ _ _ _ _ _ _ c.put_numbers-a.ensures.0 c.put_lines-p.ensures.0), omega (arith, c.requires.0, c.put_numbers-a.ensures.1, c.put_lines-p.ensures.1))
