use Rattle.std.proofs.Common.{rules, arith, to_z-of_z, SFits, w64}
use Rattle.text.proofs.Putting.{fields_then, whole-line}
use Rattle.answers.proofs.status_line.Goals as goal

pub returns : goal.returns
returns c =
    let fits : SFits w64 c.args.f.balance = search rules in
    (whole-line _ _ _ _ _ (fields_then _ _ _ _ _ _ _ _ c.put_numbers-a.ensures.0 (fields_then _ _ _ _ _ _ _ _ (rw (to_z-of_z fits) at c.put_signed-c.ensures.0) (fields_then _ _ _ _ _ _ _ _ c.put_numbers-d.ensures.0 c.put_numbers-p.ensures.0))), omega (arith, c.requires, c.put_numbers-a.ensures.1, c.put_signed-c.ensures.1, c.put_numbers-d.ensures.1, c.put_numbers-p.ensures.1))
