use native.Mathlib.Omega.{arith}
use Rattle.model.proofs.DecimalLaws.{dec_most}
use Rattle.text.proofs.Putting.{one_field}
use Rattle.text.proofs.put_number.Goals as goal

pub returns : goal.returns
returns c =
    (one_field _ _ _ _ _ c.put_digits.ensures, omega (arith, c.put_digits.ensures.place, dec_most c.args.n))
