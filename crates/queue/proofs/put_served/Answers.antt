use native.Mathlib.Omega.{arith}
use Rattle.model.proofs.DecimalLaws.{dec_most}
use Rattle.text.proofs.Putting.{fields_then, positives_text}
use Rattle.queue.proofs.put_served.Goals as goal

pub put_number-p-requires : goal.put_number-p-requires
put_number-p-requires c = omega (arith, c.requires, dec_most c.args.skipped)

pub returns : goal.returns
returns c = (
  rw (← positives_text c.args.orders) (fields_then _ _ _ _ _ _ _ _ c.put_number-p.ensures.0 c.put_numbers.ensures.0),
  omega (arith, c.put_number-p.ensures.1, c.put_numbers.ensures.1),
)
