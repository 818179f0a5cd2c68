use native.Mathlib.Omega.{arith}
use Rattle.model.proofs.DecimalLaws.{dec_most}
use Rattle.queue.proofs.put_end.Goals as goal

pub put_number-requires : goal.put_number-requires
put_number-requires c = omega (arith, c.requires, dec_most c.number.result)
