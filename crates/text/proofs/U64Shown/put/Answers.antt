use native.Mathlib.Omega.{arith}
use Rattle.model.proofs.DecimalLaws.{dec_most}
use Rattle.text.proofs.U64Shown.put.Goals as goal

pub put_number-requires : goal.put_number-requires
put_number-requires c = omega (arith, dec_most c.args.self)
