use Rattle.model.proofs.NameLaws.{name-first, names_end}
use native.Mathlib.Omega.{arith}
use Rattle.layout.proofs.name_base.Goals as goal

pub returns : goal.returns
returns c =
    omega (arith, name-first c.args.d c.args.w c.args.k, names_end c.args.d c.args.w c.args.k c.requires.1.0 c.requires.1.1)
