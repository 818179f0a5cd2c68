use Rattle.model.proofs.NameLaws.{name-first, name-place, names_end, names_max}
use native.Mathlib.Omega.{arith}
use Rattle.layout.proofs.name_at.Goals as goal

pub overflow_add-result : goal.overflow_add-result
overflow_add-result c =
    omega (arith, name-first c.args.d c.args.w c.args.k, names_max c.args.d c.args.w c.args.k c.requires.0 c.requires.1.0 c.requires.1.1.0)

pub returns : goal.returns
returns c =
    omega (arith, name-place c.args.d c.args.w c.args.k c.args.c, names_end c.args.d c.args.w c.args.k c.requires.1.0 c.requires.1.1.0)
