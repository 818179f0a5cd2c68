use mathlib.Core.Path.{◌∙◌}
use native.Mathlib.Omega.{arith}
use Prim.Native.Nat.{◌+◌}
use lib.ListN.{set, length-set}
use Rattle.model.proofs.DecimalLaws.{dec_most}
use Rattle.text.proofs.Putting.{marked_field}
use Rattle.writing.proofs.put_hash.Goals as goal

pub bounds-line-at-2 : goal.bounds-line-at-2
bounds-line-at-2 c = simp length-set (omega (arith, c.requires))

pub put_digits-requires : goal.put_digits-requires
put_digits-requires c = simp length-set (omega (arith, c.requires, dec_most c.args.c))

pub shape_of-line : goal.shape_of-line
shape_of-line c =
    c.put_digits.auto.line ∙ length-set (set c.args.line.now c.args.at 9) (c.args.at + 1) 35 ∙ length-set c.args.line.now c.args.at 9

pub returns : goal.returns
returns c =
    (marked_field _ _ _ _ _ _ c.put_digits.ensures, omega (arith, c.put_digits.ensures.place, dec_most c.args.c))
