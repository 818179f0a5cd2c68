use lib.ListN.{length-set}
use native.Mathlib.Omega.{arith}
use mir.Facts.{to_z-of_z}
use Rattle.text.proofs.Putting.{magnitude, put_plain, put_minus}
use Rattle.text.proofs.put_signed.Goals as goal

pub put_digits-requires : goal.put_digits-requires
put_digits-requires c =
    let m = magnitude c.args.z _ c.ranges.z c.unsigned_abs-n.ensures.value in simp length-set (omega (arith, c.requires, m.1))

pub returns-then-z-lt0 : goal.returns-then-z-lt0
returns-then-z-lt0 c =
    let m = magnitude c.args.z _ c.ranges.z c.unsigned_abs-n.ensures.value in
    (put_minus _ _ _ _ _ c.args.z m.0 (rw (to_z-of_z c.ranges.z) at c.if-z-lt0.true) c.put_digits.ensures, omega (arith, c.put_digits.ensures.place, m.1))

pub put_digits-requires-2 : goal.put_digits-requires-2
put_digits-requires-2 c =
    let m = magnitude c.args.z _ c.ranges.z c.unsigned_abs-n.ensures.value in simp length-set (omega (arith, c.requires, m.1))

pub returns : goal.returns
returns c =
    let m = magnitude c.args.z _ c.ranges.z c.unsigned_abs-n.ensures.value in
    (put_plain _ _ _ _ _ c.args.z m.0 (rw (to_z-of_z c.ranges.z) at c.if-z-lt0.false) c.put_digits-2.ensures, omega (arith, c.put_digits-2.ensures.place, m.1))
