use Rattle.std.proofs.Common.{◌^◌, ◌<◌, arith, to_z-of_z, w64}
use mir.Facts.{to_z_pos}
use Rattle.cells.proofs.Signed.{plus_fits}
use Rattle.cells.proofs.balance_plus.Goals as goal

pub overflow_add-result : goal.overflow_add-result
overflow_add-result c =
    let a : c.args.amount < 2 ^ 63 = omega (arith, c.requires.1) in
    rw (to_z-of_z c.ranges.x, to_z_pos w64 a) (plus_fits _ _ c.requires.0 c.requires.1)

pub returns : goal.returns
returns c =
    let a : c.args.amount < 2 ^ 63 = omega (arith, c.requires.1) in
    rw (to_z-of_z c.ranges.x, to_z_pos w64 a, to_z-of_z (plus_fits _ _ c.requires.0 c.requires.1))
