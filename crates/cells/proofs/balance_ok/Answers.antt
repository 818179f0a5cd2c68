use Rattle.std.proofs.Common.{to_z-of_z}
use Rattle.cells.proofs.Signed.{balance_range}
use Rattle.cells.proofs.balance_ok.Goals as goal

pub returns : goal.returns
returns c = rw (c.unsigned_abs.ensures.value, to_z-of_z c.ranges.x) (balance_range c.args.x)
