use Rattle.last_orders.proofs.Fitting.{long-length, read_at}
use Rattle.std.proofs.Common.{arith}
use Rattle.last_orders.proofs.last_of.Goals as goal

pub get-requires : goal.get-requires
get-requires c =
    omega (arith, c.of_customer-p.ensures, long-length c.args.d c.args.last.now c.requires.1.1.1.1)

pub returns : goal.returns
returns c =
    read_at c.args.d c.args.last.now c.args.w c.args.k c.args.c c.of_customer-p.ensures.0 c.get.ensures
