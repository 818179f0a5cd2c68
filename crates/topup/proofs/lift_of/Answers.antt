use Rattle.topup.proofs.Rows.{lift_held, lift_read}
use Rattle.topup.proofs.lift_of.Goals as goal

pub held-requires : goal.held-requires
held-requires c = lift_held c.args.d c.args.topup.now c.requires.1.0 c.args.item c.requires.1.1

pub returns : goal.returns
returns c = lift_read c.args.topup.now c.args.item c.held.ensures
