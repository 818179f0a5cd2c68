use Rattle.topup.proofs.Rows.{margin_held, margin_read}
use Rattle.topup.proofs.margin_of.Goals as goal

pub held-requires : goal.held-requires
held-requires c = margin_held c.args.d c.args.topup.now c.requires.1.0 c.args.item c.requires.1.1

pub returns : goal.returns
returns c = margin_read c.args.topup.now c.args.item c.held.ensures
