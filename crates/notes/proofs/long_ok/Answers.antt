use Rattle.notes.proofs.Writing.{long-is}
use Rattle.notes.proofs.long_ok.Goals as goal

pub returns : goal.returns
returns c = long-is c.args.d c.args.notes.now c.all_customers-customers.ensures.0
