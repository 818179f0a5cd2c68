use Rattle.last_orders.proofs.Fitting.{note_at}
use Rattle.last_orders.proofs.note.Goals as goal

pub returns : goal.returns
returns c =
    note_at c.args.d c.args.last.now c.args.w c.args.k c.args.c c.of_customer-at.ensures.0 c.args.order c.put.ensures
