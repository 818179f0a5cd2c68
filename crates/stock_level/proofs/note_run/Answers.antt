use Rattle.stock_level.specs.Notes.{items_in}
use Rattle.stock_level.proofs.Notes.{run_turn}
use native.Mathlib.Omega.{arith}
use Rattle.stock_level.proofs.note_run.Goals as goal

pub loop-i-init : goal.loop-i-init
unfolding items_in
loop-i-init c = (rw c.none-list.ensures (omega arith), c.none-list.ensures)

pub loop-i-preserved : goal.loop-i-preserved
loop-i-preserved c =
    (omega (arith, c.note_order.ensures.0, c.loop-i.invariant.0), run_turn c.args.b.now c.args.stock c.args.threshold c.args.run c.loop-i.i c.loop-i.list c.loop-i.invariant.1 c.order_in-p.ensures c.note_order.ensures.1)
