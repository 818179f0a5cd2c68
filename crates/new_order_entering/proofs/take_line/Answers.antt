use Rattle.new_order_entering.proofs.Taking.{line_taken, line-lifted, remote_bit}
use mathlib.Core.Path.{◌∙◌}
use Rattle.new_order_entering.proofs.take_line.Goals as goal

pub returns : goal.returns
returns c =
    let a = c.args in
    let at = c.stock_at-p.ensures.0 in (
      c.put_stock.ensures
          ∙ line_taken a.d a.b.now a.l at a.topup.now a.w c.requires.0 c.requires.1.1
          (rw (c.restocked-step.ensures.0, c.held.ensures, c.margin_of-margin.ensures, c.lift_of-lift.ensures))
          (rw c.held-2.ensures)
          (rw c.held-orders.ensures)
          (rw (c.held-3.ensures, c.from.ensures, remote_bit)),
      line-lifted a.d a.b.now a.l at a.topup.now (rw (c.restocked-step.ensures.1.0, c.held.ensures, c.margin_of-margin.ensures)),
    )
