use Rattle.order_status.proofs.Stages.{lines_none, lines-some}
use native.Mathlib.Omega.{arith}
use Rattle.order_status.proofs.part_of.Goals as goal

pub returns-then-o-eq0 : goal.returns-then-o-eq0
returns-then-o-eq0 c = (omega arith, lines_none _ _ _ _ c.if-o-eq0.true)

pub returns : goal.returns
returns c =
    let t = c.requires.1.1.1 c.if-o-eq0.false in (omega (arith, c.order_at-p.ensures, c.line_count-n.ensures, t.hi, c.args.book.now.booked), lines-some _ _ _ _ _ (omega (arith, c.if-o-eq0.false)) c.line_count-n.ensures c.order_at-p.ensures.0)
