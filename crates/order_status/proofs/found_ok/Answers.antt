use Rattle.order_status.proofs.Stages.{found_none, found_some}
use Rattle.order_status.proofs.found_ok.Goals as goal

pub returns-then-o-eq0 : goal.returns-then-o-eq0
returns-then-o-eq0 c = found_none _ _ _ _ c.if-o-eq0.true

pub returns : goal.returns
returns c = found_some _ _ _ _ _ c.if-o-eq0.false c.order_at-row.ensures.0 c.order_ok.ensures
