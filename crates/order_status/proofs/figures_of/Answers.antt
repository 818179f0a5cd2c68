use mathlib.Core.Path.{refl}
use Rattle.cells.proofs.Signed.{held}
use Rattle.order_status.proofs.Stages.{shown_none, shown_some}
use mathlib.Core.Path.{refl}
use Rattle.order_status.proofs.figures_of.Goals as goal

pub returns-then-o-eq0 : goal.returns-then-o-eq0
returns-then-o-eq0 c =
    (refl, (rw (held c.balance_of-balance.type_inv) c.balance_of-balance.ensures, shown_none _ _ _ _ c.if-o-eq0.true))

pub returns : goal.returns
returns c =
    (refl, (rw (held c.balance_of-balance.type_inv) c.balance_of-balance.ensures, shown_some _ _ _ _ _ c.if-o-eq0.false c.entry_date-date.ensures c.order_carrier-carrier.ensures))
