use Rattle.std.proofs.Common.{sym, subst}
use Rattle.lines.specs.Fields.{WhoSays}
use Rattle.lines.proofs.Names.{who-past, who-none, who_is}
use Rattle.lines.proofs.who_at.Goals as goal

pub returns-then-s-at : goal.returns-then-s-at
returns-then-s-at c = who-past _ _ c.if-s-at.true

pub returns-in_err-who : goal.returns-in_err-who
returns-in_err-who c =
    subst (WhoSays c.args.s.now c.args.at) (sym c.from_residual.ensures) (who-none _ _ _ c.field_end-e.ensures (rw c.in_err-who.was at c.read_who.ensures))

pub returns : goal.returns
returns c = let w = rw c.in_ok-who.was at c.read_who.ensures in who_is _ _ _ c.field_end-e.ensures _ w.0 w.1
