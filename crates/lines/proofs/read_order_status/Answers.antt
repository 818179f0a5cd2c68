use Rattle.std.proofs.Common.{ap, ◌∙◌}
use Rattle.lines.specs.Fields.{form_read}
use Rattle.lines.proofs.Walk.{some_left, none_left}
use Rattle.lines.proofs.Forms.{status-few, status-nobody, status-left, status-is}
use Rattle.lines.proofs.read_order_status.Goals as goal

pub returns-in_err-warehouse : goal.returns-in_err-warehouse
returns-in_err-warehouse c =
    ap form_read c.from_residual.ensures ∙ status-few _ (rw c.in_err-warehouse.was at c.numbers_at.ensures)

pub returns-in_err-who : goal.returns-in_err-who
returns-in_err-who c =
    let r = rw c.in_ok-warehouse.was at c.numbers_at.ensures in
    ap form_read c.from_residual-in_err-who.ensures ∙ status-nobody _ _ r.rest (rw c.in_err-who.was at c.who_at.ensures)

pub returns-then-after-s : goal.returns-then-after-s
returns-then-after-s c =
    let r = rw c.in_ok-warehouse.was at c.numbers_at.ensures in
    let w = rw c.in_ok-who.was at c.who_at.ensures in
    status-left _ _ r.rest _ w.rest (some_left _ _ c.if-after-s.true)

pub returns : goal.returns
returns c =
    let r = rw c.in_ok-warehouse.was at c.numbers_at.ensures in
    let w = rw c.in_ok-who.was at c.who_at.ensures in
    status-is _ _ r.rest _ w.rest _ _ r.numbers r.same w.there w.choice (none_left _ _ c.if-after-s.false)
