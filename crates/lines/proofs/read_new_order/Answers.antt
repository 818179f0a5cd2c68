use Rattle.std.proofs.Common.{ap, ◌∙◌}
use Rattle.lines.specs.Fields.{reading}
use Rattle.lines.proofs.Orders.{order-few, order-not, order_is, held}
use Rattle.lines.proofs.read_new_order.Goals as goal

pub returns-in_err-warehouse-clause-read : goal.returns-in_err-warehouse-clause-read
returns-in_err-warehouse-clause-read c =
    ap reading c.from_residual.ensures ∙ order-few _ (rw c.in_err-warehouse.was at c.numbers_at.ensures)

pub returns-in_err-lines-clause-read : goal.returns-in_err-lines-clause-read
returns-in_err-lines-clause-read c =
    let r = rw c.in_ok-warehouse.was at c.numbers_at.ensures in
    ap reading c.from_residual-in_err-lines.ensures ∙ order-not _ _ r.rest (rw c.in_err-lines.was at c.read_lines.ensures)

pub returns-clause-read : goal.returns-clause-read
returns-clause-read c =
    let r = rw c.in_ok-warehouse.was at c.numbers_at.ensures in
    let l = rw c.in_ok-lines.was at c.read_lines.ensures in
    order_is _ _ r.rest _ _ r.numbers r.same l.0 (held l.1)
