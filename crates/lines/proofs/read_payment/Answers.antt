use Rattle.std.proofs.Common.{sym, ap, ◌∙◌}
use Rattle.lines.specs.Fields.{form_read}
use Rattle.lines.proofs.Walk.{if_none, if_some}
use Rattle.lines.proofs.Forms.{pay-few, pay-nobody, pay-short, pay-is}
use Rattle.lines.proofs.read_payment.Goals as goal

pub returns-in_err-warehouse : goal.returns-in_err-warehouse
returns-in_err-warehouse c =
    ap form_read c.from_residual.ensures ∙ pay-few _ (rw c.in_err-warehouse.was at c.numbers_at.ensures)

pub returns-in_err-who : goal.returns-in_err-who
returns-in_err-who c =
    let r = rw c.in_ok-warehouse.was at c.numbers_at.ensures in
    ap form_read c.from_residual-in_err-who.ensures ∙ pay-nobody _ _ r.rest (rw c.in_err-who.was at c.who_at.ensures)

pub returns-in_err-date : goal.returns-in_err-date
returns-in_err-date c =
    let r = rw c.in_ok-warehouse.was at c.numbers_at.ensures in
    let w = rw c.in_ok-who.was at c.who_at.ensures in
    ap form_read c.from_residual-in_err-date.ensures ∙ pay-short _ _ r.rest _ w.rest (if_none _ _ (sym c.in_err-date.was ∙ c.last_numbers.ensures))

pub returns : goal.returns
returns c =
    let r = rw c.in_ok-warehouse.was at c.numbers_at.ensures in
    let w = rw c.in_ok-who.was at c.who_at.ensures in
    let l = if_some _ _ _ (sym c.in_ok-date.was ∙ c.last_numbers.ensures) in
    pay-is _ _ r.rest _ w.rest _ _ _ r.numbers r.same w.there w.choice l.0 l.1
