use Rattle.std.proofs.Common.{sym, ap, ◌∙◌}
use Rattle.lines.specs.Fields.{form_read}
use Rattle.lines.proofs.Walk.{if_none, if_some}
use Rattle.lines.proofs.Forms.{stock-not, stock-is}
use Rattle.lines.proofs.read_stock_level.Goals as goal

pub returns-in_err-warehouse : goal.returns-in_err-warehouse
returns-in_err-warehouse c =
    ap form_read c.from_residual.ensures ∙ stock-not _ (if_none _ _ (sym c.in_err-warehouse.was ∙ c.last_numbers.ensures))

pub returns : goal.returns
returns c = let r = if_some _ _ _ (sym c.in_ok-warehouse.was ∙ c.last_numbers.ensures) in stock-is _ _ r.0 r.1
