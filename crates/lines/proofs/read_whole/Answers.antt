use Rattle.std.proofs.Common.{sym, ap, ◌∙◌}
use Rattle.lines.specs.Fields.{reading}
use Rattle.lines.proofs.Names.{line-empty, line_open, line-is}
use Rattle.lines.proofs.read_whole.Goals as goal

pub returns-in_err-last-clause-read : goal.returns-in_err-last-clause-read
returns-in_err-last-clause-read c = ap reading c.from_residual.ensures ∙ line-empty _ c.in_err-last.ensures.cases

pub returns-then-last-ne10-clause-read : goal.returns-then-last-ne10-clause-read
returns-then-last-ne10-clause-read c = line_open _ _ _ c.in_ok-last.ensures.cases.0 c.if-last-ne10.true

pub returns-clause-read : goal.returns-clause-read
returns-clause-read c = c.read_body.ensures.read ∙ sym (line-is _ _ _ c.in_ok-last.ensures.cases.0 c.if-last-ne10.false)
