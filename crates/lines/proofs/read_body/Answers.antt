use Rattle.std.proofs.Common.{sym, ◌∙◌}
use Rattle.lines.proofs.Names.{body-not, body_is}
use Rattle.lines.proofs.read_body.Goals as goal

pub returns-then-field_end-ne1-clause-read : goal.returns-then-field_end-ne1-clause-read
returns-then-field_end-ne1-clause-read c = sym (body-not _ _ c.field_end.ensures c.if-field_end-ne1.true)

pub returns-clause-read : goal.returns-clause-read
returns-clause-read c = c.read_form.ensures.read ∙ sym (body_is _ _ c.field_end.ensures c.if-field_end-ne1.false)
