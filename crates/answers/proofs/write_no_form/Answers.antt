use Rattle.std.proofs.Common.{arith, []}
use Rattle.model.specs.AnswerLine.{no_form_line}
use Rattle.answers.proofs.Putting.{room, line_written}
use Rattle.answers.proofs.write_no_form.Goals as goal

pub returns : goal.returns
unfolding no_form_line
returns c =
    line_written _ _ _ _ (room c.args.buffer.now [] c.if-buffer-lt2048.false (omega arith)) c.refused_line.ensures.0 c.refused_line.ensures.1 c.if-buffer-lt2048.false
