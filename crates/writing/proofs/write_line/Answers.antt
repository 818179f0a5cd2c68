use Rattle.std.proofs.Common.{rules, sym, ◌∙◌}
use Rattle.writing.proofs.Putting.{unwritten, too_short, written}
use Rattle.writing.proofs.write_line.Goals as goal

pub returns-then-not-form_ok : goal.returns-then-not-form_ok
returns-then-not-form_ok c = rw c.not_written.ensures (unwritten _ _ (sym c.form_ok.ensures ∙ c.if-not-form_ok.true))

pub returns-then-buffer-n : goal.returns-then-buffer-n
returns-then-buffer-n c =
    rw c.not_written-then-buffer-n.ensures (too_short _ _ _ _ _ (sym c.form_ok.ensures ∙ c.if-not-form_ok.false) c.put_line-n.ensures.0 c.if-buffer-n.true)

pub returns : goal.returns
returns c =
    rw c.copy_from_slice.ensures.after (written _ _ _ _ _ (sym c.form_ok.ensures ∙ c.if-not-form_ok.false) c.put_line-n.ensures.0 (search rules) c.if-buffer-n.false)
