use Rattle.lookup.specs.Listed.{name_ok_from}
use Rattle.lookup.proofs.Extremes.{kept-none, kept_step, extremes_all}
use Rattle.model.proofs.ListLaws.{at_end}
use Rattle.model.specs.Tests.{all_to}
use mathlib.Core.Path.{◌∙◌}
use borrow.Author.Rules.{rules}
use Rattle.lookup.proofs.District.names_ok.Goals as goal

pub loop-i-init : goal.loop-i-init
loop-i-init c = (search rules, (kept-none, kept-none))

pub loop-i-preserved : goal.loop-i-preserved
loop-i-preserved c =
    (search rules, (kept_step c.loop-i.invariant.1.0 c.note_name.ensures.0, kept_step c.loop-i.invariant.1.1 c.note_name.ensures.1))

pub returns : goal.returns
returns c =
    at_end (λ n. all_to n (name_ok_from c.args.self.names.now c.args.self.base)) c.loop-i.invariant.0 c.loop-i-test.false (c.extremes_ok.ensures ∙ extremes_all c.loop-i.invariant.1.0 c.loop-i.invariant.1.1)
