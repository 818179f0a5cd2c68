use Rattle.std.proofs.Common.{rules, ◌≡◌, Option, None, ℕ, subst}
use Rattle.text.specs.Fields.{StepSays}
use mathlib.Core.Path.{sym, ◌∙◌}
use Rattle.text.proofs.Walk.{none-past, step-not, step_is}
use Rattle.text.proofs.number_at.Goals as goal

pub returns-then-s-at : goal.returns-then-s-at
returns-then-s-at c = none-past _ _ c.if-s-at.true

pub returns-in_err-v : goal.returns-in_err-v
returns-in_err-v c =
    let e : ◌≡◌ {A = Option (ℕ × ℕ)} None c.from_residual.result = search rules in
    subst (StepSays c.args.s.now c.args.at) e (step-not _ _ _ c.field_end-e.ensures (sym c.number_of.ensures ∙ c.in_err-v.was))

pub returns : goal.returns
returns c = step_is _ _ _ _ c.field_end-e.ensures (sym c.number_of.ensures ∙ c.in_ok-v.was)
