use Rattle.model.specs.Payment.{paid_balance}
use Rattle.payment.specs.declared.Plan.{Plan}
use Rattle.payment.specs.Plan.{plan_of}
use Rattle.payment.proofs.Joint.{plan_run, bad_noted, good_kept}
use Rattle.cells.proofs.Signed.{held}
use borrow.Author.Tests.{not-true, not-false}
use mathlib.Core.Path.{◌∙◌, ap}
use Rattle.payment.proofs.commit.Goals as goal

pub returns-then-not-p : goal.returns-then-not-p
unfolding paid_balance plan_of
returns-then-not-p c =
    record { answers = rw (held c.struct_told-1.given.1.1.1.1.1.0.1, c.plan_of-p.ensures.0); leaves = c.store_plan.ensures ∙ rw c.plan_of-p.ensures.0 (plan_run _ _ _ _ c.requires.0); writes = good_kept c.args.d c.args.b.now c.args.notes.now c.args.q c.args.c (ap (λ (p : Plan). p.bad) c.plan_of-p.ensures.0) (not-true c.plan_of-p.result.bad c.if-not-p.true) }

pub returns : goal.returns
unfolding paid_balance plan_of
returns c =
    record { answers = rw (held c.struct_told-2-1.given.1.1.1.1.1.0.1, c.plan_of-p.ensures.0); leaves = c.store_plan.ensures ∙ rw c.plan_of-p.ensures.0 (plan_run _ _ _ _ c.requires.0); writes = c.note.ensures ∙ bad_noted c.args.d c.args.b.now c.args.notes.now c.args.q c.args.c (ap (λ (p : Plan). p.bad) c.plan_of-p.ensures.0) (not-false c.plan_of-p.result.bad c.if-not-p.false) }
