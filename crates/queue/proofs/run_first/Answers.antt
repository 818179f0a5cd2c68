use mathlib.Core.Path.{sym, ◌∙◌}
use borrow.Author.Tests.{lt-leb, le-leb, not-true, not-false}
use Rattle.model.specs.Queue.{first_in, run_request}
use Rattle.queue.proofs.Steps.{uncounted, cramped, carried}
use Rattle.std.proofs.Common.{ap}
use mathlib.Core.Bool.{not}
use Rattle.queue.proofs.run_first.Goals.{then-not-within-via-then-not-within, then-not-within-via-else-not-within+then-buffer-lt400}
use Rattle.queue.proofs.run_first.Goals as goal

pub returns-then-not-within : goal.returns-then-not-within
returns-then-not-within c =
    elim c.then-not-within.branch [
      | then-not-within-via-then-not-within w ↦ uncounted _ _ _ _ _ _ (sym c.within.ensures ∙ not-true _ (ap not w.if-not-within.true)) c.not_run.ensures
      | then-not-within-via-else-not-within+then-buffer-lt400 w ↦ cramped _ _ _ _ _ _ (sym c.within.ensures ∙ not-false _ (ap not w.if-not-within.false)) (lt-leb 400 _ w.if-buffer-lt400.true) c.not_run.ensures
    ]

pub returns : goal.returns
unfolding first_in run_request
returns c =
    rw c.moved_up-queue.ensures (carried _ _ _ _ _ _ _ _ (sym c.within.ensures ∙ not-false _ (ap not c.if-not-within.false)) (le-leb 400 _ c.if-buffer-lt400.false) c.delivery-answer.ensures c.write_result.ensures)
