use mathlib.Core.Path.{sym, ◌∙◌}
use borrow.Author.Tests.{le-ltb, lt-ltb, not-true, not-false}
use Rattle.queue.proofs.Steps.{full, misdated, joins}
use Rattle.std.proofs.Common.{ap}
use mathlib.Core.Bool.{not}
use Rattle.queue.proofs.join_last.Goals as goal

pub returns-then-n-ge16 : goal.returns-then-n-ge16
returns-then-n-ge16 c = rw c.not_queued.ensures (full c.args.q c.args.x (le-ltb _ _ c.if-n-ge16.true))

pub returns-then-not-within : goal.returns-then-not-within
returns-then-not-within c =
    rw c.not_queued-then-not-within.ensures (misdated c.args.q c.args.x (lt-ltb _ _ c.if-n-ge16.false) (sym c.within.ensures ∙ not-true _ (ap not c.if-not-within.true)))

pub returns : goal.returns
returns c =
    joins c.args.q c.args.x (lt-ltb _ _ c.if-n-ge16.false) (sym c.within.ensures ∙ not-false _ (ap not c.if-not-within.false))
