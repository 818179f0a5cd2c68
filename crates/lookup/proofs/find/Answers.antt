use Rattle.lookup.proofs.Bridge.{namesakes-from}
use Rattle.lookup.proofs.Inserting.{taken_none, taken_at}
use Rattle.model.specs.Names.{found}
use Rattle.std.proofs.Common.{rules, sym, ◌∙◌, ◌≡◌}
use mathlib.Core.Bool.{◌&&◌}
use lib.Dec.{leb}
use lib.ListN.{length}
use Rattle.lookup.proofs.find.Goals as goal
use Rattle.lookup.proofs.find.Goals.{After-contains}

fits : (c : After-contains) → c.contains.result ≡ (leb 1 (length c.args.name.now) && leb (length c.args.name.now) 16)
fits c = search rules

pub returns-then-not-contains : goal.returns-then-not-contains
unfolding found
returns-then-not-contains c = rw (sym (fits (goal.at.returns-then-not-contains c).After-contains) ∙ c.if-not-contains.true)

pub returns-then-n-eq0 : goal.returns-then-n-eq0
unfolding found
returns-then-n-eq0 c =
    rw (sym (fits (goal.at.returns-then-n-eq0 c).After-contains) ∙ c.if-not-contains.false, ← c.pad.ensures)
    (taken_none _ _ _ c.if-n-eq0.true (rw (c.names_of.ensures.0, c.names_of.ensures.1.1) at c.gather-n.ensures.1 ∙ namesakes-from _ _ _ _ c.names_of.ensures.1.0 _))

pub returns : goal.returns
unfolding found
returns c =
    rw (sym (fits (goal.at.returns c).After-contains) ∙ c.if-not-contains.false, ← c.pad.ensures, c.from.ensures)
    (taken_at c.gather-n.new.list _ c.gather-n.result (rw (c.names_of.ensures.0, c.names_of.ensures.1.1) at c.gather-n.ensures.1 ∙ namesakes-from _ _ _ _ c.names_of.ensures.1.0 _) (search rules) (search rules))
