use Rattle.lookup.proofs.Bridge.{names-from}
use mathlib.Core.Path.{◌∙◌}
use Rattle.lookup.proofs.names_used.Goals as goal

pub returns : goal.returns
returns c = rw (c.names_of.ensures.0, c.names_of.ensures.1.1) at c.names_ok.ensures ∙ names-from _ _ _ _ c.names_of.ensures.1.0
