use Rattle.lookup.proofs.Bytes.{named_by}
use mathlib.Core.Path.{◌∙◌}
use borrow.Author.Rules.{rules}
use Rattle.lookup.proofs.District.is_named.Goals as goal

pub returns : goal.returns
returns c = c.is_eq.ensures ∙ named_by _ _ _ _ _ (search rules) c.compare_names.ensures.1
