use Rattle.std.proofs.Common.{rules, tests, ◌∙◌}
use Rattle.std.proofs.lemmas.Iterator.{YieldsList-from_slice}
use Rattle.std.proofs.lemmas.Iterator.Search.{all_from_yields_List}
use Rattle.model.specs.Text.{has_digits}
use Rattle.writing.proofs.Putting.{all_is}
use Rattle.writing.proofs.small.Goals as goal

pub returns : goal.returns
returns c =
    all_from_yields_List has_digits _ _ c.all.result c.all.ensures.ran (YieldsList-from_slice c.args.numbers.now c.iter.ensures.rest) (λ x b q k. search (rules, tests))
    ∙ all_is has_digits c.args.numbers.now
