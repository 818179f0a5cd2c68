use Rattle.lookup.proofs.extremes_ok.Goals as goal
use Rattle.model.proofs.TestLaws.{and_same}
use Rattle.std.proofs.Common.{rules, tests, refl}
use Rattle.std.proofs.lemmas.Iterator.{YieldsList-from_slice}
use Rattle.std.proofs.lemmas.Iterator.Search.{all_from_yields_List}

pub returns : goal.returns
returns c =
    and_same
    (and_same
    (all_from_yields_List _ _ _ c.all-above.result c.all-above.ensures.ran (YieldsList-from_slice c.args.low.now cc) (λ x b q k. search (rules, tests)))
    (all_from_yields_List _ _ _ c.all-below.result c.all-below.ensures.ran (YieldsList-from_slice c.args.high.now cc) (λ x b q k. search (rules, tests))))
    refl
