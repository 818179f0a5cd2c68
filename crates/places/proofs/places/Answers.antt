use mathlib.Core.Path.{sym, ◌∙◌}
use Rattle.model.proofs.TestLaws.{and_same}
use Rattle.places.proofs.Placing.{ready, found, refused}
use Rattle.places.proofs.places.Goals as goal

pub placed-requires : goal.placed-requires
placed-requires c =
    ready _ _ (sym (and_same c.dims_in_range.ensures c.spot_ok.ensures) ∙ c.if-dims_in_range-spot_ok.true)

pub returns-then-dims_in_range-spot_ok : goal.returns-then-dims_in_range-spot_ok
returns-then-dims_in_range-spot_ok c =
    found _ _ (sym (and_same c.dims_in_range.ensures c.spot_ok.ensures) ∙ c.if-dims_in_range-spot_ok.true) c.placed.ensures

pub returns-else-dims_in_range-spot_ok : goal.returns-else-dims_in_range-spot_ok
returns-else-dims_in_range-spot_ok c =
    refused _ _ (sym (and_same c.dims_in_range.ensures c.spot_ok.ensures) ∙ c.if-dims_in_range-spot_ok.false)
