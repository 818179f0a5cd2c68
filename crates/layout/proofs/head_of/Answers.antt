use Rattle.model.specs.Tests.{every}
use Rattle.model.specs.Head.{head_ok, dims_tests}
use lib.ListN.{length}
use mathlib.Core.Bool.{true}
use mathlib.Core.Path.{◌≡◌, refl, sym, ap, ◌∙◌, subst}
use Rattle.model.proofs.Fields.{Shaped, Dimensioned, dims_are, head-shaped}
use Rattle.model.specs.declared.Dims.{Dims}
use Rattle.model.specs.Head.{head_ok}
use borrow.Author.Tests.{le-leb, lt-leb, not-true, not-false}
use borrow.Author.Rules.{rules}
use mathlib.Core.Bool.{not}
use Rattle.layout.proofs.head_of.Goals as goal

pub returns-then-b-lt6 : goal.returns-then-b-lt6
unfolding head_ok
returns-then-b-lt6 c = (simp (lt-leb _ _ c.if-b-lt6.true), refl)

pub returns-then-not-dims_ok : goal.returns-then-not-dims_ok
unfolding head_ok
returns-then-not-dims_ok c =
    (simp (le-leb _ _ c.if-b-lt6.false, ← c.dims_ok.ensures, not-true c.dims_ok.result (ap not c.if-not-dims_ok.true)), refl)

pub dims_of-d-requires : goal.dims_of-d-requires
dims_of-d-requires c =
    (search rules, dims_are _ (sym c.dims_ok.ensures ∙ not-false c.dims_ok.result (ap not c.if-not-dims_ok.false)))

pub sizes_ok-requires : goal.sizes_ok-requires
sizes_ok-requires c =
    (search rules, subst Dimensioned (sym c.dims_of-d.ensures) (dims_are _ (sym c.dims_ok.ensures ∙ not-false c.dims_ok.result (ap not c.if-not-dims_ok.false))))

pub returns-then-not-sizes_ok : goal.returns-then-not-sizes_ok
unfolding head_ok
returns-then-not-sizes_ok c =
    let f : every (dims_tests c.dims_of-d.result) ≡ true = ap (λ (x : Dims). every (dims_tests x)) c.dims_of-d.ensures ∙ sym c.dims_ok.ensures ∙ not-false c.dims_ok.result (ap not c.if-not-dims_ok.false) in
    (simp (le-leb _ _ c.if-b-lt6.false, ← c.dims_of-d.ensures, f, ← c.sizes_ok.ensures, not-true c.sizes_ok.result (ap not c.if-not-sizes_ok.true)), refl)

pub returns : goal.returns
unfolding head_ok
returns c =
    let f : every (dims_tests c.dims_of-d.result) ≡ true = ap (λ (x : Dims). every (dims_tests x)) c.dims_of-d.ensures ∙ sym c.dims_ok.ensures ∙ not-false c.dims_ok.result (ap not c.if-not-dims_ok.false) in
    let e : head_ok c.args.b.now (length c.args.names.now) ≡ true = simp (le-leb _ _ c.if-b-lt6.false, ← c.dims_of-d.ensures, f, ← c.sizes_ok.ensures, not-false c.sizes_ok.result (ap not c.if-not-sizes_ok.false)) in
    record { same = c.dims_of-d.ensures; fine = e; shaped = subst (λ (d : Dims). Shaped d c.args.b.now (length c.args.names.now)) (sym c.dims_of-d.ensures) (head-shaped c.args.b.now (length c.args.names.now) e) }
