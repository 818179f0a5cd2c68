use Rattle.std.proofs.Math.Bool.{and_assoc, and-true}
use Rattle.std.proofs.Common.{rules, tests, ◌≡◌, ◌&&◌, [], ◌∷◌, ap, sym, ◌∙◌}
use Rattle.std.proofs.lemmas.Iterator.{YieldsList-from_slice}
use Rattle.std.proofs.lemmas.Iterator.Search.{all_from_yields_List}
use Rattle.model.specs.Tests.{all_of}
use Rattle.model.specs.Text.{has_digits}
use Rattle.model.specs.RequestLine.{line_small, has_form}
use Rattle.writing.proofs.Putting.{lines-small}
use Rattle.writing.proofs.new_order_ok.Goals as goal

pub returns-then-small-lines : goal.returns-then-small-lines
unfolding has_form
returns-then-small-lines c =
    let each : c.all.result ≡ all_of line_small c.args.lines.now =
    all_from_yields_List (λ l. all_of has_digits (l.item ∷ l.supply ∷ l.quantity ∷ [])) _ _ c.all.result c.all.ensures.ran (YieldsList-from_slice c.args.lines.now c.iter.ensures.rest) (λ x b q k. search (rules, tests))
    ∙ lines-small c.args.lines.now in
    ap (λ t. t && c.all.result) (sym c.if-small-lines.true) ∙ rw (c.small.ensures, each) (simp (and_assoc, and-true))

pub returns-else-small-lines : goal.returns-else-small-lines
unfolding has_form
returns-else-small-lines c =
    c.if-small-lines.false ∙ sym (ap (λ t. t && all_of line_small c.args.lines.now) c.if-small-lines.false) ∙ rw c.small.ensures (simp (and_assoc, and-true))
