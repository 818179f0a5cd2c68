use Rattle.std.proofs.Math.Bool.{and_assoc, and-true}
use Rattle.model.specs.RequestLine.{has_form}
use Rattle.writing.proofs.payment_ok.Goals as goal

pub returns : goal.returns
unfolding has_form
returns c = rw (c.small.ensures, c.who_ok.ensures, c.small-2.ensures) (simp (and_assoc, and-true))
