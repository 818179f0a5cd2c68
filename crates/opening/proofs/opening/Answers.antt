use mathlib.Core.Path.{◌≡◌}
use Rattle.std.proofs.Common.{Result, Ok, Err, [], refl}
use Rattle.model.specs.declared.Refused.{Refused}
use Rattle.model.specs.Tests.{Refusal}
use Rattle.model.specs.Answer.{told, answer_by, opening_says}
use Rattle.model.specs.Opening.{opening_answer}
use Rattle.model.proofs.AnswerLaws.{committed-is, refused-is, refused_some}
use Rattle.opening.proofs.opening.Goals as goal

says : (r : Result (Unit {0}) Refused) {f : Refusal} → told r ≡ f → opening_says r ≡ answer_by f []
says (Ok x) e = committed-is e [] refl
says (Err r) e = refused-is e [] (refused_some r)

pub returns : goal.returns
unfolding opening_answer
returns c = record { says = says c.accepted.result c.accepted.ensures }
