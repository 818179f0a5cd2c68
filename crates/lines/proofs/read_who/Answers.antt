use Rattle.std.proofs.Common.{arith, sym, subst, ◌∙◌}
use Rattle.text.proofs.Walk.{number_is, number-not}
use Rattle.lines.specs.Fields.{WhoReads}
use Rattle.lines.proofs.Names.{who-empty, who-number, who-name, who-not}
use Rattle.lines.proofs.read_who.Goals.{in_default-via-in-61+else-name_ok, in_default-via-in_default-1}
use Rattle.lines.proofs.read_who.Goals as goal

pub returns-in_err-mark : goal.returns-in_err-mark
returns-in_err-mark c =
    subst (WhoReads c.args.f.now) (sym c.from_residual.ensures) (who-empty _ c.in_err-mark.ensures.cases)

pub returns-in_err-c-in-35 : goal.returns-in_err-c-in-35
returns-in_err-c-in-35 c =
    let w = who-number _ _ _ c.in_ok-mark.ensures.cases.0 c.in-35.is in
    let n = number-not _ (sym c.number_of.ensures ∙ c.in_err-c-in-35.was) in
    subst (WhoReads c.args.f.now) (sym c.from_residual-in_err-c-in-35.ensures) (w.0 ∙ n)

pub returns-in_ok-c-in-35 : goal.returns-in_ok-c-in-35
returns-in_ok-c-in-35 c =
    let w = who-number _ _ _ c.in_ok-mark.ensures.cases.0 c.in-35.is in
    let n = number_is _ _ (sym c.number_of.ensures ∙ c.in_ok-c-in-35.was) in
    (w.0 ∙ n.0, rw (w.1, n.1))

pub returns-in-61 : goal.returns-in-61
returns-in-61 c =
    let w = who-name _ _ _ c.in_ok-mark.ensures.cases.0 c.in-61.is in
    (w.0 ∙ sym c.name_ok.ensures ∙ c.if-name_ok.true, sym w.1)

pub returns-in_default : goal.returns-in_default
returns-in_default c =
    elim c.in_default.branch [
      | in_default-via-in-61+else-name_ok w ↦ (who-name _ _ _ c.in_ok-mark.ensures.cases.0 w.in-61.is).0 ∙ sym w.name_ok.ensures ∙ w.if-name_ok.false
      | in_default-via-in_default-1 w ↦ who-not _ _ _ c.in_ok-mark.ensures.cases.0 (λ q. omega arith) (λ q. omega arith)
    ]
