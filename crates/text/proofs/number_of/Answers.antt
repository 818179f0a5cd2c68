use Rattle.std.proofs.Common.{◌≤◌, length, arith, sym, refl, ◌∙◌}
use Rattle.std.proofs.lemmas.Bool.Decides.{nat_tests}
use Rattle.model.proofs.DecimalLaws.{digit_in}
use Rattle.text.proofs.Walk.{none-length, none-zero, digits-all, digits_step, digits-stop, digits_end, power_step}
use Rattle.text.proofs.number_of.Goals as goal

pub returns-then-is_empty-f : goal.returns-then-is_empty-f
returns-then-is_empty-f c = sym (none-length _ _ c.is_empty.ensures c.if-is_empty-f.true)

pub returns-then-f : goal.returns-then-f
returns-then-f c =
    let low : 1 ≤ length c.args.f.now = grind (arith, nat_tests) in
    let high : length c.args.f.now ≤ 10 = grind (arith, nat_tests) in
    sym (none-zero _ low high c.if-f.true)

pub loop-x-init : goal.loop-x-init
loop-x-init c =
    let low : 1 ≤ length c.args.f.now = grind (arith, nat_tests) in
    let high : length c.args.f.now ≤ 10 = grind (arith, nat_tests) in
    record { few = high; small = omega arith; same = digits-all _ low high c.if-f.false }

pub returns-then-not-is_ascii_digit : goal.returns-then-not-is_ascii_digit
returns-then-not-is_ascii_digit c =
    sym (c.loop-x.invariant.same ∙ digits-stop _ _ _ _ c.loop-x-test.true refl (sym c.is_ascii_digit.ensures.value ∙ c.if-not-is_ascii_digit.true))

pub loop-x-preserved : goal.loop-x-preserved
loop-x-preserved c =
    let d = sym c.is_ascii_digit.ensures.value ∙ c.if-not-is_ascii_digit.false in
    record {
      few = c.loop-x.invariant.few;
      small = rw c.from.ensures (power_step _ _ _ c.loop-x.invariant.small (digit_in _ d));
      same = rw c.from.ensures (c.loop-x.invariant.same ∙ digits_step _ _ _ _ c.loop-x-test.true refl d);
    }

pub returns : goal.returns
returns c = sym (c.loop-x.invariant.same ∙ digits_end _ _ _ c.loop-x-test.false)
