use Rattle.std.proofs.Common.{rules, arith, [], ◌∷◌, ◌+◌, ◌<◌, length, refl, ◌∙◌, length-set}
use Rattle.model.specs.Request.{no_line}
use Rattle.lines.proofs.Orders.{lines-start, lines_step, lines-stop, lines-full, lines_end, holds, rest_more}
use Rattle.lines.proofs.read_lines.Goals as goal

pub loop-i-init : goal.loop-i-init
loop-i-init c = record { long = search rules; rest = refl; run = lines-start c.args.s.now c.args.at (no_line ∷ []) c.requires; onward = λ k. absurd (omega (arith, k)) }

pub numbers_at-requires : goal.numbers_at-requires
numbers_at-requires c = (search rules, c.loop-i.invariant.run.within)

pub returns-in_err-item : goal.returns-in_err-item
returns-in_err-item c =
    let n = rw c.in_err-item.was at c.numbers_at.ensures in
    rw c.from_residual.ensures (lines-stop _ _ _ _ _ c.loop-i.invariant.run c.loop-i.invariant.onward n)

pub returns-then-s-after : goal.returns-then-s-after
returns-then-s-after c =
    let n = rw c.in_ok-item.was at c.numbers_at.ensures in
    let h : c.loop-i.i < length c.loop-i.lines = omega (arith, c.loop-i.invariant.long, c.loop-i-test.true) in
    let e = lines_end _ _ _ _ _ (lines_step _ _ _ _ _ _ _ c.loop-i.invariant.run n h) (omega arith) (omega arith) c.if-s-after.true in
    (e.0, holds _ (c.loop-i.i + 1) _ refl (simp length-set (omega arith)) e.1 (rest_more c.loop-i.lines c.loop-i.i _ c.loop-i.invariant.rest))

pub loop-i-preserved : goal.loop-i-preserved
loop-i-preserved c =
    let n = rw c.in_ok-item.was at c.numbers_at.ensures in
    record {
      long = length-set c.loop-i.lines c.loop-i.i _ ∙ c.loop-i.invariant.long;
      rest = rest_more c.loop-i.lines c.loop-i.i _ c.loop-i.invariant.rest;
      run = lines_step _ _ _ _ _ _ _ c.loop-i.invariant.run n (omega (arith, c.loop-i.invariant.long, c.loop-i-test.true));
      onward = λ k. c.if-s-after.false;
    }

pub returns : goal.returns
returns c = lines-full _ _ _ _ _ c.loop-i.invariant.run c.loop-i.invariant.onward c.loop-i-test.false
