use Rattle.std.proofs.Common.{arith, [], ◌∷◌, sym, subst, ◌∙◌}
use lib.ListN.{length-set, length-replicate}
use Rattle.lines.specs.Fields.{NumbersSay}
use Rattle.lines.proofs.Walk.{run-start, run_step, run_stop, run_end}
use Rattle.lines.proofs.numbers_at.Goals as goal

pub loop-i-init : goal.loop-i-init
loop-i-init g c = record { long = length-replicate g.row.N 0; run = run-start c.args.s.now (0 ∷ []) c.args.at c.requires }

pub number_at-requires : goal.number_at-requires
number_at-requires g c = c.loop-i.invariant.run.within

pub returns-in_err-value : goal.returns-in_err-value
returns-in_err-value g c =
    let n = rw c.in_err-value.was at c.number_at.ensures in
    subst (NumbersSay g.row.N c.args.s.now c.args.at) (sym c.from_residual.ensures) (run_stop _ _ _ _ _ _ c.loop-i.invariant.run c.loop-i-test.true n)

pub loop-i-preserved : goal.loop-i-preserved
loop-i-preserved g c =
    let n = rw c.in_ok-value.was at c.number_at.ensures in
    record {
      long = length-set c.loop-i.values c.loop-i.i c.in_ok-value.value ∙ c.loop-i.invariant.long;
      run = run_step _ _ _ _ _ _ _ c.loop-i.invariant.run n (omega (arith, c.loop-i-test.true, c.loop-i.invariant.long));
    }

pub returns : goal.returns
returns g c = run_end _ _ _ _ _ _ c.loop-i.auto.i-end c.loop-i-test.false c.loop-i.invariant.long c.loop-i.invariant.run
