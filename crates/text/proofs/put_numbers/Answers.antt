use Rattle.std.proofs.Common.{rules}
use native.Mathlib.Omega.{arith}
use Rattle.text.proofs.Putting.{no_field, number_step, number-all}
use Rattle.text.proofs.put_numbers.Goals as goal

pub loop-n-init : goal.loop-n-init
loop-n-init g c = record { few = search rules; wrote = no_field c.args.line.now c.args.at }

pub loop-n-preserved : goal.loop-n-preserved
loop-n-preserved g c =
    record {
      few = omega (arith, c.put-p.ensures.1, c.loop-n.invariant.few);
      wrote = number_step g.T.Shown.text _ _ _ _ c.loop-n.n-index c.args.numbers.now _ _ c.n-item.result c.n-item.is c.loop-n-test.true c.loop-n.invariant.wrote c.put-p.ensures.0;
    }

pub returns : goal.returns
returns g c =
    (number-all g.T.Shown.text _ _ _ _ c.loop-n.n-index c.args.numbers.now c.loop-n-test.false c.loop-n.invariant.wrote, omega (arith, c.loop-n.invariant.few))
