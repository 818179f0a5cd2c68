use Rattle.std.proofs.Common.{rules, arith}
use Rattle.text.proofs.Putting.{no_field}
use Rattle.writing.proofs.Putting.{put_more, put_all}
use Rattle.writing.proofs.put_lines.Goals as goal

pub loop-l-init : goal.loop-l-init
loop-l-init c = record { few = search rules; wrote = no_field c.args.line.now c.args.at }

pub loop-l-preserved : goal.loop-l-preserved
loop-l-preserved c =
    record {
      few = omega (arith, c.put_numbers-p.ensures.1, c.loop-l.invariant.few);
      wrote = put_more c.args.lines.now _ _ _ _ _ _ _ c.loop-l.l-index c.loop-l-test.true c.loop-l.invariant.wrote c.put_numbers-p.ensures.0;
    }

pub returns : goal.returns
returns c = (put_all c.args.lines.now _ _ _ _ c.loop-l.l-index c.loop-l-test.false c.loop-l.invariant.wrote, omega (arith, c.loop-l.invariant.few))
