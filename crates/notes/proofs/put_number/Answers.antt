use native.Mathlib.Omega.{arith}
use lib.ListN.{length-set}
use Rattle.notes.proofs.Writing.{one_digit, two_digits, more-digits, few_digits}
use Rattle.notes.proofs.put_number.Goals as goal

pub returns-then-n-lt10 : goal.returns-then-n-lt10
returns-then-n-lt10 c =
    (one_digit c.args.n c.args.x c.if-n-lt10.true c.put_last.ensures, omega (arith, c.put_last.ensures.place))

pub returns-then-tens-lt10 : goal.returns-then-tens-lt10
returns-then-tens-lt10 c =
    (two_digits c.args.n c.args.x c.if-n-lt10.false (omega (arith, c.ranges.n.fits)) c.if-tens-lt10.true c.put_last-then-tens-lt10.ensures, omega (arith, c.put_last-then-tens-lt10.ensures.place))

pub put_last-requires-2 : goal.put_last-requires-2
put_last-requires-2 c =
    rw (length-set c.put_digits-p.new.line c.put_digits-p.result _) (omega (arith, c.requires, c.put_digits-p.ensures.place, c.put_digits-p.auto, few_digits c.args.n c.if-n-lt10.false (omega (arith, c.ranges.n.fits)) c.if-tens-lt10.false))

pub returns : goal.returns
returns c =
    (more-digits c.args.n c.args.x c.if-n-lt10.false (omega (arith, c.ranges.n.fits)) c.if-tens-lt10.false c.put_digits-p.ensures c.put_last-2.ensures, omega (arith, c.put_last-2.ensures.place, c.put_digits-p.ensures.place, few_digits c.args.n c.if-n-lt10.false (omega (arith, c.ranges.n.fits)) c.if-tens-lt10.false))
