use Rattle.std.proofs.Common.{arith, ◌≡◌, ◌+◌, length, length-set}
use lib.Seq.{paste-zero}
use Rattle.text.proofs.Putting.{marked_field}
use Rattle.lines.proofs.Names.{name-short}
use Rattle.writing.proofs.Putting.{copy_step, copied}
use Rattle.writing.proofs.put_name.Goals as goal

pub bounds-line-at-in-loop-i : goal.bounds-line-at-in-loop-i
bounds-line-at-in-loop-i c =
    let few = name-short c.args.name.now c.requires.0 in
    simp (c.loop-i.auto.line, length-set) (omega (arith, c.requires.1, few, c.loop-i-test.true))

pub loop-i-init : goal.loop-i-init
loop-i-init c = paste-zero _ (c.args.at + 2) c.args.name.now

pub loop-i-preserved : goal.loop-i-preserved
loop-i-preserved c =
    let few = name-short c.args.name.now c.requires.0 in
    copy_step _ _ _ _ _ (simp length-set (omega (arith, c.requires.1, few, c.loop-i-test.true))) c.loop-i-test.true c.loop-i.invariant

pub returns : goal.returns
returns c =
    let few = name-short c.args.name.now c.requires.0 in
    let all : c.loop-i.i ≡ length c.args.name.now = omega (arith, c.loop-i-test.false, c.loop-i.auto.i-end) in
    (rw (rw all at c.loop-i.invariant) (marked_field c.args.line.now _ c.args.at _ 61 c.args.name.now (copied _ _ c.args.name.now (simp length-set (omega (arith, c.requires.1, few))))), omega (arith, few))
