use Rattle.last_orders.proofs.Passing.{none_found, found-step, found_all}
use Rattle.std.proofs.Common.{◌/◌, refl, arith, rules}
use Rattle.last_orders.proofs.all_before.Goals as goal

pub loop-i-init : goal.loop-i-init
loop-i-init c = (search rules, none_found c.args.last.now c.args.p c.args.next (c.args.n / 2))

pub loop-i-preserved : goal.loop-i-preserved
loop-i-preserved c =
    (search rules, found-step c.args.last.now c.args.p c.args.next (c.args.n / 2) c.loop-i.low c.loop-i.high c.loop-i.i c.bits-x.result c.bits-y.result c.requires.1.0 c.requires.1.1 c.bits-x.ensures c.bits-y.ensures refl refl c.loop-i.invariant.1)

pub returns : goal.returns
returns c =
    found_all c.args.last.now c.args.p c.args.next (c.args.n / 2) c.args.n c.loop-i.i c.loop-i.low c.loop-i.high refl (omega (arith, c.loop-i.invariant.0)) c.loop-i-test.false c.loop-i.invariant.1
