use Rattle.lookup.specs.Listed.{named_from, before_from}
use Rattle.lookup.proofs.Bridge.{listed}
use Rattle.lookup.proofs.Skipping.{passing-by, next-in}
use Rattle.std.proofs.Common.{rules, arith}
use Rattle.lookup.proofs.District.gather.Goals as goal

pub insert_in-requires : goal.insert_in-requires
insert_in-requires c =
    (omega (arith, c.in-Some.ensures.0, c.in-Some.ensures.1.0), listed c.args.self.names.now c.args.self.base c.args.self.count (named_from c.args.self.names.now c.args.self.base c.args.name.now) c.loop-c.from c.in-Some.c c.loop-c.invariant.1.1.1 c.requires.0 c.in-Some.ensures.0 c.in-Some.ensures.1.0)

pub loop-c-preserved : goal.loop-c-preserved
loop-c-preserved c =
    (c.in-Some.ensures.1.0, (omega (arith, c.in-Some.ensures.0), (search rules, rw (next-in (named_from c.args.self.names.now c.args.self.base c.args.name.now) (before_from c.args.self.names.now c.args.self.base) c.loop-c.from c.in-Some.c c.in-Some.ensures.0 c.in-Some.ensures.1.1.0 c.in-Some.ensures.1.1.1, ← c.loop-c.invariant.1.1.1) c.insert_in.ensures)))

pub returns : goal.returns
returns c =
    (omega arith, rw (passing-by (named_from c.args.self.names.now c.args.self.base c.args.name.now) c.loop-c.from c.args.self.count c.loop-c.invariant.0 c.in_default.ensures) c.loop-c.invariant.1.1.1)
