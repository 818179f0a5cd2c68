use Rattle.std.proofs.Common.{rules}
use Rattle.desk.proofs.Blocks.{none-served, block_served, part-served, input-served, last-served}
use Rattle.desk.proofs.serve.Goals as goal

pub loop-init : goal.loop-init
loop-init g c = (search rules, none-served _ _ (search rules))

pub returns-in_err-n : goal.returns-in_err-n
returns-in_err-n g c = input-served _ _ _ _ c.loop.invariant.1

pub returns-in_err-len : goal.returns-in_err-len
returns-in_err-len g c = part-served _ _ _ _ _ _ _ c.loop.invariant.1 _ c.in_err-len.ensures

pub returns-then-len-gt0 : goal.returns-then-len-gt0
returns-then-len-gt0 g c = last-served _ _ _ _ c.loop.invariant.1 _ c.answer.ensures

pub returns-else-len-gt0 : goal.returns-else-len-gt0
returns-else-len-gt0 g c = input-served _ _ _ _ c.loop.invariant.1

pub loop-preserved : goal.loop-preserved
loop-preserved g c = (search rules, block_served _ _ _ _ _ _ _ c.loop.invariant.1 _ c.in_ok-len.ensures (search rules))

pub returns : goal.returns
returns g c = input-served _ _ _ _ c.loop.invariant.1
