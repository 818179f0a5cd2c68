use Rattle.std.proofs.Common.{rules}
use Rattle.desk.proofs.Blocks.{none_fed, line_fed, block_fed, closed_fed}
use Rattle.desk.proofs.feed.Goals as goal

pub loop-len-init : goal.loop-len-init
loop-len-init g c = none_fed _ _ _ _ c.requires

pub returns-in-Unended : goal.returns-in-Unended
returns-in-Unended g c = block_fed _ _ _ _ _ _ _ _ _ c.loop-len.invariant c.in-Unended.ensures

pub returns-in_err-answer-in-Ended : goal.returns-in_err-answer-in-Ended
returns-in_err-answer-in-Ended g c =
    closed_fed _ _ _ _ _ _ _ c.from_residual.ensures.0 (line_fed _ _ _ _ _ _ _ _ _ _ _ c.loop-len.invariant c.in-Ended.ensures (search rules) (search rules))

pub loop-len-preserved : goal.loop-len-preserved
loop-len-preserved g c =
    line_fed _ _ _ _ _ _ _ _ _ _ _ c.loop-len.invariant c.in-Ended.ensures (search rules) (search rules)
