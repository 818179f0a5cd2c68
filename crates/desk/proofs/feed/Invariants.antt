-- `feed`: the lines that the block so far ends are answered.
use Rattle.std.proofs.Common.{◌-◌, length, take}
use Rattle.desk.proofs.Blocks.{FedUpTo}
use Rattle.desk.proofs.feed.Given as goal

abbrev pub invariant-loop-len : goal.invariant-loop-len
invariant-loop-len g l = FedUpTo l.initial.s (take l.len l.initial.line) l.block l.s l.line l.so_far l.at

abbrev pub decreases-loop-len : goal.decreases-loop-len
decreases-loop-len g l = length l.block - l.at
