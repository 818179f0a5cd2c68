-- `serve`: the lines that the input so far ends are answered.
use Rattle.std.proofs.Common.{◌≡◌, length}
use Rattle.desk.proofs.Blocks.{ServedUpTo}
use Rattle.desk.proofs.serve.Given as goal

abbrev pub invariant-loop : goal.invariant-loop
invariant-loop g l = (length l.block ≡ 4096) × ServedUpTo l.initial.s l.s l.line l.len
