use native.Mathlib.Omega.{arith}
use Rattle.new_order_entering.proofs.Filling.{zeros_put}
use Rattle.new_order_entering.proofs.put_zeros.Goals as goal

pub returns : goal.returns
returns c = zeros_put _ c.args.m _ _ (omega arith) c.requires (c.fill.ensures.after (λ y k. k))
