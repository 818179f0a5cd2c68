use Rattle.layout.specs.Runs.{row_in}
use native.Mathlib.Omega.{arith}
use Rattle.layout.proofs.order_in.Goals as goal

pub overflow_mul-result : goal.overflow_mul-result
unfolding row_in
overflow_mul-result c = omega arith

pub overflow_add-result : goal.overflow_add-result
unfolding row_in
overflow_add-result c = omega arith

pub returns : goal.returns
unfolding row_in
returns c = omega arith
