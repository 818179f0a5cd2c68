use Rattle.layout.specs.Runs.{row_in}
use mathlib.Core.Path.{refl}
use native.Mathlib.Omega.{arith}
use Rattle.layout.proofs.section_run.Goals as goal

pub returns : goal.returns
unfolding row_in
returns c = record { count = refl; each = λ i. omega arith }
