use Rattle.payment.specs.Plan.{store_plan}
use Rattle.cells.proofs.Signed.{held}
use Rattle.payment.proofs.store_plan.Goals as goal

pub returns : goal.returns
unfolding store_plan
returns c =
    rw (c.put-5.ensures, c.store_history.ensures, c.put-4.ensures, c.put-3.ensures, c.put_signed.ensures, c.put-2.ensures, c.put.ensures, held c.struct_told-1.given.1.1.1.1.1.0.1)
