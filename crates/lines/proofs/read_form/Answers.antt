use Rattle.std.proofs.Common.{arith, ◌∙◌}
use Rattle.model.specs.RequestLine.{read_fields}
use Rattle.lines.proofs.Names.{letter-not}
use Rattle.lines.proofs.read_form.Goals as goal

pub returns-in-78-clause-read : goal.returns-in-78-clause-read
unfolding read_fields
returns-in-78-clause-read c = rw c.in-78.is c.read_new_order.ensures.read

pub returns-in-80-clause-read : goal.returns-in-80-clause-read
unfolding read_fields
returns-in-80-clause-read c = rw c.in-80.is (c.alone.ensures.read ∙ c.read_payment.ensures)

pub returns-in-68-clause-read : goal.returns-in-68-clause-read
unfolding read_fields
returns-in-68-clause-read c = rw c.in-68.is (c.alone-in-68.ensures.read ∙ c.read_delivery.ensures)

pub returns-in-83-clause-read : goal.returns-in-83-clause-read
unfolding read_fields
returns-in-83-clause-read c = rw c.in-83.is (c.alone-in-83.ensures.read ∙ c.read_order_status.ensures)

pub returns-in-76-clause-read : goal.returns-in-76-clause-read
unfolding read_fields
returns-in-76-clause-read c = rw c.in-76.is (c.alone-in-76.ensures.read ∙ c.read_stock_level.ensures)

pub returns-in_default-clause-read : goal.returns-in_default-clause-read
returns-in_default-clause-read c = letter-not _ _ (λ q. omega arith) (λ q. omega arith) (λ q. omega arith) (λ q. omega arith) (λ q. omega arith)
