use Rattle.std.proofs.Common.{arith}
use Rattle.model.specs.RequestLine.{fields_of, line_of}
use Rattle.writing.proofs.Putting.{order-few, payment-who, status_who}
use Rattle.writing.proofs.put_line.Goals as goal

pub put_new_order-requires : goal.put_new_order-requires
put_new_order-requires c = (order-few _ _ (rw c.in-NewOrder.is at c.requires.0), c.requires.1)

pub put_payment-requires : goal.put_payment-requires
put_payment-requires c = (payment-who _ _ (rw c.in-Payment.is at c.requires.0), c.requires.1)

pub put_order_status-requires : goal.put_order_status-requires
put_order_status-requires c = (status_who _ _ (rw c.in-OrderStatus.is at c.requires.0), c.requires.1)

pub returns-in-Delivery : goal.returns-in-Delivery
unfolding line_of fields_of
returns-in-Delivery c = (rw c.in-Delivery.is c.three_line.ensures.0, omega (arith, c.three_line.ensures.1))

pub returns-in-StockLevel : goal.returns-in-StockLevel
unfolding line_of fields_of
returns-in-StockLevel c =
    (rw c.in-StockLevel.is c.three_line-in-StockLevel.ensures.0, omega (arith, c.three_line-in-StockLevel.ensures.1))
