use Rattle.places.proofs.Placing.{figures}
use Rattle.places.proofs.placed.Goals as goal

pub returns : goal.returns
returns c =
    figures c.args.d c.args.s c.numbers_of-numbers.ensures.0 c.name_bytes_of-bytes.ensures.0 c.warehouse_at-warehouse.ensures.0 c.district_at-district.ensures.0 c.customer_at-customer.ensures.0 c.item_at-item.ensures.0 c.stock_at-stock.ensures.0 c.order_at-order.ensures.0 c.history_at-history.ensures.0 c.name_at-name.ensures.0
