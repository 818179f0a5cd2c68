use Rattle.last_orders.proofs.Fitting.{long-length, pass_is, last_end}
use Rattle.model.proofs.RowFacts.{district_in}
use Rattle.std.proofs.Common.{arith}
use Rattle.last_orders.proofs.numbers_ok.Goals as goal

pub all_before-requires : goal.all_before-requires
all_before-requires c =
    (omega (arith, last_end c.args.book.now.dims c.args.w c.args.k c.requires.0 c.requires.1.0 c.args.book.now.booked.dimsd.customers_low c.of_customer-p.ensures.0, long-length c.args.book.now.dims c.args.last.now c.requires.1.1.1), omega (arith, district_in c.args.book.now.dims c.args.book.now.nums.now c.args.w c.args.k c.requires.1.1.0, c.next_order-next.ensures, c.args.book.now.booked.dimsd))

pub returns : goal.returns
returns c =
    pass_is c.args.book.now.dims c.args.w c.args.k c.args.book.now.nums.now c.args.last.now c.of_customer-p.result c.next_order-next.result c.of_customer-p.ensures.0 c.next_order-next.ensures c.all_before.ensures
