use Rattle.stock_level.proofs.Notes.{first_in_lem, few, reads, count_is}
use native.Mathlib.Omega.{arith}
use Rattle.stock_level.proofs.low_items.Goals as goal

pub overflow_sub-count : goal.overflow_sub-count
overflow_sub-count c =
    omega (arith, first_in_lem c.args.book.now.dims c.args.book.now.nums.now c.args.q (c.requires) c.next_order-next.result c.window_first-first.result c.next_order-next.ensures c.window_first-first.ensures)

pub orders_run-window-requires : goal.orders_run-window-requires
orders_run-window-requires c =
    let f = first_in_lem c.args.book.now.dims c.args.book.now.nums.now c.args.q (c.requires) c.next_order-next.result c.window_first-first.result c.next_order-next.ensures c.window_first-first.ensures in
    (c.requires.booked.dimsd, (c.requires.asked.w, (c.requires.asked.k, (record { lo = f.low; hi = f.high }, omega (arith, f, c.next_order-next.ensures, c.requires.used.district.next_high)))))

pub note_run-requires : goal.note_run-requires
note_run-requires c =
    (reads c.args.book.now.dims c.args.book.now.nums.now c.args.q (c.requires) c.next_order-next.result c.window_first-first.result c.next_order-next.ensures c.window_first-first.ensures c.orders_run-window.ensures c.stock_at-stock.result c.stock_at-stock.ensures.0, omega (arith, c.orders_run-window.ensures.count, few c.args.book.now.dims c.args.book.now.nums.now c.args.q (c.requires) c.next_order-next.result c.window_first-first.result c.next_order-next.ensures c.window_first-first.ensures))

pub returns : goal.returns
returns c =
    count_is c.args.book.now.dims c.args.book.now.nums.now c.args.q (c.requires) c.next_order-next.result c.window_first-first.result c.next_order-next.ensures c.window_first-first.ensures c.orders_run-window.ensures c.stock_at-stock.result c.stock_at-stock.ensures.0 c.len.ensures c.note_run.ensures
