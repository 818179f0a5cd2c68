use Rattle.rows.proofs.RowTests.{booked_six}
use Rattle.opening.proofs.book_new.Goals as goal

pub history_count-requires : goal.history_count-requires
history_count-requires c = booked_six c.args.book.now.booked
