use Rattle.stock_level.proofs.Stages.{refused_head, refused_asked, refused_used, counted, asked_in, ready}
use Rattle.rows.proofs.RowTests.{shaped-booked}
use mathlib.Core.Path.{refl}
use borrow.Author.Rules.{rules}
use Rattle.stock_level.proofs.level.Goals as goal

pub returns-in_err-d : goal.returns-in_err-d
returns-in_err-d c = refused_head _ _ _ c.in_err-d.field-0.0 (search rules) c.in_err-d.ensures

pub returns-in_err-asked : goal.returns-in_err-asked
returns-in_err-asked c = refused_asked _ _ _ c.in_ok-d.ensures c.in_err-asked.field-0.0 (search rules) c.in_err-asked.ensures

pub used-requires : goal.used-requires
used-requires c = let a = asked_in c.in_ok-d.d c.args.q c.in_ok-asked.ensures in (a.w, a.k)

pub returns-in_err-used : goal.returns-in_err-used
returns-in_err-used c = refused_used _ _ _ c.in_ok-d.ensures c.in_ok-asked.ensures c.in_err-used.field-0.0 (search rules) c.in_err-used.ensures

pub low_items-count-requires : goal.low_items-count-requires
low_items-count-requires c = ready c.args.q c.in_ok-d.ensures c.in_ok-asked.ensures c.in_ok-used.ensures

pub returns : goal.returns
returns c = counted _ _ _ c.in_ok-d.ensures c.in_ok-asked.ensures c.in_ok-used.ensures refl c.low_items-count.ensures
