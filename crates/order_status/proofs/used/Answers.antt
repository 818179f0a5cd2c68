use Rattle.model.proofs.NameLaws.{customer_in_lem}
use Rattle.rows.proofs.RowTests.{shaped-booked}
use Rattle.model.proofs.TestLaws.{and_left}
use Rattle.model.specs.LastOrder.{last_long}
use Rattle.model.specs.Names.{who_of}
use borrow.Author.Tests.{not-false}
use mathlib.Core.Bool.{not}
use mathlib.Core.Path.{sym, ap, ◌∙◌}
use Rattle.order_status.proofs.used.Goals as goal

pub last_ok-requires : goal.last_ok-requires
last_ok-requires c =
    (c.requires.1.w, (c.requires.1.k, (customer_in_lem c.args.book.now.dims c.args.names.now c.args.q.warehouse c.args.q.district (who_of c.args.who) c.in-Some.customer c.requires.1.who_ok (sym c.in-Some.ensures), sym c.district_used.ensures ∙ not-false c.district_used.result (ap not c.if-not-district_used.false))))

pub last_of-order-requires : goal.last_of-order-requires
last_of-order-requires c =
    (c.args.book.now.booked.dimsd, (c.requires.1.w, (c.requires.1.k, (customer_in_lem c.args.book.now.dims c.args.names.now c.args.q.warehouse c.args.q.district (who_of c.args.who) c.in-Some.customer c.requires.1.who_ok (sym c.in-Some.ensures), and_left (last_long c.args.book.now.dims c.args.last.now) _ (sym c.last_ok.ensures ∙ not-false c.last_ok.result (ap not c.if-not-last_ok.false))))))
