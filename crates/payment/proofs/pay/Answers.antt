use Rattle.payment.proofs.Joint.{refused_asked, asked_in, refused_used, pays, noted-long, paid}
use Rattle.std.proofs.Common.{rules}
use mathlib.Core.Path.{refl, ap}
use Rattle.cells.proofs.Signed.{held}
use mathlib.Core.Bool.{not}
use Rattle.payment.proofs.pay.Goals as goal

pub returns-in_err-asked : goal.returns-in_err-asked
returns-in_err-asked c =
    refused_asked _ _ _ _ _ c.in_ok-d.ensures c.long_ok.ensures (ap not c.if-not-long_ok.false) c.in_err-asked.field-0.0 (search rules) c.in_err-asked.ensures

pub used-requires : goal.used-requires
used-requires c =
    (c.in_ok-d.ensures.shaped.names, asked_in _ _ _ _ _ c.in_ok-d.ensures c.long_ok.ensures (ap not c.if-not-long_ok.false) c.in_ok-asked.ensures)

pub returns-in_err-customer : goal.returns-in_err-customer
returns-in_err-customer c =
    refused_used _ _ _ _ _ c.in_ok-d.ensures c.long_ok.ensures (ap not c.if-not-long_ok.false) c.in_ok-asked.ensures c.in_err-customer.field-0.0 (search rules) c.in_err-customer.ensures.0

pub commit-balance-requires : goal.commit-balance-requires
commit-balance-requires c =
    (pays _ _ _ _ _ c.in_ok-d.ensures c.long_ok.ensures (ap not c.if-not-long_ok.false) c.in_ok-asked.ensures c.in_ok-customer.ensures.0 c.in_ok-customer.ensures.1, noted-long _ _ c.long_ok.ensures (ap not c.if-not-long_ok.false))

pub returns : goal.returns
returns c =
    paid _ _ _ _ _ c.in_ok-d.ensures c.long_ok.ensures (ap not c.if-not-long_ok.false) c.in_ok-asked.ensures c.in_ok-customer.ensures.0 c.in_ok-customer.ensures.1 refl (rw (held {z = c.commit-balance.result} c.commit-balance.type_inv) c.commit-balance.ensures.answers) c.commit-balance.ensures.leaves c.commit-balance.ensures.writes
