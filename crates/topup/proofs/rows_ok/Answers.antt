use Rattle.topup.proofs.Rows.{none_kept, kept_step}
use Rattle.std.proofs.Common.{rules, refl}
use Rattle.topup.proofs.rows_ok.Goals as goal

pub loop-i-init : goal.loop-i-init
loop-i-init c = (search rules, none_kept c.args.topup.now)

pub loop-i-preserved : goal.loop-i-preserved
loop-i-preserved c =
    (search rules, kept_step c.args.topup.now c.loop-i.low c.loop-i.high c.loop-i.i c.bits-margin.result c.bits-over.result _ _ _ _ c.bits-over.type_inv c.bits-margin.ensures c.bits-over.ensures refl refl refl refl c.loop-i.invariant.1)
