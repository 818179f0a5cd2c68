use Rattle.stock_level.proofs.Lists.{noted_length}
use Rattle.stock_level.proofs.Notes.{lines-cell, item-cell, line_turn, lines-all}
use Rattle.stock_level.specs.Notes.{note_all, low_at}
use Rattle.model.specs.Claim.{R}
use Rattle.model.specs.Lists.{up_to}
use Rattle.model.specs.Store.{from}
use Rattle.model.specs.Numbers.{nat}
use native.Mathlib.Nat.{le_antisymm}
use Prim.Native.Nat.{◌+◌}
use mathlib.Core.Path.{◌≡◌, refl, ap, ◌∙◌}
use native.Mathlib.Omega.{arith}
use Rattle.stock_level.proofs.note_order.Goals as goal

pub loop-j-init : goal.loop-j-init
unfolding up_to
loop-j-init c = (c.get-lines.ensures ∙ lines-cell c.args.b.now c.args.p, (omega arith, refl))

pub note_item-requires : goal.note_item-requires
note_item-requires c =
    let r : R (nat (from c.args.b.now c.args.p 3)) (c.loop-j.j + 1) = record { lo = omega arith; hi = omega (arith, c.loop-j.invariant.0, c.loop-j-test.true) } in
    let e = c.get-item.ensures ∙ item-cell c.args.b.now c.args.p c.loop-j.j in
    (rw e (c.requires.0.items (c.loop-j.j + 1) r), omega (arith, c.requires.0.lines, c.requires.1, c.loop-j.invariant, c.loop-j-test.true))

pub loop-j-preserved : goal.loop-j-preserved
loop-j-preserved c =
    let s = noted_length (low_at c.args.b.now c.args.stock c.args.threshold) c.loop-j.list c.get-item.result in
    (c.loop-j.invariant.0, (rw c.note_item.ensures (omega (arith, s)), line_turn c.args.b.now c.args.stock c.args.threshold c.args.list.now c.args.p c.loop-j.j c.loop-j.list c.loop-j.invariant.1.1 c.get-item.ensures c.note_item.ensures))

pub returns : goal.returns
returns c =
    let e : c.loop-j.j ≡ nat (from c.args.b.now c.args.p 3) = le_antisymm c.loop-j.auto.j-end c.loop-j-test.false ∙ c.loop-j.invariant.0 in
    (omega (arith, c.loop-j.invariant, c.requires.0.lines, e), c.loop-j.invariant.1.1 ∙ ap (note_all (low_at c.args.b.now c.args.stock c.args.threshold) c.args.list.now) (lines-all c.args.b.now c.args.p c.loop-j.j e))
