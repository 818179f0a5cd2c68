use Rattle.lookup.proofs.Inserting.{place_le, place_max, half_high}
use Rattle.lookup.specs.Listed.{before_from, insert_place}
use Rattle.std.proofs.Common.{rules, arith, ◌≡◌, ◌+◌, ◌-◌, ◌/◌, ◌<◌, ℕ, get_or, sym, ◌∙◌, true, false, length}
use Rattle.lookup.proofs.District.place_of.Goals as goal

pub loop-low-init : goal.loop-low-init
loop-low-init c = (omega arith, (place_max (before_from c.args.self.names.now c.args.self.base) c.args.c c.args.list.now, search rules))

pub loop-low-preserved-then-comes_before : goal.loop-low-preserved-then-comes_before
loop-low-preserved-then-comes_before c =
    let m : ℕ = c.loop-low.low + (c.loop-low.high - c.loop-low.low) / 2 in
    let e : before_from c.args.self.names.now c.args.self.base c.args.c (get_or c.args.list.now m 0) ≡ true = rw c.from.ensures at (sym c.comes_before.ensures ∙ c.if-comes_before.true) in
    let h : m < length c.args.list.now = omega arith in
    (c.loop-low.invariant.0, (place_le (before_from c.args.self.names.now c.args.self.base) c.args.c c.args.list.now m h e, omega arith))

pub loop-low-preserved : goal.loop-low-preserved
loop-low-preserved c =
    let m : ℕ = c.loop-low.low + (c.loop-low.high - c.loop-low.low) / 2 in
    let e : before_from c.args.self.names.now c.args.self.base c.args.c (get_or c.args.list.now m 0) ≡ false = rw c.from.ensures at (sym c.comes_before.ensures ∙ c.if-comes_before.false) in
    let h : m < length c.args.list.now = omega arith in
    let k : m < insert_place (before_from c.args.self.names.now c.args.self.base) c.args.c c.args.list.now = half_high c.args.self.names.now c.args.self.base c.requires m h e in
    (omega (arith, k), c.loop-low.invariant.1)
