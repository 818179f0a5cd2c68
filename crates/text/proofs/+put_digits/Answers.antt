use native.Mathlib.Omega.{arith}
use native.Mathlib.Nat.{mod-eq_of_lt}
use Prim.Native.Nat.{◌<◌}
use Rattle.model.proofs.DecimalLaws.{dec_small, dec_more, length_more, length_small}
use Rattle.text.proofs.Putting.{sets_append}
use Rattle.text.proofs.+put_digits.Goals as goal

pub bounds-line-at : goal.bounds-line-at
bounds-line-at t c = omega (arith, c.requires, length_small c.args.n c.if-n-lt10.true)

pub returns-then-n-lt10 : goal.returns-then-n-lt10
returns-then-n-lt10 t c =
    record { same = rw (dec_small c.args.n c.if-n-lt10.true, mod-eq_of_lt c.if-n-lt10.true); place = omega (arith, length_small c.args.n c.if-n-lt10.true) }

pub put_digits-p-requires : goal.put_digits-p-requires
put_digits-p-requires t c =
    let u : c.args.n < 100000000000000000000 = omega (arith, c.ranges.n.fits) in
    (omega (arith, c.requires), omega (arith, c.requires, length_more c.args.n c.if-n-lt10.false u))

pub bounds-line-p : goal.bounds-line-p
bounds-line-p t c =
    let u : c.args.n < 100000000000000000000 = omega (arith, c.ranges.n.fits) in
    omega (arith, c.requires, c.put_digits-p.auto.line, c.put_digits-p.ensures.place, length_more c.args.n c.if-n-lt10.false u)

pub overflow_add-result-2 : goal.overflow_add-result-2
overflow_add-result-2 t c =
    let u : c.args.n < 100000000000000000000 = omega (arith, c.ranges.n.fits) in
    omega (arith, c.requires, c.put_digits-p.auto.line, c.put_digits-p.ensures.place, length_more c.args.n c.if-n-lt10.false u)

pub returns : goal.returns
returns t c =
    let u : c.args.n < 100000000000000000000 = omega (arith, c.ranges.n.fits) in
    let r = c.put_digits-p in
    record { same = rw (dec_more c.args.n c.if-n-lt10.false u, sets_append, ← r.ensures.same, ← r.ensures.place); place = omega (arith, r.ensures.place, length_more c.args.n c.if-n-lt10.false u) }
