use Rattle.std.proofs.Common.{rules, ◌≡◌, None}
use Rattle.lines.proofs.Walk.{last-few, last-left, last_are}
use Rattle.lines.proofs.last_numbers.Goals as goal

pub returns-in_err-values : goal.returns-in_err-values
returns-in_err-values g c =
    let e : c.from_residual.result ≡ None = search rules in
    let n = rw c.in_err-values.was at c.numbers_at.ensures in
    rw (e, last-few _ _ n)

pub returns-then-next-s : goal.returns-then-next-s
returns-then-next-s g c =
    let r = rw c.in_ok-values.was at c.numbers_at.ensures in
    rw (last-left _ _ _ _ _ r c.if-next-s.true)

pub returns : goal.returns
returns g c =
    let r = rw c.in_ok-values.was at c.numbers_at.ensures in
    let l = last_are _ _ _ _ _ r c.if-next-s.false in
    rw (l.0, ← l.1)
