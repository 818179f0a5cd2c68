use Rattle.std.proofs.Common.{arith, ap, ◌++◌, length, take}
use Rattle.std.proofs.lemmas.Grind.{common_steps}
use Rattle.stdio.proofs.Written.{appends_both, appends_kept, first_part, before_rest}
use Rattle.stdio.proofs.put_to.Goals as goal

-- src/lib.rt:98:17
pub returns-in_err-n-clause-part : goal.returns-in_err-n-clause-part
returns-in_err-n-clause-part g c =
    let done = c.loop.invariant.1 in first_part _ _ _ _ _ done.1 (appends_kept _ _ _ _ done.2 c.in_err-n.ensures.bytes)

-- src/lib.rt:94:5
pub loop-preserved : goal.loop-preserved
loop-preserved g c =
    let done = c.loop.invariant.1 in (
      λ none. absurd (grind (arith, common_steps, ap length done.1, c.is_empty.ensures)),
      (done.0 ++ take c.in_ok-n.n c.loop.rest.now, before_rest c.args.bytes.now done.0 c.loop.rest.now c.in_ok-n.n done.1, appends_both _ _ _ _ _ done.2 c.in_ok-n.ensures.bytes),
    )

-- src/lib.rt:88:1
pub returns-clause-part : goal.returns-clause-part
returns-clause-part g c = let done = c.loop.invariant.1 in first_part _ _ _ _ _ done.1 done.2
