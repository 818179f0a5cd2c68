use mathlib.Core.Path.{◌≡◌, ap}
use mathlib.Core.List.{List}
use Prim.Native.Nat.{◌-◌}
use lib.ListN.{length}
use native.Mathlib.Omega.{arith}
use borrow.Author.Rules.{rules}
use Rattle.model.specs.declared.Waiting.{Waiting}
use Rattle.model.proofs.TestLaws.{within_in}
use Rattle.queue.proofs.Steps.{moved}
use Rattle.queue.proofs.moved_up.Goals as goal

pub returns : goal.returns
returns c =
    let n = within_in c.args.q.count 1 16 c.requires in
    let long : length c.args.q.waiting ≡ 16 = search rules in
    ap (λ (xs : List Waiting). record { count = c.args.q.count - 1; waiting = xs })
    (moved c.args.q.waiting _ c.args.q.count n.0 (omega (arith, n.1, long)) c.copy_from_slice.ensures.after)
