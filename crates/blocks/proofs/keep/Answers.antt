use Rattle.std.proofs.Common.{arith, ◌+◌, ◌-◌, ◌≡◌}
use Rattle.blocks.proofs.Bytes.{put}
use Rattle.blocks.proofs.keep.Goals as goal

pub returns : goal.returns
returns c =
    let m = c.min-more.result in
    let few : c.args.n + m - c.args.n ≡ m = omega arith in
    (put c.args.line.now c.args.bytes.now c.copy_from_slice.new.self _ c.args.n m (omega arith) c.copy_from_slice.ensures.after (omega arith) (omega arith) (λ l. omega arith), omega arith)
