use Rattle.std.proofs.Common.{arith, ◌≤◌, length}
use Rattle.std.proofs.lemmas.Bool.Decides.{nat_tests}
use Rattle.answers.proofs.Putting.{room, line_written}
use Rattle.answers.proofs.write_answer.Goals as goal

pub returns : goal.returns
returns c =
    let long : 2048 ≤ length c.args.buffer.now = grind (arith, nat_tests) in
    let few : length c.args.shown.now ≤ 75 = grind (arith, nat_tests) in
    line_written _ _ _ _ (room c.args.buffer.now c.args.shown.now long few) c.tell.ensures.0 c.tell.ensures.1 long
