use Rattle.std.proofs.Common.{rules, tests, arith, ◌≤◌, length, ◌&&◌, leb}
use Rattle.std.proofs.lemmas.Bool.Decides.{nat_tests}
use Rattle.std.proofs.lemmas.Iterator.{YieldsList-from_slice}
use Rattle.std.proofs.lemmas.Iterator.Search.{all_from_yields_List}
use Rattle.lines.proofs.Names.{name-long, name_is}
use Rattle.lines.proofs.name_ok.Goals as goal

pub returns-then-n : goal.returns-then-n
returns-then-n c = name-long _ c.if-n.true

pub returns : goal.returns
returns c =
    let low : 1 ≤ length c.args.f.now = grind (arith, nat_tests) in
    let high : length c.args.f.now ≤ 16 = grind (arith, nat_tests) in
    name_is _ _ low high (all_from_yields_List (λ x. leb 32 x && leb x 126) _ _ c.all.result c.all.ensures.ran (YieldsList-from_slice c.args.f.now c.iter.ensures.rest) (λ x b q k. search (rules, tests)))
