use Rattle.std.proofs.Common.{rules, tests, arith, drop, take, length, eqb, sym, refl, ◌∙◌, ◌-◌, length-drop}
use Rattle.std.proofs.Math.Seq.{take_all}
use Rattle.std.proofs.lemmas.Iterator.{YieldsList-from_slice}
use Rattle.std.proofs.lemmas.Iterator.Search.{position_from_yields_List}
use Rattle.blocks.proofs.Bytes.{cut_ended, cut_unended}
use Rattle.blocks.proofs.cut.Goals as goal

pub returns-in-Some : goal.returns-in-Some
returns-in-Some c =
    let block = c.args.block.now in
    let rest = take (length block - c.args.at) (drop c.args.at block) in
    let all = take_all (length block - c.args.at) (drop c.args.at block) (omega (arith, length-drop c.args.at block)) in
    let p = position_from_yields_List (λ y. eqb y 10) _ _ c.position.result c.position.ensures.ran (YieldsList-from_slice rest c.iter.ensures.rest) (λ x b q k. search (rules, tests)) in
    cut_ended c.args.line.now c.keep-len.new.line block _ rest c.args.len c.keep-len.result c.args.at c.requires all c.keep-len.ensures c.in-Some.i (sym p ∙ c.in-Some.is) refl

pub returns-in-None : goal.returns-in-None
returns-in-None c =
    let block = c.args.block.now in
    let rest = take (length block - c.args.at) (drop c.args.at block) in
    let all = take_all (length block - c.args.at) (drop c.args.at block) (omega (arith, length-drop c.args.at block)) in
    let p = position_from_yields_List (λ y. eqb y 10) _ _ c.position.result c.position.ensures.ran (YieldsList-from_slice rest c.iter.ensures.rest) (λ x b q k. search (rules, tests)) in
    cut_unended c.args.line.now c.keep.new.line block _ rest c.args.len c.keep.result c.args.at c.requires all c.keep.ensures (sym p ∙ c.in-None.is) refl
