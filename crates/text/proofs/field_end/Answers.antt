use Rattle.std.proofs.Common.{rules, tests, arith, drop, length, eqb, not, ap, ◌∙◌, ℕ, ◌+◌, ◌-◌, length-drop}
use Rattle.std.specs.Slice.Iter.{iter_rest}
use Rattle.std.proofs.Math.Seq.{take_all}
use Rattle.std.proofs.lemmas.Iterator.{YieldsList-from_slice}
use Rattle.std.proofs.lemmas.Iterator.Consumers.{count_from_yields_List}
use Rattle.std.proofs.lemmas.Iterator.Search.{YieldsList-from_take_while}
use Rattle.std.proofs.lemmas.List.Folds.{length-prefix_len}
use Rattle.text.proofs.Walk.{ends}
use Rattle.text.proofs.field_end.Goals as goal

pub returns : goal.returns
returns c =
    let rest = drop c.args.at c.args.s.now in
    let all = take_all (length c.args.s.now - c.args.at) rest (omega (arith, length-drop c.args.at c.args.s.now)) in
    let n = count_from_yields_List _ c.count.result c.count.ensures.ran
    (YieldsList-from_take_while _ (λ y. not (eqb y c.args.x)) (YieldsList-from_slice {s = c.take_while.result.iter} rest (ap iter_rest c.take_while.ensures.source ∙ c.iter.ensures.rest ∙ all))
    c.take_while.ensures.closure c.take_while.ensures.done (λ x b q k. search (rules, tests))) in
    ends c.args.x c.args.s.now c.args.at _ c.requires (ap (λ (k : ℕ). c.args.at + k) (n ∙ length-prefix_len (λ y. not (eqb y c.args.x)) rest))
