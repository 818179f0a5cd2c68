use Rattle.words.proofs.Words.{compared, then_is}
use Rattle.std.proofs.Common.{rules, arith}
use Rattle.words.proofs.compare_names.Goals as goal

pub returns : goal.returns
returns c =
    compared _ _ _ _ c.requires.0 c.requires.1 (λ i. omega (arith, c.type_inv.a i)) (λ i. omega (arith, c.type_inv.b i)) c.word_at.ensures c.word_at-2.ensures c.cmp-first.ensures
    (then_is c.cmp-first.result c.then_with.ensures (λ k. search rules))
