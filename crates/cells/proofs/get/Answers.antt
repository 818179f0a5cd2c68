use Rattle.std.proofs.Common.{w64, pos, get_or, SFits, to_z-of_z}
use borrow.Author.Rules.{rules}
use Rattle.model.specs.Numbers.{cell}
use Rattle.cells.proofs.Signed.{tested, neg_nat, own_nat}
use Rattle.cells.proofs.get.Goals as goal

pub returns-then-x-lt0 : goal.returns-then-x-lt0
unfolding cell
returns-then-x-lt0 c =
    let f : SFits w64 (get_or c.args.b.now c.args.i (pos 0)) = search rules in neg_nat _ (tested _ f c.if-x-lt0.true)

pub returns : goal.returns
unfolding cell
returns c =
    let f : SFits w64 (get_or c.args.b.now c.args.i (pos 0)) = search rules in
    rw (c.cast_unsigned.ensures, to_z-of_z f) (own_nat _ (tested _ f c.if-x-lt0.false))
