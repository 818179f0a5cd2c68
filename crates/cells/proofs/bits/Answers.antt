use Rattle.std.proofs.Common.{w64, pos, get_or, SFits, to_z-of_z}
use borrow.Author.Rules.{rules}
use Rattle.model.specs.Numbers.{cell}
use Rattle.cells.proofs.Signed.{bits_nat}
use Rattle.cells.proofs.bits.Goals as goal

pub returns : goal.returns
unfolding cell
returns c =
    let f : SFits w64 (get_or c.args.b.now c.args.i (pos 0)) = search rules in
    rw (c.cast_unsigned.ensures, to_z-of_z f) (bits_nat _ f)
