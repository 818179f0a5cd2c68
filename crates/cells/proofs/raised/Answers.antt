use Rattle.std.proofs.Common.{w64, pos, get_or, SFits, to_z-of_z}
use borrow.Author.Rules.{rules}
use Rattle.cells.proofs.Signed.{raised_is}
use Rattle.cells.proofs.raised.Goals as goal

pub returns : goal.returns
returns c =
    let f : SFits w64 (get_or c.args.b.now c.args.i (pos 0)) = search rules in
    raised_is _ c.args.by f c.requires.1 (rw (c.cast_unsigned.ensures, to_z-of_z f))
