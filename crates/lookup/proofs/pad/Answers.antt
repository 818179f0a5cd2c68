use Rattle.lookup.proofs.Bytes.{pad_whole}
use Rattle.lookup.proofs.pad.Goals as goal

pub returns : goal.returns
returns c = rw (c.copy_from_slice.ensures.after, c.requires.1) (pad_whole c.args.name.now)
