use Rattle.lookup.proofs.Inserting.{put_in}
use Rattle.lookup.specs.Listed.{before_from}
use Rattle.lookup.proofs.District.insert_in.Goals as goal

pub returns : goal.returns
returns c =
    rw c.copy_within.ensures.after
    (put_in (before_from c.args.self.names.now c.args.self.base) c.args.list.now c.args.n c.place_of-p.result c.args.c c.requires.0 c.place_of-p.ensures.1 c.place_of-p.ensures.0)
