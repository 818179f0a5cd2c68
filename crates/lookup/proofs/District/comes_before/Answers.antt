use Rattle.lookup.proofs.Bytes.{before_by}
use Rattle.lookup.specs.Listed.{before_from}
use Rattle.lookup.proofs.District.comes_before.Goals as goal

pub returns : goal.returns
unfolding before_from
returns c =
    rw (c.is_lt.ensures, c.then.ensures, c.cmp.ensures, ← c.compare_names-first_names.ensures.1) (before_by c.compare_names-first_names.result c.args.x c.args.y)
