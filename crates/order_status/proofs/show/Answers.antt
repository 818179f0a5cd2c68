use Rattle.order_status.proofs.Stages.{refused_head, refused_asked, asked_in, refused_used, figured, placed, shown}
use borrow.Author.Rules.{rules}
use Rattle.order_status.proofs.show.Goals as goal

pub returns-in_err-d : goal.returns-in_err-d
returns-in_err-d c = refused_head _ _ _ _ _ c.in_err-d.field-0.0 (search rules) c.in_err-d.ensures

pub returns-in_err-asked : goal.returns-in_err-asked
returns-in_err-asked c = refused_asked _ _ _ _ _ c.in_ok-d.ensures c.in_err-asked.field-0.0 (search rules) c.in_err-asked.ensures

pub used-requires : goal.used-requires
used-requires c = (c.in_ok-d.ensures.shaped.names, asked_in _ _ c.args.last.now _ _ c.in_ok-d.ensures c.in_ok-asked.ensures)

pub returns-in_err-seen : goal.returns-in_err-seen
returns-in_err-seen c = refused_used _ _ _ _ _ c.in_ok-d.ensures c.in_ok-asked.ensures c.in_err-seen.field-0.0 (search rules) c.in_err-seen.ensures.0

pub figures_of-figures-requires : goal.figures_of-figures-requires
figures_of-figures-requires c = figured _ _ c.args.last.now _ _ c.in_ok-d.ensures c.in_ok-asked.ensures c.in_ok-seen.ensures.0 c.in_ok-seen.ensures.1.0 c.in_ok-seen.ensures.1.1

pub part_of-part-requires : goal.part_of-part-requires
part_of-part-requires c = placed _ _ c.args.last.now _ _ c.in_ok-d.ensures c.in_ok-asked.ensures c.in_ok-seen.ensures.0 c.in_ok-seen.ensures.1.0 c.in_ok-seen.ensures.1.1

pub returns : goal.returns
returns c =
    let f = c.figures_of-figures.ensures in
    shown _ _ c.args.last.now _ _ c.in_ok-d.ensures c.in_ok-asked.ensures c.in_ok-seen.ensures.0 c.in_ok-seen.ensures.1.0 c.in_ok-seen.ensures.1.1 f.0 f.1.0 f.1.1 c.part_of-part.ensures.0 c.part_of-part.ensures.1
