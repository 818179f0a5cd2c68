use Rattle.capi.proofs.Reading.{short_name}
use Rattle.capi.proofs.book_read_line.Goals as goal

pub padded-requires : goal.padded-requires
padded-requires c = rw c.name_read.ensures (short_name _ _ c.read_line-a.ensures.says)
