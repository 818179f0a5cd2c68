use Rattle.words.proofs.Words.{word_read}
use Rattle.words.proofs.word_at.Goals as goal

pub returns : goal.returns
returns c = word_read c.args.a.now c.args.p c.requires c.from_be_bytes.ensures
