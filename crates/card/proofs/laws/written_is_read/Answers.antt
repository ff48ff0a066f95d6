use Rattle.card.proofs.OneCard.{written_is_read}
use Rattle.card.proofs.laws.written_is_read.Goals as goal

pub returns : goal.returns
returns c = written_is_read
