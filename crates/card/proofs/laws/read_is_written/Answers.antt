use Rattle.card.proofs.OneCard.{read_is_written}
use Rattle.card.proofs.laws.read_is_written.Goals as goal

pub returns : goal.returns
returns c = read_is_written
