use Rattle.card.proofs.OneCard.{cards_are_short}
use Rattle.card.proofs.laws.cards_are_short.Goals as goal

pub returns : goal.returns
returns c = cards_are_short
