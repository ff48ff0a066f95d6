use Rattle.std.proofs.Common.{replicate, sym, ◌∙◌}
use Rattle.card.proofs.OneCard.{cards_are_short}
use Rattle.card.specs.Octets.{card}
use Rattle.record.specs.Records.{state}
use Rattle.capture.proofs.Fronts.{front}
use Rattle.card_lines.proofs.rewriting.rewrite_card.Goals as goal

pub returns : goal.returns
returns c =
    let held = c.args.held.now in
    let whole = front (card (state held)) (replicate 270 0) c.write.new.out _ c.write.result c.write.ensures (cards_are_short held) c.unwrap_or-len.ensures in
    record { same = λ e. c.compare.ensures.same (whole ∙ e); different = λ no. c.compare.ensures.different (λ e. no (sym whole ∙ e)) }
