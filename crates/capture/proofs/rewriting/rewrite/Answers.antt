use Rattle.std.proofs.Common.{◌≤◌, length, replicate, sym, ◌∙◌}
use Rattle.frame.specs.Messages.{values}
use Rattle.frame.specs.Octets.{octets}
use Rattle.frame.proofs.RoundTrips.{messages_are_short, messages_keep_rules}
use Rattle.capture.proofs.Fronts.{front}
use Rattle.capture.proofs.rewriting.rewrite.Goals as goal

pub returns : goal.returns
returns c =
    let m = c.args.message in
    let short : length (octets (values m)) ≤ 43 = messages_are_short (values m) (messages_keep_rules m) in
    let whole = front (octets (values m)) (replicate 43 0) c.write.new.out _ c.write.result c.write.ensures short c.unwrap_or-len.ensures in
    record { same = λ e. c.compare.ensures.same (whole ∙ e); different = λ no. c.compare.ensures.different (λ e. no (sym whole ∙ e)) }
