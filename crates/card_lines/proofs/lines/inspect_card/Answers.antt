use Rattle.std.proofs.Common.{◌++◌, Some, vec_items, codes, sym, ap, ◌∙◌}
use Rattle.std.specs.Option.{option_map}
use Rattle.record.specs.Records.{state}
use Rattle.record_text.specs.Texts.{record_text}
use Rattle.card_lines.proofs.lines.inspect_card.Goals as goal

pub returns : goal.returns
returns c =
    let xs = c.as_slice-octets.result.now in
    let reads = c.in_ok-held.ensures in
    let spelt = sym c.in_ok-read_octets.ensures ∙ ap (option_map vec_items) c.in_ok-octets.ensures.ok_part ∙ ap Some (sym c.as_slice-octets.ensures.value) in
    let text =
    c.in_ok-format.ensures.ok
    ∙ ap (λ l. record_text (state c.in_ok-held.held) ++ (codes " rewritten=" ++ l)) (c.rewrite_card-rewritten.ensures.same reads) in
    (xs, c.in_ok-held.held, spelt, reads, text)
