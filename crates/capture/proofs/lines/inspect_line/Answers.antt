use Rattle.std.proofs.Common.{◌++◌, Some, vec_items, codes, sym, ap, ◌∙◌}
use Rattle.std.specs.Option.{option_map}
use Rattle.message_text.specs.Texts.{message_text}
use Rattle.capture.proofs.lines.inspect_line.Goals as goal

pub returns : goal.returns
returns c =
    let xs = c.as_slice-octets.result.now in
    let reads = c.in_ok-message.ensures in
    let spelt = sym c.in_ok-read_octets.ensures ∙ ap (option_map vec_items) c.in_ok-octets.ensures.ok_part ∙ ap Some (sym c.as_slice-octets.ensures.value) in
    let text =
    c.in_ok-format.ensures.ok
    ∙ ap (λ l. message_text c.in_ok-message.message ++ (codes " rewritten=" ++ l)) (c.rewrite-rewritten.ensures.same reads.1) in
    (xs, c.in_ok-message.message, spelt, reads, text)
