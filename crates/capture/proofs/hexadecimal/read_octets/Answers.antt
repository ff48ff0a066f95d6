use Rattle.std.proofs.Common.{◌≤◌, length, vec_items, sym, rules}
use Rattle.std.proofs.lemmas.List.{take_rest}
use Rattle.capture.specs.Hexadecimal.{spelt}
use Rattle.capture.proofs.Spelling.{octet_turn}
use Rattle.capture.proofs.hexadecimal.read_octets.Goals as goal

pub loop-left-preserved : goal.loop-left-preserved
loop-left-preserved c =
    let xs = c.loop-left.left.now in
    let two : 2 ≤ length xs = search rules in
    octet_turn xs (vec_items c.loop-left.octets) (spelt c.args.line.now) two (sym c.if-is_blank.ensures) c.loop-left.invariant c.in-Some.octet (vec_items c.push.new.self) _ c.in-Some.ensures c.in_ok-push.ensures.items (take_rest xs 2)
