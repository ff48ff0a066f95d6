use Rattle.std.proofs.Common.{◌≡◌, ◌*◌, [], ◌++◌, length, drop, refl, ap, ◌∙◌, ap₂, arith}
use Rattle.record.specs.Records.{state}
use Rattle.card.specs.Octets.{headed, joined, neighbour_octets, tree_octets}
use Rattle.card.specs.Placing.{placed}
use Rattle.card.proofs.OneCard.{card_length, neighbours_length}
use Rattle.card.proofs.Placed.{placed_whole, three_parts}
use Rattle.card.proofs.cards.write.Goals as goal

pub returns-then-out-len : goal.returns-then-out-len
returns-then-out-len c =
    (omega (arith, card_length (state c.args.held.now), ap length c.as_slice-neighbours.ensures.value, ap length c.as_slice-trees.ensures.value), refl)

pub returns : goal.returns
returns c =
    let s = state c.args.held.now in
    let out = c.args.out.now in
    let near = joined neighbour_octets s.neighbours in
    let far = joined tree_octets s.trees in
    let near_is = ap (joined neighbour_octets) c.as_slice-neighbours.ensures.value in
    let far_is = ap (joined tree_octets) c.as_slice-trees.ensures.value in
    let long = card_length s in
    let counts = ap length c.as_slice-neighbours.ensures.value in
    let counts_2 = ap length c.as_slice-trees.ensures.value in
    let behind : length c.as_slice-neighbours.result.now * 12 ≡ length near = omega (arith, neighbours_length s.neighbours) in
    let first : c.copy_from_slice.new.self ≡ headed s [] = c.copy_from_slice.ensures.after ∙ c.head_of.ensures in
    let second : c.put_rows.new.out ≡ near = c.put_rows.ensures ∙ ap (placed _ 0) near_is ∙ placed_whole _ near (c.split_at_mut-near.ensures.front_len ∙ behind) in
    let third : c.put_rows-2.new.out ≡ placed (drop (length near) (drop 10 out)) 0 far =
    c.put_rows-2.ensures ∙ ap₂ (λ p l. placed p 0 l) (c.split_at_mut-near.ensures.back ∙ ap₂ drop behind c.split_at_mut-head.ensures.back) far_is in
    (omega arith, omega arith, ap₂ (λ h l. h ++ l) first (ap₂ (λ n f. n ++ f) second third) ∙ three_parts out (headed s []) near far)
