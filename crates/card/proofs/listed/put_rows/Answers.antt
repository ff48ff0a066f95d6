use Rattle.std.proofs.Common.{◌*◌, take, sym, ap, ◌∙◌, ap₂, arith}
use Rattle.card.specs.Octets.{joined}
use Rattle.card.specs.Placing.{placed}
use Rattle.card.proofs.Joined.{joined_more, joined_part}
use Rattle.card.proofs.Placed.{placed_mid, placed_more}
use Rattle.card.proofs.listed.put_rows.Goals as goal

pub loop-i-preserved : goal.loop-i-preserved
loop-i-preserved g c =
    let w = g.R.CardRow.written in
    let all = c.args.all.now in
    let i = c.loop-i.i in
    let x = c.index-all-i.result in
    let out = c.args.out.now in
    let so_far = joined w (take i all) in
    let part = joined_part w g.row.W g.met.R.CardRow.sized all i c.loop-i-test.true in
    placed_mid c.loop-i.out (i * g.row.W) _ c.copy_from_slice.new.self (omega (arith, c.copy_from_slice.ensures.len))
    ∙ ap (placed c.loop-i.out (i * g.row.W)) (c.copy_from_slice.ensures.after ∙ c.octets.ensures)
    ∙ ap₂ (λ o n. placed o n (w x)) c.loop-i.invariant (omega (arith, part.0))
    ∙ placed_more out 0 so_far (w x) (omega (arith, c.requires, part.0, part.1))
    ∙ ap (placed out 0) (sym (joined_more w all i x c.loop-i-test.true c.index-all-i.is))
