use Rattle.std.proofs.Common.{◌≤◌, ap, arith, length, rules}
use Rattle.std.proofs.lemmas.Iterator.{YieldsList-from_slice}
use Rattle.std.proofs.lemmas.Iterator.Adapters.{fits_from_length, at_most_from_Filter, at_most_from_yields_List}
use Rattle.table.proofs.Laws.{rows_few}
use Rattle.law.proofs.Weights.{weight_few}
use Rattle.law.proofs.listeners.Listener.weight_around.Goals as goal

-- sixteen rows at most, and no weight above a sixteenth of what fits
pub sum-requires-clause-fits : goal.sum-requires-clause-fits
sum-requires-clause-fits c =
    let few : length c.as_slice.result.now ≤ 16 = omega (arith, rows_few c.args.self.now.neighbours.now, ap length c.as_slice.ensures.value) in
    fits_from_length _ _ 16 _ (at_most_from_Filter _ (at_most_from_yields_List (YieldsList-from_slice _ (search rules)) few)) c.map.ensures.closure (omega arith) (λ x r q k. search (rules, weight_few))
