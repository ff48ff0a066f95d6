use Rattle.std.proofs.Common.{rules, tests, eqb}
use Rattle.std.proofs.lemmas.Iterator.{YieldsList-from_slice}
use Rattle.std.proofs.lemmas.Iterator.Search.{find_from_yields_List}
use Rattle.table.proofs.keys.find.Goals as goal

pub returns : goal.returns
returns g c =
    rw c.copied.ensures
    (find_from_yields_List (λ row. eqb (g.K.Keyed.keyed row) c.args.key) _ _ _ c.find.ensures.ran (YieldsList-from_slice c.args.rows.now c.iter.ensures.rest) (λ x b q k. search (rules, tests)))
