use Rattle.std.proofs.Common.{◌≡◌, ◌&&◌, rules, tests, sym, ap, ◌∙◌}
use Rattle.std.proofs.lemmas.Iterator.{YieldsList-from_slice}
use Rattle.std.proofs.lemmas.Iterator.Search.{all_from_yields_List}
use Rattle.std.specs.List.{list_all}
use Rattle.table.specs.Keys.{apart}
use Rattle.record.specs.Lawful.{lawful_tree, tree_key}
use Rattle.record.proofs.records.are_lawful_trees.Goals as goal

pub returns-then-all : goal.returns-then-all
returns-then-all c =
    let all : c.all.result ≡ list_all lawful_tree c.args.rows.now =
    all_from_yields_List lawful_tree _ _ _ c.all.ensures.ran (YieldsList-from_slice c.args.rows.now c.iter.ensures.rest) (λ x b q k. search (rules, tests)) in
    c.are_apart.ensures ∙ ap (λ b. b && apart tree_key c.args.rows.now) (sym c.if-all.true ∙ all)
