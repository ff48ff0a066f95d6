use Rattle.std.proofs.Common.{rules, refl, codes, ap, append_assoc, ◌∙◌}
use Rattle.std.proofs.Output.{has_written_append, has_written_of_eq}
use borrow.Author.Tests.{tests}
use Rattle.std.proofs.lemmas.Iterator.{YieldsList-from_slice, YieldsList-from_map_by}
use Rattle.std.proofs.lemmas.Iterator.Consumers.{YieldsList-at}
use Rattle.field_text.proofs.Listed.{list_text-of_all}
use Rattle.record_text.specs.Texts.{neighbour_text, tree_text, rows_text, record_text}
use Rattle.record_text.proofs.Listed.{neighbours_listed, trees_listed}
use Rattle.record_text.proofs.texts.RecordTextDisplay.fmt.Goals as goal

pub returns-clause-writes : goal.returns-clause-writes
unfolding record_text
returns-clause-writes g c plain ok =
    let head = c.in_ok-write.ensures.writes plain refl in
    let near = c.in_ok-write_list.ensures refl in
    let neighbours = list_text-of_all (codes "") (λ x. neighbour_text x.0.now) near.0 near.1
    (YieldsList-from_map_by _ _ neighbour_text (YieldsList-at c.map.ensures.source (YieldsList-from_slice c.as_slice.result.now cc)) c.map.ensures.closure (λ x r q k. search (rules, tests))) in
    let first_list = has_written_of_eq _ _ _ _ _ (neighbours ∙ neighbours_listed c.as_slice.result.now ∙ ap (rows_text neighbour_text) c.as_slice.ensures.value) (near.2 _ (λ x. refl) head.plain refl) in
    let between = c.in_ok-write_str.ensures.writes first_list.plain refl in
    let held = c.write_list-2.ensures ok in
    let trees = list_text-of_all (codes "") (λ x. tree_text x.0.now) held.0 held.1
    (YieldsList-from_map_by _ _ tree_text (YieldsList-at c.map-2.ensures.source (YieldsList-from_slice c.as_slice-2.result.now cc)) c.map-2.ensures.closure (λ x r q k. search (rules, tests))) in
    let second_list = has_written_of_eq _ _ _ _ _ (trees ∙ trees_listed c.as_slice-2.result.now ∙ ap (rows_text tree_text) c.as_slice-2.ensures.value) (held.2 _ (λ x. refl) between.plain ok) in
    has_written_of_eq _ _ _ _ _ (simp append_assoc) (has_written_append _ _ _ _ _ _ head (has_written_append _ _ _ _ _ _ first_list (has_written_append _ _ _ _ _ _ between second_list)))
