use Rattle.std.proofs.Common.{rules, refl, map, filter, ap, codes, ◌∙◌, ◌≡◌}
use Rattle.std.proofs.Output.{has_written_of_eq}
use borrow.Author.Tests.{tests}
use Rattle.std.specs.Array.Iter.{array_steps, array_into_iter_items}
use Rattle.std.proofs.lemmas.Iterator.{YieldsList-from_map_by}
use Rattle.std.proofs.lemmas.Iterator.Consumers.{YieldsList-from_filter, YieldsList-from_shown, YieldsList-at}
use Rattle.field.specs.Bits.{stands}
use Rattle.field_text.specs.Texts.{flag_text, flags_text, list_text, all_flags}
use Rattle.field_text.proofs.Listed.{list_text-of_all}
use Rattle.field_text.proofs.texts.FlagsTextDisplay.fmt.Goals as goal

pub returns-clause-writes : goal.returns-clause-writes
unfolding flags_text
returns-clause-writes g c plain ok =
    let given = c.write_list.ensures ok in
    let written = given.2 (λ x. flag_text x.0) (λ x. refl) plain ok in
    let bits = c.args.self.now.0.0 in
    let source = YieldsList-from_shown array_steps (λ x. x) array_into_iter_items (λ s t e. e.0) (λ s x t e. e) c.into_iter.result in
    let all : array_into_iter_items c.into_iter.result ≡ all_flags = c.into_iter.ensures.into_iter_gives.0 in
    let texts = list_text-of_all (codes ",") (λ x. flag_text x.0) given.0 given.1
    (YieldsList-from_map_by _ _ flag_text
    (YieldsList-at c.map.ensures.source
    (YieldsList-from_filter _ (λ flag. stands flag bits) (YieldsList-at c.filter-standing.ensures.source source) c.filter-standing.ensures.closure (λ x r q k. search (rules, tests))))
    c.map.ensures.closure (λ x r q k. search (rules, tests))) in
    has_written_of_eq _ _ _ _ _ (texts ∙ ap (λ flags. list_text (codes ",") (map flag_text (filter (λ flag. stands flag bits) flags))) all) written
