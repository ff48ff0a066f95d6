use Rattle.std.proofs.Common.{rules, refl, codes, decimal}
use Rattle.std.proofs.Output.{has_written_of_eq}
use borrow.Author.Tests.{tests}
use Rattle.std.proofs.lemmas.Iterator.{YieldsList-from_map_by}
use Rattle.std.proofs.lemmas.Iterator.Consumers.{YieldsList-from_first, YieldsList-at}
use Rattle.hello_groups.specs.Listed.{addresses}
use Rattle.field_text.proofs.Listed.{list_text-of_all}
use Rattle.message_text.proofs.texts.AddressesTextDisplay.fmt.Goals as goal

pub returns-clause-writes : goal.returns-clause-writes
returns-clause-writes g c plain ok =
    let given = c.write_list.ensures ok in
    let source = YieldsList-from_first (λ a. a.0) addresses {s = c.args.self.now.0} _ refl in
    let texts = list_text-of_all (codes ",") decimal given.0 given.1 (YieldsList-from_map_by _ _ decimal (YieldsList-at c.map.ensures.source source) c.map.ensures.closure (λ x r q k. search (rules, tests))) in
    has_written_of_eq _ _ _ _ _ texts (given.2 decimal (λ n. refl) plain ok)
