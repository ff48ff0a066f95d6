use Rattle.std.proofs.Common.{rules, refl}
use Rattle.std.proofs.lemmas.Iterator.Consumers.{YieldsList-from_first}
use Rattle.std.proofs.lemmas.Iterator.Search.{any_from_yields_List}
use Rattle.hello_groups.specs.Listed.{addresses}
use Rattle.hello_groups.proofs.addresses.Addresses.contains.Goals as goal
use borrow.Author.Tests.{tests}

pub returns : goal.returns
returns c =
    any_from_yields_List _ c.any.new.self _ _ c.any.ensures.ran (YieldsList-from_first (λ a. a.0) addresses _ refl) (λ x b q k. search (rules, tests))
