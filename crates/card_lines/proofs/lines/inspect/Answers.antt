use Rattle.std.proofs.Common.{◌≡◌, true, List, ℕ, sym, subst}
use Rattle.card_lines.specs.Inspecting.{begins_card, InspectsBy, InspectsCard}
use Rattle.card_lines.proofs.lines.inspect.Goals as goal

pub returns-in-Some : goal.returns-in-Some
returns-in-Some c =
    let line = c.args.line.now in
    let front = c.in-Some.ensures.cases in
    let is : begins_card line ≡ true = front.0 in
    let card = subst (λ (l : List ℕ). InspectsCard l c.inspect_card.result) front.1 c.inspect_card.ensures in
    subst (λ b. InspectsBy b line c.inspect_card.result) (sym is) card
