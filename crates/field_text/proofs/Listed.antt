-- Which list is written.
use Rattle.std.proofs.Common.{◌≡◌, ℕ, List, map, Option, ap}
use Rattle.std.proofs.lemmas.Iterator.{YieldsList, items_from_drains}
use Rattle.std.specs.Iterator.{Drains}
use Rattle.field_text.specs.Texts.{list_text}

-- the list of the items that came, where the texts that the iterator gives are known
pub list_text-of_all : {S X : Type 0} {steps : S → Option X → S → Type 0} {s : S} {texts : List (List ℕ)} (separator : List ℕ) (show : X → List ℕ) (xs : List X) → Drains steps s xs → YieldsList steps show s texts → list_text separator (map show xs) ≡ list_text separator texts
list_text-of_all separator show xs drained road =
    ap (list_text separator) (items_from_drains xs (drained.1.0, drained.1.1, λ _. (drained.0, drained.1.2)) road)
