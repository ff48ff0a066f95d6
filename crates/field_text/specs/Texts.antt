-- The values of fields as text.
use Rattle.std.specs.Prelude.{ℕ, ◌≡◌, List, [], ◌∷◌, ◌++◌, map, filter, Some, None, Option, codes, decimal}
use Rattle.std.specs.List.{flat_map}
use Rattle.field.specs.Bits.{stands}
use Rattle.field.specs.declared.classes.EnergyClass.{EnergyClass}
use Rattle.field.specs.declared.classes.EnergyClass.TheVariants.{High, Medium, Low}
use Rattle.field.specs.declared.numbers.Address.{Address}
use Rattle.field.specs.declared.tree_flags.Flag.{Flag}
use Rattle.field.specs.declared.tree_flags.Flag.TheVariants.{Inconsistent, Stable, Unstable, TreeChange, NewNeighbour, Coloured}

-- the items with a separator between, or that there is none
abbrev pub list_text : List ℕ → List (List ℕ) → List ℕ
list_text separator [] = codes "none"
list_text separator (first ∷ more) = first ++ flat_map (λ item. separator ++ item) more

-- show tells what is written of each item
abbrev pub WrittenAs : {X : Type 0} → (X → Option (List ℕ)) → (X → List ℕ) → Type 0
WrittenAs {X} output show = (x : X) → output x ≡ Some (show x)

abbrev pub flag_text : Flag → List ℕ
flag_text Coloured = codes "coloured"
flag_text Inconsistent = codes "inconsistent"
flag_text Stable = codes "stable"
flag_text Unstable = codes "unstable"
flag_text TreeChange = codes "tree-change"
flag_text NewNeighbour = codes "new-neighbour"

-- in the order of a list
abbrev pub all_flags : List Flag
all_flags = Coloured ∷ Inconsistent ∷ Stable ∷ Unstable ∷ TreeChange ∷ NewNeighbour ∷ []

-- those that stand
unfoldable pub flags_text : ℕ → List ℕ
flags_text bits = list_text (codes ",") (map flag_text (filter (λ flag. stands flag bits) all_flags))

abbrev pub class_text : EnergyClass → List ℕ
class_text High = codes "high"
class_text Medium = codes "medium"
class_text Low = codes "low"

abbrev pub parent_text : Option Address → List ℕ
parent_text (Some a) = decimal a.0
parent_text None = codes "none"
