-- What holds of all groups, above the definitions that their calls cite.
use Rattle.std.specs.Prelude.{◌≡◌, ℕ, List, ◌++◌}
use Rattle.hello_groups.specs.Groups.{Listable, groups}
use Rattle.hello_groups.specs.Splitting.{sym_in, asym_in}

-- the addresses read from groups are those that the groups were made of
abbrev pub GroupsAreLists : Type 0
GroupsAreLists = (sym asym : List ℕ) → Listable (sym ++ asym) → (sym_in (groups sym asym) ≡ sym) × (asym_in (groups sym asym) ≡ asym)
