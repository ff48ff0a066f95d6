-- The groups of a Hello: the addresses that its sender hears both ways, then those that it hears one way only.
use Rattle.std.specs.Prelude.{◌≡◌, ℕ, ◌+◌, ◌*◌, ◌<◌, ◌≤◌, List, [], ◌∷◌, ◌++◌, length, ◌≢◌, slice_index}
use Rattle.field.specs.Wide.{wides}

-- a group is its code, its size and its addresses; there is none without an address
abbrev pub group : ℕ → List ℕ → List ℕ
group code [] = []
group code (a ∷ more) = code ∷ (2 + 2 * length (a ∷ more)) ∷ wides (a ∷ more)

abbrev pub groups : List ℕ → List ℕ → List ℕ
groups sym asym = group 1 sym ++ group 2 asym

-- the addresses that a Hello lists: at most 16, none 0, none twice
pub record Listable (addresses : List ℕ) : Type 0 where
  pub few : length addresses ≤ 16
  pub given : (i : ℕ) → i < length addresses → 1 ≤ slice_index addresses i
  pub distinct : (i j : ℕ) → i < j → j < length addresses → slice_index addresses i ≢ slice_index addresses j

-- the groups of lists that keep these rules
abbrev pub Grouped : List ℕ → Type 0
Grouped xs = (sym : List ℕ) × (asym : List ℕ) × Listable (sym ++ asym) × (groups sym asym ≡ xs)
