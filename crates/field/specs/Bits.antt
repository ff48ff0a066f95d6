-- The bits of the flags octet, counted from the lowest.
use Rattle.std.specs.Prelude.{ℕ, ◌/◌, ◌%◌, ◌^◌, ◌<◌, Bool, ◌&&◌, ◌||◌, ◌==◌, nat_lt}
use Rattle.field.specs.declared.tree_flags.Flag.{Flag}
use Rattle.field.specs.declared.tree_flags.Flag.TheVariants.{Inconsistent, Stable, Unstable, TreeChange, NewNeighbour, Coloured}

-- bits 5 and 6 are 0
abbrev pub UnusedClear : ℕ → Type 0
UnusedClear bits = bits % 2 ^ 7 < 2 ^ 5

abbrev pub place : Flag → ℕ
place Inconsistent = 0
place Stable = 1
place Unstable = 2
place TreeChange = 3
place NewNeighbour = 4
place Coloured = 7

abbrev pub weight : Flag → ℕ
weight flag = 2 ^ place flag

abbrev pub stands : Flag → ℕ → Bool
stands flag bits = bits / weight flag % 2 == 1

-- flags and Tree Sequence Number of an STC: known flags, and none of them nor a number in a tree that is not coloured
abbrev pub suits : ℕ → ℕ → Bool
suits bits tree = nat_lt (bits % 2 ^ 7) (2 ^ 5) && (stands Coloured bits || (bits == 0 && tree == 0))
