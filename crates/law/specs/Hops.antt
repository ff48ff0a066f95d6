-- The hop law: the high octet of a cost counts hops, the low octet is 255 less the weakest power on the way.
use Rattle.std.specs.Prelude.{ℕ, ◌+◌, ◌-◌, ◌*◌, ◌/◌, ◌%◌, max, cond, List, Some, None, Option, nat_lt}
use Rattle.record.specs.Symmetry.{neighbour_key}
use Rattle.record.specs.declared.rows.NeighbourRow.{NeighbourRow}
use Rattle.table.specs.Keys.{found}

abbrev pub power_if : Option NeighbourRow → ℕ
power_if (Some row) = row.power
power_if None = 0

-- the power in the row of the address, and 0 without one
abbrev pub power_of : List NeighbourRow → ℕ → ℕ
power_of near a = power_if (found neighbour_key near a)

abbrev pub hops : ℕ → ℕ
hops c = c / 256

abbrev pub weakness : ℕ → ℕ
weakness c = c % 256

abbrev pub most_hops : ℕ
most_hops = 255

-- a hop more, over the weaker of the powers
abbrev pub hop_extended : ℕ → ℕ → Option ℕ
hop_extended c power = cond (nat_lt (hops c) most_hops) (Some ((hops c + 1) * 256 + max (weakness c) (255 - power))) None
