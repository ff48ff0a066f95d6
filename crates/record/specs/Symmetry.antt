-- Which neighbours are symmetric at a time.
use Rattle.std.specs.Prelude.{ℕ, Bool, false, List, Some, None, Option, nat_le}
use Rattle.table.specs.Keys.{found}
use Rattle.record.specs.declared.rows.NeighbourRow.{NeighbourRow}

abbrev pub neighbour_key : NeighbourRow → ℕ
neighbour_key row = row.address.0

abbrev pub symmetric : ℕ → NeighbourRow → Bool
symmetric t row = nat_le t row.sym_until

abbrev pub symmetric_if : ℕ → Option NeighbourRow → Bool
symmetric_if t (Some row) = symmetric t row
symmetric_if t None = false

-- the address is that of a symmetric neighbour
abbrev pub linked : List NeighbourRow → ℕ → ℕ → Bool
linked rows t a = symmetric_if t (found neighbour_key rows a)
