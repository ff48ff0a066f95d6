-- The rows and records that a node may hold.
use Rattle.std.specs.Prelude.{◌≡◌, ℕ, ◌≤◌, Bool, true, not, ◌&&◌, ◌||◌, List, Some, None, Option, ◌==◌, nat_le, nat_lt}
use Rattle.field.specs.Bits.{suits}
use Rattle.field.specs.declared.numbers.Address.{Address}
use Rattle.std.specs.List.{list_all}
use Rattle.table.specs.Keys.{apart}
use Rattle.record.specs.States.{State}
use Rattle.record.specs.Symmetry.{neighbour_key}
use Rattle.record.specs.declared.rows.NeighbourRow.{NeighbourRow}
use Rattle.record.specs.declared.rows.TreeRow.{TreeRow}

-- the last second, and the last one that something can hold until
abbrev pub last_time : ℕ
last_time = 4000000000

abbrev pub last_until : ℕ
last_until = 4000000255

-- an address, and not the node's own
abbrev pub lawful_neighbour : ℕ → NeighbourRow → Bool
lawful_neighbour own row =
    (nat_lt 0 row.address.0 && not (row.address.0 == own)) && (nat_le row.sym_until last_until && nat_le row.heard_until last_until)

-- an address where there is one
abbrev pub named : Option Address → Bool
named (Some a) = nat_lt 0 a.0
named None = true

abbrev pub lawful_tree : TreeRow → Bool
lawful_tree row =
    ((nat_lt 0 row.root.0 && nat_lt 0 row.wave.0) && (named row.parent && nat_le row.valid_until last_until))
    && (nat_le row.ttl 32 && (suits row.flags.0 row.tree.0 && (not row.owed || nat_lt 0 row.ttl)))

abbrev pub tree_key : TreeRow → ℕ
tree_key row = row.root.0

abbrev pub lawful_neighbours : ℕ → List NeighbourRow → Bool
lawful_neighbours own rows = list_all (lawful_neighbour own) rows && apart neighbour_key rows

abbrev pub lawful_trees : List TreeRow → Bool
lawful_trees rows = list_all lawful_tree rows && apart tree_key rows

pub record Lawful (s : State) : Type 0 where
  pub address : 1 ≤ s.address
  pub latest : s.latest ≤ last_time
  pub neighbours : lawful_neighbours s.address s.neighbours ≡ true
  pub trees : lawful_trees s.trees ≡ true
