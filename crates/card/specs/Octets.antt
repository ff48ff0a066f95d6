-- The octets of a record.
use Rattle.std.specs.Prelude.{◌≡◌, ℕ, Bool, cond, List, [], ◌∷◌, ◌++◌, length}
use Rattle.std.specs.List.{flat_map}
use Rattle.field.specs.Addresses.{number_or_0}
use Rattle.field.specs.Codes.{class_code}
use Rattle.field.specs.Wide.{wide, long}
use Rattle.record.specs.States.{State}
use Rattle.record.specs.declared.rows.NeighbourRow.{NeighbourRow}
use Rattle.record.specs.declared.rows.TreeRow.{TreeRow}

abbrev pub neighbour_octets : NeighbourRow → List ℕ
neighbour_octets row = wide row.address.0 (long row.sym_until (long row.heard_until (class_code row.class ∷ row.power ∷ [])))

abbrev pub bit : Bool → ℕ
bit b = cond b 1 0

abbrev pub tree_octets : TreeRow → List ℕ
tree_octets row =
    wide row.root.0 (wide row.wave.0 (wide row.cost (wide (number_or_0 row.parent)
    (long row.valid_until (row.ttl ∷ row.flags.0 ∷ wide row.tree.0 (bit row.owed ∷ []))))))

-- the octets of each row, one row after the other
abbrev pub joined : {X : Type 0} → (X → List ℕ) → List X → List ℕ
joined octets rows = flat_map octets rows

-- the octets begin with so many rows, and these stand behind them
abbrev pub BeginsWith : {X : Type 0} → (X → List ℕ) → List ℕ → ℕ → List X → List ℕ → Type 0
BeginsWith octets all count rows behind = (joined octets rows ++ behind ≡ all) × (length rows ≡ count)

-- the head, and what follows it
abbrev pub headed : State → List ℕ → List ℕ
headed s rest = wide s.address (class_code s.class ∷ s.number ∷ long s.latest (length s.neighbours ∷ length s.trees ∷ rest))

abbrev pub card : State → List ℕ
card s = headed s (joined neighbour_octets s.neighbours ++ joined tree_octets s.trees)
