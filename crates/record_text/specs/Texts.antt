-- Records as text: each field by name, then the rows.
use Rattle.std.specs.Prelude.{ℕ, Bool, cond, List, ◌++◌, length, codes, decimal, ◌==◌}
use Rattle.std.specs.List.{flat_map}
use Rattle.field_text.specs.Texts.{flags_text, class_text, parent_text}
use Rattle.record.specs.States.{State}
use Rattle.record.specs.declared.rows.NeighbourRow.{NeighbourRow}
use Rattle.record.specs.declared.rows.TreeRow.{TreeRow}

unfoldable pub neighbour_text : NeighbourRow → List ℕ
neighbour_text row =
    codes "[address=" ++ (decimal row.address.0
    ++ (codes " sym=" ++ (decimal row.sym_until
    ++ (codes " heard=" ++ (decimal row.heard_until
    ++ (codes " class=" ++ (class_text row.class
    ++ (codes " power=" ++ (decimal row.power ++ codes "]")))))))))

unfoldable pub offer_text : TreeRow → List ℕ
offer_text row =
    codes "[root=" ++ (decimal row.root.0
    ++ (codes " wave=" ++ (decimal row.wave.0
    ++ (codes " cost=" ++ (decimal row.cost
    ++ (codes " parent=" ++ parent_text row.parent))))))

abbrev pub owed_text : Bool → List ℕ
owed_text owed = cond owed (codes "yes") (codes "no")

unfoldable pub tree_text : TreeRow → List ℕ
tree_text row =
    offer_text row
    ++ (codes " valid=" ++ (decimal row.valid_until
    ++ (codes " ttl=" ++ (decimal row.ttl
    ++ (codes " flags=" ++ (flags_text row.flags.0
    ++ (codes " tree=" ++ (decimal row.tree.0
    ++ (codes " owed=" ++ (owed_text row.owed ++ codes "]"))))))))))

-- `none` in the place of an empty text
abbrev pub or_none : List ℕ → List ℕ
or_none text = cond (length text == 0) (codes "none") text

-- one after the other
abbrev pub rows_text : {X : Type 0} → (X → List ℕ) → List X → List ℕ
rows_text text rows = or_none (flat_map text rows)

unfoldable pub record_text : State → List ℕ
record_text s =
    codes "Record address=" ++ (decimal s.address
    ++ (codes " class=" ++ (class_text s.class
    ++ (codes " number=" ++ (decimal s.number
    ++ (codes " latest=" ++ (decimal s.latest
    ++ (codes " neighbours=" ++ (rows_text neighbour_text s.neighbours
    ++ (codes " trees=" ++ rows_text tree_text s.trees))))))))))
