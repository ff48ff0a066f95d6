-- Rows as a list of texts: no row's text is empty, so that there is none is said of no row alone.
use Rattle.std.proofs.Common.{◌≡◌, ℕ, ◌==◌, false, suc, cond, List, [], ◌∷◌, ◌++◌, map, length, codes, refl, sym, ap, ◌∙◌, subst, arith}
use borrow.Author.Tests.{ne_eqb}
use Rattle.std.specs.List.{flat_map}
use Rattle.field_text.specs.Texts.{list_text}
use Rattle.record.specs.declared.rows.NeighbourRow.{NeighbourRow}
use Rattle.record.specs.declared.rows.TreeRow.{TreeRow}
use Rattle.record_text.specs.Texts.{or_none, rows_text, neighbour_text, tree_text, offer_text}

-- a text that is not empty
abbrev Full : List ℕ → Type 0
Full text = (c : ℕ) × (rest : List ℕ) × (text ≡ c ∷ rest)

or_none_full : (text : List ℕ) → Full text → text ≡ or_none text
or_none_full text f =
    let not_0 : (suc (length f.1) == 0) ≡ false = ne_eqb (suc (length f.1)) 0 (omega arith) in
    subst (λ l. l ≡ or_none l) (sym f.2) (sym (ap (λ b. cond b (codes "none") (f.0 ∷ f.1)) not_0))

joined : {X : Type 0} (text : X → List ℕ) (rows : List X) → flat_map (λ item. codes "" ++ item) (map text rows) ≡ flat_map text rows
joined text [] = refl
joined text (row ∷ rows) = ap (λ l. text row ++ l) (joined text rows)

listed : {X : Type 0} (text : X → List ℕ) → ((row : X) → Full (text row)) → (rows : List X) → list_text (codes "") (map text rows) ≡ rows_text text rows
listed text full [] = refl
listed text full (row ∷ rows) =
    let f = full row in
    let whole : Full (text row ++ flat_map text rows) = (f.0, f.1 ++ flat_map text rows, ap (λ l. l ++ flat_map text rows) f.2) in
    ap (λ l. text row ++ l) (joined text rows) ∙ or_none_full (text row ++ flat_map text rows) whole

neighbour_full : (row : NeighbourRow) → Full (neighbour_text row)
unfolding neighbour_text
neighbour_full row = (_, _, refl)

tree_full : (row : TreeRow) → Full (tree_text row)
unfolding tree_text offer_text
tree_full row = (_, _, refl)

pub neighbours_listed : (rows : List NeighbourRow) → list_text (codes "") (map neighbour_text rows) ≡ rows_text neighbour_text rows
neighbours_listed = listed neighbour_text neighbour_full

pub trees_listed : (rows : List TreeRow) → list_text (codes "") (map tree_text rows) ≡ rows_text tree_text rows
trees_listed = listed tree_text tree_full
