-- Settling keeps a record lawful, and a second settling at the same time changes nothing.
use Rattle.std.proofs.Common.{◌≡◌, ℕ, Bool, true, false, cond, not, ◌&&◌, ◌||◌, ltb, leb, List, [], ◌∷◌, map, filter, refl, ap, ◌∙◌, ap₂}
use Rattle.std.proofs.lemmas.Bool.{and_parts, and_from}
use Rattle.field.specs.Bits.{suits}
use Rattle.table.proofs.Apart.{apart_kept, apart_map}
use Rattle.table.proofs.Every.{every_kept, every_map}
use Rattle.std.specs.List.{list_all}
use Rattle.table.specs.Keys.{apart}
use Rattle.record.specs.Lawful.{lawful_neighbour, lawful_neighbours, lawful_tree, lawful_trees, named, tree_key, last_until}
use Rattle.record.specs.Settling.{heard, lapses, lapsed, orphan, SettlingAgain}
use Rattle.record.specs.States.{State}
use Rattle.record.specs.Symmetry.{neighbour_key}
use Rattle.record.specs.declared.rows.NeighbourRow.{NeighbourRow}
use Rattle.record.specs.declared.rows.TreeRow.{TreeRow}

pub neighbours_kept : (p : NeighbourRow → Bool) (own : ℕ) (near : List NeighbourRow) → lawful_neighbours own near ≡ true → lawful_neighbours own (filter p near) ≡ true
neighbours_kept p own near h =
    let both = and_parts (list_all (lawful_neighbour own) near) (apart neighbour_key near) h in
    and_from (list_all (lawful_neighbour own) (filter p near)) (apart neighbour_key (filter p near)) (every_kept (lawful_neighbour own) p near both.0) (apart_kept neighbour_key p near both.1)

orphan_lawful : (row : TreeRow) → lawful_tree row ≡ true → lawful_tree (orphan row) ≡ true
orphan_lawful row h =
    let both = and_parts ((ltb 0 row.root.0 && ltb 0 row.wave.0) && (named row.parent && leb row.valid_until last_until)) (leb row.ttl 32 && (suits row.flags.0 row.tree.0 && (not row.owed || ltb 0 row.ttl))) h in
    let front = and_parts (ltb 0 row.root.0 && ltb 0 row.wave.0) (named row.parent && leb row.valid_until last_until) both.0 in
    let valid = and_parts (named row.parent) (leb row.valid_until last_until) front.1 in
    let back = and_parts (leb row.ttl 32) (suits row.flags.0 row.tree.0 && (not row.owed || ltb 0 row.ttl)) both.1 in
    let marks = and_parts (suits row.flags.0 row.tree.0) (not row.owed || ltb 0 row.ttl) back.1 in
    ap₂ (λ a b. (a && b) && (leb row.ttl 32 && (suits row.flags.0 row.tree.0 && true))) front.0 valid.1 ∙ ap₂ (λ a b. a && (b && true)) back.0 marks.0

module _ (own : ℕ) (near : List NeighbourRow) (t : ℕ) where
  lapsed_key : (row : TreeRow) → tree_key (lapsed own near t row) ≡ tree_key row
  lapsed_key row = elim (lapses own near t row) as (λ b. tree_key (cond b (orphan row) row) ≡ tree_key row) [ true ↦ refl | false ↦ refl ]

  lapsed_lawful : (row : TreeRow) → lawful_tree row ≡ true → lawful_tree (lapsed own near t row) ≡ true
  lapsed_lawful row h = elim (lapses own near t row) as (λ b. lawful_tree (cond b (orphan row) row) ≡ true) [ true ↦ orphan_lawful row h | false ↦ h ]

  pub trees_lapsed : (rows : List TreeRow) → lawful_trees rows ≡ true → lawful_trees (map (lapsed own near t) rows) ≡ true
  trees_lapsed rows h =
      let both = and_parts (list_all lawful_tree rows) (apart tree_key rows) h in
      and_from (list_all lawful_tree (map (lapsed own near t) rows)) (apart tree_key (map (lapsed own near t) rows)) (every_map lawful_tree (lapsed own near t) lapsed_lawful rows both.0) (apart_map tree_key (lapsed own near t) lapsed_key rows ∙ both.1)

  -- a row that has lapsed can lapse no further
  lapsed_again : (row : TreeRow) → lapsed own near t (lapsed own near t row) ≡ lapsed own near t row
  lapsed_again row = go (lapses own near t row) refl where
    go : (b : Bool) → lapses own near t row ≡ b → lapsed own near t (cond b (orphan row) row) ≡ cond b (orphan row) row
    go true e = elim (lapses own near t (orphan row)) as (λ b. cond b (orphan (orphan row)) (orphan row) ≡ orphan row) [ true ↦ refl | false ↦ refl ]
    go false e = ap (λ b. cond b (orphan row) row) e

  all_again : (rows : List TreeRow) → map (lapsed own near t) (map (lapsed own near t) rows) ≡ map (lapsed own near t) rows
  all_again [] = refl
  all_again (row ∷ rows) = ap₂ (λ x xs. x ∷ xs) (lapsed_again row) (all_again rows)

kept_again : {X : Type 0} (p : X → Bool) (xs : List X) → filter p (filter p xs) ≡ filter p xs
kept_again p [] = refl
kept_again p (x ∷ xs) = go (p x) refl (kept_again p xs) where
  go : (b : Bool) → p x ≡ b → filter p (filter p xs) ≡ filter p xs → filter p (cond b (x ∷ filter p xs) (filter p xs)) ≡ cond b (x ∷ filter p xs) (filter p xs)
  go true e rest = ap (λ b. cond b (x ∷ filter p (filter p xs)) (filter p (filter p xs))) e ∙ ap (λ l. x ∷ l) rest
  go false e rest = rest

pub settling_again : SettlingAgain
settling_again t s =
    let near = filter (heard t) s.neighbours in
    let trees = map (lapsed s.address near t) s.trees in
    let with : List NeighbourRow → List TreeRow → State = λ n r. record { address = s.address; class = s.class; number = s.number; latest = t; neighbours = n; trees = r } in
    ap (λ n. with n (map (lapsed s.address n t) trees)) (kept_again (heard t) s.neighbours) ∙ ap (with near) (all_again s.address near t s.trees)
