-- What keeps the keys of rows apart.
use Rattle.std.proofs.Common.{◌≡◌, ℕ, Bool, true, false, cond, not, ◌&&◌, eqb, List, [], ◌∷◌, map, is_some, Some, filter, refl, ap, ◌∙◌, ap₂}
use Rattle.std.proofs.lemmas.Bool.{and_parts, and_from, not-true, not_from_false, true≢false}
use Rattle.table.specs.Keys.{found, apart}

module _ {X : Type 0} (key : X → ℕ) where
  -- a key that no row has, no row that is kept has
  unknown_kept : (p : X → Bool) (rows : List X) (k : ℕ) → is_some (found key rows k) ≡ false → is_some (found key (filter p rows) k) ≡ false
  unknown_kept p [] k h = refl
  unknown_kept p (row ∷ rows) k h = split (eqb (key row) k) refl (unknown_kept p rows k) h where
    split : (b : Bool) → eqb (key row) k ≡ b → (is_some (found key rows k) ≡ false → is_some (found key (filter p rows) k) ≡ false) → is_some (cond b (Some row) (found key rows k)) ≡ false → is_some (found key (cond (p row) (row ∷ filter p rows) (filter p rows)) k) ≡ false
    split true e more h = absurd (true≢false h)
    split false e more h =
        elim (p row) as (λ b. is_some (found key (cond b (row ∷ filter p rows) (filter p rows)) k) ≡ false) [
          | true ↦ ap (λ b. is_some (cond b (Some row) (found key (filter p rows) k))) e ∙ more h
          | false ↦ more h
        ]

  pub apart_kept : (p : X → Bool) (rows : List X) → apart key rows ≡ true → apart key (filter p rows) ≡ true
  apart_kept p [] h = refl
  apart_kept p (row ∷ rows) h =
      let both = and_parts (not (is_some (found key rows (key row)))) (apart key rows) h in
      let rest = apart_kept p rows both.1 in
      let new = not_from_false (is_some (found key (filter p rows) (key row))) (unknown_kept p rows (key row) (not-true (is_some (found key rows (key row))) both.0)) in
      elim (p row) as (λ b. apart key (cond b (row ∷ filter p rows) (filter p rows)) ≡ true) [
        | true ↦ and_from (not (is_some (found key (filter p rows) (key row)))) (apart key (filter p rows)) new rest
        | false ↦ rest
      ]

  -- a change of each row that leaves its key
  module _ (f : X → X) (same : (x : X) → key (f x) ≡ key x) where
    known_map : (rows : List X) (k : ℕ) → is_some (found key (map f rows) k) ≡ is_some (found key rows k)
    known_map [] k = refl
    known_map (row ∷ rows) k =
        ap (λ n. is_some (cond (eqb n k) (Some (f row)) (found key (map f rows) k))) (same row)
        ∙ elim (eqb (key row) k) as (λ b. is_some (cond b (Some (f row)) (found key (map f rows) k)) ≡ is_some (cond b (Some row) (found key rows k))) [ true ↦ refl | false ↦ known_map rows k ]

    pub apart_map : (rows : List X) → apart key (map f rows) ≡ apart key rows
    apart_map [] = refl
    apart_map (row ∷ rows) =
        ap₂ (λ b c. not b && c) (ap (λ n. is_some (found key (map f rows) n)) (same row) ∙ known_map rows (key row)) (apart_map rows)
