-- What every row passes, the rows that are kept, added or changed pass.
use Rattle.std.proofs.Common.{◌≡◌, Bool, true, false, cond, List, [], ◌∷◌, ◌++◌, map, filter, refl, ap₂, ◌∙◌, ◌&&◌}
use Rattle.std.proofs.lemmas.Bool.{and_parts, and_from}
use Rattle.std.proofs.lemmas.List.Folds.{list_all-append}
use Rattle.std.specs.List.{list_all}

module _ {X : Type 0} (p : X → Bool) where
  pub every_kept : (q : X → Bool) (xs : List X) → list_all p xs ≡ true → list_all p (filter q xs) ≡ true
  every_kept q [] h = refl
  every_kept q (x ∷ xs) h =
      let both = and_parts (p x) (list_all p xs) h in
      let rest = every_kept q xs both.1 in
      elim (q x) as (λ b. list_all p (cond b (x ∷ filter q xs) (filter q xs)) ≡ true) [ true ↦ and_from (p x) (list_all p (filter q xs)) both.0 rest | false ↦ rest ]

  pub every_push : (xs : List X) (x : X) → list_all p xs ≡ true → p x ≡ true → list_all p (xs ++ x ∷ []) ≡ true
  every_push xs x h k = list_all-append p xs (x ∷ []) ∙ ap₂ (λ a b. a && (b && true)) h k

  pub every_map : (f : X → X) → ((x : X) → p x ≡ true → p (f x) ≡ true) → (xs : List X) → list_all p xs ≡ true → list_all p (map f xs) ≡ true
  every_map f good [] h = refl
  every_map f good (x ∷ xs) h =
      let both = and_parts (p x) (list_all p xs) h in
      and_from (p (f x)) (list_all p (map f xs)) (good x both.0) (every_map f good xs both.1)
