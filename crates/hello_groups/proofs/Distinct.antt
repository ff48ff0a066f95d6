-- The test for addresses that are given and distinct, and what it says.
use Rattle.std.proofs.Common.{◌≡◌, ℕ, zero, suc, ◌<◌, ◌≤◌, Bool, true, false, not, ◌&&◌, ◌||◌, eqb, List, [], ◌∷◌, ◌++◌, length, get_or, sym, refl, ap, ◌∙◌, arith}
use Rattle.std.proofs.lemmas.Bool.{and_parts, and_from, or_parts, or_from, not-true, not_from_false, ne_eqb, eqb-false, eq-eqb, both_ways}
use Rattle.std.proofs.lemmas.List.Folds.{list_any-append, list_any_at}
use Rattle.hello_groups.specs.Splitting.{stands_in, all_new}

pub stands_append : (x : ℕ) (xs ys : List ℕ) → stands_in x (xs ++ ys) ≡ (stands_in x xs || stands_in x ys)
stands_append x = list_any-append (λ y. eqb y x)

-- an address that does not stand in a list differs from each of it
pub not_standing : (x : ℕ) (xs : List ℕ) → stands_in x xs ≡ false → (i : ℕ) → i < length xs → x ≡ get_or xs i 0 → ⊥
not_standing x xs h i l e = both_ways (stands_in x xs) h (list_any_at (λ y. eqb y x) xs i 0 l (eq-eqb _ _ (sym e)))

pub none_standing : (x : ℕ) (xs : List ℕ) → ((i : ℕ) → i < length xs → x ≡ get_or xs i 0 → ⊥) → stands_in x xs ≡ false
none_standing x [] h = refl
none_standing x (y ∷ xs) h =
    or_from (eqb y x) (stands_in x xs) (ne_eqb y x (λ e. h 0 (omega arith) (sym e))) (none_standing x xs (λ i l. h (suc i) (omega arith)))

both_new : (zero_is in_xs in_ys new_xs new_ys : Bool) → (not (zero_is || ((in_xs || in_ys) || false)) && (new_xs && new_ys)) ≡ ((not (zero_is || (in_xs || in_ys)) && new_xs) && new_ys)
both_new true b c d e = refl
both_new false true c d e = refl
both_new false false true d e = refl
both_new false false false d e = refl

-- two lists are new in turn exactly if they are new as one
pub new_append : (xs ys : List ℕ) → all_new (xs ++ ys) [] ≡ (all_new xs ys && all_new ys [])
new_append [] ys = refl
new_append (x ∷ xs) ys =
    ap (λ b. not (eqb x 0 || (b || false)) && all_new (xs ++ ys) []) (stands_append x xs ys)
    ∙ ap (λ b. not (eqb x 0 || ((stands_in x xs || stands_in x ys) || false)) && b) (new_append xs ys)
    ∙ both_new (eqb x 0) (stands_in x xs) (stands_in x ys) (all_new xs ys) (all_new ys [])

module _ (x : ℕ) (xs : List ℕ) where
  -- what the test says of the first
  first_new : all_new (x ∷ xs) [] ≡ true → (eqb x 0 ≡ false) × (stands_in x xs ≡ false) × (all_new xs [] ≡ true)
  first_new h =
      let p = and_parts (not (eqb x 0 || (stands_in x xs || false))) (all_new xs []) h in
      let q = or_parts (eqb x 0) (stands_in x xs || false) (not-true (eqb x 0 || (stands_in x xs || false)) p.0) in
      (q.0, (or_parts (stands_in x xs) false q.1).0, p.1)

  new_first : eqb x 0 ≡ false → stands_in x xs ≡ false → all_new xs [] ≡ true → all_new (x ∷ xs) [] ≡ true
  new_first e s n =
      and_from (not (eqb x 0 || (stands_in x xs || false))) (all_new xs [])
      (not_from_false (eqb x 0 || (stands_in x xs || false)) (or_from (eqb x 0) (stands_in x xs || false) e (or_from (stands_in x xs) false s refl))) n

pub new_given : (xs : List ℕ) → all_new xs [] ≡ true → (i : ℕ) → i < length xs → 1 ≤ get_or xs i 0
new_given [] h i l = absurd (omega arith)
new_given (x ∷ xs) h zero l = let ne = eqb-false x 0 (first_new x xs h).0 in omega arith
new_given (x ∷ xs) h (suc i) l = new_given xs (first_new x xs h).2 i (omega arith)

pub new_distinct : (xs : List ℕ) → all_new xs [] ≡ true → (i j : ℕ) → i < j → j < length xs → get_or xs i 0 ≡ get_or xs j 0 → ⊥
new_distinct [] h i j b l = absurd (omega arith)
new_distinct (x ∷ xs) h i zero b l = absurd (omega arith)
new_distinct (x ∷ xs) h zero (suc j) b l = not_standing x xs (first_new x xs h).1 j (omega arith)
new_distinct (x ∷ xs) h (suc i) (suc j) b l = new_distinct xs (first_new x xs h).2 i j (omega arith) (omega arith)

pub are_new : (xs : List ℕ) → ((i : ℕ) → i < length xs → 1 ≤ get_or xs i 0) → ((i j : ℕ) → i < j → j < length xs → get_or xs i 0 ≡ get_or xs j 0 → ⊥) → all_new xs [] ≡ true
are_new [] g d = refl
are_new (x ∷ xs) g d =
    let some : 1 ≤ x = g 0 (omega arith) in
    new_first x xs (ne_eqb x 0 (λ e. omega arith)) (none_standing x xs (λ i l. d 0 (suc i) (omega arith) (omega arith)))
    (are_new xs (λ i l. g (suc i) (omega arith)) (λ i j b l. d (suc i) (suc j) (omega arith) (omega arith)))
