-- Rows of one width, one after the other.
use Rattle.std.proofs.Common.{◌≡◌, ℕ, zero, suc, ◌+◌, ◌*◌, ◌<◌, ◌≤◌, Bool, true, List, [], ◌∷◌, ◌++◌, length, get_or, take, drop, sym, refl, ap, ◌∙◌, ap₂, add-mul, one-mul, zero-mul, arith, length-append, length-take-le, mul-le-mul_left}
use Rattle.std.proofs.lemmas.List.{append_assoc, flat_map_more, take_more, take_at, drop_at}
use Rattle.std.proofs.lemmas.Bool.{and_parts}
use Rattle.std.specs.List.{list_all}
use Rattle.card.specs.Octets.{joined}

module _ {X : Type 0} (written : X → List ℕ) where
  pub joined_more : (xs : List X) (i : ℕ) (x : X) → i < length xs → x ≡ get_or xs i x → joined written (take (i + 1) xs) ≡ joined written (take i xs) ++ written x
  joined_more xs i x lt e = ap (joined written) (take_more xs i x lt) ∙ ap (λ y. joined written (take i xs ++ y ∷ [])) (sym e) ∙ sym (flat_map_more written [] (take i xs) x)

  module _ (wide : ℕ) (sized : (x : X) → length (written x) ≡ wide) where
    pub joined_length : (xs : List X) → length (joined written xs) ≡ length xs * wide
    joined_length [] = sym (zero-mul wide)
    joined_length (x ∷ xs) = omega (arith, length-append (written x) (joined written xs), sized x, joined_length xs, add-mul (length xs) 1 wide, one-mul wide)

    -- the octets of the rows so far, and room for the next among those of all
    pub joined_part : (xs : List X) (i : ℕ) → i < length xs → (length (joined written (take i xs)) ≡ i * wide) × (i * wide + wide ≤ length (joined written xs))
    joined_part xs i lt =
        let part = joined_length (take i xs) ∙ ap (λ n. n * wide) (length-take-le i xs (omega arith)) in
        (part, omega (arith, joined_length xs, mul-le-mul_left {m = i + 1} {n = length xs} wide (omega arith)))

    -- as many rows take as many octets, so what is behind them is the same too
    pub joined_split : (xs ys : List X) (behind left : List ℕ) → length xs ≡ length ys → joined written xs ++ behind ≡ joined written ys ++ left → (joined written xs ≡ joined written ys) × (behind ≡ left)
    joined_split xs ys behind left n e =
        let k = length ys * wide in
        let size = joined_length xs ∙ ap (λ m. m * wide) n in (
          sym (take_at (joined written xs) behind k size) ∙ ap (take k) e ∙ take_at (joined written ys) left k (joined_length ys),
          sym (drop_at (joined written xs) behind k size) ∙ ap (drop k) e ∙ drop_at (joined written ys) left k (joined_length ys),
        )

    -- what is left of some rows, unless nothing, begins with a row
    pub joined_next : (xs : List X) (k : ℕ) (left : List ℕ) → joined written (drop k xs) ≡ left → 0 < length left → (z : X) × (k < length xs) × (written z ≡ take wide left) × (joined written (drop (suc k) xs) ≡ drop wide left)
    joined_next [] zero left e some = absurd (omega (arith, ap length e))
    joined_next [] (suc k) left e some = absurd (omega (arith, ap length e))
    joined_next (x ∷ xs) zero left e some =
        (x, omega arith, sym (take_at (written x) (joined written xs) wide (sized x)) ∙ ap (take wide) e, sym (drop_at (written x) (joined written xs) wide (sized x)) ∙ ap (drop wide) e)
    joined_next (x ∷ xs) (suc k) left e some = let n = joined_next xs k left e some in (n.0, omega (arith, n.1), n.2, n.3)

    -- likewise where other octets follow: where they begin with some rows, and with as many and more, the next of these stands behind the first
    pub joined_behind : (had xs : List X) (left rest : List ℕ) → joined written xs ++ rest ≡ joined written had ++ left → length had < length xs → (z : X) × (written z ≡ take wide left) × (wide ≤ length left)
    joined_behind had [] left rest e lt = absurd (omega arith)
    joined_behind [] (x ∷ xs) left rest e lt =
        let first = take_at (written x) (joined written xs ++ rest) wide (sized x) in
        let whole : written x ++ (joined written xs ++ rest) ≡ left = sym (append_assoc (written x) (joined written xs) rest) ∙ e in
        (x, sym first ∙ ap (take wide) whole, omega (arith, ap length whole, length-append (written x) (joined written xs ++ rest), sized x))
    joined_behind (h ∷ had) (x ∷ xs) left rest e lt =
        let more = append_assoc (written x) (joined written xs) rest in
        let past = append_assoc (written h) (joined written had) left in
        let whole = sym (drop_at (written x) (joined written xs ++ rest) wide (sized x)) ∙ ap (drop wide) (sym more ∙ e ∙ past) ∙ drop_at (written h) (joined written had ++ left) wide (sized h) in
        joined_behind had xs left rest whole (omega arith)

    -- octets have one list of rows, if they have one row each
    pub joined_one : (plain : X → Bool) → ((x y : X) → plain x ≡ true → plain y ≡ true → written x ≡ written y → x ≡ y) → 1 ≤ wide → (xs ys : List X) → list_all plain xs ≡ true → list_all plain ys ≡ true → joined written xs ≡ joined written ys → xs ≡ ys
    joined_one plain one some [] [] p q e = refl
    joined_one plain one some [] (y ∷ ys) p q e = absurd (omega (arith, ap length e, length-append (written y) (joined written ys), sized y))
    joined_one plain one some (x ∷ xs) [] p q e = absurd (omega (arith, ap length e, length-append (written x) (joined written xs), sized x))
    joined_one plain one some (x ∷ xs) (y ∷ ys) p q e =
        let left = and_parts (plain x) (list_all plain xs) p in
        let right = and_parts (plain y) (list_all plain ys) q in
        let first : written x ≡ written y = sym (take_at (written x) (joined written xs) wide (sized x)) ∙ ap (take wide) e ∙ take_at (written y) (joined written ys) wide (sized y) in
        let rest : joined written xs ≡ joined written ys = sym (drop_at (written x) (joined written xs) wide (sized x)) ∙ ap (drop wide) e ∙ drop_at (written y) (joined written ys) wide (sized y) in
        ap₂ (λ z zs. z ∷ zs) (one x y left.0 right.0 first) (joined_one plain one some xs ys left.1 right.1 rest)
