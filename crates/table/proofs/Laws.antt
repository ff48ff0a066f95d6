-- The rows of a table, over the list of its places.
use Rattle.std.proofs.Common.{◌≡◌, ℕ, zero, suc, ◌+◌, ◌-◌, ◌<◌, ◌≤◌, List, [], ◌∷◌, ◌++◌, length, take, drop, set, sym, refl, ap, ap₂, ◌∙◌, add-one, append_assoc, append-nil, length-append, length-drop, arith}
use borrow.Rule.Slice.PartMut.{mid_of, post_of, put_mid, mid_len}
use Rattle.std.specs.List.{remove}
use Rattle.std.proofs.lemmas.List.{length-take-le, take-take, drop-take, drop-drop, take_at, take_all, drop_all}
use Rattle.table.specs.Rows.{rows, altered}
use Rattle.table.specs.declared.tables.Table.{Table}

module _ {T : Type 0} where
  -- the row at i is turned behind the rows up to n, and left out
  pub turned_out : (xs ys : List T) (n i : ℕ) → i < n → n ≤ length xs → ys ≡ drop 1 (mid_of i (n - i) xs) ++ take 1 (mid_of i (n - i) xs) → take (n - 1) (put_mid i (n - i) xs ys) ≡ remove (take n xs) i
  turned_out xs ys n i lt le e =
      let m = mid_of i (n - i) xs in
      let sum : i + (n - i) ≡ n = omega arith in
      let front : take i (take n xs) ≡ take i xs = take-take i n xs (omega arith) in
      let here : drop i (take n xs) ≡ m = ap (λ k. drop i (take k xs)) (sym sum) ∙ drop-take i (n - i) xs in
      let back : drop (suc i) (take n xs) ≡ drop 1 m = ap (λ k. drop k (take n xs)) (sym (add-one i)) ∙ sym (drop-drop 1 i (take n xs)) ∙ ap (drop 1) here in
      let long : length (take i xs ++ drop 1 m) ≡ n - 1 =
      omega (arith, length-append (take i xs) (drop 1 m), length-take-le i xs (omega arith), length-drop 1 m, mid_len i n xs le) in
      let parts : put_mid i (n - i) xs ys ≡ (take i xs ++ drop 1 m) ++ (take 1 m ++ post_of i (n - i) xs) = rw e (simp append_assoc) in
      ap (take (n - 1)) parts ∙ take_at (take i xs ++ drop 1 m) (take 1 m ++ post_of i (n - i) xs) (n - 1) long ∙ ap₂ (λ a b. a ++ b) (sym front) (sym back)

  -- nothing is removed past the last row
  pub removed_past : (xs : List T) (i : ℕ) → length xs ≤ i → remove xs i ≡ xs
  removed_past xs i le = ap (λ l. l ++ drop (suc i) xs) (take_all i xs le) ∙ ap (λ l. xs ++ l) (drop_all (suc i) xs (omega arith)) ∙ append-nil xs

  pub take_of_set : (n : ℕ) (xs : List T) (i : ℕ) (w : T) → take n (set xs i w) ≡ set (take n xs) i w
  take_of_set zero xs i w = refl
  take_of_set (suc n) [] i w = refl
  take_of_set (suc n) (x ∷ xs) zero w = refl
  take_of_set (suc n) (x ∷ xs) (suc i) w = ap (λ l. x ∷ l) (take_of_set n xs i w)

module _ {T : Type 0} {N : ℕ} where
  -- the table's rows, once the row that it lent was written
  pub rows_altered : (t : Table T N) (i : ℕ) (w : T) → rows (altered t i w) ≡ set (rows t) i w
  rows_altered t i w = take_of_set t.count t.items i w

  pub rows_within : (t : Table T N) → length (rows t) ≡ t.count
  rows_within t = length-take-le t.count t.items (omega (arith, t.within, t.whole))

  pub rows_few : (t : Table T N) → length (rows t) ≤ N
  rows_few t = omega (arith, t.within, rows_within t)
