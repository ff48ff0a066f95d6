-- Rows that are changed one by one.
use Rattle.std.proofs.Common.{map, ap₂, ◌≡◌, ℕ, ◌+◌, ◌<◌, List, [], ◌∷◌, ◌++◌, length, get_or, take, drop, set, sym, refl, ap, ◌∙◌, subst, arith}
use Rattle.std.proofs.lemmas.List.{drop_more}
use Rattle.std.proofs.lemmas.Grind.{common_steps, drop_more_same, take-set_at}
use lib.Seq.{append_snoc}
use Rattle.std.specs.List.{AllZip}

-- those that are left are as they were
pub left_more : {X : Type 0} (xs ys : List X) (i : ℕ) (y : X) → drop i ys ≡ drop i xs → drop (i + 1) (set ys i y) ≡ drop (i + 1) xs
left_more xs ys i y left = grind (arith, common_steps, drop_more_same)

module _ {X : Type 0} (R : X → X → Type 0) (xs ys : List X) (i : ℕ) where
  -- y is what the row at i becomes
  pub changed_more : (y x : X) → i < length ys → x ≡ get_or ys i x → drop i ys ≡ drop i xs → R x y → ((zs : List X) → AllZip R (drop i xs) zs → AllZip R xs (take i ys ++ zs)) → (zs : List X) → AllZip R (drop (i + 1) xs) zs → AllZip R xs (take (i + 1) (set ys i y) ++ zs)
  changed_more y x lt is left h so_far zs rest =
      let here : drop i xs ≡ x ∷ drop (i + 1) xs =
      sym left ∙ drop_more ys i x lt ∙ ap (λ a. a ∷ drop (i + 1) ys) (sym is) ∙ ap (λ l. x ∷ l) (drop_more_same ys xs i left) in
      let all : AllZip R xs (take i ys ++ y ∷ zs) = so_far (y ∷ zs) (subst (λ l. AllZip R l (y ∷ zs)) (sym here) (h, rest)) in
      subst (λ l. AllZip R xs l) (sym (append_snoc (take i ys) y zs) ∙ ap (λ l. l ++ zs) (sym (take-set_at ys i (i + 1) y refl lt))) all

-- where each change computes f
pub map_from_update : {X : Type 0} (R : X → X → Type 0) (f : X → X) → ((x y : X) → R x y → y ≡ f x) → (xs ys : List X) → AllZip R xs ys → ys ≡ map f xs
map_from_update R f same [] [] h = refl
map_from_update R f same [] (y ∷ ys) h = absurd h
map_from_update R f same (x ∷ xs) [] h = absurd h
map_from_update R f same (x ∷ xs) (y ∷ ys) h = ap₂ (λ a b. a ∷ b) (same x y h.0) (map_from_update R f same xs ys h.1)
