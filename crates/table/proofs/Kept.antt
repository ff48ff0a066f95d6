-- The rows that a test keeps.
use Rattle.std.proofs.Common.{suc, Bool, true, false, cond, List, ◌∷◌, ap}
use Rattle.std.specs.List.Retain.{IsFiltered}

module _ {X P : Type 0} (R : P → X → Bool → P → Type 0) where
  -- one row more at the front
  pub filtered_next : (p q : P) (x : X) (b : Bool) (xs ys : List X) → R p x b q → IsFiltered R q xs ys → IsFiltered R p (x ∷ xs) (cond b (x ∷ ys) ys)
  filtered_next p q x true xs ys h (bs, last, len, turns, is) = (true ∷ bs, last, ap (λ n. suc n) len, (q, h, turns), ap (λ l. x ∷ l) is)
  filtered_next p q x false xs ys h (bs, last, len, turns, is) = (false ∷ bs, last, ap (λ n. suc n) len, (q, h, turns), is)
