-- Rows that are known by a number.
use Rattle.std.specs.Prelude.{ℕ, Bool, true, not, ◌&&◌, List, [], ◌∷◌, is_some, Option, ◌==◌}
use Rattle.std.specs.List.{find}

module _ {X : Type 0} (key : X → ℕ) where
  -- the first row that has the key
  abbrev pub found : List X → ℕ → Option X
  found rows k = find (λ row. key row == k) rows

  -- no two rows have one key
  abbrev pub apart : List X → Bool
  apart [] = true
  apart (row ∷ rows) = not (is_some (found rows (key row))) && apart rows
