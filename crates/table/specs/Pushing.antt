-- One row more.
use Rattle.std.specs.Prelude.{◌≡◌, ℕ, ◌<◌, List, [], ◌∷◌, ◌++◌, length, Ok, Err, Result}
use Rattle.table.specs.declared.tables.Full.{Full}

-- there was room, and the row is the last; or n rows were held, and they still are
abbrev pub Pushes : {X : Type 0} → ℕ → X → List X → List X → Result (Unit {0}) Full → Type 0
Pushes n row before after (Ok done) = (length before < n) × (after ≡ before ++ row ∷ [])
Pushes n row before after (Err full) = (length before ≡ n) × (after ≡ before)
