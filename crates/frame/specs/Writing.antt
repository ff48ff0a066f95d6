-- What writing leaves in the output that it is handed.
use Rattle.std.specs.Prelude.{◌≡◌, ℕ, ◌<◌, ◌≤◌, List, ◌++◌, length, drop, Ok, Err, Result}
use Rattle.frame.specs.declared.faults.WriteFault.{WriteFault}
use Rattle.frame.specs.declared.faults.WriteFault.TheVariants.{OutputTooShort}

-- the octets fill the front and the rest remains, or they are too many and all remains
abbrev pub Writes : List ℕ → List ℕ → List ℕ → Result ℕ WriteFault → Type 0
Writes new before now (Ok n) = (n ≡ length new) × (length new ≤ length before) × (now ≡ new ++ drop (length new) before)
Writes new before now (Err OutputTooShort) = (length before < length new) × (now ≡ before)
