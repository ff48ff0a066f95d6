-- Octets written into an output from a place on.
use Rattle.std.specs.Prelude.{ℕ, ◌+◌, List, ◌++◌, length, take, drop}

-- what is before the place and behind the octets remains
abbrev pub placed : List ℕ → ℕ → List ℕ → List ℕ
placed out at octets = take at out ++ (octets ++ drop (at + length octets) out)
