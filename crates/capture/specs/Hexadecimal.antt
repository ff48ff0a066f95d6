-- Octets spelt as two hexadecimal digits each, with blanks between octets where wanted.
use Rattle.std.specs.Prelude.{ℕ, ◌+◌, ◌-◌, ◌*◌, Bool, cond, ◌&&◌, ◌||◌, List, [], ◌∷◌, Some, None, Option, ◌==◌, nat_le}

-- space, tab and carriage return
abbrev pub blank : ℕ → Bool
blank c = c == 32 || (c == 9 || c == 13)

abbrev pub within : ℕ → ℕ → ℕ → Bool
within low high c = nat_le low c && nat_le c high

-- 0 to 9, A to F and a to f
abbrev pub digit : ℕ → Option ℕ
digit c =
    cond (within 48 57 c) (Some (c - 48)) (cond (within 65 70 c) (Some (c - 55)) (cond (within 97 102 c) (Some (c - 87)) None))

-- the octet of two digits
abbrev pub octet : Option ℕ → Option ℕ → Option ℕ
octet (Some high) (Some low) = Some (high * 16 + low)
octet (Some high) None = None
octet None low = None

abbrev pub led_by : Option ℕ → Option (List ℕ) → Option (List ℕ)
led_by (Some o) (Some rest) = Some (o ∷ rest)
led_by (Some o) None = None
led_by None rest = None

-- the octets that a line spells, if it is a list of octets
abbrev pub spelt : List ℕ → Option (List ℕ)
spelt [] = Some []
spelt (c ∷ []) = cond (blank c) (Some []) None
spelt (c ∷ d ∷ rest) = cond (blank c) (spelt (d ∷ rest)) (led_by (octet (digit c) (digit d)) (spelt rest))
