-- Fields of two and of four octets, the high octet first.
use Rattle.std.specs.Prelude.{ℕ, ◌+◌, ◌*◌, ◌/◌, ◌%◌, List, [], ◌∷◌, slice_index}

-- the octets of a number, and what follows them
abbrev pub wide : ℕ → List ℕ → List ℕ
wide n rest = (n / 256) ∷ (n % 256) ∷ rest

-- the four octets of a number
abbrev pub long : ℕ → List ℕ → List ℕ
long n rest = wide (n / 65536) (wide (n % 65536) rest)

-- the octets of numbers one after the other
abbrev pub wides : List ℕ → List ℕ
wides [] = []
wides (n ∷ ns) = wide n (wides ns)

-- the octet at a place
abbrev pub at : List ℕ → ℕ → ℕ
at xs i = slice_index xs i

-- the number whose octets stand from a place on
abbrev pub wide_at : List ℕ → ℕ → ℕ
wide_at xs i = at xs i * 256 + at xs (i + 1)

abbrev pub long_at : List ℕ → ℕ → ℕ
long_at xs i = wide_at xs i * 65536 + wide_at xs (i + 2)

-- the numbers that octets hold, two octets each
abbrev pub numbers : List ℕ → List ℕ
numbers [] = []
numbers (high ∷ []) = []
numbers (high ∷ low ∷ rest) = (high * 256 + low) ∷ numbers rest
