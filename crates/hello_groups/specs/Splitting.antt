-- Octets taken apart into the addresses of each code, whatever the octets are.
use Rattle.std.specs.Prelude.{ℕ, ◌-◌, ◌%◌, Bool, true, cond, not, ◌&&◌, ◌||◌, List, [], ◌∷◌, length, take, drop, ◌==◌, nat_le}
use Rattle.std.specs.List.{list_any}
use Rattle.field.specs.Wide.{numbers, at}

-- the size of a group: whole addresses, one or more, within the octets at hand
abbrev pub is_size : ℕ → ℕ → Bool
is_size size most = nat_le 4 size && (size % 2 == 0 && nat_le size most)

-- a group of this code stands whole at the front
abbrev pub begins : ℕ → List ℕ → Bool
begins code xs = nat_le 2 (length xs) && (at xs 0 == code && is_size (at xs 1) (length xs))

-- the octets of its addresses, and those behind it
abbrev pub front : ℕ → List ℕ → List ℕ
front code xs = cond (begins code xs) (take (at xs 1 - 2) (drop 2 xs)) []

abbrev pub after : ℕ → List ℕ → List ℕ
after code xs = cond (begins code xs) (drop (at xs 1) xs) xs

-- the octets of the addresses of each code, and those behind both groups
abbrev pub sym_octets : List ℕ → List ℕ
sym_octets xs = front 1 xs

abbrev pub asym_octets : List ℕ → List ℕ
asym_octets xs = front 2 (after 1 xs)

abbrev pub left_over : List ℕ → List ℕ
left_over xs = after 2 (after 1 xs)

-- the addresses of each code, in order
unfoldable pub sym_in : List ℕ → List ℕ
sym_in xs = numbers (sym_octets xs)

unfoldable pub asym_in : List ℕ → List ℕ
asym_in xs = numbers (asym_octets xs)

abbrev pub stands_in : ℕ → List ℕ → Bool
stands_in a xs = list_any (λ x. x == a) xs

-- none of them is 0, stands again further on, or stands among the others
abbrev pub all_new : List ℕ → List ℕ → Bool
all_new [] others = true
all_new (x ∷ xs) others = not (x == 0 || (stands_in x xs || stands_in x others)) && all_new xs others
