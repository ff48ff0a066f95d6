-- Which numbers are costs.
use Rattle.std.specs.Prelude.{ℕ, cond, Some, None, Option, nat_le}

-- no other definition says how wide a cost is
abbrev pub greatest_cost : ℕ
greatest_cost = 65535

-- the number, where it is a cost
abbrev pub as_cost : ℕ → Option ℕ
as_cost n = cond (nat_le n greatest_cost) (Some n) None
