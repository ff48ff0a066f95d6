-- Fields that hold an address, or 0 for none.
use Rattle.std.specs.Prelude.{ℕ, cond, Some, None, Option, ◌==◌}
use Rattle.field.specs.declared.numbers.Address.{Address}

abbrev pub address_of : ℕ → Option Address
address_of n = cond (n == 0) None (Some (record { 0 = n }))

abbrev pub number_or_0 : Option Address → ℕ
number_or_0 (Some a) = a.0
number_or_0 None = 0
