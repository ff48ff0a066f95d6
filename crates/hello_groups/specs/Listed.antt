-- The addresses that a Hello lists.
use Rattle.std.specs.Prelude.{ℕ, List}
use Rattle.field.specs.declared.links.LinkCode.{LinkCode}
use Rattle.field.specs.declared.links.LinkCode.TheVariants.{Sym, Asym}
use Rattle.hello_groups.specs.Splitting.{sym_in, asym_in}
use Rattle.field.specs.Wide.{numbers}
use Rattle.hello_groups.specs.declared.addresses.Addresses.{Addresses}

abbrev pub listed_as : LinkCode → List ℕ → List ℕ
listed_as Sym groups = sym_in groups
listed_as Asym groups = asym_in groups

-- those that are still to come
abbrev pub addresses : Addresses → List ℕ
addresses s = numbers s.octets.now
