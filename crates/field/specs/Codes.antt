-- The octet that stands for each case.
use Rattle.std.specs.Prelude.{ℕ, ◌≤◌}
use Rattle.field.specs.declared.classes.EnergyClass.{EnergyClass}
use Rattle.field.specs.declared.classes.EnergyClass.TheVariants.{High, Medium, Low}
use Rattle.field.specs.declared.kinds.Kind.{Kind}
use Rattle.field.specs.declared.kinds.Kind.TheVariants as kind
use Rattle.field.specs.declared.links.LinkCode.{LinkCode}
use Rattle.field.specs.declared.links.LinkCode.TheVariants.{Sym, Asym}

abbrev pub class_code : EnergyClass → ℕ
class_code High = 1
class_code Medium = 2
class_code Low = 3

abbrev pub IsClass : ℕ → Type 0
IsClass code = (1 ≤ code) × (code ≤ 3)

abbrev pub kind_code : Kind → ℕ
kind_code kind.Hello = 1
kind_code kind.Stc = 2
kind_code kind.TreeStatus = 3

abbrev pub IsKind : ℕ → Type 0
IsKind code = (1 ≤ code) × (code ≤ 3)

abbrev pub link_code : LinkCode → ℕ
link_code Sym = 1
link_code Asym = 2
