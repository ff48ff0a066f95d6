-- The energy law: a link is dear at a node that is low on energy, and where many such neighbours must listen too.
use Rattle.std.specs.Prelude.{ℕ, ◌+◌, ◌*◌, List, sum_by, filter, Option}
use Rattle.field.specs.declared.classes.EnergyClass.{EnergyClass}
use Rattle.field.specs.declared.classes.EnergyClass.TheVariants.{High, Medium, Low}
use Rattle.record.specs.Symmetry.{symmetric}
use Rattle.record.specs.declared.rows.NeighbourRow.{NeighbourRow}
use Rattle.law.specs.Costs.{as_cost}

abbrev pub weight : EnergyClass → ℕ
weight High = 1
weight Medium = 4
weight Low = 20

-- what the symmetric neighbours weigh together
abbrev pub weight_around : List NeighbourRow → ℕ → ℕ
weight_around near t = sum_by (λ row. weight row.class) (filter (symmetric t) near)

abbrev pub energy_measure : (lambda beta : ℕ) → EnergyClass → List NeighbourRow → ℕ → ℕ
energy_measure lambda beta class near t = lambda * weight class + beta * weight_around near t

abbrev pub energy_extended : ℕ → ℕ → Option ℕ
energy_extended c m = as_cost (c + m)
