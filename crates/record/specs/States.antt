-- What a record holds.
use Rattle.std.specs.Prelude.{ℕ, List}
use Rattle.field.specs.declared.classes.EnergyClass.{EnergyClass}
use Rattle.record.specs.declared.rows.NeighbourRow.{NeighbourRow}
use Rattle.record.specs.declared.rows.TreeRow.{TreeRow}

pub record State : Type 0 where
  pub address : ℕ
  pub class : EnergyClass
  pub number : ℕ
  pub latest : ℕ
  pub neighbours : List NeighbourRow
  pub trees : List TreeRow
