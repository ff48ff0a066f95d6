-- What the symmetric neighbours weigh is bounded, since they are few.
use Rattle.std.proofs.Common.{ℕ, ◌*◌, ◌≤◌, List, length, get_or, filter, arith}
use Rattle.std.proofs.lemmas.List.Sums.{sum_by-le, length-filter, count_by-le-length}
use Rattle.field.specs.declared.classes.EnergyClass.{EnergyClass}
use Rattle.field.specs.declared.classes.EnergyClass.TheVariants.{High, Medium, Low}
use Rattle.record.specs.Symmetry.{symmetric}
use Rattle.record.specs.declared.rows.NeighbourRow.{NeighbourRow}
use Rattle.table.proofs.Laws.{rows_few}
use Rattle.table.specs.Rows.{rows}
use Rattle.table.specs.declared.tables.Table.{Table}
use Rattle.law.specs.Energy.{weight, weight_around}

pub weight_few : (class : EnergyClass) → weight class ≤ 20
weight_few High = omega arith
weight_few Medium = omega arith
weight_few Low = omega arith

pub around_few : (near : List NeighbourRow) (t : ℕ) → weight_around near t ≤ 20 * length near
around_few near t =
    let some = filter (symmetric t) near in
    let few = sum_by-le (λ (row : NeighbourRow). weight row.class) 20 some (λ k d lt. weight_few (get_or some k d).class) in
    omega (arith, few, length-filter (symmetric t) near, count_by-le-length (symmetric t) near)

-- a table has sixteen rows at most
pub around_table : (near : Table NeighbourRow 16) (t : ℕ) → weight_around (rows near) t ≤ 320
around_table near t = omega (arith, around_few (rows near) t, rows_few near)
