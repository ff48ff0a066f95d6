-- Worked examples of the two laws.
use Rattle.std.specs.Prelude.{◌≡◌, ℕ, ◌+◌, List, [], ◌∷◌, replicate, Some, None}
use Rattle.field.specs.declared.classes.EnergyClass.{EnergyClass}
use Rattle.field.specs.declared.classes.EnergyClass.TheVariants.{Medium, Low}
use Rattle.record.specs.declared.rows.NeighbourRow.{NeighbourRow}
use Rattle.law.specs.Energy.{energy_measure, energy_extended}
use Rattle.law.specs.Hops.{hop_extended}

-- neighbours of these classes, symmetric at the time, with addresses from a on
abbrev near : ℕ → ℕ → List EnergyClass → List NeighbourRow
near t a [] = []
near t a (class ∷ classes) = record { address = record { 0 = a }; sym_until = t; heard_until = t; class = class; power = 1 } ∷ near t (a + 1) classes

pub record WorkedExamples : Type 0 where
  pub few : energy_measure 16 8 Medium (near 100 1 (Medium ∷ Medium ∷ Low ∷ [])) 100 ≡ 288
  pub many : energy_measure 64 64 Low (near 100 1 (replicate 16 Low)) 100 ≡ 21760
  pub last : energy_extended 65247 288 ≡ Some 65535
  pub beyond : energy_extended 65248 288 ≡ None
  pub hop : hop_extended 567 180 ≡ Some 843
  pub no_hop : (power : ℕ) → hop_extended 65280 power ≡ None
