-- The numbers that a node is set to, and their limits.
use Rattle.std.specs.Prelude.{ℕ, ◌<◌, ◌≤◌}
use Rattle.record.specs.declared.tuning.LawNumber.{LawNumber}
use Rattle.record.specs.declared.tuning.LawNumber.TheVariants.{Energy, Hops}
use Rattle.record.specs.declared.tuning.SettingsNumbers.{SettingsNumbers}

abbrev pub law_number : LawNumber → ℕ
law_number Energy = 1
law_number Hops = 2

abbrev pub IsLaw : ℕ → Type 0
IsLaw n = (1 ≤ n) × (n ≤ 2)

pub record InRange (n : SettingsNumbers) : Type 0 where
  pub law : IsLaw n.law
  pub lambda : (2 ≤ n.lambda) × (n.lambda ≤ 64)
  pub beta : (1 ≤ n.beta) × (n.beta ≤ 64)
  pub low : 1 ≤ n.low
  pub low_less : n.low < n.high
  pub high : n.high ≤ 255
  pub neigh_hold : (1 ≤ n.neigh_hold) × (n.neigh_hold ≤ 255)
  pub tree_hold : (1 ≤ n.tree_hold) × (n.tree_hold ≤ 255)
  pub energy_less : n.energy_low < n.energy_high
  pub energy : n.energy_high ≤ 1000
