-- Settings are their numbers, within the limits.
use Rattle.std.specs.Prelude.{◌≡◌, Ok, Err, Result}
use Rattle.record.specs.Tuning.{law_number, InRange}
use Rattle.record.specs.declared.faults.SettingsFault.{SettingsFault}
use Rattle.record.specs.declared.faults.SettingsFault.TheVariants.{OutOfRange}
use Rattle.record.specs.declared.limits.Settings.{Settings}
use Rattle.record.specs.declared.tuning.SettingsNumbers.{SettingsNumbers}

abbrev pub numbers : Settings → SettingsNumbers
numbers s = record {
  law = law_number s.law;
  lambda = s.lambda;
  beta = s.beta;
  low = s.low;
  high = s.high;
  neigh_hold = s.neigh_hold;
  tree_hold = s.tree_hold;
  energy_low = s.energy_low;
  energy_high = s.energy_high;
}

abbrev pub MakesSettings : SettingsNumbers → Result Settings SettingsFault → Type 0
MakesSettings n (Ok s) = (numbers s ≡ n) × InRange n
MakesSettings n (Err OutOfRange) = InRange n → ⊥
