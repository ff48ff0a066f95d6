-- The number of each refusal.
use Rattle.std.specs.Prelude.{ℕ}
use Rattle.record.specs.declared.faults.RecordFault.{RecordFault}
use Rattle.record.specs.declared.faults.RecordFault.TheVariants.{Unlawful}
use Rattle.record.specs.declared.faults.SettingsFault.{SettingsFault}
use Rattle.record.specs.declared.faults.SettingsFault.TheVariants as settings
use Rattle.record.specs.declared.faults.TimeFault.{TimeFault}
use Rattle.record.specs.declared.faults.TimeFault.TheVariants as time

abbrev pub record_fault_number : RecordFault → ℕ
record_fault_number Unlawful = 6

abbrev pub settings_fault_number : SettingsFault → ℕ
settings_fault_number settings.OutOfRange = 7

abbrev pub time_fault_number : TimeFault → ℕ
time_fault_number time.OutOfRange = 8
