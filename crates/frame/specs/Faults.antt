-- The number of each refusal, and the rules that it says are broken.
use Rattle.std.specs.Prelude.{◌≡◌, ℕ, ◌≤◌}
use Rattle.hello_groups.specs.Groups.{Grouped}
use Rattle.frame.specs.Values.{HelloValues}
use Rattle.frame.specs.declared.faults.ReadFault.{ReadFault}
use Rattle.frame.specs.declared.faults.ReadFault.TheVariants.{Short, UnknownKind, WrongSize, BadField, BadGroup}
use Rattle.frame.specs.declared.faults.WriteFault.{WriteFault}
use Rattle.frame.specs.declared.faults.WriteFault.TheVariants.{OutputTooShort}

abbrev pub read_fault_number : ReadFault → ℕ
read_fault_number Short = 1
read_fault_number UnknownKind = 2
read_fault_number WrongSize = 3
read_fault_number BadField = 4
read_fault_number BadGroup = 5

abbrev pub write_fault_number : WriteFault → ℕ
write_fault_number OutputTooShort = 14

-- the rule of a Hello that a refusal names: that of its fixed fields or that of its groups
abbrev pub BreaksHello : HelloValues → ReadFault → Type 0
BreaksHello h BadField = h.sender ≡ 0
BreaksHello h BadGroup = (1 ≤ h.sender) × (Grouped h.groups → ⊥)
BreaksHello h Short = ⊥
BreaksHello h UnknownKind = ⊥
BreaksHello h WrongSize = ⊥

-- that of a message without groups, where all rules are of fields
abbrev pub BreaksField : Type 0 → ReadFault → Type 0
BreaksField Rules BadField = Rules → ⊥
BreaksField Rules BadGroup = ⊥
BreaksField Rules Short = ⊥
BreaksField Rules UnknownKind = ⊥
BreaksField Rules WrongSize = ⊥
