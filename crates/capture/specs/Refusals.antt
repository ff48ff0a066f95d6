-- The number of each refusal, and what is printed of it.
use Rattle.std.specs.Prelude.{ℕ, List, ◌++◌, Some, None, codes, decimal, Option}
use Rattle.frame.specs.Faults.{read_fault_number}
use Rattle.record.specs.Faults.{record_fault_number}
use Rattle.capture.specs.declared.faults.LineFault.{LineFault}
use Rattle.capture.specs.declared.faults.LineFault.TheVariants.{NoMemory, NoOctets, NoMessage, NoRecord}

-- want of memory refuses nothing
abbrev pub refusal_number : LineFault → Option ℕ
refusal_number (NoMemory e) = None
refusal_number NoOctets = Some 0
refusal_number (NoMessage f) = Some (read_fault_number f)
refusal_number (NoRecord f) = Some (record_fault_number f)

abbrev pub numbered_text : Option ℕ → List ℕ
numbered_text (Some n) = codes "? " ++ decimal n
numbered_text None = codes "no memory"

abbrev pub fault_text : LineFault → List ℕ
fault_text fault = numbered_text (refusal_number fault)
