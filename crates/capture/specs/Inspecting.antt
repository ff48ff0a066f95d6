-- What a line is shown as.
use Rattle.std.specs.Prelude.{◌≡◌, ℕ, ⊤, List, ◌++◌, String, Some, None, Ok, Err, Result, string_bytes, codes, IsSome}
use Rattle.std.specs.Global.{Global}
use Rattle.frame.specs.Reading.{Reads}
use Rattle.frame.specs.declared.messages.Message.{Message}
use Rattle.capture.specs.Hexadecimal.{spelt}
use Rattle.capture.specs.Refusals.{refusal_number, fault_text}
use Rattle.message_text.specs.Texts.{message_text}
use Rattle.capture.specs.declared.faults.LineFault.{LineFault}
use Rattle.capture.specs.declared.faults.LineFault.TheVariants.{NoMemory, NoOctets, NoMessage, NoRecord}

-- a line whose octets are a message; one that is no list of octets; one whose octets are refused
abbrev pub Inspects : List ℕ → Result (String Global) LineFault → Type 0
Inspects line (Ok text) =
    (xs : List ℕ) × (m : Message) × (spelt line ≡ Some xs) × Reads xs (Ok m) × (string_bytes text ≡ message_text m ++ codes " rewritten=same")
Inspects line (Err NoOctets) = spelt line ≡ None
Inspects line (Err (NoMessage f)) = (xs : List ℕ) × (spelt line ≡ Some xs) × Reads xs (Err f)
Inspects line (Err (NoRecord f)) = ⊥
Inspects line (Err (NoMemory e)) = ⊤

-- the text, or what is printed of the fault
abbrev pub shown_text : Result (String Global) LineFault → List ℕ
shown_text (Ok text) = string_bytes text
shown_text (Err fault) = fault_text fault

-- the text, or the refusal; want of memory is neither
abbrev pub Shows : Result (String Global) LineFault → List ℕ → Type 0
Shows (Ok text) shown = shown ≡ string_bytes text
Shows (Err fault) shown = IsSome (refusal_number fault) × (shown ≡ fault_text fault)
