-- What holds of every message, above the definitions that reading and writing cite.
use Rattle.std.specs.Prelude.{◌≡◌, ℕ, ◌≤◌, List, [], ◌∷◌, ◌++◌, length, drop, Ok, Result}
use Rattle.frame.specs.Octets.{octets}
use Rattle.frame.specs.Reading.{Reads, Says}
use Rattle.frame.specs.Rules.{WellFormed}
use Rattle.frame.specs.Values.{Values, stc}
use Rattle.frame.specs.Messages.{values}
use Rattle.frame.specs.Writing.{Writes}
use Rattle.frame.specs.declared.faults.ReadFault.{ReadFault}
use Rattle.frame.specs.declared.faults.WriteFault.{WriteFault}
use Rattle.frame.specs.declared.messages.Message.{Message}

-- the octets of a message that keeps the rules are read, and as that message
abbrev pub WrittenIsRead : Type 0
WrittenIsRead = (v : Values) → WellFormed v → (r : Result Message ReadFault) → Reads (octets v) r → Says r v

-- a message that was read is written again as the octets that it was read from
abbrev pub ReadIsWritten : Type 0
ReadIsWritten =
    (xs : List ℕ) (m : Message) → Reads xs (Ok m) → (before now : List ℕ) (r : Result ℕ WriteFault) → Writes (octets (values m)) before now r
    → length xs ≤ length before
    → (r ≡ Ok (length xs)) × (now ≡ xs ++ drop (length xs) before)

-- every message keeps the rules
abbrev pub MessagesKeepRules : Type 0
MessagesKeepRules = (m : Message) → WellFormed (values m)

-- no message that keeps the rules is longer than a Hello with sixteen addresses in two groups
abbrev pub MessagesAreShort : Type 0
MessagesAreShort = (v : Values) → WellFormed v → length (octets v) ≤ 43

-- the first STC of root 10, where trees are held for 120 seconds
abbrev pub FirstStc : Type 0
FirstStc =
    octets (stc (record { sender = 10; wave = 1; root = 10; cost = 0; parent = 0; vtime = 120; ttl = 32; flags = 0; tree = 0 }))
    ≡ 0x02 ∷ 0x11 ∷ 0x00 ∷ 0x0A ∷ 0x00 ∷ 0x01 ∷ 0x00 ∷ 0x0A ∷ 0x00 ∷ 0x00 ∷ 0x00 ∷ 0x00 ∷ 0x78 ∷ 0x20 ∷ 0x00 ∷ 0x00 ∷ 0x00 ∷ []
