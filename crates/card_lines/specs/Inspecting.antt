-- What a line is shown as.
use Rattle.std.specs.Prelude.{◌≡◌, ℕ, ⊤, Bool, true, false, List, ◌++◌, take, drop, String, Some, None, Ok, Err, Result, string_bytes, codes, bytes_eq}
use Rattle.std.specs.Global.{Global}
use Rattle.card.specs.Cards.{ReadsCard}
use Rattle.capture.specs.Hexadecimal.{spelt}
use Rattle.capture.specs.Inspecting.{Inspects}
use Rattle.capture.specs.declared.faults.LineFault.{LineFault}
use Rattle.capture.specs.declared.faults.LineFault.TheVariants.{NoMemory, NoOctets, NoMessage, NoRecord}
use Rattle.record.specs.Records.{state}
use Rattle.record.specs.declared.records.Record.{Record}
use Rattle.record_text.specs.Texts.{record_text}

abbrev pub begins_card : List ℕ → Bool
begins_card line = bytes_eq (take 4 line) (codes "card")

-- a line whose octets are a card; one that is no list of octets; one whose octets are refused
abbrev pub InspectsCard : List ℕ → Result (String Global) LineFault → Type 0
InspectsCard line (Ok text) =
    (xs : List ℕ) × (r : Record) × (spelt line ≡ Some xs) × ReadsCard xs (Ok r) × (string_bytes text ≡ record_text (state r) ++ codes " rewritten=same")
InspectsCard line (Err NoOctets) = spelt line ≡ None
InspectsCard line (Err (NoRecord f)) = (xs : List ℕ) × (spelt line ≡ Some xs) × ReadsCard xs (Err f)
InspectsCard line (Err (NoMessage f)) = ⊥
InspectsCard line (Err (NoMemory e)) = ⊤

abbrev pub InspectsBy : Bool → List ℕ → Result (String Global) LineFault → Type 0
InspectsBy true line shown = InspectsCard (drop 4 line) shown
InspectsBy false line shown = Inspects line shown

-- a card behind its four letters, or a message
abbrev pub InspectsAny : List ℕ → Result (String Global) LineFault → Type 0
InspectsAny line shown = InspectsBy (begins_card line) line shown
