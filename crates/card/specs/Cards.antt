-- What reading octets as a card answers, and what holds of every card.
use Rattle.std.specs.Prelude.{◌≡◌, ℕ, ◌≤◌, List, ◌++◌, length, drop, Ok, Err, Result, ◌≢◌}
use Rattle.frame.specs.Writing.{Writes}
use Rattle.frame.specs.declared.faults.WriteFault.{WriteFault}
use Rattle.record.specs.Records.{state}
use Rattle.record.specs.declared.faults.RecordFault.{RecordFault}
use Rattle.record.specs.declared.faults.RecordFault.TheVariants.{Unlawful}
use Rattle.record.specs.declared.records.Record.{Record}
use Rattle.card.specs.Octets.{card}

-- the record whose card the octets are, or there is none
abbrev pub ReadsCard : List ℕ → Result Record RecordFault → Type 0
ReadsCard xs (Ok r) = card (state r) ≡ xs
ReadsCard xs (Err Unlawful) = (r : Record) → card (state r) ≢ xs

-- the card of a record is read, and as that record
abbrev pub WrittenIsRead : Type 0
WrittenIsRead =
    (r : Record) (a : Result Record RecordFault) → ReadsCard (card (state r)) a → (s : Record) × (a ≡ Ok s) × (state s ≡ state r)

-- a record that was read is written again as the octets that it was read from
abbrev pub ReadIsWritten : Type 0
ReadIsWritten =
    (xs : List ℕ) (r : Record) → ReadsCard xs (Ok r) → (before now : List ℕ) (a : Result ℕ WriteFault) → Writes (card (state r)) before now a
    → length xs ≤ length before
    → (a ≡ Ok (length xs)) × (now ≡ xs ++ drop (length xs) before)

-- no card is longer than that of sixteen neighbours and four trees
abbrev pub CardsAreShort : Type 0
CardsAreShort = (r : Record) → length (card (state r)) ≤ 270
