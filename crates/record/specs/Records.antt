-- A record means what it holds.
use Rattle.std.specs.Prelude.{◌≡◌, Ok, Err, Result}
use Rattle.table.specs.Rows.{rows}
use Rattle.record.specs.Lawful.{Lawful}
use Rattle.record.specs.States.{State}
use Rattle.record.specs.declared.faults.RecordFault.{RecordFault}
use Rattle.record.specs.declared.faults.RecordFault.TheVariants.{Unlawful}
use Rattle.record.specs.declared.records.Record.{Record}

abbrev pub state : Record → State
state r = record {
  address = r.address.0;
  class = r.class;
  number = r.number;
  latest = r.latest;
  neighbours = rows r.neighbours;
  trees = rows r.trees;
}

abbrev pub MakesRecord : State → Result Record RecordFault → Type 0
MakesRecord s (Ok r) = (state r ≡ s) × Lawful s
MakesRecord s (Err Unlawful) = Lawful s → ⊥

abbrev pub RecordsAreLawful : Type 0
RecordsAreLawful = (r : Record) → Lawful (state r)
