-- A record brought to a time.
use Rattle.std.specs.Prelude.{◌≡◌, ℕ, Bool, true, false, cond, not, ◌&&◌, ◌||◌, List, map, Some, None, Ok, Err, filter, Option, Result, ◌==◌, nat_le, nat_lt}
use Rattle.field.specs.declared.numbers.Address.{Address}
use Rattle.record.specs.Lawful.{last_time}
use Rattle.record.specs.States.{State}
use Rattle.record.specs.Symmetry.{linked}
use Rattle.record.specs.declared.faults.TimeFault.{TimeFault}
use Rattle.record.specs.declared.faults.TimeFault.TheVariants.{OutOfRange}
use Rattle.record.specs.declared.rows.NeighbourRow.{NeighbourRow}
use Rattle.record.specs.declared.rows.TreeRow.{TreeRow}

-- a time at which a record of the latest time may be called
abbrev pub timely : ℕ → ℕ → Bool
timely t latest = (nat_le 1 t && nat_le t last_time) && nat_le latest t

abbrev pub heard : ℕ → NeighbourRow → Bool
heard t row = nat_le t row.heard_until

-- there is a parent, and it is a symmetric neighbour
abbrev pub held : List NeighbourRow → ℕ → Option Address → Bool
held near t (Some a) = linked near t a.0
held near t None = false

-- the row of another root that is past, or whose parent is not symmetric
abbrev pub lapses : ℕ → List NeighbourRow → ℕ → TreeRow → Bool
lapses own near t row = not (row.root.0 == own) && (nat_lt row.valid_until t || not (held near t row.parent))

-- without parent, owing nothing; wave, cost and the rest remain
abbrev pub orphan : TreeRow → TreeRow
orphan row = record {
  root = row.root;
  wave = row.wave;
  cost = row.cost;
  parent = None;
  valid_until = row.valid_until;
  ttl = row.ttl;
  flags = row.flags;
  tree = row.tree;
  owed = false;
}

abbrev pub lapsed : ℕ → List NeighbourRow → ℕ → TreeRow → TreeRow
lapsed own near t row = cond (lapses own near t row) (orphan row) row

-- the neighbours still heard, and the trees by what they then hold on to
abbrev pub settled : ℕ → State → State
settled t s = record {
  address = s.address;
  class = s.class;
  number = s.number;
  latest = t;
  neighbours = filter (heard t) s.neighbours;
  trees = map (lapsed s.address (filter (heard t) s.neighbours) t) s.trees;
}

-- what a call that settles a record answers, and leaves
abbrev pub Settles : ℕ → State → State → Result (Unit {0}) TimeFault → Type 0
Settles t before after (Ok done) = (timely t before.latest ≡ true) × (after ≡ settled t before)
Settles t before after (Err OutOfRange) = (timely t before.latest ≡ false) × (after ≡ before)

-- settling twice at one time is settling once
abbrev pub SettlingAgain : Type 0
SettlingAgain = (t : ℕ) (s : State) → settled t (settled t s) ≡ settled t s
