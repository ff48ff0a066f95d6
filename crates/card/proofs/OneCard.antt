-- A card has one record, and is short.
use Rattle.std.proofs.Common.{◌≡◌, ◌+◌, ◌*◌, Bool, true, ◌&&◌, ltb, leb, List, [], ◌∷◌, ◌++◌, length, drop, Ok, Err, refl, ap, ◌∙◌, arith, length-append}
use Rattle.std.proofs.lemmas.Bool.{and_parts, and_from}
use Rattle.field.proofs.Fields.{one_class}
use Rattle.field.specs.Wide.{at, wide_at, long_at}
use Rattle.table.proofs.Laws.{rows_few}
use Rattle.std.specs.List.{list_all}
use Rattle.table.specs.Keys.{apart}
use Rattle.record.specs.Lawful.{lawful_tree, named, tree_key, last_until}
use Rattle.record.specs.Records.{state}
use Rattle.record.specs.States.{State}
use Rattle.record.specs.declared.faults.RecordFault.TheVariants.{Unlawful}
use Rattle.record.specs.declared.records.Record.{Record}
use Rattle.record.specs.declared.rows.NeighbourRow.{NeighbourRow}
use Rattle.record.specs.declared.rows.TreeRow.{TreeRow}
use Rattle.frame.specs.declared.faults.WriteFault.TheVariants.{OutputTooShort}
use Rattle.card.specs.Cards.{WrittenIsRead, ReadIsWritten, CardsAreShort}
use Rattle.card.specs.Octets.{card, joined, neighbour_octets, tree_octets}
use Rattle.card.proofs.Joined.{joined_length, joined_one, joined_split}
use Rattle.card.proofs.RowOctets.{one_neighbour, one_tree}

-- parents are written as they are
abbrev pub plain : TreeRow → Bool
plain row = named row.parent

lawful_plain : (row : TreeRow) → lawful_tree row ≡ true → plain row ≡ true
lawful_plain row h =
    let both = and_parts ((ltb 0 row.root.0 && ltb 0 row.wave.0) && (plain row && leb row.valid_until last_until)) _ h in
    (and_parts (plain row) (leb row.valid_until last_until) (and_parts (ltb 0 row.root.0 && ltb 0 row.wave.0) _ both.0).1).0

every_plain : (rows : List TreeRow) → list_all lawful_tree rows ≡ true → list_all plain rows ≡ true
every_plain [] h = refl
every_plain (row ∷ rows) h =
    let both = and_parts (lawful_tree row) (list_all lawful_tree rows) h in
    and_from (plain row) (list_all plain rows) (lawful_plain row both.0) (every_plain rows both.1)

pub record_plain : (r : Record) → list_all plain (state r).trees ≡ true
record_plain r = every_plain (state r).trees (and_parts (list_all lawful_tree (state r).trees) (apart tree_key (state r).trees) r.trees_lawful).0

pub neighbours_length : (rows : List NeighbourRow) → length (joined neighbour_octets rows) ≡ length rows * 12
neighbours_length = joined_length neighbour_octets 12 (λ x. refl)

pub trees_length : (rows : List TreeRow) → length (joined tree_octets rows) ≡ length rows * 17
trees_length = joined_length tree_octets 17 (λ x. refl)

pub card_length : (s : State) → length (card s) ≡ 10 + length s.neighbours * 12 + length s.trees * 17
card_length s =
    omega (arith, length-append (joined neighbour_octets s.neighbours) (joined tree_octets s.trees), neighbours_length s.neighbours, trees_length s.trees)

every_row : (rows : List NeighbourRow) → list_all (λ _. true) rows ≡ true
every_row [] = refl
every_row (row ∷ rows) = every_row rows

-- the rows of a card, where there are as many neighbours
one_rows : (s t : State) → length s.neighbours ≡ length t.neighbours → list_all plain s.trees ≡ true → list_all plain t.trees ≡ true → joined neighbour_octets s.neighbours ++ joined tree_octets s.trees ≡ joined neighbour_octets t.neighbours ++ joined tree_octets t.trees → (s.neighbours ≡ t.neighbours) × (s.trees ≡ t.trees)
one_rows s t n ps pt e =
    let parts = joined_split neighbour_octets 12 (λ x. refl) s.neighbours t.neighbours _ _ n e in
    (joined_one neighbour_octets 12 (λ x. refl) (λ _. true) (λ x y p q. one_neighbour x y) (omega arith) s.neighbours t.neighbours (every_row s.neighbours) (every_row t.neighbours) parts.0, joined_one tree_octets 17 (λ x. refl) plain one_tree (omega arith) s.trees t.trees ps pt parts.1)

pub one_card : (s t : State) → list_all plain s.trees ≡ true → list_all plain t.trees ≡ true → card s ≡ card t → s ≡ t
one_card s t ps pt e =
    let a : s.address ≡ t.address = omega (arith, ap (λ l. wide_at l 0) e) in
    let c : s.class ≡ t.class = one_class s.class t.class (ap (λ l. at l 2) e) in
    let n : s.number ≡ t.number = ap (λ l. at l 3) e in
    let l : s.latest ≡ t.latest = omega (arith, ap (λ l. long_at l 4) e) in
    let rows = one_rows s t (ap (λ l. at l 8) e) ps pt (ap (drop 10) e) in
    let near = rows.0 in
    let trees = rows.1 in
    let all : ◌≡◌ {A = State} (record { address = s.address; class = s.class; number = s.number; latest = s.latest; neighbours = s.neighbours; trees = s.trees }) (record { address = t.address; class = t.class; number = t.number; latest = t.latest; neighbours = t.neighbours; trees = t.trees }) = cc in
    all

pub written_is_read : WrittenIsRead
written_is_read r (Ok s) reads = (s, refl, one_card (state s) (state r) (record_plain s) (record_plain r) reads)
written_is_read r (Err Unlawful) reads = absurd (reads r refl)

pub cards_are_short : CardsAreShort
cards_are_short r = omega (arith, card_length (state r), rows_few r.neighbours, rows_few r.trees)

pub read_is_written : ReadIsWritten
read_is_written xs r reads before now (Ok n) writes fits = (ap Ok (writes.0 ∙ ap length reads), writes.2 ∙ ap (λ l. l ++ drop (length l) before) reads)
read_is_written xs r reads before now (Err OutputTooShort) writes fits = absurd (omega (arith, writes.0, ap length reads))
