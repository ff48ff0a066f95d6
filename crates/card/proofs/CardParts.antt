-- Head and rows of a card.
use Rattle.std.proofs.Common.{◌≡◌, ℕ, true, List, [], ◌∷◌, ◌++◌, ◌+◌, ◌*◌, ◌<◌, length, take, drop, Ok, Err, Result, sym, refl, ap, ◌∙◌, subst, ap₂, arith, take-append-drop, length-take-le, length-append}
use Rattle.std.proofs.lemmas.List.{drop_at, drop_all, append-nil, nil_from_length, get_or_append_left}
use Rattle.field.specs.Codes.{class_code}
use Rattle.field.specs.Wide.{at, wide, wide_at, long, long_at}
use Rattle.field.proofs.Wides.{Octets, octets_take, by_places, wide_places, long_places}
use Rattle.std.specs.List.{list_all}
use Rattle.record.specs.Lawful.{Lawful}
use Rattle.record.specs.Records.{state, MakesRecord}
use Rattle.record.specs.States.{State}
use Rattle.record.specs.declared.faults.RecordFault.{RecordFault}
use Rattle.record.specs.declared.faults.RecordFault.TheVariants.{Unlawful}
use Rattle.record.specs.declared.records.Record.{Record}
use Rattle.record.specs.declared.rows.NeighbourRow.{NeighbourRow}
use Rattle.record.specs.declared.rows.TreeRow.{TreeRow}
use Rattle.card.specs.Cards.{ReadsCard}
use Rattle.card.specs.Octets.{card, joined, BeginsWith, neighbour_octets, tree_octets}
use Rattle.card.proofs.Joined.{joined_split}
use Rattle.card.proofs.OneCard.{one_card, plain, record_plain, card_length, neighbours_length, trees_length}

-- the first ten octets, and what is behind them
abbrev pub Cut : List ℕ → List ℕ → List ℕ → Type 0
Cut xs head rest = (head ≡ take 10 xs) × (rest ≡ drop 10 xs) × (length rest + 10 ≡ length xs)

module _ (xs head rest : List ℕ) (cut : Cut xs head rest) where
  ten : length head ≡ 10
  ten = ap length cut.0 ∙ length-take-le 10 xs (omega arith)

  whole : xs ≡ head ++ rest
  whole = sym (take-append-drop 10 xs) ∙ ap₂ (λ h l. h ++ l) (sym cut.0) (sym cut.1)

  -- ---- behind as many neighbours as the head of a card says stand its trees, and nothing more

  pub trees_stand : (s : State) → card s ≡ xs → (near : List NeighbourRow) (left : List ℕ) → BeginsWith neighbour_octets rest (at head 8) near left → BeginsWith tree_octets left (at head 9) s.trees []
  trees_stand s e near left begins =
      let same = e ∙ whole in
      let at_head : (i : ℕ) → i < 10 → at (card s) i ≡ at head i = λ i lt. ap (λ l. at l i) same ∙ get_or_append_left head rest 0 i (let n = ten in omega arith) in
      let both = ap (drop 10) same ∙ drop_at head rest 10 ten ∙ sym begins.0 in
      let split = joined_split neighbour_octets 12 (λ x. refl) s.neighbours near (joined tree_octets s.trees) left (at_head 8 (omega arith) ∙ sym begins.1) both in
      (append-nil (joined tree_octets s.trees) ∙ split.1, at_head 9 (omega arith))

  -- ---- so the head says how many octets its rows take

  pub rows_size : (s : State) → card s ≡ xs → length rest ≡ at head 8 * 12 + at head 9 * 17
  rows_size s e =
      let same = e ∙ whole in
      let at_head : (i : ℕ) → i < 10 → at (card s) i ≡ at head i = λ i lt. ap (λ l. at l i) same ∙ get_or_append_left head rest 0 i (let n = ten in omega arith) in
      omega (arith, card_length s, ap length e, cut.2, at_head 8 (omega arith), at_head 9 (omega arith))

  -- and nothing stands behind the rows
  pub none_left : (near : List NeighbourRow) (far : List TreeRow) (left more : List ℕ) → BeginsWith neighbour_octets rest (at head 8) near left → BeginsWith tree_octets left (at head 9) far more → length rest ≡ at head 8 * 12 + at head 9 * 17 → more ≡ []
  none_left near far left more a b size =
      nil_from_length more
      (omega (arith, ap length a.0, a.1, ap length b.0, b.1, size, length-append (joined neighbour_octets near) left, length-append (joined tree_octets far) more, neighbours_length near, trees_length far))

  -- ---- a record whose fields stand at their places has that card

  pub card_is : Octets xs → (s : State) → s.address ≡ wide_at head 0 → class_code s.class ≡ at head 2 → s.number ≡ at head 3 → s.latest ≡ long_at head 4 → (left : List ℕ) → BeginsWith neighbour_octets rest (at head 8) s.neighbours left → BeginsWith tree_octets left (at head 9) s.trees [] → card s ≡ xs
  card_is octets s a c n l left near far =
      let fit : Octets head = subst Octets (sym cut.0) (octets_take 10 xs octets) in
      let size = ten in
      let rows : joined neighbour_octets s.neighbours ++ joined tree_octets s.trees ≡ rest = ap (λ q. joined neighbour_octets s.neighbours ++ q) (sym (append-nil (joined tree_octets s.trees)) ∙ far.0) ∙ near.0 in
      let near_many = near.1 in
      let far_many = far.1 in
      let fields : card s ≡ wide (wide_at head 0) (at head 2 ∷ at head 3 ∷ long (long_at head 4) (at head 8 ∷ at head 9 ∷ rest)) = cc in
      let last : rest ≡ drop 10 head ++ rest = ap (λ q. q ++ rest) (sym (drop_all 10 head (omega arith))) in
      fields
      ∙ wide_places head fit 0 _ (ap (λ q. at head 2 ∷ at head 3 ∷ q) (long_places head fit 4 _ (ap (λ q. at head 8 ∷ at head 9 ∷ q) last)))
      ∙ sym (ap (λ q. q ++ rest) (by_places 10 0 head (omega arith)))
      ∙ sym whole

-- ---- so making the record decides reading

pub reads_made : (xs : List ℕ) (s : State) → card s ≡ xs → list_all plain s.trees ≡ true → (a : Result Record RecordFault) → MakesRecord s a → ReadsCard xs a
reads_made xs s e p (Ok r) made = ap card made.0 ∙ e
reads_made xs s e p (Err Unlawful) made = λ r q. made (subst Lawful (one_card (state r) s (record_plain r) p (q ∙ sym e)) (lawful r)) where
  lawful : (r : Record) → Lawful (state r)
  lawful r = record { address = r.address_from; latest = r.latest_to; neighbours = r.neighbours_lawful; trees = r.trees_lawful }
