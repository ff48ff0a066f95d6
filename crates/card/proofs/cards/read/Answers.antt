use Rattle.std.proofs.Common.{◌≡◌, ℕ, [], List, Ok, Err, Result, refl, arith, rules}
use Rattle.std.specs.Prelude.{◌≢◌}
use Rattle.std.specs.Result.{IsErr}
use Rattle.field.specs.Codes.{class_code}
use Rattle.field.specs.Wide.{at, long_at}
use Rattle.table.proofs.Laws.{rows_few}
use Rattle.table.specs.Rows.{rows}
use Rattle.record.specs.Records.{state}
use Rattle.record.specs.States.{State}
use Rattle.record.specs.declared.faults.RecordFault.{RecordFault}
use Rattle.record.specs.declared.faults.RecordFault.TheVariants.{Unlawful}
use Rattle.record.specs.declared.records.Record.{Record}
use Rattle.card.specs.Cards.{ReadsCard}
use Rattle.card.specs.Octets.{BeginsWith, card, tree_octets}
use Rattle.card.proofs.CardParts.{Cut, rows_size, trees_stand, none_left, card_is, reads_made}
use Rattle.card.proofs.cards.read.Goals as goal

refuses : (xs : List ℕ) (a : Result Record RecordFault) → IsErr a → ((r : Record) → card (state r) ≢ xs) → ReadsCard xs a
refuses xs (Ok r) e none = absurd cc
refuses xs (Err Unlawful) e none = none

pub returns-then-rows-behind : goal.returns-then-rows-behind
returns-then-rows-behind c r e =
    let cut : Cut c.args.octets.now c.in_ok-head.head.now c.in_ok-head.rows.now = rw c.in_ok-head.ensures.ok_part at c.split_first_chunk.ensures.cases in
    c.if-rows-behind.true (omega (arith, rows_size c.args.octets.now c.in_ok-head.head.now c.in_ok-head.rows.now cut (state r) e, c.from-behind.ensures, c.from.ensures))

pub returns-in_err-ok_or : goal.returns-in_err-ok_or
returns-in_err-ok_or c =
    let cut : Cut c.args.octets.now c.in_ok-head.head.now c.in_ok-head.rows.now = rw c.in_ok-head.ensures.ok_part at c.split_first_chunk.ensures.cases in
    let near = rw c.in_ok-left.ensures.ok_part at c.read_rows.ensures in
    let far = rw c.in_err-ok_or.ensures.ok_part at c.read_rows-2.ensures in
    refuses c.args.octets.now c.from_residual-in_err-ok_or.result c.from_residual-in_err-ok_or.ensures.0
    (λ r e. far (state r).trees [] (rows_few r.trees) (trees_stand c.args.octets.now c.in_ok-head.head.now c.in_ok-head.rows.now cut (state r) e (rows c.read_rows.new.all) c.in_ok-left.left.now near.0))

pub returns : goal.returns
returns c =
    let xs = c.args.octets.now in
    let head = c.in_ok-head.head.now in
    let behind = c.in_ok-head.rows.now in
    let cut : Cut xs head behind = rw c.in_ok-head.ensures.ok_part at c.split_first_chunk.ensures.cases in
    let near = rw c.in_ok-left.ensures.ok_part at c.read_rows.ensures in
    let far = rw c.in_ok-ok_or.ensures.ok_part at c.read_rows-2.ensures in
    let none : c.in_ok-ok_or.field-0.now ≡ [] = none_left xs head behind cut (rows c.read_rows.new.all) (rows c.read_rows-2.new.all) _ c.in_ok-ok_or.field-0.now near.0 far.0 (omega (arith, c.if-rows-behind.false, c.from-behind.ensures, c.from.ensures)) in
    let class : class_code c.in_ok-class.class ≡ at head 2 = search rules in
    let latest : c.from_be_bytes-2.result ≡ long_at head 4 = omega (arith, c.from_be_bytes-2.ensures) in
    let s : State = record { address = c.from_be_bytes.result; class = c.in_ok-class.class; number = at head 3; latest = c.from_be_bytes-2.result; neighbours = rows c.read_rows.new.all; trees = rows c.read_rows-2.new.all } in
    let all : BeginsWith tree_octets c.in_ok-left.left.now (at head 9) s.trees [] = rw none at far.0 in
    let is = card_is xs head behind cut (λ i. (c.type_inv.octets i).fits) s c.from_be_bytes.ensures class refl latest _ near.0 all in
    reads_made xs s is far.1 c.new.result c.new.ensures
