use Rattle.std.proofs.Common.{◌≡◌, ℕ, List, [], ◌∷◌, ◌++◌, length, sym, ap, ◌∙◌, ap₂, arith, length-append, take-append-drop, Some, Ok, Err, Result}
use Rattle.std.specs.Result.{result_ok}
use Rattle.table.specs.Pushing.{Pushes}
use Rattle.table.specs.declared.tables.Full.{Full}
use Rattle.std.proofs.lemmas.List.{append_assoc, flat_map_more}
use Rattle.table.proofs.Every.{every_push}
use Rattle.std.specs.List.{list_all}
use Rattle.table.specs.Rows.{rows}
use Rattle.card.specs.Octets.{joined}
use Rattle.card.proofs.Joined.{joined_behind}
use Rattle.card.proofs.listed.read_rows.Goals as goal

-- a row that was let in is the last
taken : {X : Type 0} (n : ℕ) (x : X) (had after : List X) (r : Result (Unit {0}) Full) (u : Unit {0}) → Pushes n x had after r → Some u ≡ result_ok r → after ≡ had ++ x ∷ []
taken n x had after (Ok done) u p e = p.1
taken n x had after (Err full) u p e = absurd cc

pub split_first_chunk-requires : goal.split_first_chunk-requires
split_first_chunk-requires g c = omega (arith, g.met.R.CardRow.fits)

pub returns-in_err-row : goal.returns-in_err-row
returns-in_err-row g c =
    rw c.from_residual.ensures
    (λ xs rest few begins.
    let next = joined_behind g.R.CardRow.written g.row.W g.met.R.CardRow.sized (rows c.loop.all) xs c.loop.left.now rest (begins.0 ∙ sym c.loop.invariant.split) (omega arith) in
    omega (arith, next.2, c.in_err-row.ensures.cases))

pub returns-in_err-read : goal.returns-in_err-read
returns-in_err-read g c =
    rw c.from_residual-in_err-read.ensures
    (λ xs rest few begins.
    let next = joined_behind g.R.CardRow.written g.row.W g.met.R.CardRow.sized (rows c.loop.all) xs c.loop.left.now rest (begins.0 ∙ sym c.loop.invariant.split) (omega arith) in
    c.in_err-read.ensures next.0 (next.1 ∙ sym c.in_ok-row.ensures.cases.0))

pub loop-preserved : goal.loop-preserved
loop-preserved g c =
    let w = g.R.CardRow.written in
    let left = c.loop.left.now in
    let had = rows c.loop.all in
    let x = c.in_ok-read.field-0 in
    let row = c.in_ok-row.ensures.cases in
    let now : rows c.push.new.self ≡ had ++ x ∷ [] = taken g.row.N x had _ c.push.result c.in_ok-ok.field-0 c.push.ensures c.in_ok-ok.ensures.value in
    let whole : w x ++ c.in_ok-row.rest.now ≡ left = ap₂ (λ a b. a ++ b) (c.in_ok-read.ensures.0 ∙ row.0) row.1 ∙ take-append-drop g.row.W left in
    record {
      split = ap (λ l. joined w l ++ c.in_ok-row.rest.now) now
          ∙ ap (λ l. l ++ c.in_ok-row.rest.now) (sym (flat_map_more w [] had x))
          ∙ append_assoc (joined w had) (w x) c.in_ok-row.rest.now
          ∙ ap (λ l. joined w had ++ l) whole
          ∙ c.loop.invariant.split;
      many = ap length now ∙ omega (arith, length-append had (x ∷ []), c.loop.invariant.many);
      are_plain = ap (list_all g.R.CardRow.plain) now ∙ every_push g.R.CardRow.plain had x c.loop.invariant.are_plain c.in_ok-read.ensures.1;
    }
