use Rattle.std.proofs.Common.{◌≡◌, true, ◌++◌, length}
use Rattle.std.specs.List.{list_all}
use Rattle.table.specs.Rows.{rows}
use Rattle.card.specs.Octets.{joined}
use Rattle.card.proofs.listed.read_rows.Given as goal

abbrev pub invariant-loop : goal.invariant-loop
invariant-loop g l = record {
  split : joined g.R.CardRow.written (rows l.all) ++ l.left ≡ l.octets;
  many : length (rows l.all) ≡ l.counter;
  are_plain : list_all g.R.CardRow.plain (rows l.all) ≡ true;
}
