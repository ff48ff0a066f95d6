use Rattle.std.proofs.Common.{sym, arith}
use Rattle.table.specs.Rows.{rows}
use Rattle.table.proofs.Laws.{turned_out, removed_past, rows_within}
use Rattle.table.proofs.tables.Table.remove.Goals as goal

pub returns-then-i-count : goal.returns-then-i-count
returns-then-i-count g c =
    turned_out c.args.self.now.items c.rotate_left.new.self c.args.self.now.count c.args.i c.if-i-count.true (omega arith) c.rotate_left.ensures.after

-- past the last row nothing is removed
pub returns-else-i-count : goal.returns-else-i-count
returns-else-i-count g c =
    sym (removed_past (rows c.args.self.now) c.args.i (omega (arith, rows_within c.args.self.now)))
