use Rattle.std.proofs.Common.{◌≡◌, ◌≤◌, List, ◌++◌, take, drop}
use denote.Param.Always.{always_mut}
use Rattle.std.specs.Fn.{CalledAt}
use Rattle.std.specs.List.Retain.{IsFiltered}
use Rattle.table.specs.Rows.{rows}
use Rattle.table.proofs.tables.Table.retain.Given as goal

-- what is kept of the rows that are left goes behind what is kept so far
abbrev pub invariant-loop-i : goal.invariant-loop-i
invariant-loop-i g l = record {
  callable : always_mut g.F.FnMut l.keep;
  counted : l.self.count ≡ l.initial.self.count;
  behind : l.next ≤ l.i;
  filtered : (ys : List g.row.T.Denot) → IsFiltered (CalledAt g.F.FnMut) l.keep (drop l.i (rows l.self)) ys → IsFiltered (CalledAt g.F.FnMut) l.initial.keep (rows l.initial.self) (take l.next l.self.items ++ ys);
}
