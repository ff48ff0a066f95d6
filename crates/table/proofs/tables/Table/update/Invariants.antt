use Rattle.std.proofs.Common.{◌≡◌, List, ◌++◌, take, drop}
use denote.Param.Members.{once}
use Rattle.std.specs.Fn.{FnOnceReturnsAtMut}
use Rattle.std.specs.List.{AllZip}
use Rattle.table.proofs.tables.Table.update.Given as goal

-- the rows that are left are as they were, and what they become goes behind those that were changed
abbrev pub invariant-loop-row : goal.invariant-loop-row
invariant-loop-row g l = record {
  left : drop l.row-index l.row-items ≡ drop l.row-index l.initial.row-items;
  changed : (ys : List g.row.T.Denot) → AllZip (λ x y. FnOnceReturnsAtMut (once g.F.Fn) l.change x tt y) (drop l.row-index l.initial.row-items) ys → AllZip (λ x y. FnOnceReturnsAtMut (once g.F.Fn) l.change x tt y) l.initial.row-items (take l.row-index l.row-items ++ ys);
}
