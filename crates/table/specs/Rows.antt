-- What a table holds, as a list.
use Rattle.std.specs.Prelude.{ℕ, List, take, slice_set}
use Rattle.std.proofs.Common.{◌∙◌, length-set}
use Rattle.table.specs.declared.tables.Table.{Table}

module _ {T : Type 0} {N : ℕ} where
  -- the rows, the oldest first
  abbrev pub rows : Table T N → List T
  rows t = take t.count t.items

  -- the table with w in the place of the row at i
  abbrev pub altered : Table T N → ℕ → T → Table T N
  altered t i w = record { items = slice_set t.items i w; count = t.count; within = t.within; whole = length-set t.items i w ∙ t.whole }
