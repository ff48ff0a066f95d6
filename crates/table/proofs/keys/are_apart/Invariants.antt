use Rattle.std.proofs.Common.{◌≡◌, length}
use Rattle.table.specs.Keys.{apart}
use Rattle.table.proofs.keys.are_apart.Given as goal

abbrev pub invariant-loop-left : goal.invariant-loop-left
invariant-loop-left g l = apart g.K.Keyed.keyed l.left ≡ apart g.K.Keyed.keyed l.rows

abbrev pub decreases-loop-left : goal.decreases-loop-left
decreases-loop-left g l = length l.left
