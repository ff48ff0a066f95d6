use Rattle.std.proofs.Common.{◌≡◌, take}
use Rattle.card.specs.Octets.{joined}
use Rattle.card.specs.Placing.{placed}
use Rattle.card.proofs.listed.put_rows.Given as goal

abbrev pub invariant-loop-i : goal.invariant-loop-i
invariant-loop-i g l = l.out ≡ placed l.initial.out 0 (joined g.R.CardRow.written (take l.i l.all))
