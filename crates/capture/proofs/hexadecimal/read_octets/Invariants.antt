use Rattle.std.proofs.Common.{◌≡◌, length, vec_items}
use Rattle.capture.specs.Hexadecimal.{spelt}
use Rattle.capture.proofs.Spelling.{ahead}
use Rattle.capture.proofs.hexadecimal.read_octets.Given as goal

-- the octets so far, and then those that are left, are those of the line
abbrev pub invariant-loop-left : goal.invariant-loop-left
invariant-loop-left l = ahead (vec_items l.octets) (spelt l.left) ≡ spelt l.line

abbrev pub decreases-loop-left : goal.decreases-loop-left
decreases-loop-left l = length l.left
