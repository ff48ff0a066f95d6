use Rattle.std.proofs.Common.{◌≡◌}
use Rattle.hello_groups.specs.Listed.{addresses}
use Rattle.hello_groups.specs.Splitting.{all_new}
use Rattle.hello_groups.proofs.addresses.Addresses.are_new.Given as goal

-- what is left is new exactly if the whole is
abbrev pub invariant-loop-address : goal.invariant-loop-address
invariant-loop-address l =
    (goal.iterator-loop-address).can_next l.self
    × (goal.iterator-loop-address).is_finite l.self
    × (all_new (addresses l.self) (addresses l.others) ≡ all_new (addresses l.initial.self) (addresses l.others))
