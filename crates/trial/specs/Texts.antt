-- What is printed of a tally.
use Rattle.std.specs.Prelude.{ℕ, List, ◌++◌, codes, decimal}
use Rattle.trial.specs.declared.tallies.Tally.{Tally}

abbrev pub tally_text : Tally → List ℕ
tally_text t = decimal t.right ++ (codes " of " ++ (decimal t.rows ++ codes " lines are shown as expected"))
