-- The two rules of a cost law, where it extends by `as_cost`.
use Rattle.std.specs.Prelude.{◌≡◌, ℕ, ◌<◌, ◌≤◌, Some}
use Rattle.std.proofs.Common.{arith}
use Rattle.std.proofs.lemmas.Bool.Decides.{nat_tests}
use Rattle.law.specs.Costs.{as_cost}

pub as_cost_rise : (c n o : ℕ) → c < n → as_cost n ≡ Some o → c < o
as_cost_rise c n o lt e = grind (arith, nat_tests)

pub as_cost_order : (n k o : ℕ) → n ≤ k → as_cost k ≡ Some o → (p : ℕ) × (as_cost n ≡ Some p) × (p ≤ o)
as_cost_order n k o le e = (n, grind (arith, nat_tests), grind (arith, nat_tests))
