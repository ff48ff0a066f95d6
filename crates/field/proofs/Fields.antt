-- What the fields of messages hold.
use Rattle.std.proofs.Common.{◌≡◌, ℕ, eqb, sym, refl, arith}
use Rattle.std.proofs.lemmas.Bool.{cond_both, eqb-true}
use Rattle.field.specs.Addresses.{address_of, number_or_0}
use Rattle.field.specs.Codes.{class_code}
use Rattle.field.specs.declared.classes.EnergyClass.{EnergyClass}
use Rattle.field.specs.declared.classes.EnergyClass.TheVariants.{High, Medium, Low}

pub number_of_address : (n : ℕ) → number_or_0 (address_of n) ≡ n
number_of_address n = cond_both (eqb n 0) _ _ (λ a. number_or_0 a ≡ n) (λ e. sym (eqb-true n 0 e)) (λ _. refl)

pub one_class : (a b : EnergyClass) → class_code a ≡ class_code b → a ≡ b
one_class High High e = refl
one_class High Medium e = absurd (omega arith)
one_class High Low e = absurd (omega arith)
one_class Medium High e = absurd (omega arith)
one_class Medium Medium e = refl
one_class Medium Low e = absurd (omega arith)
one_class Low High e = absurd (omega arith)
one_class Low Medium e = absurd (omega arith)
one_class Low Low e = refl
