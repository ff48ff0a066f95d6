-- Reading is making a message of the fields at their places.
use Rattle.std.proofs.Common.{◌≡◌, ℕ, List, length, Ok, Err, Result, MatchResult, sym, ap, ◌∙◌, subst}
use Rattle.frame.specs.Faults.{BreaksField}
use Rattle.frame.specs.Reading.{ReadsFields}
use Rattle.frame.specs.declared.faults.ReadFault.{ReadFault}
use Rattle.frame.specs.declared.faults.ReadFault.TheVariants.{Short, UnknownKind, WrongSize, BadField, BadGroup}
use Rattle.frame.specs.declared.kept.Kept.{Kept}

module _ {F V : Type 0} (values : F → V) (Rules : V → Type 0) (n : ℕ) (written : V → List ℕ) (placed : List ℕ → V) where
  pub reads_made : {kept : _} (xs : List ℕ) (f : F) → length xs ≡ n → written (placed xs) ≡ xs → values f ≡ placed xs → (r : Result (Kept F kept) ReadFault) → MatchResult r (λ m. (m.fields ≡ f) × Rules (values f)) (BreaksField (Rules (values f))) → ReadsFields values Rules n written placed xs r
  reads_made xs f size back same (Ok m) made =
      (subst (λ g. Rules (values g)) (sym made.0) made.1, ap (λ g. written (values g)) made.0 ∙ ap written same ∙ back)
  reads_made xs f size back same (Err BadField) made = (size, λ r. made (subst Rules (sym same) r))
  reads_made xs f size back same (Err Short) made = absurd made
  reads_made xs f size back same (Err UnknownKind) made = absurd made
  reads_made xs f size back same (Err WrongSize) made = absurd made
  reads_made xs f size back same (Err BadGroup) made = absurd made
