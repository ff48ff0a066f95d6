-- What reading answers.
use Rattle.std.specs.Prelude.{◌≡◌, ℕ, ◌<◌, ◌≤◌, List, ◌∷◌, length, drop, Ok, Err, Result}
use Rattle.field.specs.Codes.{IsClass, IsKind}
use Rattle.frame.specs.Faults.{read_fault_number}
use Rattle.hello_groups.specs.Groups.{Grouped}
use Rattle.frame.specs.Octets.{octets, hello_octets, stc_fields, tree_status_fields}
use Rattle.frame.specs.Rules.{HelloRules, StcRules, TreeStatusRules, WellFormed}
use Rattle.frame.specs.Values.{StcValues, TreeStatusValues, Values, hello_values, stc_values, tree_status_values}
use Rattle.frame.specs.Messages.{values}
use Rattle.field.specs.Wide.{at, wide_at}
use Rattle.frame.specs.declared.faults.ReadFault.{ReadFault}
use Rattle.frame.specs.declared.faults.ReadFault.TheVariants.{Short, UnknownKind, WrongSize, BadField, BadGroup}
use Rattle.frame.specs.declared.hellos.HelloFields.{HelloFields}
use Rattle.frame.specs.declared.kept.Kept.{Kept}
use Rattle.frame.specs.declared.messages.Message.{Message}
use Rattle.frame.specs.declared.stcs.StcFields.{StcFields}
use Rattle.frame.specs.declared.tree_statuses.TreeStatusFields.{TreeStatusFields}

-- an STC's fields, which follow type and size, at their places
abbrev pub stc_at : List ℕ → StcValues
stc_at fields =
    record {
      sender = wide_at fields 0;
      wave = wide_at fields 2;
      root = wide_at fields 4;
      cost = wide_at fields 6;
      parent = wide_at fields 8;
      vtime = at fields 10;
      ttl = at fields 11;
      flags = at fields 12;
      tree = wide_at fields 13;
    }

abbrev pub tree_status_at : List ℕ → TreeStatusValues
tree_status_at fields =
    record {
      sender = wide_at fields 0;
      wave = wide_at fields 2;
      root = wide_at fields 4;
      tree = wide_at fields 6;
      descendants = wide_at fields 8;
      flags = at fields 10;
    }

-- a Hello's fixed fields
abbrev pub HelloFixed : List ℕ → Type 0
HelloFixed xs = (1 ≤ wide_at xs 2) × IsClass (at xs 6)

-- the rule whose breach each fault reports
abbrev pub Rule : ReadFault → List ℕ → Type 0
Rule Short xs = 2 ≤ length xs
Rule UnknownKind xs = IsKind (at xs 0)
Rule WrongSize xs =
    (at xs 1 ≡ length xs) × (at xs 0 ≡ 1 → 7 ≤ length xs) × (at xs 0 ≡ 2 → length xs ≡ 17) × (at xs 0 ≡ 3 → length xs ≡ 13)
Rule BadField xs =
    (at xs 0 ≡ 1 → HelloFixed xs) × (at xs 0 ≡ 2 → StcRules (stc_at (drop 2 xs))) × (at xs 0 ≡ 3 → TreeStatusRules (tree_status_at (drop 2 xs)))
Rule BadGroup xs = at xs 0 ≡ 1 → Grouped (drop 7 xs)

-- the first rule that is broken
abbrev pub FirstFault : List ℕ → ReadFault → Type 0
FirstFault xs f = ((g : ReadFault) → read_fault_number g < read_fault_number f → Rule g xs) × (Rule f xs → ⊥)

-- the message whose octets these are, or the first fault
abbrev pub Reads : List ℕ → Result Message ReadFault → Type 0
Reads xs (Ok m) = WellFormed (values m) × (octets (values m) ≡ xs)
Reads xs (Err f) = FirstFault xs f

-- the answer is the message of these values
abbrev pub Says : Result Message ReadFault → Values → Type 0
Says (Ok m) v = values m ≡ v
Says (Err f) v = ⊥

-- ---- the kinds, once type and size octet are known; `kept` is what a message's ghost field says, and matters to none of these

abbrev pub ReadsHello : {kept : _} → List ℕ → Result (Kept HelloFields kept) ReadFault → Type 0
ReadsHello xs (Ok m) = HelloRules (hello_values m.fields) × (7 ≤ length xs) × (hello_octets (hello_values m.fields) ≡ 1 ∷ length xs ∷ drop 2 xs)
ReadsHello xs (Err WrongSize) = length xs < 7
ReadsHello xs (Err BadField) = (7 ≤ length xs) × (HelloFixed xs → ⊥)
ReadsHello xs (Err BadGroup) = (7 ≤ length xs) × HelloFixed xs × (Grouped (drop 7 xs) → ⊥)
ReadsHello xs (Err Short) = ⊥
ReadsHello xs (Err UnknownKind) = ⊥

-- fields of a fixed number of octets, as they are written and as they stand
module _ {F V : Type 0} (values : F → V) (Rules : V → Type 0) (n : ℕ) (written : V → List ℕ) (placed : List ℕ → V) where
  abbrev pub ReadsFields : {kept : _} → List ℕ → Result (Kept F kept) ReadFault → Type 0
  ReadsFields xs (Ok m) = Rules (values m.fields) × (written (values m.fields) ≡ xs)
  ReadsFields xs (Err WrongSize) = length xs ≡ n → ⊥
  ReadsFields xs (Err BadField) = (length xs ≡ n) × (Rules (placed xs) → ⊥)
  ReadsFields xs (Err BadGroup) = ⊥
  ReadsFields xs (Err Short) = ⊥
  ReadsFields xs (Err UnknownKind) = ⊥

abbrev pub ReadsStc : {kept : _} → List ℕ → Result (Kept StcFields kept) ReadFault → Type 0
ReadsStc = ReadsFields stc_values StcRules 15 stc_fields stc_at

abbrev pub ReadsTreeStatus : {kept : _} → List ℕ → Result (Kept TreeStatusFields kept) ReadFault → Type 0
ReadsTreeStatus = ReadsFields tree_status_values TreeStatusRules 11 tree_status_fields tree_status_at
