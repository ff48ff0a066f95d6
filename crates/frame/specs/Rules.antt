-- The rules that a message keeps. Where none is stricter, a field's limit is the width of its octets.
use Rattle.std.specs.Prelude.{◌≡◌, ℕ, ◌≤◌, false}
use Rattle.field.specs.Bits.{UnusedClear, stands}
use Rattle.field.specs.Codes.{IsClass}
use Rattle.field.specs.declared.tree_flags.Flag.TheVariants.{Coloured}
use Rattle.hello_groups.specs.Groups.{Grouped}
use Rattle.frame.specs.Values.{HelloValues, StcValues, TreeStatusValues, Values, hello, stc, tree_status}

pub record HelloRules (h : HelloValues) : Type 0 where
  pub sender : 1 ≤ h.sender
  pub class : IsClass h.class
  pub groups : Grouped h.groups

-- a tree that is not coloured has neither flags nor a tree sequence number
abbrev pub PlainIsBare : ℕ → ℕ → Type 0
PlainIsBare flags tree = stands Coloured flags ≡ false → (flags ≡ 0) × (tree ≡ 0)

pub record StcRules (s : StcValues) : Type 0 where
  pub sender : 1 ≤ s.sender
  pub wave : 1 ≤ s.wave
  pub root : 1 ≤ s.root
  pub ttl_from : 1 ≤ s.ttl
  pub ttl_to : s.ttl ≤ 32
  pub flags : UnusedClear s.flags
  pub colour : PlainIsBare s.flags s.tree

pub record TreeStatusRules (t : TreeStatusValues) : Type 0 where
  pub sender : 1 ≤ t.sender
  pub wave : 1 ≤ t.wave
  pub root : 1 ≤ t.root
  pub flags : UnusedClear t.flags

abbrev pub WellFormed : Values → Type 0
WellFormed (hello h) = HelloRules h
WellFormed (stc s) = StcRules s
WellFormed (tree_status t) = TreeStatusRules t
