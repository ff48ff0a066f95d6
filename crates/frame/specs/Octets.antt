-- The octets of each message.
use Rattle.std.specs.Prelude.{ℕ, ◌+◌, List, [], ◌∷◌, length}
use Rattle.frame.specs.Values.{HelloValues, StcValues, TreeStatusValues, Values, hello, stc, tree_status}
use Rattle.field.specs.Wide.{wide}

abbrev pub hello_octets : HelloValues → List ℕ
hello_octets h = 1 ∷ (7 + length h.groups) ∷ wide h.sender (h.number ∷ h.vtime ∷ h.class ∷ h.groups)

-- from the sender on
abbrev pub stc_fields : StcValues → List ℕ
stc_fields s =
    wide s.sender (wide s.wave (wide s.root (wide s.cost (wide s.parent (s.vtime ∷ s.ttl ∷ s.flags ∷ wide s.tree [])))))

abbrev pub tree_status_fields : TreeStatusValues → List ℕ
tree_status_fields t =
    wide t.sender (wide t.wave (wide t.root (wide t.tree (wide t.descendants (t.flags ∷ [])))))

abbrev pub octets : Values → List ℕ
octets (hello h) = hello_octets h
octets (stc s) = 2 ∷ 17 ∷ stc_fields s
octets (tree_status t) = 3 ∷ 13 ∷ tree_status_fields t
