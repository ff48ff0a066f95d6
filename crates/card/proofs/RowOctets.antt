-- The octets of a row say the row.
use Rattle.std.proofs.Common.{◌≡◌, ℕ, Bool, true, false, List, [], ◌∷◌, length, drop, Some, None, Option, sym, refl, ap, ◌∙◌, arith}
use Rattle.std.proofs.lemmas.List.{drop_all}
use Rattle.std.proofs.lemmas.Bool.{ltb-true}
use Rattle.field.specs.Addresses.{number_or_0}
use Rattle.field.specs.Wide.{at, wide, wide_at, long, long_at}
use Rattle.field.specs.declared.numbers.Address.{Address}
use Rattle.field.proofs.Fields.{one_class}
use Rattle.field.proofs.Wides.{Octets, by_places, wide_places, long_places}
use Rattle.record.specs.Lawful.{named}
use Rattle.record.specs.declared.rows.NeighbourRow.{NeighbourRow}
use Rattle.record.specs.declared.rows.TreeRow.{TreeRow}
use Rattle.card.specs.Octets.{bit, neighbour_octets, tree_octets}

-- ---- a row whose fields stand at their places is written as those octets

module _ (xs : List ℕ) (octets : Octets xs) where
  pub tree_is : length xs ≡ 17 → {root wave cost until tree : ℕ} (parent : Option Address) (owed : Bool) → root ≡ wide_at xs 0 → wave ≡ wide_at xs 2 → cost ≡ wide_at xs 4 → number_or_0 parent ≡ wide_at xs 6 → until ≡ long_at xs 8 → tree ≡ wide_at xs 14 → bit owed ≡ at xs 16 → tree_octets (record { root = record { 0 = root }; wave = record { 0 = wave }; cost = cost; parent = parent; valid_until = until; ttl = at xs 12; flags = record { 0 = at xs 13 }; tree = record { 0 = tree }; owed = owed }) ≡ xs
  tree_is n {root = root} {wave = wave} {cost = cost} {until = until} {tree = tree} parent owed r w c p v t o =
      let end : [] ≡ drop 17 xs = sym (drop_all 17 xs (omega arith)) in
      let fields : tree_octets (record { root = record { 0 = root }; wave = record { 0 = wave }; cost = cost; parent = parent; valid_until = until; ttl = at xs 12; flags = record { 0 = at xs 13 }; tree = record { 0 = tree }; owed = owed }) ≡ wide (wide_at xs 0) (wide (wide_at xs 2) (wide (wide_at xs 4) (wide (wide_at xs 6) (long (long_at xs 8) (at xs 12 ∷ at xs 13 ∷ wide (wide_at xs 14) (at xs 16 ∷ [])))))) = cc in
      fields
      ∙ wide_places xs octets 0 _ (wide_places xs octets 2 _ (wide_places xs octets 4 _ (wide_places xs octets 6 _ (long_places xs octets 8 _
      (ap (λ q. at xs 12 ∷ at xs 13 ∷ q) (wide_places xs octets 14 _ (ap (λ q. at xs 16 ∷ q) end)))))))
      ∙ sym (by_places 17 0 xs (omega arith))

-- ---- and no other row is

pub one_neighbour : (x y : NeighbourRow) → neighbour_octets x ≡ neighbour_octets y → x ≡ y
one_neighbour x y e =
    let a : x.address.0 ≡ y.address.0 = omega (arith, ap (λ l. wide_at l 0) e) in
    let s : x.sym_until ≡ y.sym_until = omega (arith, ap (λ l. long_at l 2) e) in
    let h : x.heard_until ≡ y.heard_until = omega (arith, ap (λ l. long_at l 6) e) in
    let c : x.class ≡ y.class = one_class x.class y.class (ap (λ l. at l 10) e) in
    let p : x.power ≡ y.power = ap (λ l. at l 11) e in
    let all : ◌≡◌ {A = NeighbourRow} (record { address = record { 0 = x.address.0 }; sym_until = x.sym_until; heard_until = x.heard_until; class = x.class; power = x.power }) (record { address = record { 0 = y.address.0 }; sym_until = y.sym_until; heard_until = y.heard_until; class = y.class; power = y.power }) = cc in
    all

one_parent : (a b : Option Address) → named a ≡ true → named b ≡ true → number_or_0 a ≡ number_or_0 b → a ≡ b
one_parent (Some a) (Some b) p q e = ap (λ n. Some (record { 0 = n })) e
one_parent (Some a) None p q e = absurd (omega (arith, ltb-true 0 a.0 p))
one_parent None (Some b) p q e = absurd (omega (arith, ltb-true 0 b.0 q))
one_parent None None p q e = refl

one_bit : (a b : Bool) → bit a ≡ bit b → a ≡ b
one_bit true true e = refl
one_bit true false e = absurd (omega arith)
one_bit false true e = absurd (omega arith)
one_bit false false e = refl

pub one_tree : (x y : TreeRow) → named x.parent ≡ true → named y.parent ≡ true → tree_octets x ≡ tree_octets y → x ≡ y
one_tree x y px py e =
    let r : x.root.0 ≡ y.root.0 = omega (arith, ap (λ l. wide_at l 0) e) in
    let w : x.wave.0 ≡ y.wave.0 = omega (arith, ap (λ l. wide_at l 2) e) in
    let c : x.cost ≡ y.cost = omega (arith, ap (λ l. wide_at l 4) e) in
    let n : number_or_0 x.parent ≡ number_or_0 y.parent = omega (arith, ap (λ l. wide_at l 6) e) in
    let p : x.parent ≡ y.parent = one_parent x.parent y.parent px py n in
    let v : x.valid_until ≡ y.valid_until = omega (arith, ap (λ l. long_at l 8) e) in
    let l : x.ttl ≡ y.ttl = ap (λ l. at l 12) e in
    let f : x.flags.0 ≡ y.flags.0 = ap (λ l. at l 13) e in
    let t : x.tree.0 ≡ y.tree.0 = omega (arith, ap (λ l. wide_at l 14) e) in
    let o : x.owed ≡ y.owed = one_bit x.owed y.owed (ap (λ l. at l 16) e) in
    let all : ◌≡◌ {A = TreeRow} (record { root = record { 0 = x.root.0 }; wave = record { 0 = x.wave.0 }; cost = x.cost; parent = x.parent; valid_until = x.valid_until; ttl = x.ttl; flags = record { 0 = x.flags.0 }; tree = record { 0 = x.tree.0 }; owed = x.owed }) (record { root = record { 0 = y.root.0 }; wave = record { 0 = y.wave.0 }; cost = y.cost; parent = y.parent; valid_until = y.valid_until; ttl = y.ttl; flags = record { 0 = y.flags.0 }; tree = record { 0 = y.tree.0 }; owed = y.owed }) = cc in
    all
