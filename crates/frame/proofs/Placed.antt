-- Fields at their places, and the octets that they are written as.
use Rattle.std.proofs.Common.{◌≡◌, ℕ, List, [], ◌∷◌, length, drop, sym, ap, ◌∙◌, arith}
use Rattle.std.proofs.lemmas.List.{drop_all}
use Rattle.frame.specs.Octets.{stc_fields, tree_status_fields}
use Rattle.frame.specs.Reading.{stc_at, tree_status_at}
use Rattle.frame.specs.Values.{StcValues, TreeStatusValues}
use Rattle.field.specs.Wide.{at, wide_at}
use Rattle.field.proofs.Wides.{Octets, by_places, wide_places}

module _ (xs : List ℕ) (octets : Octets xs) where
  pub stc_placed : length xs ≡ 15 → stc_fields (stc_at xs) ≡ xs
  stc_placed n =
      let end : [] ≡ drop 15 xs = sym (drop_all 15 xs (omega arith)) in
      wide_places xs octets 0 _ (wide_places xs octets 2 _ (wide_places xs octets 4 _ (wide_places xs octets 6 _ (wide_places xs octets 8 _
      (ap (λ l. at xs 10 ∷ at xs 11 ∷ at xs 12 ∷ l) (wide_places xs octets 13 _ end))))))
      ∙ sym (by_places 15 0 xs (omega arith))

  pub tree_status_placed : length xs ≡ 11 → tree_status_fields (tree_status_at xs) ≡ xs
  tree_status_placed n =
      let end : [] ≡ drop 11 xs = sym (drop_all 11 xs (omega arith)) in
      wide_places xs octets 0 _ (wide_places xs octets 2 _ (wide_places xs octets 4 _ (wide_places xs octets 6 _ (wide_places xs octets 8 _ (ap (λ l. at xs 10 ∷ l) end)))))
      ∙ sym (by_places 11 0 xs (omega arith))

-- values are those at their places if each is
module _ (xs : List ℕ) where
  pub stc_same : (v : StcValues) → v.sender ≡ wide_at xs 0 → v.wave ≡ wide_at xs 2 → v.root ≡ wide_at xs 4 → v.cost ≡ wide_at xs 6 → v.parent ≡ wide_at xs 8 → v.vtime ≡ at xs 10 → v.ttl ≡ at xs 11 → v.flags ≡ at xs 12 → v.tree ≡ wide_at xs 13 → v ≡ stc_at xs
  stc_same v e1 e2 e3 e4 e5 e6 e7 e8 e9 =
      let all : record { sender = v.sender; wave = v.wave; root = v.root; cost = v.cost; parent = v.parent; vtime = v.vtime; ttl = v.ttl; flags = v.flags; tree = v.tree } ≡ stc_at xs = cc in
      all

  pub tree_status_same : (v : TreeStatusValues) → v.sender ≡ wide_at xs 0 → v.wave ≡ wide_at xs 2 → v.root ≡ wide_at xs 4 → v.tree ≡ wide_at xs 6 → v.descendants ≡ wide_at xs 8 → v.flags ≡ at xs 10 → v ≡ tree_status_at xs
  tree_status_same v e1 e2 e3 e4 e5 e6 =
      let all : record { sender = v.sender; wave = v.wave; root = v.root; tree = v.tree; descendants = v.descendants; flags = v.flags } ≡ tree_status_at xs = cc in
      all
