-- Groups as octets, and the lists that they are read as.
use Rattle.std.proofs.Common.{◌≡◌, ℕ, ◌+◌, ◌-◌, ◌*◌, ◌/◌, ◌%◌, ◌≤◌, Bool, true, false, ◌&&◌, eqb, leb, List, [], ◌∷◌, ◌++◌, length, take, drop, MatchBool, sym, refl, ap, ◌∙◌, subst, inl, inr, arith, length-append, length-drop}
use Rattle.std.proofs.lemmas.List.{append-nil, nil_from_length, take_at, drop_at, take-append-drop, length-take-le, drop-drop}
use Rattle.std.proofs.lemmas.Bool.{and_parts, and_from, and_right, cond-true, cond-false, cond_both, le-leb, eq-eqb, leb-true, eqb-true, cases_Bool, both_ways}
use Rattle.hello_groups.proofs.Distinct.{new_append, new_given, new_distinct, are_new}
use Rattle.field.proofs.Wides.{Octets, octets_take, octets_drop, first_two, numbers_wides, length_wides, wides_numbers, length_numbers}
use Rattle.std.specs.Coded.{le_prop, Coded-set, coded_list, coded_ℕ}
use Rattle.hello_groups.specs.Groups.{Listable, group, groups, Grouped}
use Rattle.hello_groups.specs.Splitting.{is_size, begins, front, after, left_over, sym_in, asym_in, all_new}
use Rattle.field.specs.Wide.{numbers, wides, at}

-- addresses take two octets each
pub length_halved : (xs : List ℕ) → length (numbers xs) ≡ length xs / 2
length_halved [] = refl
length_halved (high ∷ []) = refl
length_halved (high ∷ low ∷ rest) = omega (arith, length_halved rest)

-- ---- from lists to octets

module _ (code : ℕ) (a : ℕ) (more rest : List ℕ) (few : length (a ∷ more) ≤ 16) where
  size_of : is_size (2 + 2 * length (a ∷ more)) (length (group code (a ∷ more) ++ rest)) ≡ true
  size_of =
      let n = length (a ∷ more) in
      let long : length (group code (a ∷ more) ++ rest) ≡ (2 + 2 * n) + length rest = omega (arith, length-append (group code (a ∷ more)) rest, length_wides more) in
      let even : (2 + 2 * n) % 2 ≡ 0 = omega arith in
      and_from (leb 4 (2 + 2 * n)) (eqb ((2 + 2 * n) % 2) 0 && leb (2 + 2 * n) (length (group code (a ∷ more) ++ rest))) (le-leb _ _ (omega arith))
      (and_from (eqb ((2 + 2 * n) % 2) 0) (leb (2 + 2 * n) (length (group code (a ∷ more) ++ rest))) (eq-eqb _ _ even) (le-leb _ _ (omega arith)))

  group_begins : begins code (group code (a ∷ more) ++ rest) ≡ true
  group_begins =
      and_from (leb 2 (length (group code (a ∷ more) ++ rest))) (eqb code code && is_size (2 + 2 * length (a ∷ more)) (length (group code (a ∷ more) ++ rest)))
      (le-leb _ _ (omega arith)) (and_from (eqb code code) (is_size (2 + 2 * length (a ∷ more)) (length (group code (a ∷ more) ++ rest))) (eq-eqb _ _ refl) size_of)

-- the group at the front is split off again, where what follows is no group of its code
pub front_group : (code : ℕ) (l rest : List ℕ) → length l ≤ 16 → begins code rest ≡ false → front code (group code l ++ rest) ≡ wides l
front_group code [] rest few none = cond-false (begins code rest) _ _ none
front_group code (a ∷ more) rest few none =
    cond-true (begins code (group code (a ∷ more) ++ rest)) _ _ (group_begins code a more rest few)
    ∙ take_at (wides (a ∷ more)) rest (2 + 2 * length (a ∷ more) - 2) (omega (arith, length_wides (a ∷ more)))

pub after_group : (code : ℕ) (l rest : List ℕ) → length l ≤ 16 → begins code rest ≡ false → after code (group code l ++ rest) ≡ rest
after_group code [] rest few none = cond-false (begins code rest) _ _ none
after_group code (a ∷ more) rest few none =
    cond-true (begins code (group code (a ∷ more) ++ rest)) _ _ (group_begins code a more rest few)
    ∙ drop_at (group code (a ∷ more)) rest (2 + 2 * length (a ∷ more)) (omega (arith, length_wides (a ∷ more)))

no_sym : (l : List ℕ) → begins 1 (group 2 l) ≡ false
no_sym [] = refl
no_sym (a ∷ more) = and_right (leb 2 (length (group 2 (a ∷ more)))) false refl

module _ (s a : List ℕ) (few : length (s ++ a) ≤ 16) where
  sizes : (length s ≤ 16) × (length a ≤ 16)
  sizes = let n = length-append s a in (omega arith, omega arith)

  front_sym : front 1 (groups s a) ≡ wides s
  front_sym = front_group 1 s (group 2 a) sizes.0 (no_sym a)

  after_sym : after 1 (groups s a) ≡ group 2 a
  after_sym = after_group 1 s (group 2 a) sizes.0 (no_sym a)

  front_asym : front 2 (after 1 (groups s a)) ≡ wides a
  front_asym = ap (front 2) (after_sym ∙ sym (append-nil (group 2 a))) ∙ front_group 2 a [] sizes.1 refl

  after_asym : after 2 (after 1 (groups s a)) ≡ []
  after_asym = ap (after 2) (after_sym ∙ sym (append-nil (group 2 a))) ∙ after_group 2 a [] sizes.1 refl

  -- the lists are read back
  pub sym_in_groups : sym_in (groups s a) ≡ s
  unfolding sym_in
  sym_in_groups = ap numbers front_sym ∙ numbers_wides s

  pub asym_in_groups : asym_in (groups s a) ≡ a
  unfolding asym_in
  asym_in_groups = ap numbers front_asym ∙ numbers_wides a

-- the tests that octets are groups, over the parts that they are split into
unfoldable pub tests : List ℕ → List ℕ → List ℕ → Bool
tests s a rest = eqb (length rest) 0 && (leb (length (s ++ a)) 16 && (all_new s a && all_new a []))

abbrev pub tested : List ℕ → Bool
tested xs = tests (sym_in xs) (asym_in xs) (left_over xs)

-- octets that are groups pass them
tested_from : (xs : List ℕ) → Grouped xs → tested xs ≡ true
unfolding tests
tested_from xs g =
    let s = g.0 in
    let a = g.1 in
    let rules = g.2 in
    let few = rules.few in
    let both = and_parts (all_new s a) (all_new a []) (sym (new_append s a) ∙ are_new (s ++ a) rules.given rules.distinct) in
    let count : leb (length (s ++ a)) 16 ≡ true = le-leb _ _ few in
    let all : tests s a [] ≡ true = rw (count, both.0, both.1) refl in
    ap tested (sym g.3)
    ∙ ap (λ l. tests l (asym_in (groups s a)) (left_over (groups s a))) (sym_in_groups s a few)
    ∙ ap (λ l. tests s l (left_over (groups s a))) (asym_in_groups s a few)
    ∙ ap (tests s a) (after_asym s a few)
    ∙ all

-- ---- from octets to lists

group_some : (code : ℕ) (l : List ℕ) → 1 ≤ length l → group code l ≡ code ∷ (2 + 2 * length l) ∷ wides l
group_some code [] h = absurd (omega arith)
group_some code (a ∷ more) h = refl

module _ (code : ℕ) (xs : List ℕ) (whole : begins code xs ≡ true) where
  pub begins_says : (2 ≤ length xs) × (at xs 0 ≡ code) × (4 ≤ at xs 1) × (at xs 1 % 2 ≡ 0) × (at xs 1 ≤ length xs)
  begins_says =
      let size = at xs 1 in
      let n = length xs in
      let p = and_parts (leb 2 n) (eqb (at xs 0) code && is_size size n) whole in
      let q = and_parts (eqb (at xs 0) code) (is_size size n) p.1 in
      let r = and_parts (leb 4 size) (eqb (size % 2) 0 && leb size n) q.1 in
      let t = and_parts (eqb (size % 2) 0) (leb size n) r.1 in
      (leb-true 2 n p.0, eqb-true (at xs 0) code q.0, leb-true 4 size r.0, eqb-true (size % 2) 0 t.0, leb-true size n t.1)

  pub front_says : front code xs ≡ take (at xs 1 - 2) (drop 2 xs)
  front_says = cond-true (begins code xs) _ _ whole

  after_says : after code xs ≡ drop (at xs 1 - 2) (drop 2 xs)
  after_says =
      let size : 2 + (at xs 1 - 2) ≡ at xs 1 = omega (arith, begins_says.2) in
      cond-true (begins code xs) _ _ whole ∙ sym (drop-drop (at xs 1 - 2) 2 xs ∙ ap (λ n. drop n xs) size)

  pub front_length : length (front code xs) ≡ 2 * ((at xs 1 - 2) / 2)
  front_length =
      let f = begins_says in
      let all : length (front code xs) ≡ at xs 1 - 2 =
      ap length front_says ∙ length-take-le (at xs 1 - 2) (drop 2 xs) (omega (arith, length-drop 2 xs, f.4)) in
      omega (arith, f.3, f.2)

  rejoins_whole : Octets xs → group code (numbers (front code xs)) ++ after code xs ≡ xs
  rejoins_whole octets =
      let f = begins_says in
      let size = at xs 1 in
      let body = front code xs in
      let k = (size - 2) / 2 in
      let count : length (numbers body) ≡ k = length_numbers k body front_length in
      let same : wides (numbers body) ≡ body =
      wides_numbers k body front_length (subst Octets (sym front_says) (octets_take (size - 2) (drop 2 xs) (octets_drop 2 xs octets))) in
      let sized : 2 + 2 * length (numbers body) ≡ size = omega (arith, f.2, f.3) in
      let head : group code (numbers body) ≡ code ∷ size ∷ body = group_some code (numbers body) (omega (arith, f.2, f.3)) ∙ cc in
      let tail : body ++ after code xs ≡ drop 2 xs = rw (front_says, after_says) (take-append-drop (size - 2) (drop 2 xs)) in
      ap (λ l. l ++ after code xs) head ∙ ap (λ l. code ∷ size ∷ l) tail ∙ sym (first_two xs f.0 ∙ ap (λ c. c ∷ size ∷ drop 2 xs) f.1)

-- what was split off, put in front again, gives the octets
rejoins : (code : ℕ) (xs : List ℕ) → Octets xs → group code (numbers (front code xs)) ++ after code xs ≡ xs
rejoins code xs octets =
    elim (cases_Bool (begins code xs)) [
      | inl whole ↦ rejoins_whole code xs whole octets
      | inr none ↦ ap (λ l. group code (numbers l) ++ after code xs) (cond-false (begins code xs) _ _ none) ∙ cond-false (begins code xs) _ _ none
    ]

after_octets : (code : ℕ) (xs : List ℕ) → Octets xs → Octets (after code xs)
after_octets code xs octets = cond_both (begins code xs) _ _ Octets (λ _. octets_drop (at xs 1) xs octets) (λ _. octets)

-- octets that pass the tests are groups
tested_says : (xs : List ℕ) → Octets xs → tested xs ≡ true → Grouped xs
unfolding tests sym_in asym_in
tested_says xs octets test =
    let s = sym_in xs in
    let a = asym_in xs in
    let empty = length (left_over xs) in
    let count = length (s ++ a) in
    let p = and_parts (eqb empty 0) (leb count 16 && (all_new s a && all_new a [])) test in
    let q = and_parts (leb count 16) (all_new s a && all_new a []) p.1 in
    let new : all_new (s ++ a) [] ≡ true = new_append s a ∙ q.1 in
    let none : left_over xs ≡ [] = nil_from_length (left_over xs) (eqb-true empty 0 p.0) in
    let second : group 2 a ≡ after 1 xs =
    sym (append-nil (group 2 a)) ∙ ap (λ l. group 2 a ++ l) (sym none) ∙ rejoins 2 (after 1 xs) (after_octets 1 xs octets) in
    (s, a, record { few = leb-true count 16 q.0; given = new_given (s ++ a) new; distinct = new_distinct (s ++ a) new }, ap (λ l. group 1 s ++ l) second ∙ rejoins 1 xs octets)

-- so the tests decide whether octets are groups
pub decides : (xs : List ℕ) → Octets xs → (r : Bool) → r ≡ tested xs → MatchBool r (Grouped xs) (Grouped xs → ⊥)
decides xs octets true is = tested_says xs octets (sym is)
decides xs octets false is = λ g. both_ways (tested xs) (sym is) (tested_from xs g)

-- ---- octets are the groups of one pair of lists

module _ (xs s a : List ℕ) where
  abbrev Lists : Type 0
  Lists = Listable (s ++ a) × (groups s a ≡ xs)

  lists_prop : IsProp Lists
  lists_prop = hlevel (le_prop, Coded-set (coded_list coded_ℕ))

  abbrev grouping : Lists → Grouped xs
  grouping p = (s, a, p.0, p.1)

same_grouping : (xs s a : List ℕ) (p : Lists xs s a) (s' : List ℕ) → s ≡ s' → (a' : List ℕ) → a ≡ a' → (p' : Lists xs s' a') → grouping xs s a p ≡ grouping xs s' a' p'
same_grouping xs s a p s' es a' ea =
    subst (λ t. (q : Lists xs t a') → grouping xs s a p ≡ grouping xs t a' q) es
    (subst (λ b. (q : Lists xs s b) → grouping xs s a p ≡ grouping xs s b q) ea (λ q. ap (grouping xs s a) (lists_prop xs s a p q)))

pub grouped_prop : (xs : List ℕ) → IsProp (Grouped xs)
grouped_prop xs g h =
    let few = g.2.few in
    let few' = h.2.few in
    let same = g.3 ∙ sym h.3 in
    same_grouping xs g.0 g.1 (g.2, g.3) h.0 (sym (sym_in_groups g.0 g.1 few) ∙ ap sym_in same ∙ sym_in_groups h.0 h.1 few')
    h.1 (sym (asym_in_groups g.0 g.1 few) ∙ ap asym_in same ∙ asym_in_groups h.0 h.1 few') (h.2, h.3)
