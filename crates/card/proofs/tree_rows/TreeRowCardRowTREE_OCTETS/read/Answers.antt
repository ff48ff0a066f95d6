use Rattle.std.proofs.Common.{◌≡◌, ℕ, true, eqb, length, refl, ap, ◌∙◌, arith, rules}
use Rattle.std.proofs.lemmas.Bool.{cond_both, eqb-false, lt-ltb}
use Rattle.field.specs.Addresses.{address_of, number_or_0}
use Rattle.field.specs.Wide.{wide_at, long_at}
use Rattle.field.proofs.Fields.{number_of_address}
use Rattle.field.proofs.Wides.{Octets}
use Rattle.record.specs.Lawful.{named}
use Rattle.card.proofs.RowOctets.{tree_is}
use Rattle.card.proofs.tree_rows.TreeRowCardRowTREE_OCTETS.read.Goals as goal

named_address : (n : ℕ) → named (address_of n) ≡ true
named_address n = cond_both (eqb n 0) _ _ (λ a. named a ≡ true) (λ _. refl) (λ e. lt-ltb 0 n (let z = eqb-false n 0 e in omega arith))

pub returns : goal.returns
returns c =
    let xs = c.args.octets.now in
    let long : length xs ≡ 17 = search rules in
    let is = c.ok.ensures.value ∙ c.try_from.ensures in
    let parent : number_or_0 c.ok.result ≡ wide_at xs 6 = ap number_or_0 is ∙ number_of_address c.from_be_bytes-4.result ∙ c.from_be_bytes-4.ensures in
    let valid : c.from_be_bytes-5.result ≡ long_at xs 8 = omega (arith, c.from_be_bytes-5.ensures) in
    let octets : Octets xs = λ i. search rules in
    (tree_is xs octets long c.ok.result c.in_ok-read_bit.field-0 c.from_be_bytes.ensures c.from_be_bytes-2.ensures c.from_be_bytes-3.ensures parent valid c.from_be_bytes-6.ensures c.in_ok-read_bit.ensures, ap named is ∙ named_address c.from_be_bytes-4.result)
