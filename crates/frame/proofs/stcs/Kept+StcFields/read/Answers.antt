use Rattle.std.proofs.Common.{◌≡◌, ◌<◌, ◌≤◌, length, refl, ap, ◌∙◌, arith, rules}
use Rattle.field.proofs.Fields.{number_of_address}
use Rattle.field.proofs.Wides.{Octets}
use Rattle.field.specs.Addresses.{number_or_0}
use Rattle.field.specs.Wide.{wide_at}
use Rattle.frame.specs.Octets.{stc_fields}
use Rattle.frame.specs.Reading.{stc_at}
use Rattle.frame.specs.Rules.{StcRules}
use Rattle.frame.specs.Values.{stc_values}
use Rattle.frame.proofs.Made.{reads_made}
use Rattle.frame.proofs.Placed.{stc_placed, stc_same}
use Rattle.frame.proofs.stcs.Kept+StcFields.read.Goals as goal

pub returns : goal.returns
returns c =
    let xs = c.args.fields.now in
    let low : 15 ≤ length xs = search rules in
    let high : length xs < 16 = search rules in
    let n : length xs ≡ 15 = omega arith in
    let parent : number_or_0 c.ok.result ≡ wide_at xs 8 =
    ap number_or_0 (c.ok.ensures.value ∙ c.try_from.ensures) ∙ number_of_address c.from_be_bytes-5.result ∙ c.from_be_bytes-5.ensures in
    let octets : Octets xs = λ i. (c.type_inv.fields i).fits in
    let same =
    stc_same xs _ c.from_be_bytes.ensures c.from_be_bytes-2.ensures c.from_be_bytes-3.ensures c.from_be_bytes-4.ensures parent refl refl refl c.from_be_bytes-6.ensures in
    reads_made stc_values StcRules 15 stc_fields stc_at xs _ n (stc_placed xs octets n) same c.new.result c.new.ensures
