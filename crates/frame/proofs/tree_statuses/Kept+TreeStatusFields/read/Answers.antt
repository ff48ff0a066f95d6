use Rattle.std.proofs.Common.{◌≡◌, ◌<◌, ◌≤◌, length, refl, arith, rules}
use Rattle.field.proofs.Wides.{Octets}
use Rattle.frame.specs.Octets.{tree_status_fields}
use Rattle.frame.specs.Reading.{tree_status_at}
use Rattle.frame.specs.Rules.{TreeStatusRules}
use Rattle.frame.specs.Values.{tree_status_values}
use Rattle.frame.proofs.Made.{reads_made}
use Rattle.frame.proofs.Placed.{tree_status_placed, tree_status_same}
use Rattle.frame.proofs.tree_statuses.Kept+TreeStatusFields.read.Goals as goal

pub returns : goal.returns
returns c =
    let xs = c.args.fields.now in
    let low : 11 ≤ length xs = search rules in
    let high : length xs < 12 = search rules in
    let n : length xs ≡ 11 = omega arith in
    let octets : Octets xs = λ i. (c.type_inv.fields i).fits in
    let same =
    tree_status_same xs _ c.from_be_bytes.ensures c.from_be_bytes-2.ensures c.from_be_bytes-3.ensures c.from_be_bytes-4.ensures c.from_be_bytes-5.ensures refl in
    reads_made tree_status_values TreeStatusRules 11 tree_status_fields tree_status_at xs _ n (tree_status_placed xs octets n) same c.new.result c.new.ensures
