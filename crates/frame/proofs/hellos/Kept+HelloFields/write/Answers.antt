use Rattle.std.proofs.Common.{rules, length, ap}
use Rattle.frame.specs.Values.{hello_values}
use Rattle.frame.proofs.RoundTrips.{hellos_are_short}
use Rattle.frame.proofs.hellos.Kept+HelloFields.write.Goals as goal

pub overflow_cast-head : goal.overflow_cast-head
overflow_cast-head c =
    let short = hellos_are_short (hello_values c.args.self.fields) c.args.self.rules in
    let same = ap (λ f. length f.groups.0.now) c.fields-fields.ensures in
    search rules
