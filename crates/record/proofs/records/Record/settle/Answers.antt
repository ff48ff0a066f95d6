use Rattle.std.proofs.Common.{◌≡◌, filter, map, rules, refl, sym, ap, ◌∙◌}
use Rattle.std.proofs.lemmas.Fn.{filter_same}
use Rattle.table.proofs.Changed.{map_from_update}
use Rattle.table.specs.Rows.{rows}
use Rattle.record.specs.Lawful.{lawful_neighbours, lawful_trees}
use Rattle.record.specs.Settling.{heard, lapsed}
use Rattle.record.proofs.Settled.{neighbours_kept, trees_lapsed}
use Rattle.record.proofs.records.Record.settle.Goals as goal

pub invariant_of-self-clause-neighbours_lawful : goal.invariant_of-self-clause-neighbours_lawful
invariant_of-self-clause-neighbours_lawful c =
    let own = c.args.self.now.address.0 in
    let near = rows c.args.self.now.neighbours in
    let kept : rows c.retain.new.self ≡ filter (heard c.args.time) near = filter_same _ _ _ (λ x b f k. search rules) _ _ c.retain.ensures in
    ap (lawful_neighbours own) kept ∙ neighbours_kept (heard c.args.time) own near c.args.self.now.neighbours_lawful

pub invariant_of-self-clause-trees_lawful : goal.invariant_of-self-clause-trees_lawful
invariant_of-self-clause-trees_lawful c =
    let own = c.args.self.now.address.0 in
    let near = rows c.retain.new.self in
    let trees = rows c.args.self.now.trees in
    let changed : rows c.update.new.self ≡ map (lapsed own near c.args.time) trees = map_from_update _ _ (λ x y k. search rules) _ _ c.update.ensures in
    ap lawful_trees changed ∙ trees_lapsed own near c.args.time trees c.args.self.now.trees_lawful

pub returns : goal.returns
returns c =
    let near = rows c.args.self.now.neighbours in
    let trees = rows c.args.self.now.trees in
    let kept : rows c.retain.new.self ≡ filter (heard c.args.time) near = filter_same _ _ _ (λ x b f k. search rules) _ _ c.retain.ensures in
    let changed : rows c.update.new.self ≡ map (lapsed c.args.self.now.address.0 (rows c.retain.new.self) c.args.time) trees = map_from_update _ _ (λ x y k. search rules) _ _ c.update.ensures in
    (sym c.is_timely.ensures ∙ c.if-not-is_timely.false, rw (changed, kept) refl)
