use Rattle.std.proofs.Common.{◌≡◌, ◌-◌, [], ◌++◌, length, take, drop, append-nil, sym, refl, ◌∙◌, subst, arith}
use denote.Param.Members.{once}
use borrow.Rule.Slice.PartMut.{post_of}
use Rattle.std.proofs.lemmas.List.{take_at, take_all, drop_all, length-take-le}
use Rattle.std.specs.Fn.{FnOnceReturnsAtMut}
use Rattle.std.specs.List.{AllZip}
use Rattle.table.specs.Rows.{rows}
use Rattle.table.proofs.Changed.{changed_more, left_more}
use Rattle.table.proofs.tables.Table.update.Goals as goal

pub loop-row-preserved : goal.loop-row-preserved
loop-row-preserved g c =
    let R : g.row.T.Denot → g.row.T.Denot → Type 0 = λ x y. FnOnceReturnsAtMut (once g.F.Fn) c.args.change x tt y in
    let xs = take (c.args.self.now.count - 0) c.args.self.now.items in
    let ys = c.loop-row.row-items in
    let i = c.loop-row.row-index in
    let x = c.row-item.result in
    let y = c.change.new.arg2 in
    let called : R x y = record { shown = _; shows = sym c.row-item.is; left = _; met = c.change.ensures; leaves = refl } in
    record {
      left = left_more xs ys i y c.loop-row.invariant.left;
      changed = changed_more R xs ys i y x (omega (arith, c.loop-row-test.true, c.loop-row.auto.row-index-end)) c.row-item.is c.loop-row.invariant.left called c.loop-row.invariant.changed;
    }

pub returns : goal.returns
returns g c =
    let R : g.row.T.Denot → g.row.T.Denot → Type 0 = λ x y. FnOnceReturnsAtMut (once g.F.Fn) c.args.change x tt y in
    let n = c.args.self.now.count in
    let xs = take (n - 0) c.args.self.now.items in
    let ys = c.loop-row.row-items in
    let long : length ys ≡ n = omega (arith, c.loop-row.auto.row-items, length-take-le (n - 0) c.args.self.now.items (omega arith)) in
    let end : drop c.loop-row.row-index xs ≡ [] = drop_all c.loop-row.row-index xs (omega (arith, c.loop-row.auto.row-items)) in
    let all : AllZip R xs (take c.loop-row.row-index ys ++ []) = c.loop-row.invariant.changed [] (subst (λ l. AllZip R l []) (sym end) tt) in
    let now : take n (ys ++ post_of 0 (n - 0) c.args.self.now.items) ≡ take c.loop-row.row-index ys ++ [] =
    take_at ys (post_of 0 (n - 0) c.args.self.now.items) n long ∙ sym (take_all c.loop-row.row-index ys (omega arith)) ∙ sym (append-nil (take c.loop-row.row-index ys)) in
    let same : n - 0 ≡ n = omega arith in
    subst (λ l. AllZip R (rows c.args.self.now) l) (sym now) (subst (λ k. AllZip R (take k c.args.self.now.items) (take c.loop-row.row-index ys ++ [])) same all)
