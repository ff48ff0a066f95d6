use Rattle.std.proofs.Common.{rules, of_calls, ◌≡◌, ◌+◌, List, [], ◌∷◌, drop, refl, ap, ◌∙◌, arith, append_assoc, append-nil, cond, get_or}
use Rattle.std.proofs.lemmas.Grind.{common_steps}
use Rattle.std.proofs.lemmas.List.{drop_all, drop-set-lt, take_more_set}
use Rattle.std.specs.Fn.{CalledAt}
use Rattle.std.specs.List.Retain.{IsFiltered}
use Rattle.table.specs.Rows.{rows}
use Rattle.table.proofs.Kept.{filtered_next}
use Rattle.table.proofs.Laws.{rows_within, take_of_set}
use Rattle.table.proofs.tables.Table.retain.Goals as goal
use Rattle.table.proofs.tables.Table.retain.Goals.{then-keep, else-keep}

pub loop-i-preserved : goal.loop-i-preserved
loop-i-preserved g c =
    let R = CalledAt g.F.FnMut in
    let t = c.loop-i.self in
    let i = c.loop-i.i in
    let k = c.loop-i.next in
    let x = get_or t.items i c.index-self-i.result in
    let called : R c.loop-i.keep x c.keep.result c.keep.new.self = record { shown = _; shows = refl; called = c.keep.ensures } in
    let here : drop i (rows t) ≡ x ∷ drop (i + 1) (rows t) = grind (arith, common_steps, rows_within t) in
    let next = λ (ys : List g.row.T.Denot) (h : IsFiltered R c.keep.new.self (drop (i + 1) (rows t)) ys). c.loop-i.invariant.filtered (cond c.keep.result (x ∷ ys) ys) (rw here (filtered_next R _ _ x _ _ ys called h)) in
    record {
      callable = search of_calls;
      counted = search rules;
      behind = search rules;
      filtered = λ ys h. elim c.if-keep.branch [
        | then-keep w ↦ (
            let left = ap (drop (i + 1)) (ap rows w.self-is ∙ take_of_set t.count t.items k x) ∙ drop-set-lt (i + 1) (rows t) k x (omega arith) in
            let kept = next ys (rw left at h) in
            rw (w.self-is, w.next-is, take_more_set t.items k x (omega (arith, t.within, t.whole)), append_assoc) (rw w.if-keep.true at kept))
        | else-keep w ↦ (let kept = next ys (rw w.self-is at h) in rw (w.self-is, w.next-is) (rw w.if-keep.false at kept))
      ];
    }

pub returns : goal.returns
returns g c =
    let t = c.loop-i.self in
    let end = drop_all c.loop-i.i (rows t) (omega (arith, rows_within t)) in
    let all = c.loop-i.invariant.filtered [] (rw end ([], c.loop-i.keep, refl, refl, refl)) in
    rw append-nil at all
