use Rattle.std.proofs.Common.{rules, refl, [], ◌∷◌, Ok, Some, ◌++◌, sym, ap}
use Rattle.std.proofs.Output.{has_written_append, has_written_of_eq, displays_on_ok_of_eq}
use Rattle.std.proofs.lemmas.List.{flat_map_more}
use Rattle.std.proofs.lemmas.List.Folds.{flat_map-map}
use Rattle.std.specs.Fmt.{option_append}
use Rattle.field_text.proofs.lists.write_list.Goals as goal

pub returns-in_default : goal.returns-in_default
returns-in_default g c = λ ok. ([], search rules, λ show shows plain _. c.write_str.ensures.writes plain ok)

pub loop-item-preserved : goal.loop-item-preserved
loop-item-preserved g c =
    let item = c.in-Some-item.item in (
      search rules,
      search rules,
      λ show shows plain.
          let so_far = c.loop-item.invariant.2 show shows plain in
          let shown = ap (option_append (Some (c.args.separator.now))) (shows item) in
          let one = displays_on_ok_of_eq _ _ _ (Ok c.in_ok-write-2.field-0) _ (Some (c.args.separator.now ++ show item)) shown c.in_ok-write-2.ensures.writes in
          has_written_of_eq _ _ _ _ _ (flat_map_more (λ x. c.args.separator.now ++ show x) [] c.loop-item.yielded item) (has_written_append _ _ _ _ _ _ so_far (one so_far.plain refl)),
    )

pub returns : goal.returns
returns g c = λ ok. let item = c.in-Some.first in (
  item ∷ c.loop-item.yielded,
  search rules,
  λ show shows plain _.
      let one = displays_on_ok_of_eq _ _ _ (Ok c.in_ok-write.field-0) _ (Some (show item)) (shows item) c.in_ok-write.ensures.writes plain refl in
      let more = c.loop-item.invariant.2 show shows one.plain in
      let texts = sym (flat_map-map (λ text. c.args.separator.now ++ text) show c.loop-item.yielded) in
      has_written_of_eq _ _ _ _ _ (ap (λ l. show item ++ l) texts) (has_written_append _ _ _ _ _ _ one more),
)
