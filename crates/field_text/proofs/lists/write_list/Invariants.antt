use Rattle.std.proofs.Common.{◌++◌}
use Rattle.std.specs.Fmt.{HasWritten, IsPlainFormatter}
use Rattle.std.specs.List.{flat_map}
use Rattle.field_text.specs.Texts.{WrittenAs}
use Rattle.field_text.proofs.lists.write_list.Given as goal

-- each further item that came stands behind the separator
abbrev pub invariant-loop-item : goal.invariant-loop-item
invariant-loop-item g l =
    (goal.iterator-loop-item g).can_next l.item-iterator
    × (goal.iterator-loop-item g).is_finite l.item-iterator
    × ((show : _) → WrittenAs g.I.Item.Display.output show → IsPlainFormatter l.initial.f
    → HasWritten g.W.Write.write_str_gives l.initial.f (flat_map (λ x. l.separator ++ show x) l.yielded) l.f)
