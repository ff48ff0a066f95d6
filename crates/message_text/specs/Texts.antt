-- Messages as text: the kind, then each field by name.
use Rattle.std.specs.Prelude.{ℕ, List, ◌++◌, map, codes, decimal}
pub use Rattle.field_text.specs.Texts.{list_text, flag_text, flags_text, class_text, parent_text}
use Rattle.frame.specs.declared.hellos.HelloFields.{HelloFields}
use Rattle.frame.specs.declared.messages.Message.{Message}
use Rattle.frame.specs.declared.messages.Message.TheVariants as message
use Rattle.frame.specs.declared.stcs.StcFields.{StcFields}
use Rattle.frame.specs.declared.tree_statuses.TreeStatusFields.{TreeStatusFields}
use Rattle.hello_groups.specs.Splitting.{sym_in, asym_in}

abbrev pub addresses_text : List ℕ → List ℕ
addresses_text addresses = list_text (codes ",") (map decimal addresses)

unfoldable pub hello_text : HelloFields → List ℕ
hello_text f =
    codes "Hello sender=" ++ (decimal f.sender.0
    ++ (codes " number=" ++ (decimal f.number
    ++ (codes " vtime=" ++ (decimal f.vtime
    ++ (codes " class=" ++ (class_text f.class
    ++ (codes " sym=" ++ (addresses_text (sym_in f.groups.0.now)
    ++ (codes " asym=" ++ addresses_text (asym_in f.groups.0.now)))))))))))

unfoldable pub offer_text : StcFields → List ℕ
offer_text f =
    codes "STC sender=" ++ (decimal f.sender.0
    ++ (codes " wave=" ++ (decimal f.wave.0
    ++ (codes " root=" ++ (decimal f.root.0
    ++ (codes " cost=" ++ (decimal f.cost
    ++ (codes " parent=" ++ parent_text f.parent))))))))

unfoldable pub stc_text : StcFields → List ℕ
stc_text f =
    offer_text f
    ++ (codes " vtime=" ++ (decimal f.vtime
    ++ (codes " ttl=" ++ (decimal f.ttl
    ++ (codes " flags=" ++ (flags_text f.flags.0
    ++ (codes " tree=" ++ decimal f.tree.0)))))))

unfoldable pub tree_status_text : TreeStatusFields → List ℕ
tree_status_text f =
    codes "TreeStatus sender=" ++ (decimal f.sender.0
    ++ (codes " wave=" ++ (decimal f.wave.0
    ++ (codes " root=" ++ (decimal f.root.0
    ++ (codes " tree=" ++ (decimal f.tree.0
    ++ (codes " descendants=" ++ (decimal f.descendants
    ++ (codes " flags=" ++ flags_text f.flags.0))))))))))

abbrev pub message_text : Message → List ℕ
message_text (message.Hello m) = hello_text m.fields
message_text (message.Stc m) = stc_text m.fields
message_text (message.TreeStatus m) = tree_status_text m.fields
