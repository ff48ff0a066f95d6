-- What is written is read, and what is read is written.
use Rattle.std.proofs.Common.{◌≡◌, ℕ, ◌+◌, ◌*◌, ◌/◌, ◌%◌, ◌≤◌, List, [], ◌∷◌, ◌++◌, length, drop, Ok, Err, sym, refl, ap, ◌∙◌, subst, arith, rules, length-append}
use Rattle.hello_groups.specs.Groups.{group}
use Rattle.frame.specs.Octets.{octets, hello_octets, stc_fields, tree_status_fields}
use Rattle.frame.specs.Reading.{Rule, stc_at, tree_status_at}
use Rattle.frame.specs.RoundTrip.{WrittenIsRead, ReadIsWritten, MessagesKeepRules, MessagesAreShort}
use Rattle.frame.specs.declared.messages.Message.TheVariants as message
use Rattle.frame.specs.Rules.{WellFormed, HelloRules, StcRules, TreeStatusRules}
use Rattle.frame.specs.Values.{HelloValues, StcValues, TreeStatusValues, Values, hello, stc, tree_status}
use Rattle.frame.specs.Messages.{values}
use Rattle.field.specs.Wide.{at, wide_at}
use Rattle.frame.specs.declared.faults.ReadFault.{ReadFault}
use Rattle.frame.specs.declared.faults.ReadFault.TheVariants.{Short, UnknownKind, WrongSize, BadField, BadGroup}
use Rattle.frame.specs.declared.faults.WriteFault.TheVariants.{OutputTooShort}
use Rattle.field.proofs.Wides.{length_wides}
use Rattle.frame.proofs.Placed.{stc_same, tree_status_same}

-- ---- the values stand at their places in the octets

back : (n : ℕ) → n ≡ n / 256 * 256 + n % 256
back n = omega arith

stc_back : (s : StcValues) → s ≡ stc_at (stc_fields s)
stc_back s = stc_same (stc_fields s) s (back s.sender) (back s.wave) (back s.root) (back s.cost) (back s.parent) refl refl refl (back s.tree)

tree_status_back : (t : TreeStatusValues) → t ≡ tree_status_at (tree_status_fields t)
tree_status_back t =
    tree_status_same (tree_status_fields t) t (back t.sender) (back t.wave) (back t.root) (back t.tree) (back t.descendants) refl

hello_at : List ℕ → HelloValues
hello_at xs = record { sender = wide_at xs 2; number = at xs 4; vtime = at xs 5; class = at xs 6; groups = drop 7 xs }

hello_back : (h : HelloValues) → h ≡ hello_at (hello_octets h)
unfolding hello_at
hello_back h =
    let s = back h.sender in
    let all : record { sender = h.sender; number = h.number; vtime = h.vtime; class = h.class; groups = h.groups } ≡ hello_at (hello_octets h) = cc in
    all

-- ---- so octets have one message

one_message : (v w : Values) → octets v ≡ octets w → v ≡ w
one_message (hello a) (hello b) e = ap hello (hello_back a ∙ ap hello_at e ∙ sym (hello_back b))
one_message (stc a) (stc b) e = ap stc (stc_back a ∙ ap (λ l. stc_at (drop 2 l)) e ∙ sym (stc_back b))
one_message (tree_status a) (tree_status b) e = ap tree_status (tree_status_back a ∙ ap (λ l. tree_status_at (drop 2 l)) e ∙ sym (tree_status_back b))
one_message (hello a) (stc b) e = let z = ap (λ l. at l 0) e in absurd (omega arith)
one_message (hello a) (tree_status b) e = let z = ap (λ l. at l 0) e in absurd (omega arith)
one_message (stc a) (hello b) e = let z = ap (λ l. at l 0) e in absurd (omega arith)
one_message (stc a) (tree_status b) e = let z = ap (λ l. at l 0) e in absurd (omega arith)
one_message (tree_status a) (hello b) e = let z = ap (λ l. at l 0) e in absurd (omega arith)
one_message (tree_status a) (stc b) e = let z = ap (λ l. at l 0) e in absurd (omega arith)

-- ---- and they break no rule of reading

rules_kept : (v : Values) → WellFormed v → (f : ReadFault) → Rule f (octets v)
rules_kept (hello h) w Short = omega arith
rules_kept (hello h) w UnknownKind = (omega arith, omega arith)
rules_kept (hello h) w WrongSize = (omega arith, λ _. omega arith, λ e. absurd (omega arith), λ e. absurd (omega arith))
rules_kept (hello h) w BadField = (λ _. (omega (arith, w.sender), w.class), λ e. absurd (omega arith), λ e. absurd (omega arith))
rules_kept (hello h) w BadGroup = λ _. w.groups
rules_kept (stc s) w Short = omega arith
rules_kept (stc s) w UnknownKind = (omega arith, omega arith)
rules_kept (stc s) w WrongSize = (refl, λ e. absurd (omega arith), λ _. refl, λ e. absurd (omega arith))
rules_kept (stc s) w BadField = (λ e. absurd (omega arith), λ _. subst StcRules (stc_back s) w, λ e. absurd (omega arith))
rules_kept (stc s) w BadGroup = λ e. absurd (omega arith)
rules_kept (tree_status t) w Short = omega arith
rules_kept (tree_status t) w UnknownKind = (omega arith, omega arith)
rules_kept (tree_status t) w WrongSize = (refl, λ e. absurd (omega arith), λ e. absurd (omega arith), λ _. refl)
rules_kept (tree_status t) w BadField = (λ e. absurd (omega arith), λ e. absurd (omega arith), λ _. subst TreeStatusRules (tree_status_back t) w)
rules_kept (tree_status t) w BadGroup = λ e. absurd (omega arith)

pub written_is_read : WrittenIsRead
written_is_read v w (Ok m) reads = one_message (values m) v reads.1
written_is_read v w (Err f) reads = reads.1 (rules_kept v w f)

-- ---- a message is short, so only a short output refuses it

group_length : (code : ℕ) (l : List ℕ) → length (group code l) ≤ 2 + 2 * length l
group_length code [] = omega arith
group_length code (a ∷ more) = omega (arith, length_wides more)

-- the octets of a Hello number at most those of sixteen addresses in two groups
pub hellos_are_short : (h : HelloValues) → HelloRules h → length h.groups ≤ 36
hellos_are_short h rules =
    let g = rules.groups in
    let s = g.0 in
    let a = g.1 in
    omega (
      arith,
      ap length g.3,
      g.2.few,
      length-append s a,
      length-append (group 1 s) (group 2 a),
      group_length 1 s,
      group_length 2 a,
    )

pub messages_keep_rules : MessagesKeepRules
messages_keep_rules (message.Hello m) = search rules
messages_keep_rules (message.Stc m) = search rules
messages_keep_rules (message.TreeStatus m) = search rules

pub messages_are_short : MessagesAreShort
messages_are_short (hello h) w = omega (arith, hellos_are_short h w)
messages_are_short (stc s) w = omega arith
messages_are_short (tree_status t) w = omega arith

pub read_is_written : ReadIsWritten
read_is_written xs m reads before now (Ok n) writes fits =
    let new = octets (values m) in
    let same : new ≡ xs = reads.1 in
    (ap Ok (writes.0 ∙ ap length same), writes.2 ∙ ap (λ l. l ++ drop (length l) before) same)
read_is_written xs m reads before now (Err OutputTooShort) writes fits =
    absurd (omega (arith, writes.0, ap length reads.1))
