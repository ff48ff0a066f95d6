-- What each message says, as numbers and octets.
use Rattle.std.specs.Prelude.{ℕ, List}
use Rattle.field.specs.Addresses.{number_or_0}
use Rattle.field.specs.Codes.{class_code}
use Rattle.frame.specs.declared.hellos.HelloFields.{HelloFields}
use Rattle.frame.specs.declared.stcs.StcFields.{StcFields}
use Rattle.frame.specs.declared.tree_statuses.TreeStatusFields.{TreeStatusFields}

pub record HelloValues : Type 0 where
  pub sender : ℕ
  pub number : ℕ
  pub vtime : ℕ
  pub class : ℕ
  -- the octets of its groups
  pub groups : List ℕ

pub record StcValues : Type 0 where
  pub sender : ℕ
  pub wave : ℕ
  pub root : ℕ
  pub cost : ℕ
  -- 0 for none
  pub parent : ℕ
  pub vtime : ℕ
  pub ttl : ℕ
  pub flags : ℕ
  pub tree : ℕ

pub record TreeStatusValues : Type 0 where
  pub sender : ℕ
  pub wave : ℕ
  pub root : ℕ
  pub tree : ℕ
  pub descendants : ℕ
  pub flags : ℕ

pub data Values : Type 0 where
  hello : HelloValues → Values
  stc : StcValues → Values
  tree_status : TreeStatusValues → Values

abbrev pub hello_values : HelloFields → HelloValues
hello_values h =
    record {
      sender = h.sender.0;
      number = h.number;
      vtime = h.vtime;
      class = class_code h.class;
      groups = h.groups.0.now;
    }

abbrev pub stc_values : StcFields → StcValues
stc_values s =
    record {
      sender = s.sender.0;
      wave = s.wave.0;
      root = s.root.0;
      cost = s.cost;
      parent = number_or_0 s.parent;
      vtime = s.vtime;
      ttl = s.ttl;
      flags = s.flags.0;
      tree = s.tree.0;
    }

abbrev pub tree_status_values : TreeStatusFields → TreeStatusValues
tree_status_values t =
    record {
      sender = t.sender.0;
      wave = t.wave.0;
      root = t.root.0;
      tree = t.tree.0;
      descendants = t.descendants;
      flags = t.flags.0;
    }
