-- The rules of one switch between two hosts, and their messages.
use Rattle.std.specs.Prelude.{ℕ, false, true, List, [], ◌∷◌, ◌++◌, replicate, None, Some}
use Rattle.merlin_model.specs.declared.config.Out.TheVariants.{Port}
use Rattle.merlin_model.specs.declared.config.Action.TheVariants.{StripVlan, Output}
use Rattle.merlin_model.specs.declared.config.Vlan.TheVariants.{Untagged, Tag}
use Rattle.merlin_model.specs.declared.config.Match.{Match}
use Rattle.merlin_model.specs.declared.config.Rule.{Rule}

abbrev pub no_match : Match
no_match = record {
  in_port = None;
  dl_src = None;
  dl_dst = None;
  dl_vlan = None;
  dl_type = false;
  nw_proto = None;
  nw_src = None;
  nw_dst = None;
  tp_src = None;
  tp_dst = None;
}

-- to the host whose Ethernet address ends in 1, by tag 1
abbrev pub tag_match : Match
tag_match = record {
  in_port = None;
  dl_src = None;
  dl_dst = Some 1;
  dl_vlan = Some (Tag 1);
  dl_type = false;
  nw_proto = None;
  nw_src = None;
  nw_dst = None;
  tp_src = None;
  tp_dst = None;
}

-- untagged from that host to the other
abbrev pub first_match : Match
first_match = record {
  in_port = Some 1;
  dl_src = Some 1;
  dl_dst = Some 2;
  dl_vlan = Some Untagged;
  dl_type = true;
  nw_proto = None;
  nw_src = Some 167772161;
  nw_dst = Some 167772162;
  tp_src = None;
  tp_dst = None;
}

abbrev pub strip_rule : Rule
strip_rule = record { loc = 2; priority = 100; fits = tag_match; actions = StripVlan ∷ Output (Port 1) ∷ [] }

abbrev pub first_rule : Rule
first_rule = record { loc = 2; priority = 20; fits = first_match; actions = Output (Port 2) ∷ [] }

abbrev pub drop_rule : Rule
drop_rule = record { loc = 2; priority = 0; fits = no_match; actions = [] }

-- 01 0e 0058 00000001 003820f5 0000 000000000000 000000000001 0001 00 00 0000 00 00 0000 00000000 00000000 0000 0000
-- 0000000000000000 0000 0000 0000 0064 ffffffff ffff 0000, then 0003 0008 00000000 and 0000 0008 0001 0000
abbrev pub tag_message : List ℕ
tag_message =
    1 ∷ 14 ∷ 0 ∷ 88 ∷ 0 ∷ 0 ∷ 0 ∷ 1 ∷ 0 ∷ 56 ∷ 32 ∷ 245 ∷ 0 ∷ 0 ∷ 0 ∷ 0 ∷ 0 ∷ 0 ∷ 0 ∷ 0 ∷ 0 ∷ 0 ∷ 0 ∷ 0 ∷ 0 ∷ 1 ∷ 0 ∷ 1
    ∷ (replicate 35 0 ++ 100 ∷ 255 ∷ 255 ∷ 255 ∷ 255 ∷ 255 ∷ 255 ∷ 0 ∷ 0
    ∷ 0 ∷ 3 ∷ 0 ∷ 8 ∷ 0 ∷ 0 ∷ 0 ∷ 0 ∷ 0 ∷ 0 ∷ 0 ∷ 8 ∷ 0 ∷ 1 ∷ 0 ∷ 0 ∷ [])

-- 010e004800000005003820ff, 52 bytes of 0, ffffffffffff0000; the first byte is the version
abbrev pub last_message : ℕ → List ℕ
last_message version =
    version ∷ 14 ∷ 0 ∷ 72 ∷ 0 ∷ 0 ∷ 0 ∷ 5 ∷ 0 ∷ 56 ∷ 32 ∷ 255
    ∷ (replicate 52 0 ++ 255 ∷ 255 ∷ 255 ∷ 255 ∷ 255 ∷ 255 ∷ 0 ∷ 0 ∷ [])
