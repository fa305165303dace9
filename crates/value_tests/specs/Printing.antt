-- Configurations and the lines that stand for them.
use Rattle.std.specs.Prelude.{ℕ, ◌≡◌, List, [], ◌∷◌, map, None, Some, true, false, codes}
use Rattle.merlin_model.specs.declared.config.Vlan.TheVariants.{Tag}
use Rattle.merlin_model.specs.declared.config.Out.TheVariants.{InPort, Port}
use Rattle.merlin_model.specs.declared.config.Action.TheVariants.{SetVlan, Enqueue}
use Rattle.merlin_model.specs.declared.config.Match.{Match}
use Rattle.merlin_model.specs.declared.config.HostLine.{HostLine}
use Rattle.merlin_model.specs.declared.config.HostLine.TheVariants.{Root, Class, Classify, Leave, Output}
use Rattle.merlin_model.specs.declared.config.Config.{Config}
use Rattle.merlin_model.specs.Networks.{Network}
use Rattle.config_text.specs.Words.{line}
use Rattle.config_text.specs.Lines.{config_lines}
use Rattle.value_tests.specs.Networks.{first, second, link_match, tagged, untagged, at_s1, at_s2, to, turn, host_match}

-- the lines of the configuration, without their newlines
abbrev pub Prints : Network → Config → List (List ℕ) → Type 0
Prints net config texts = config_lines net config ≡ map line texts

abbrev pub every_way_text : List (List ℕ)
every_way_text =
    codes "rule s1 100 dl_dst=00:00:00:00:00:01,dl_vlan=1 strip_vlan,output=1"
    ∷ codes "rule s1 100 dl_dst=00:00:00:00:00:02,dl_vlan=1 strip_vlan,output=2"
    ∷ codes "rule s1 20 in_port=1,dl_src=00:00:00:00:00:01,dl_dst=00:00:00:00:00:02,dl_vlan=none,dl_type=0x0800,nw_src=10.0.0.1,nw_dst=10.0.0.2 output=2"
    ∷ codes "rule s1 20 in_port=2,dl_src=00:00:00:00:00:02,dl_dst=00:00:00:00:00:01,dl_vlan=none,dl_type=0x0800,nw_src=10.0.0.2,nw_dst=10.0.0.1 output=1"
    ∷ codes "rule s1 0 any drop"
    ∷ []

-- from 0a:bc:de:f0:12:34 and port 65535
abbrev pub from_far : Match
from_far = record {
  in_port = None;
  dl_src = Some 11806310404660;
  dl_dst = None;
  dl_vlan = None;
  dl_type = false;
  nw_proto = None;
  nw_src = None;
  nw_dst = None;
  tp_src = Some 65535;
  tp_dst = None;
}

-- Rules of every kind, a line of a middlebox and two queues.
abbrev pub every_kind : Config
every_kind = record {
  rules =
      at_s2 200 (link_match (Some 1) None (Some 2) (Some (Tag 2))) (SetVlan 3 ∷ turn ∷ [])
      ∷ at_s2 100 (tagged 2 2) (SetVlan 3 ∷ to 1 ∷ [])
      ∷ at_s1 40 (untagged 1 first second (Some 6) (Some 80)) (SetVlan 3 ∷ to 3 ∷ [])
      ∷ at_s1 65535 from_far (Enqueue (Port 65279) 64 ∷ [])
      ∷ at_s1 1 (link_match None None None (Some (Tag 4094))) (Enqueue InPort 1 ∷ [])
      ∷ [];
  processes = record { loc = 3; tag = 2; eth_dst = 2; functions = []; next_tag = 4; port = 1; queue = 0 } ∷ [];
  queues = record { loc = 0; port = 1; queue = 1; rate = 60 } ∷ record { loc = 0; port = 1; queue = 2; rate = 60 } ∷ [];
  hosts = [];
}

abbrev pub every_kind_text : List (List ℕ)
every_kind_text =
    codes "rule s2 200 in_port=1,dl_dst=00:00:00:00:00:02,dl_vlan=2 set_vlan_vid=3,output=in_port"
    ∷ codes "rule s2 100 dl_dst=00:00:00:00:00:02,dl_vlan=2 set_vlan_vid=3,output=1"
    ∷ codes "rule s1 40 in_port=1,dl_src=00:00:00:00:00:01,dl_dst=00:00:00:00:00:02,dl_vlan=none,dl_type=0x0800,nw_proto=6,nw_src=10.0.0.1,nw_dst=10.0.0.2,tp_dst=80 set_vlan_vid=3,output=3"
    ∷ codes "rule s1 65535 dl_src=0a:bc:de:f0:12:34,tp_src=65535 enqueue=65279:64"
    ∷ codes "rule s1 1 dl_vlan=4094 enqueue=in_port:1"
    ∷ codes "process s2 2 00:00:00:00:00:02 - 4 1 0"
    ∷ codes "queue h1 1 1 60kbit"
    ∷ codes "queue h1 1 2 60kbit"
    ∷ []

-- what h1 does
abbrev pub lines_of_h1 : List HostLine
lines_of_h1 =
    Root 0
    ∷ Class 0 1 60 1000
    ∷ Class 0 2 9 9
    ∷ Classify 0 (host_match (Some 17) (Some 5004) (Some 53)) 254
    ∷ Leave 0 (host_match (Some 1) None None)
    ∷ Output 0 (host_match (Some 6) None (Some 80)) true
    ∷ Output 0 (host_match (Some 6) None None) false
    ∷ Output 0 (host_match None None None) false
    ∷ []

abbrev pub text_of_h1 : List (List ℕ)
text_of_h1 =
    codes "host h1 tc qdisc add dev eth0 root handle 1: htb"
    ∷ codes "host h1 tc class add dev eth0 parent 1: classid 1:1 htb rate 60kbit ceil 1000kbit"
    ∷ codes "host h1 tc class add dev eth0 parent 1: classid 1:2 htb rate 9kbit ceil 9kbit"
    ∷ codes "host h1 iptables -t mangle -A POSTROUTING -s 10.0.0.1 -d 10.0.0.2 -p udp --sport 5004 --dport 53 -j CLASSIFY --set-class 1:fe"
    ∷ codes "host h1 iptables -t mangle -A POSTROUTING -s 10.0.0.1 -d 10.0.0.2 -p 1 -j RETURN"
    ∷ codes "host h1 iptables -A OUTPUT -s 10.0.0.1 -d 10.0.0.2 -p tcp --dport 80 -j DROP"
    ∷ codes "host h1 iptables -A OUTPUT -s 10.0.0.1 -d 10.0.0.2 -p tcp -j RETURN"
    ∷ codes "host h1 iptables -A OUTPUT -s 10.0.0.1 -d 10.0.0.2 -j RETURN"
    ∷ []
