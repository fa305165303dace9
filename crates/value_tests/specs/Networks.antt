-- Two networks of two hosts, and the rules of worked cases.
use Rattle.std.specs.Prelude.{ℕ, List, [], ◌∷◌, Option, None, Some, false, true, codes}
use Rattle.merlin_model.specs.declared.network.LocationKind.{LocationKind}
use Rattle.merlin_model.specs.declared.network.LocationKind.TheVariants.{Host, Switch}
use Rattle.merlin_model.specs.declared.network.Location.{Location}
use Rattle.merlin_model.specs.declared.network.Link.{Link}
use Rattle.merlin_model.specs.declared.network.HostAddress.{HostAddress}
use Rattle.merlin_model.specs.declared.config.Match.{Match}
use Rattle.merlin_model.specs.declared.config.Vlan.{Vlan}
use Rattle.merlin_model.specs.declared.config.Vlan.TheVariants.{Untagged, Tag}
use Rattle.merlin_model.specs.declared.config.Out.TheVariants.{InPort, Port}
use Rattle.merlin_model.specs.declared.config.Action.{Action}
use Rattle.merlin_model.specs.declared.config.Action.TheVariants.{StripVlan, Output}
use Rattle.merlin_model.specs.declared.config.Rule.{Rule}
use Rattle.merlin_model.specs.declared.config.HostMatch.{HostMatch}
use Rattle.merlin_model.specs.declared.config.HostLine.{HostLine}
use Rattle.merlin_model.specs.declared.config.Config.{Config}
use Rattle.merlin_model.specs.Networks.{Network}

abbrev pub location : List ℕ → LocationKind → Location
location name kind = record { name = name; kind = kind }

abbrev pub gigabit_link : ℕ → ℕ → ℕ → ℕ → Link
gigabit_link a aport b bport =
    record { a = a; aport = aport; b = b; bport = bport; capacity = 1000000; back = 1000000; weight = 1 }

-- the addresses 00:00:00:00:00:01 and 10.0.0.1
abbrev pub first : HostAddress
first = record { eth = 1; ip = 167772161 }

-- the addresses 00:00:00:00:00:02 and 10.0.0.2
abbrev pub second : HostAddress
second = record { eth = 2; ip = 167772162 }

-- Two hosts at one switch: h1 is 0, h2 is 1, s1 is 2.
abbrev pub one_switch : Network
one_switch = record {
  locations = location (codes "h1") (Host first) ∷ location (codes "h2") (Host second) ∷ location (codes "s1") Switch ∷ [];
  links = gigabit_link 0 1 2 1 ∷ gigabit_link 1 1 2 2 ∷ [];
  functions = [];
}

-- The same with another switch, s2, which is 3.
abbrev pub two_switches : Network
two_switches = record {
  locations =
      location (codes "h1") (Host first) ∷ location (codes "h2") (Host second)
      ∷ location (codes "s1") Switch ∷ location (codes "s2") Switch ∷ [];
  links = gigabit_link 0 1 2 1 ∷ gigabit_link 1 1 2 2 ∷ gigabit_link 3 1 2 3 ∷ [];
  functions = [];
}

-- a match of the link alone: the port, the two Ethernet addresses and the tag, where they are given
abbrev pub link_match : Option ℕ → Option ℕ → Option ℕ → Option Vlan → Match
link_match in_port dl_src dl_dst dl_vlan = record {
  in_port = in_port;
  dl_src = dl_src;
  dl_dst = dl_dst;
  dl_vlan = dl_vlan;
  dl_type = false;
  nw_proto = None;
  nw_src = None;
  nw_dst = None;
  tp_src = None;
  tp_dst = None;
}

abbrev pub any : Match
any = link_match None None None None

abbrev pub from_port : ℕ → Match
from_port port = link_match (Some port) None None None

abbrev pub tagged : ℕ → ℕ → Match
tagged tag eth = link_match None None (Some eth) (Some (Tag tag))

-- a match of untagged frames that come in by a port, from one host to the other, where they are given of a protocol and to a port
abbrev pub untagged : ℕ → HostAddress → HostAddress → Option ℕ → Option ℕ → Match
untagged port source dest proto dport = record {
  in_port = Some port;
  dl_src = Some source.eth;
  dl_dst = Some dest.eth;
  dl_vlan = Some Untagged;
  dl_type = true;
  nw_proto = proto;
  nw_src = Some source.ip;
  nw_dst = Some dest.ip;
  tp_src = None;
  tp_dst = dport;
}

-- a rule of s1
abbrev pub at_s1 : ℕ → Match → List Action → Rule
at_s1 priority fits actions = record { loc = 2; priority = priority; fits = fits; actions = actions }

-- a rule of s2
abbrev pub at_s2 : ℕ → Match → List Action → Rule
at_s2 priority fits actions = record { loc = 3; priority = priority; fits = fits; actions = actions }

abbrev pub to : ℕ → Action
to port = Output (Port port)

-- back by the port that the frame came in by
abbrev pub turn : Action
turn = Output InPort

-- rules and what hosts do, without middleboxes and queues
abbrev pub of_rules : List Rule → List HostLine → Config
of_rules rules lines = record { rules = rules; processes = []; queues = []; hosts = lines }

-- the rules over one switch for the policy that allows every way
abbrev pub every_way_rules : List Rule
every_way_rules =
    at_s1 100 (tagged 1 1) (StripVlan ∷ to 1 ∷ [])
    ∷ at_s1 100 (tagged 1 2) (StripVlan ∷ to 2 ∷ [])
    ∷ at_s1 20 (untagged 1 first second None None) (to 2 ∷ [])
    ∷ at_s1 20 (untagged 2 second first None None) (to 1 ∷ [])
    ∷ at_s1 0 any []
    ∷ []

-- a match of the lists of a host, from h1 to h2
abbrev pub host_match : Option ℕ → Option ℕ → Option ℕ → HostMatch
host_match proto sport dport = record { src = 167772161; dst = 167772162; proto = proto; sport = sport; dport = dport }
