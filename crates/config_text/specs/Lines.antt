-- The lines of a configuration. The name of a line's location is handed in, since the line holds its number.
use Rattle.std.specs.Prelude.{ℕ, ◌<◌, ◌==◌, Bool, true, false, List, [], ◌∷◌, ◌++◌, map, length, option_map, unwrap_or, slice_get, codes, if◌then◌else◌}
use Rattle.std.specs.Fmt.{decimal, digits}
use Rattle.std.specs.List.{All}
use Rattle.merlin_model.specs.declared.config.Out.{Out}
use Rattle.merlin_model.specs.declared.config.Out.TheVariants.{InPort, Port}
use Rattle.merlin_model.specs.declared.config.Action.{Action}
use Rattle.merlin_model.specs.declared.config.Action.TheVariants.{SetVlan, StripVlan, Output, Enqueue}
use Rattle.merlin_model.specs.declared.config.Vlan.{Vlan}
use Rattle.merlin_model.specs.declared.config.Vlan.TheVariants.{Untagged, Tag}
use Rattle.merlin_model.specs.declared.config.Match.{Match}
use Rattle.merlin_model.specs.declared.config.Rule.{Rule}
use Rattle.merlin_model.specs.declared.config.Process.{Process}
use Rattle.merlin_model.specs.declared.config.Queue.{Queue}
use Rattle.merlin_model.specs.declared.config.HostMatch.{HostMatch}
use Rattle.merlin_model.specs.declared.config.HostLine.{HostLine}
use Rattle.merlin_model.specs.declared.config.HostLine.TheVariants as host_line
use Rattle.merlin_model.specs.declared.config.Config.{Config}
use Rattle.merlin_model.specs.declared.network.FnDecl.{FnDecl}
use Rattle.merlin_model.specs.Networks.{Network}
use Rattle.merlin_base.specs.Addresses.{mac_text, ip_text}
use Rattle.config_text.specs.Words.{words, line, joined_by_commas, field, option_words}

-- Rules of OpenFlow.

abbrev pub vlan_text : Vlan → List ℕ
vlan_text Untagged = codes "none"
vlan_text (Tag n) = decimal n

-- the Ethernet type of IPv4
abbrev pub type_field : Bool → List (List ℕ)
type_field true = codes "dl_type=0x0800" ∷ []
type_field false = []

abbrev pub match_fields : Match → List (List ℕ)
match_fields m =
    field (codes "in_port") decimal m.in_port ++ field (codes "dl_src") mac_text m.dl_src
    ++ field (codes "dl_dst") mac_text m.dl_dst ++ field (codes "dl_vlan") vlan_text m.dl_vlan ++ type_field m.dl_type
    ++ field (codes "nw_proto") decimal m.nw_proto ++ field (codes "nw_src") ip_text m.nw_src
    ++ field (codes "nw_dst") ip_text m.nw_dst ++ field (codes "tp_src") decimal m.tp_src
    ++ field (codes "tp_dst") decimal m.tp_dst

abbrev pub match_text : Match → List ℕ
match_text m = joined_by_commas (codes "any") (match_fields m)

abbrev pub out_text : Out → List ℕ
out_text InPort = codes "in_port"
out_text (Port n) = decimal n

abbrev pub action_text : Action → List ℕ
action_text (SetVlan n) = codes "set_vlan_vid=" ++ decimal n
action_text StripVlan = codes "strip_vlan"
action_text (Output out) = codes "output=" ++ out_text out
action_text (Enqueue out queue) = codes "enqueue=" ++ (out_text out ++ (codes ":" ++ decimal queue))

abbrev pub actions_text : List Action → List ℕ
actions_text actions = joined_by_commas (codes "drop") (map action_text actions)

abbrev pub rule_text : List ℕ → Rule → List ℕ
rule_text location rule = words (codes "rule" ∷ location ∷ decimal rule.priority ∷ match_text rule.fits ∷ actions_text rule.actions ∷ [])

-- Lines of middleboxes.

abbrev pub function_name : List FnDecl → ℕ → List ℕ
function_name declared function = unwrap_or (option_map (λ f. f.name) (slice_get declared function)) []

abbrev pub functions_text : List FnDecl → List ℕ → List ℕ
functions_text declared functions = joined_by_commas (codes "-") (map (function_name declared) functions)

abbrev pub process_text : List ℕ → List FnDecl → Process → List ℕ
process_text location declared p = words (codes "process" ∷ location ∷ decimal p.tag ∷ mac_text p.eth_dst ∷ functions_text declared p.functions
    ∷ decimal p.next_tag ∷ decimal p.port ∷ decimal p.queue ∷ [])

-- Queues and what hosts do.

abbrev pub rate_with_unit : ℕ → List ℕ
rate_with_unit rate = decimal rate ++ codes "kbit"

abbrev pub queue_text : List ℕ → Queue → List ℕ
queue_text location q = words (codes "queue" ∷ location ∷ decimal q.port ∷ decimal q.queue ∷ rate_with_unit q.rate ∷ [])

abbrev pub proto_text : ℕ → List ℕ
proto_text proto = if proto == 6 then codes "tcp" else (if proto == 17 then codes "udp" else decimal proto)

abbrev pub host_match_words : HostMatch → List (List ℕ)
host_match_words m =
    codes "-s" ∷ ip_text m.src ∷ codes "-d" ∷ ip_text m.dst
    ∷ option_words (codes "-p") proto_text m.proto ++ option_words (codes "--sport") decimal m.sport ++ option_words (codes "--dport") decimal m.dport

-- what makes a class of tc, whose minor number is hexadecimal, with its rate and its ceiling
abbrev pub class_text : ℕ → ℕ → ℕ → List ℕ
class_text class rate ceil =
    codes "tc class add dev eth0 parent 1: classid 1:"
    ++ (digits 16 false class ++ (codes " htb rate " ++ (decimal rate ++ (codes "kbit ceil " ++ (decimal ceil ++ codes "kbit")))))

abbrev pub classify_text : ℕ → List ℕ
classify_text class = codes "-j CLASSIFY --set-class 1:" ++ digits 16 false class

-- what a line of OUTPUT does
abbrev pub verdict_text : Bool → List ℕ
verdict_text true = codes "-j DROP"
verdict_text false = codes "-j RETURN"

-- what a line says of its host
abbrev pub host_words : HostLine → List (List ℕ)
host_words (host_line.Root host) = codes "tc qdisc add dev eth0 root handle 1: htb" ∷ []
host_words (host_line.Class host class rate ceil) = class_text class rate ceil ∷ []
host_words (host_line.Classify host m class) = codes "iptables -t mangle -A POSTROUTING" ∷ host_match_words m ++ classify_text class ∷ []
host_words (host_line.Leave host m) = codes "iptables -t mangle -A POSTROUTING" ∷ host_match_words m ++ codes "-j RETURN" ∷ []
host_words (host_line.Output host m drop) = codes "iptables -A OUTPUT" ∷ host_match_words m ++ verdict_text drop ∷ []

abbrev pub host_text : List ℕ → HostLine → List ℕ
host_text location h = words (codes "host" ∷ location ∷ host_words h)

-- the host of a line
abbrev pub host_of : HostLine → ℕ
host_of (host_line.Root host) = host
host_of (host_line.Class host class rate ceil) = host
host_of (host_line.Classify host m class) = host
host_of (host_line.Leave host m) = host
host_of (host_line.Output host m drop) = host

-- The whole configuration.

abbrev pub name_at : Network → ℕ → List ℕ
name_at net loc = unwrap_or (option_map (λ l. l.name) (slice_get net.locations loc)) []

abbrev pub rule_lines : Network → List Rule → List (List ℕ)
rule_lines net rules = map (λ r. line (rule_text (name_at net r.loc) r)) rules

abbrev pub process_lines : Network → List Process → List (List ℕ)
process_lines net processes = map (λ p. line (process_text (name_at net p.loc) net.functions p)) processes

abbrev pub queue_lines : Network → List Queue → List (List ℕ)
queue_lines net queues = map (λ q. line (queue_text (name_at net q.loc) q)) queues

abbrev pub host_lines : Network → List HostLine → List (List ℕ)
host_lines net hosts = map (λ h. line (host_text (name_at net (host_of h)) h)) hosts

-- the lines of a configuration over a network, each with its newline
abbrev pub config_lines : Network → Config → List (List ℕ)
config_lines net config = rule_lines net config.rules ++ process_lines net config.processes ++ queue_lines net config.queues ++ host_lines net config.hosts

-- the configuration names locations and functions of the network alone
pub record IsConfigOver (net : Network) (config : Config) : Type 0 where
  pub rules : All (λ r. r.loc < length net.locations) config.rules
  pub processes : All (λ p. p.loc < length net.locations) config.processes
  pub functions : All (λ p. All (λ f. f < length net.functions) p.functions) config.processes
  pub queues : All (λ q. q.loc < length net.locations) config.queues
  pub hosts : All (λ h. host_of h < length net.locations) config.hosts
