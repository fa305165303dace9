-- The tables: tags, rules and `process` lines.
use Rattle.std.specs.Prelude.{◌↔◌, ℕ, suc, ◌≡◌, ◌≢◌, ◌<◌, ◌⊎◌, ◌==◌, ◌&&◌, Bool, true, false, List, [], ◌∷◌, ◌++◌, map, length, filter, Contains, Option, None, Some, is_some, unwrap_or, slice_get, if◌then◌else◌}
use Rattle.std.specs.List.{flat_map, range_with_len}
use Rattle.merlin_model.specs.declared.network.LocationKind.{LocationKind}
use Rattle.merlin_model.specs.declared.network.LocationKind.TheVariants.{Host, Switch, Middlebox}
use Rattle.merlin_model.specs.declared.network.HostAddress.{HostAddress}
use Rattle.merlin_model.specs.declared.config.Out.{Out}
use Rattle.merlin_model.specs.declared.config.Out.TheVariants.{InPort, Port}
use Rattle.merlin_model.specs.declared.config.Action.{Action}
use Rattle.merlin_model.specs.declared.config.Action.TheVariants.{SetVlan, StripVlan, Output, Enqueue}
use Rattle.merlin_model.specs.declared.config.Vlan.TheVariants.{Untagged, Tag}
use Rattle.merlin_model.specs.declared.config.Match.{Match}
use Rattle.merlin_model.specs.declared.config.Rule.{Rule}
use Rattle.merlin_model.specs.declared.config.Process.{Process}
use Rattle.merlin_model.specs.Packets.{Packet}
use Rattle.merlin_model.specs.declared.network.DirectedLink.{DirectedLink}
use Rattle.merlin_model.specs.Networks.{Pairwise, Network, kind_of, IsHost, address_at, address_of, directed_links}
use Rattle.merlin_model.specs.Words.{functions_of}
use Rattle.merlin_model.specs.Machine.{agrees}
use Rattle.rules_model.specs.declared.priorities.TheConstants.{TAG_PRIORITY, BACK_PRIORITY}
use Rattle.rules_model.specs.Products.{Vertex, loc_of, function_place, Group, Follows, IsVertex, start_in, AllowsWalk, queue_in}

-- What happens at the location of a vertex, given the vertices that follow up to the end.

-- the functions of the vertices that follow at the same location
abbrev pub functions_here : ℕ → List Vertex → List ℕ
functions_here loc [] = []
functions_here loc (u ∷ us) = if loc_of u == loc then functions_of u.symbol ++ functions_here loc us else []

-- the onward vertex, which is the first at another location, with what follows it; none stands for
-- the end
abbrev pub onward : ℕ → List Vertex → Option (Vertex × List Vertex)
onward loc [] = None
onward loc (u ∷ us) = if loc_of u == loc then onward loc us else Some (u, us)

-- A tag stands for the group, state and function of a vertex.
pub record TagKey : Type 0 where
  pub group : ℕ
  pub state : ℕ
  pub fun : Option ℕ

abbrev pub tag_key_of : ℕ → Vertex → TagKey
tag_key_of g v = record { group = g; state = v.state; fun = v.symbol.fun }

-- How a frame leaves the location of a vertex: what runs there, the directed link that it takes,
-- and its tag from then on.
pub record Hop : Type 0 where
  pub functions : List ℕ
  pub link : DirectedLink
  pub tag : Option ℕ

-- where the onward vertex is, or host d
abbrev pub onward_location : ℕ → Option (Vertex × List Vertex) → ℕ
onward_location d None = d
onward_location d (Some next) = loc_of next.0

-- the tags count from 1
abbrev pub HasTag : List TagKey → ℕ → Vertex → ℕ → Type 0
HasTag tags g v n = (k : ℕ) × (slice_get tags k ≡ Some (tag_key_of g v)) × (n ≡ suc k)

-- untagged before a host, else the tag of the onward vertex
abbrev pub IsTagOn : List TagKey → ℕ → Option (Vertex × List Vertex) → Option ℕ → Type 0
IsTagOn tags g None tag = tag ≡ None
IsTagOn tags g (Some next) tag = (n : ℕ) × HasTag tags g next.0 n × (tag ≡ Some n)

-- the hop from vertex v of group g towards host d, where us follow v
pub record IsHop (net : Network) (tags : List TagKey) (g d : ℕ) (v : Vertex) (us : List Vertex) (hop : Hop) : Type 0 where
  pub functions : hop.functions ≡ functions_of v.symbol ++ functions_here (loc_of v) us
  pub present : Contains (directed_links net) hop.link
  pub starts : hop.link.from ≡ loc_of v
  pub ends : hop.link.to ≡ onward_location d (onward (loc_of v) us)
  pub tag : IsTagOn tags g (onward (loc_of v) us) hop.tag

-- A vertex of a product at a location other than a host, with what its line says.
pub record TableRow : Type 0 where
  pub group : ℕ
  pub dest : ℕ
  pub vertex : Vertex
  pub tag : ℕ
  pub eth : ℕ
  pub hop : Hop
  pub queue : Option ℕ

-- a pair of hosts: their addresses, and the directed link to the first switch
pub record HostPair : Type 0 where
  pub source : ℕ
  pub dest : ℕ
  pub from : HostAddress
  pub to : HostAddress
  pub link : DirectedLink

pub record IsHostPair (net : Network) (pair : HostPair) : Type 0 where
  pub differ : pair.source ≢ pair.dest
  pub source : address_of net pair.source ≡ Some pair.from
  pub dest : address_of net pair.dest ≡ Some pair.to
  pub present : Contains (directed_links net) pair.link
  pub starts : pair.link.from ≡ pair.source

-- a cell of a pair of hosts
pub record Cell : Type 0 where
  pub priority : ℕ
  pub proto : Option ℕ
  pub sport : Option ℕ
  pub dport : Option ℕ

-- A cell of a pair, with the group of the statement that owns it, and the hop that its packets take
-- at the first switch. Where there is no hop they are dropped.
pub record IngressEntry : Type 0 where
  pub pair : HostPair
  pub cell : Cell
  pub group : ℕ
  pub queue : Option ℕ
  pub hop : Option Hop

-- whether the packet, between its two hosts, is in the cell
abbrev pub cell_fits : Cell → Packet → Bool
cell_fits c p = agrees c.proto p.proto && agrees c.sport p.sport && agrees c.dport p.dport

-- One entry of the pair of hosts decides about the packet: its cell fits, and each other that fits
-- has a lower priority. It is of group g.
pub record IsDecided (entries : List IngressEntry) (s d : ℕ) (p : Packet) (g : ℕ) : Type 0 where
  pub entry : IngressEntry
  pub among : Contains entries entry
  pub source : entry.pair.source ≡ s
  pub dest : entry.pair.dest ≡ d
  pub fits : cell_fits entry.cell p ≡ true
  pub decides : (e : IngressEntry) → Contains entries e → e.pair.source ≡ s → e.pair.dest ≡ d →
      cell_fits e.cell p ≡ true → (e ≡ entry) ⊎ (e.cell.priority < entry.cell.priority)
  pub above_last : 0 < entry.cell.priority
  pub group : entry.group ≡ g

-- Lines.

abbrev pub match_anything : Match
match_anything = record { in_port = None; dl_src = None; dl_dst = None; dl_vlan = None; dl_type = false; nw_proto = None; nw_src = None; nw_dst = None; tp_src = None; tp_dst = None }

-- through the queue, if there is one
abbrev pub send_through : Option ℕ → Out → Action
send_through None out = Output out
send_through (Some q) out = Enqueue out q

abbrev pub relabel : Option ℕ → Action
relabel None = StripVlan
relabel (Some n) = SetVlan n

abbrev pub tag_rule : TableRow → Rule
tag_rule row = record {
  loc = loc_of row.vertex;
  priority = TAG_PRIORITY;
  fits = record match_anything { dl_dst = Some row.eth; dl_vlan = Some (Tag row.tag) };
  actions = relabel row.hop.tag ∷ send_through row.queue (Port row.hop.link.out_port) ∷ [];
}

abbrev pub back_rule : TableRow → Rule
back_rule row = record {
  loc = loc_of row.vertex;
  priority = BACK_PRIORITY;
  fits = record match_anything { in_port = Some row.hop.link.out_port; dl_dst = Some row.eth; dl_vlan = Some (Tag row.tag) };
  actions = relabel row.hop.tag ∷ send_through row.queue InPort ∷ [];
}

-- the tag rule of a row, after its back rule where the next location is no host
abbrev pub rules_by_tag : TableRow → Option ℕ → List Rule
rules_by_tag row None = tag_rule row ∷ []
rules_by_tag row (Some n) = back_rule row ∷ tag_rule row ∷ []

abbrev pub rules_of_row : TableRow → List Rule
rules_of_row row = rules_by_tag row row.hop.tag

-- an untagged frame goes in under the tag of the onward vertex
abbrev pub enter : Option ℕ → List Action → List Action
enter None actions = actions
enter (Some n) actions = SetVlan n ∷ actions

abbrev pub ingress_actions : Option ℕ → Option Hop → List Action
ingress_actions q None = []
ingress_actions q (Some hop) = enter hop.tag (send_through q (Port hop.link.out_port) ∷ [])

abbrev pub cell_rule : IngressEntry → Rule
cell_rule e = record {
  loc = e.pair.link.to;
  priority = e.cell.priority;
  fits = record {
    in_port = Some e.pair.link.in_port;
    dl_src = Some e.pair.from.eth;
    dl_dst = Some e.pair.to.eth;
    dl_vlan = Some Untagged;
    dl_type = true;
    nw_proto = e.cell.proto;
    nw_src = Some e.pair.from.ip;
    nw_dst = Some e.pair.to.ip;
    tp_src = e.cell.sport;
    tp_dst = e.cell.dport;
  };
  actions = ingress_actions e.queue e.hop;
}

abbrev pub last_rule : ℕ → Rule
last_rule loc = record { loc = loc; priority = 0; fits = match_anything; actions = [] }

abbrev pub process_of : TableRow → Process
process_of row = record {
  loc = loc_of row.vertex;
  tag = row.tag;
  eth_dst = row.eth;
  functions = row.hop.functions;
  next_tag = unwrap_or row.hop.tag 0;
  port = row.hop.link.out_port;
  queue = unwrap_or row.queue 0;
}

-- What the tables are made from. Rows stand by location, tag and destination, entries by source,
-- destination and cell.
pub record Plan : Type 0 where
  pub tags : List TagKey
  pub rows : List TableRow
  pub entries : List IngressEntry

abbrev pub is_switch_kind : Option LocationKind → Bool
is_switch_kind None = false
is_switch_kind (Some (Host address)) = false
is_switch_kind (Some Switch) = true
is_switch_kind (Some Middlebox) = false

abbrev pub is_middlebox_kind : Option LocationKind → Bool
is_middlebox_kind None = false
is_middlebox_kind (Some (Host address)) = false
is_middlebox_kind (Some Switch) = false
is_middlebox_kind (Some Middlebox) = true

abbrev pub is_host_kind : Option LocationKind → Bool
is_host_kind kind = is_some (address_at kind)

-- the locations of one kind, in the order of the topology
abbrev pub locations_of_kind : (Option LocationKind → Bool) → Network → List ℕ
locations_of_kind is_kind net = filter (λ loc. is_kind (kind_of net loc)) (range_with_len 0 (length net.locations))

abbrev pub all_hosts : Network → List ℕ
all_hosts net = locations_of_kind is_host_kind net

abbrev pub all_switches : Network → List ℕ
all_switches net = locations_of_kind is_switch_kind net

module _ (net : Network) (plan : Plan) where
  -- the rules of one switch
  abbrev pub rules_at : ℕ → List Rule
  rules_at loc =
      flat_map rules_of_row (filter (λ row. loc_of row.vertex == loc) plan.rows)
      ++ (map cell_rule (filter (λ e. e.pair.link.to == loc) plan.entries) ++ last_rule loc ∷ [])

  abbrev pub table_rules : List Rule
  table_rules = flat_map rules_at (all_switches net)

  abbrev pub table_processes : List Process
  table_processes = map process_of (filter (λ row. is_middlebox_kind (kind_of net (loc_of row.vertex))) plan.rows)

-- The plan is that of these groups.
module _ (net : Network) (groups : List Group) (plan : Plan) where
  pub record IsTableRow (row : TableRow) : Type 0 where
    pub after : List Vertex
    pub followed : Follows net groups row.group row.dest row.vertex after
    pub outside : ¬ IsHost net (loc_of row.vertex)
    pub tag : HasTag plan.tags row.group row.vertex row.tag
    pub address : HostAddress
    pub dest : address_of net row.dest ≡ Some address
    pub eth : row.eth ≡ address.eth
    pub hop : IsHop net plan.tags row.group row.dest row.vertex after row.hop
    pub queue : row.queue ≡ queue_in groups row.group

  -- the hop from the first switch's vertex, which follows the start; none where no walk is allowed
  abbrev pub IsFirstHop : ℕ → ℕ → ℕ → Option Hop → Type 0
  IsFirstHop g s d None = ¬ AllowsWalk net groups g s d
  IsFirstHop g s d (Some hop) =
      (v : Vertex) × (us : List Vertex) × Follows net groups g d (start_in groups g s) (v ∷ us)
      × IsHop net plan.tags g d v us hop

  pub record IsIngressEntry (e : IngressEntry) : Type 0 where
    pub pair : IsHostPair net e.pair
    pub hop : IsFirstHop e.group e.pair.source e.pair.dest e.hop
    pub queue : e.queue ≡ queue_in groups e.group

  pub record IsPlan : Type 0 where
    pub queues_above : (g : ℕ) → queue_in groups g ≢ Some 0
    pub tags_differ : (i j : ℕ) (key : TagKey) → slice_get plan.tags i ≡ Some key →
        slice_get plan.tags j ≡ Some key → i ≡ j
    pub rows_are : (row : TableRow) → Contains plan.rows row → IsTableRow row
    pub each_row : (g d : ℕ) (v : Vertex) (us : List Vertex) → Follows net groups g d v us →
        ¬ IsHost net (loc_of v) →
        (row : TableRow) × Contains plan.rows row × (row.group ≡ g) × (row.dest ≡ d)
        × (row.vertex ≡ v)
    pub entries_are : (e : IngressEntry) → Contains plan.entries e → IsIngressEntry e

-- Order. With it the tables are determined.

-- of two triples the one comes first that has less where they differ first
abbrev pub IsBelow : ℕ × ℕ × ℕ → ℕ × ℕ × ℕ → Type 0
IsBelow a b = (a.0 < b.0) ⊎ ((a.0 ≡ b.0) × ((a.1 < b.1) ⊎ ((a.1 ≡ b.1) × (a.2 < b.2))))

-- tags go by group, state and function
abbrev pub IsBelowKey : TagKey → TagKey → Type 0
IsBelowKey a b =
    IsBelow (a.group, a.state, function_place a.fun) (b.group, b.state, function_place b.fun)

-- rows go by location, tag and destination
abbrev pub IsBelowRow : TableRow → TableRow → Type 0
IsBelowRow a b = IsBelow (loc_of a.vertex, a.tag, a.dest) (loc_of b.vertex, b.tag, b.dest)

-- the tag is that of a vertex of a product, at no host
pub record IsTagKey (net : Network) (groups : List Group) (key : TagKey) : Type 0 where
  pub dest : ℕ
  pub vertex : Vertex
  pub stands : IsVertex net groups key.group dest vertex
  pub outside : ¬ IsHost net (loc_of vertex)
  pub is : key ≡ tag_key_of key.group vertex

-- a cell of a pair of hosts, with the group of the statement that owns it
pub record Owned : Type 0 where
  pub source : ℕ
  pub dest : ℕ
  pub cell : Cell
  pub group : ℕ

abbrev pub owned_by : IngressEntry → Owned
owned_by e = record { source = e.pair.source; dest = e.pair.dest; cell = e.cell; group = e.group }

-- all of them by source, destination and cell, given the cells of each pair in their order
abbrev pub all_owned : Network → (ℕ → ℕ → List (Cell × ℕ)) → List Owned
all_owned net cells =
    flat_map (λ s. flat_map (λ d. if s == d then [] else map (λ c. record { source = s; dest = d; cell = c.0; group = c.1 }) (cells s d)) (all_hosts net)) (all_hosts net)

pub record IsInOrder (net : Network) (groups : List Group) (cells : ℕ → ℕ → List (Cell × ℕ)) (plan : Plan) : Type 0 where
  pub tags : Pairwise IsBelowKey plan.tags
  pub tags_are : (key : TagKey) → Contains plan.tags key ↔ IsTagKey net groups key
  pub rows : Pairwise IsBelowRow plan.rows
  pub entries : map owned_by plan.entries ≡ all_owned net cells
