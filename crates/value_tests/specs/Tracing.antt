-- What becomes of a packet that h1 sends to h2.
use Rattle.std.specs.Prelude.{ℕ, ◌≡◌, List, [], ◌∷◌, None, Some, true, false}
use Rattle.merlin_model.specs.declared.config.Action.{Action}
use Rattle.merlin_model.specs.declared.config.Rule.{Rule}
use Rattle.merlin_model.specs.declared.config.HostMatch.{HostMatch}
use Rattle.merlin_model.specs.declared.config.HostLine.{HostLine}
use Rattle.merlin_model.specs.declared.config.HostLine.TheVariants.{Classify, Leave, Output}
use Rattle.merlin_model.specs.declared.config.Config.{Config}
use Rattle.merlin_model.specs.Packets.{Packet}
use Rattle.merlin_model.specs.Networks.{Network}
use Rattle.merlin_model.specs.Machine.{Frame, Visit, End, start}
use Rattle.merlin_model.specs.Tests.{plain_trace}
use Rattle.value_tests.specs.Networks.{one_switch, any, from_port, at_s1, at_s2, to, turn, of_rules, every_way_rules, host_match}

-- a TCP packet to port 80, in frames from h1 to h2, that says that it comes from this address
abbrev pub web_from : ℕ → Packet
web_from ip =
    record { eth_src = 1; eth_dst = 2; ip_src = ip; ip_dst = 167772162; proto = 6; sport = 1000; dport = 80 }

abbrev pub web : Packet
web = web_from 167772161

-- the same from 10.0.0.9, which is no host's address
abbrev pub forged : Packet
forged = web_from 167772169

abbrev pub left : ℕ → Visit
left loc = record { loc = loc; functions = []; queue = None; class = None }

abbrev pub by_queue : ℕ → ℕ → Visit
by_queue loc queue = record { loc = loc; functions = []; queue = Some queue; class = None }

abbrev pub in_class : ℕ → ℕ → Visit
in_class loc class = record { loc = loc; functions = []; queue = None; class = Some class }

-- the run of a packet that h1 sends, of at most eight steps
abbrev pub RunsAs : Network → Config → Packet → List Visit → End → Type 0
RunsAs net config packet visits end = plain_trace net config 8 (start 0 packet) ≡ Some (visits, end)

-- the same over one switch
abbrev pub RunsOverOne : List Rule → List HostLine → Packet → List Visit → End → Type 0
RunsOverOne rules lines = RunsAs one_switch (of_rules rules lines)

-- a frame of a packet at a switch, which came in by port 1
abbrev pub frame_at : ℕ → List ℕ → Packet → Frame
frame_at loc [] packet = record { loc = loc; port = 1; tag = None; packet = packet }
frame_at loc (tag ∷ _) packet = record { loc = loc; port = 1; tag = Some tag; packet = packet }

-- a rule that sends to h2, and one of a priority beside it
abbrev pub beside : ℕ → List Action → List Rule
beside priority actions = at_s1 5 any (to 2 ∷ []) ∷ at_s1 priority any actions ∷ []

-- the run of a web packet under these two
abbrev pub RunsBeside : ℕ → List Action → List Visit → End → Type 0
RunsBeside priority actions = RunsOverOne (beside priority actions) [] web

-- s1 sends to s2, which sends back; then s1 does this
abbrev pub to_and_fro : Action → Config
to_and_fro action =
    of_rules (at_s1 9 (from_port 3) (action ∷ []) ∷ at_s1 0 any (to 3 ∷ []) ∷ at_s2 0 any (turn ∷ []) ∷ []) []

-- the run of a web packet over one switch where h1 has these lines
abbrev pub RunsFrom : List HostLine → List Visit → End → Type 0
RunsFrom lines = RunsOverOne every_way_rules lines web

abbrev pub all : HostMatch
all = host_match None None None

abbrev pub to_web : HostMatch
to_web = host_match (Some 6) None (Some 80)

abbrev pub to_names : HostMatch
to_names = host_match (Some 17) None (Some 53)

-- The last line that puts into a class before the first that leaves the list counts.
abbrev pub last_class : List HostLine
last_class = Classify 0 to_web 2 ∷ Classify 0 all 3 ∷ Leave 0 all ∷ Classify 0 all 4 ∷ []

-- The list is left at once.
abbrev pub no_class : List HostLine
no_class = Leave 0 to_names ∷ Classify 0 to_names 2 ∷ Leave 0 to_web ∷ Classify 0 all 3 ∷ []

abbrev pub dropping : List HostLine
dropping = Output 0 to_names false ∷ Output 0 to_web true ∷ []

abbrev pub keeping : List HostLine
keeping = Output 0 to_web false ∷ Output 0 all true ∷ []
