-- The lines of a host, from what is kept of it: what each statement is there, and the cells to each other host.
use Rattle.std.specs.Prelude.{ℕ, ◌==◌, not, Bool, false, List, [], ◌∷◌, ◌++◌, map, filter, Option, None, Some, is_some, slice_get, unwrap_or, if◌then◌else◌}
use Rattle.std.specs.Option.{option_map_or, option_and_then}
use Rattle.std.specs.List.{flat_map, list_any}
use Rattle.merlin_model.specs.declared.config.HostMatch.{HostMatch}
use Rattle.merlin_model.specs.declared.config.HostLine.{HostLine}
use Rattle.merlin_model.specs.declared.config.HostLine.TheVariants as line
use Rattle.merlin_model.specs.Networks.{Network}
use Rattle.merlin_model.specs.declared.policy.Pred.{Pred}
use Rattle.merlin_model.specs.Policies.{Policy, default_of}
use Rattle.rules_model.specs.Tables.{all_hosts}
use Rattle.predicate_split.specs.declared.pair_cells.Cell.{Cell}
use Rattle.predicate_split.specs.Cells.{cells_between}
use Rattle.configuration_model.specs.Checked.{preds_of}
use Rattle.configuration_model.specs.Hosts.{host_at}
use Rattle.queue_and_tc.specs.declared.standings.Standing.{Standing}
use Rattle.queue_and_tc.specs.declared.reaches.Host.{Host}
use Rattle.queue_and_tc.specs.declared.reaches.Reach.{Reach}
use Rattle.queue_and_tc.specs.Shares.{Sources, standings_of}

abbrev pub host_in : Network → ℕ → Host
host_in net s = record { loc = s; address = host_at net s }

abbrev pub hosts_in : Network → List Host
hosts_in net = map (host_in net) (all_hosts net)

-- another host, and the cells of what is sent there
abbrev pub reach_between : List Pred → Host → Host → Reach
reach_between preds host other = record { dest = other.address; cells = cells_between preds host.address other.address }

-- the hosts but this one
abbrev pub others_than : Host → List Host → List Host
others_than host hosts = filter (λ other. not (other.loc == host.loc)) hosts

abbrev pub reaches_between : List Pred → Host → List Host → List Reach
reaches_between preds host hosts = map (reach_between preds host) (others_than host hosts)

-- the class of a statement, and whether it is out, by its place; the owner of a cell, or the default

abbrev pub class_in : List Standing → ℕ → Option ℕ
class_in standings i = option_and_then (λ s. s.class) (slice_get standings i)

abbrev pub out_in : List Standing → ℕ → Bool
out_in standings i = option_map_or (λ s. s.is_out) (slice_get standings i) false

abbrev pub owner_in : ℕ → Cell → ℕ
owner_in default c = unwrap_or c.owner default

abbrev pub match_between : Host → Reach → Cell → HostMatch
match_between host reach c = record { src = host.address.ip; dst = reach.dest.ip; proto = c.proto; sport = c.sport; dport = c.dport }

-- the line of a class
abbrev pub class_line : ℕ → Standing → List HostLine
class_line s standing = option_map_or (λ x. line.Class s x standing.rate standing.ceiling ∷ []) standing.class []

abbrev pub class_lines_in : ℕ → List Standing → List HostLine
class_lines_in s standings = flat_map (class_line s) standings

-- what a cell says in the list POSTROUTING: its class, if it has one, and the end of the reading
abbrev pub reading_by : ℕ → HostMatch → Option ℕ → List HostLine
reading_by s fits None = line.Leave s fits ∷ []
reading_by s fits (Some x) = line.Classify s fits x ∷ line.Leave s fits ∷ []

abbrev pub reading_in : Host → List Standing → ℕ → Reach → Cell → List HostLine
reading_in host standings default reach c = reading_by host.loc (match_between host reach c) (class_in standings (owner_in default c))

abbrev pub readings_in : Host → List Standing → ℕ → Reach → List HostLine
readings_in host standings default reach =
    if list_any (λ c. is_some (class_in standings (owner_in default c))) reach.cells then flat_map (reading_in host standings default reach) reach.cells else []

-- what it says in the list OUTPUT
abbrev pub output_in : Host → List Standing → ℕ → Reach → Cell → HostLine
output_in host standings default reach c = line.Output host.loc (match_between host reach c) (out_in standings (owner_in default c))

abbrev pub outputs_in : Host → List Standing → ℕ → Reach → List HostLine
outputs_in host standings default reach =
    if list_any (λ c. out_in standings (owner_in default c)) reach.cells then map (output_in host standings default reach) reach.cells else []

-- the root of the classes stands before them, where there are any
abbrev pub headed_by : ℕ → List HostLine → List HostLine
headed_by s [] = []
headed_by s (l ∷ lines) = line.Root s ∷ l ∷ lines

abbrev pub lines_in : Host → List Standing → ℕ → List Reach → List HostLine
lines_in host standings default reaches =
    headed_by host.loc (class_lines_in host.loc standings)
    ++ (flat_map (readings_in host standings default) reaches ++ flat_map (outputs_in host standings default) reaches)

-- the lines of a host, from the network and the policy
abbrev pub host_lines_at : Network → Policy → Sources → List Host → Host → List HostLine
host_lines_at net policy sources hosts host =
    lines_in host (standings_of net policy sources host.loc) (default_of policy) (reaches_between (preds_of policy) host hosts)
