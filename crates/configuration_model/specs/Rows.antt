-- Worked rows: the lines of hosts over one switch, by hand.
use Rattle.std.specs.Prelude.{ℕ, List, [], ◌∷◌, Option, None, Some, true, false}
use Rattle.merlin_model.specs.declared.network.LocationKind.TheVariants.{Host, Switch}
use Rattle.merlin_model.specs.declared.policy.Bound.TheVariants.{Max}
use Rattle.merlin_model.specs.declared.policy.Part.TheVariants.{Id}
use Rattle.merlin_model.specs.declared.policy.Pred.{Yes}
use Rattle.merlin_model.specs.declared.policy.Path.{Star, Dot}
use Rattle.merlin_model.specs.declared.config.HostMatch.{HostMatch}
use Rattle.merlin_model.specs.declared.config.HostLine.{HostLine}
use Rattle.merlin_model.specs.declared.config.HostLine.TheVariants as line
use Rattle.merlin_model.specs.Networks.{Network}
use Rattle.merlin_model.specs.Policies.{Policy}
use Rattle.predicate_split.specs.declared.pair_cells.Cell.{Cell as HostCell}

abbrev pub two_hosts_apart : Network
two_hosts_apart = record {
  locations = record { name = 97 ∷ []; kind = Host (record { eth = 1; ip = 11 }) } ∷ record { name = 98 ∷ []; kind = Host (record { eth = 2; ip = 12 }) } ∷ record { name = 99 ∷ []; kind = Switch } ∷ [];
  links = record { a = 0; aport = 1; b = 2; bport = 1; capacity = 1000; back = 1000; weight = 1 } ∷ record { a = 1; aport = 1; b = 2; bport = 2; capacity = 1000; back = 1000; weight = 1 } ∷ [];
  functions = [];
}

abbrev pub cell : Option ℕ → Option ℕ → Option ℕ → HostCell
cell proto dport owner = record { proto = proto; sport = None; dport = dport; owner = owner }

-- two hosts, and the same cells each way
abbrev pub both_ways : List HostCell → ℕ → ℕ → List HostCell
both_ways cells s d = cells

-- `x : tcp.dst = 80`, which nothing may use
abbrev pub shut_policy : Policy
shut_policy = record {
  statements = record { id = 120 ∷ []; pred = Yes; path = Star Dot } ∷ [];
  default_path = Some (Star Dot);
  terms = record { bound = Max; parts = Id (120 ∷ []) ∷ []; rate = 0 } ∷ [];
}

abbrev pub shut_cells : List HostCell
shut_cells = cell (Some 6) (Some 80) (Some 0) ∷ cell (Some 6) None None ∷ cell None None None ∷ []

abbrev pub fit : ℕ → ℕ → Option ℕ → Option ℕ → HostMatch
fit src dst proto dport = record { src = src; dst = dst; proto = proto; sport = None; dport = dport }

abbrev pub shut_lines : List HostLine
shut_lines =
    line.Output 0 (fit 11 12 (Some 6) (Some 80)) true ∷ line.Output 0 (fit 11 12 (Some 6) None) false ∷ line.Output 0 (fit 11 12 None None) false
    ∷ line.Output 1 (fit 12 11 (Some 6) (Some 80)) true ∷ line.Output 1 (fit 12 11 (Some 6) None) false ∷ line.Output 1 (fit 12 11 None None) false ∷ []

-- the same statement, which may use 9
abbrev pub shared_policy : Policy
shared_policy = record shut_policy { terms = record { bound = Max; parts = Id (120 ∷ []) ∷ []; rate = 9 } ∷ [] }

abbrev pub shared_lines : List HostLine
shared_lines =
    line.Root 0 ∷ line.Class 0 1 5 5
    ∷ line.Classify 0 (fit 11 12 (Some 6) (Some 80)) 1 ∷ line.Leave 0 (fit 11 12 (Some 6) (Some 80)) ∷ line.Leave 0 (fit 11 12 (Some 6) None) ∷ line.Leave 0 (fit 11 12 None None)
    ∷ line.Root 1 ∷ line.Class 1 1 4 4
    ∷ line.Classify 1 (fit 12 11 (Some 6) (Some 80)) 1 ∷ line.Leave 1 (fit 12 11 (Some 6) (Some 80)) ∷ line.Leave 1 (fit 12 11 (Some 6) None) ∷ line.Leave 1 (fit 12 11 None None) ∷ []
