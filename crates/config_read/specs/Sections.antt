-- Lines of one kind, as many as a text begins with.
use Rattle.std.specs.Prelude.{ℕ, ◌≡◌, List, [], ◌++◌}
use Rattle.std.specs.List.{AllByRecursion, flat_map}
use Rattle.merlin_model.specs.declared.config.Config.{Config}
use Rattle.merlin_model.specs.Networks.{Network}
use Rattle.config_lines.specs.Lines.{rule_line, IsRuleLine, process_line, IsProcessLine, queue_line, IsQueueLine, host_line, IsHostLine, IsLoadLine}
use Rattle.config_text.specs.declared.loads.Load.{Load}

-- these are lawful, their lines stand first in the text, and behind them stands none more
pub record TakesAll {V : Type 0} (line : V → List ℕ) (Is : V → Type 0) (text : List ℕ) (vs : List V) (rest : List ℕ) : Type 0 where
  pub whole : text ≡ flat_map line vs ++ rest
  pub each : AllByRecursion Is vs
  pub ends : (v : V) (more : List ℕ) → Is v → rest ≡ line v ++ more → ⊥

-- a load has a line in version 2 alone
abbrev pub IsVersionLoad : Network → ℕ → Load → Type 0
IsVersionLoad net version load = IsLoadLine net load × (version ≡ 2)

pub record IsEmptyConfig (config : Config) : Type 0 where
  pub rules : config.rules ≡ []
  pub processes : config.processes ≡ []
  pub queues : config.queues ≡ []
  pub hosts : config.hosts ≡ []

-- the lines of the configuration, kind by kind
pub record TakesConfig (net : Network) (text : List ℕ) (config : Config) (rest : List ℕ) : Type 0 where
  pub behind_rules : List ℕ
  pub behind_processes : List ℕ
  pub behind_queues : List ℕ
  pub rules : TakesAll (rule_line net) (IsRuleLine net) text config.rules behind_rules
  pub processes : TakesAll (process_line net) (IsProcessLine net) behind_rules config.processes behind_processes
  pub queues : TakesAll (queue_line net) (IsQueueLine net) behind_processes config.queues behind_queues
  pub hosts : TakesAll (host_line net) (IsHostLine net) behind_queues config.hosts rest
