-- Which texts are results over a network: the first two lines, walks and loads, the configuration, and a tree.
use Rattle.std.specs.Prelude.{ℕ, ◌≡◌, Bool, true, false, List, [], ◌++◌, length, codes}
use Rattle.std.specs.List.{AllByRecursion, flat_map}
use Rattle.merlin_model.specs.declared.config.Config.{Config}
use Rattle.merlin_model.specs.declared.certificate.Tree.{Tree}
use Rattle.merlin_model.specs.Networks.{Network}
use Rattle.merlin_base.specs.NodeTexts.{nodes_text}
use Rattle.config_lines.specs.Lines.{rule_line, IsRuleLine, process_line, IsProcessLine, queue_line, IsQueueLine, host_line, IsHostLine, load_line, IsLoadLine, walk_line, IsWalkLine}
use Rattle.config_read.specs.Sections.{IsEmptyConfig}
use Rattle.config_read.specs.Tails.{IsTree}
use Rattle.config_read.specs.Heads.{first_line, IsVersion, IsWrittenValue, least_then, infeasible_then}
use Rattle.config_read.specs.declared.result.Head.{Head}
use Rattle.config_read.specs.declared.result.Head.TheVariants.{Least, Infeasible}
use Rattle.config_read.specs.declared.result.ResultText.{ResultText}

abbrev pub is_feasible : Head → Bool
is_feasible (Least objective value walks loads) = true
is_feasible (Infeasible objective) = false

-- the other lines before the configuration
abbrev pub lines_of_head : Network → Head → List ℕ
lines_of_head net (Least objective value walks loads) =
    least_then objective value (flat_map (walk_line net) walks ++ flat_map (load_line net) loads)
lines_of_head net (Infeasible objective) = infeasible_then objective []

abbrev pub lines_of : Network → Config → List ℕ
lines_of net config =
    flat_map (rule_line net) config.rules
    ++ (flat_map (process_line net) config.processes ++ (flat_map (queue_line net) config.queues ++ flat_map (host_line net) config.hosts))

-- what stands before the first node
abbrev pub start_text : Network → ResultText → List ℕ
start_text net r = first_line r.version (is_feasible r.head) ++ (lines_of_head net r.head ++ (lines_of net r.config ++ codes "tree\n"))

-- a result, and the tree that stands in it
abbrev pub result_text : Network → ResultText × Tree → List ℕ
result_text net r = start_text net r.0 ++ nodes_text r.1

-- loads stand in version 2 alone
abbrev pub IsHead : Network → ℕ → Head → Type 0
IsHead net version (Least objective value walks loads) =
    IsWrittenValue value × AllByRecursion (IsWalkLine net) walks × AllByRecursion (IsLoadLine net) loads × (version ≡ 1 → loads ≡ [])
IsHead net version (Infeasible objective) = Unit {0}

pub record IsConfig (net : Network) (config : Config) : Type 0 where
  pub rules : AllByRecursion (IsRuleLine net) config.rules
  pub processes : AllByRecursion (IsProcessLine net) config.processes
  pub queues : AllByRecursion (IsQueueLine net) config.queues
  pub hosts : AllByRecursion (IsHostLine net) config.hosts

-- only a result with an assignment has a configuration
abbrev pub IsConfigOf : Network → Head → Config → Type 0
IsConfigOf net (Least objective value walks loads) config = IsConfig net config
IsConfigOf net (Infeasible objective) config = IsEmptyConfig config

pub record IsResult (net : Network) (r : ResultText × Tree) : Type 0 where
  pub version : IsVersion r.0.version
  pub head : IsHead net r.0.version r.0.head
  pub config : IsConfigOf net r.0.head r.0.config
  pub tree : IsTree r.1
  pub tree_start : r.0.tree_start ≡ length (start_text net r.0)
