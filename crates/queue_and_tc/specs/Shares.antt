-- What each statement is at a host, over the sources as the code has them.
use Rattle.std.specs.Prelude.{ℕ, ◌≢◌, ◌+◌, ◌≤◌, Bool, List, filter, map, length, None, Some, Vec, if◌then◌else◌}
use Rattle.std.specs.List.{range_with_len}
use Rattle.std.specs.declared.alloc.Global.{Global}
use Rattle.merlin_model.specs.Networks.{Network, IsHost}
use Rattle.merlin_model.specs.Policies.{Policy, paths_of}
use Rattle.predicate_split.specs.declared.fault.TheConstants.{MAX_CELLS}
use Rattle.configuration_model.specs.Pairs.{pair_cells}
use Rattle.configuration_model.specs.Hosts.{is_out, is_classed, rate_at, ceiling_at}
use Rattle.queue_and_tc.specs.declared.standings.Standing.{Standing}

abbrev pub Sources : Type 0
Sources = List (Vec ℕ Global)

-- the live sources of each statement, the default's last
abbrev pub sources_in : Sources → List (List ℕ)
sources_in sources = map (λ hosts. hosts.items) sources

-- no two hosts have more cells than there may be
abbrev pub HasFewCells : Network → Policy → Type 0
HasFewCells net policy = (s d : ℕ) → IsHost net s → IsHost net d → s ≢ d → length (pair_cells net policy s d) ≤ MAX_CELLS

-- whether statement i has a class at host s
abbrev pub has_class : Network → Policy → Sources → ℕ → ℕ → Bool
has_class net policy sources s i = is_classed net policy (sources_in sources) (pair_cells net policy) i s

-- how many statements before one pass a test
abbrev pub count_before : (ℕ → Bool) → ℕ → ℕ
count_before p i = length (filter p (range_with_len 0 i))

-- what statement i is at host s, with this number for its class if it has one
abbrev pub numbered_standing : Network → Policy → Sources → ℕ → ℕ → ℕ → Standing
numbered_standing net policy sources s i number = record {
  is_out = is_out net policy (sources_in sources) (pair_cells net policy) i s;
  class = if has_class net policy sources s i then Some number else None;
  rate = rate_at net policy (sources_in sources) (pair_cells net policy) i s;
  ceiling = ceiling_at net policy (sources_in sources) (pair_cells net policy) i s;
}

-- classes are numbered from 1 in the order of their statements
abbrev pub standing_of : Network → Policy → Sources → ℕ → ℕ → Standing
standing_of net policy sources s i = numbered_standing net policy sources s i (1 + count_before (has_class net policy sources s) i)

-- those of all statements, the default last
abbrev pub standings_of : Network → Policy → Sources → ℕ → List Standing
standings_of net policy sources s = map (standing_of net policy sources s) (range_with_len 0 (length (paths_of policy)))
