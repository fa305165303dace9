-- The products of groups, by the hosts between which they lead.
use Rattle.std.specs.Prelude.{ℕ, ◌≡◌, ◌<◌, ◌==◌, List, [], ◌∷◌, length, map, find, Option, None, Some, slice_get, option_map, suc}
use Rattle.std.specs.List.{enumerate_from, flat_map, position_from}
use Rattle.merlin_model.specs.declared.policy.Ends.{Ends}
use Rattle.merlin_model.specs.Networks.{Network, IsHost}
use Rattle.merlin_model.specs.Policies.{paths_of}
use Rattle.path_automaton.specs.Automata.{AutomatonTables}
use Rattle.topology.specs.Symbols.{network_symbols}
use Rattle.rules_model.specs.Products.{WrittenWalk, Group}
use Rattle.product_graph.specs.declared.span.Span2.{Span2}
use Rattle.product_graph.specs.declared.span.Span2.TheVariants.{Pair, All}
use Rattle.product_graph.specs.Products.{automaton_of}
use Rattle.policy_check.specs.Checked.{CheckedPolicy, automaton_of_statement}
use Rattle.openflow_rules.specs.declared.spans.GroupSpan.{GroupSpan}

-- the product of a group for a destination
abbrev pub span_to : ℕ → ℕ → ℕ → GroupSpan
span_to group leader d = record { group = group; leader = leader; span = All d }

-- the products of a group, by the ends of its statement, if it is guaranteed
abbrev pub spans_by : List ℕ → ℕ → ℕ → Option Ends → List GroupSpan
spans_by hosts group leader None = map (span_to group leader) hosts
spans_by hosts group leader (Some e) = record { group = group; leader = leader; span = Pair e.src e.dst } ∷ []

abbrev pub ends_for : List Ends → ℕ → Option Ends
ends_for ends j = find (λ e. e.statement == j) ends

-- the products of all groups
abbrev pub spans_over : List ℕ → List Ends → List ℕ → List GroupSpan
spans_over hosts ends leaders = flat_map (λ l. spans_by hosts l.0 l.1 (ends_for ends l.1)) (enumerate_from 0 leaders)

-- the walk of a guaranteed group before it is chosen: no more than its ends
abbrev pub bare_walk : Ends → WrittenWalk
bare_walk e = record { source = e.src; dest = e.dst; after = [] }

-- the group that a statement with this automaton stands for
abbrev pub group_by : Network → List Ends → ℕ → AutomatonTables → Group
group_by net ends j table = record {
  automaton = automaton_of (network_symbols net) table;
  written = option_map bare_walk (ends_for ends j);
  queue = option_map suc (position_from (λ e. e.statement == j) 0 ends);
}

-- the span leads between the ends of a guaranteed group, or from all hosts to a destination
abbrev pub IsSpanOf : Network → Option WrittenWalk → Span2 → Type 0
IsSpanOf net None (All d) = IsHost net d
IsSpanOf net (Some w) (Pair s d) = IsHost net w.source × IsHost net w.dest × (s ≡ w.source) × (d ≡ w.dest)
IsSpanOf net None (Pair s d) = ⊥
IsSpanOf net (Some w) (All d) = ⊥

-- a product of one of the groups
pub record IsGroupSpan (net : Network) (checked : CheckedPolicy) (groups : List Group) (s : GroupSpan) : Type 0 where
  pub leads : s.leader < length (paths_of checked.policy)
  pub table : AutomatonTables
  pub is_table : automaton_of_statement checked s.leader ≡ Some table
  pub width : table.width ≡ length (network_symbols net)
  pub group : Group
  pub there : slice_get groups s.group ≡ Some group
  pub automaton : group.automaton ≡ automaton_of (network_symbols net) table
  pub span : IsSpanOf net group.written s.span
