-- Live sources: the hosts from which a walk leads to another host that packets of a statement go to.
use Rattle.std.specs.Prelude.{ℕ, ◌≡◌, ◌≢◌, ◌<◌, ◌⊎◌, ◌↔◌, Bool, true, false, List, ◌∷◌, [], ◌++◌, length, map, Contains, Some, slice_get, unwrap_or}
use Rattle.std.specs.List.{AllByRecursion, slice_index_or}
use Rattle.merlin_model.specs.declared.network.HostAddress.{HostAddress}
use Rattle.merlin_model.specs.declared.policy.Pred.{Pred, AnyOf, Not}
use Rattle.merlin_model.specs.declared.policy.Symbol.{Symbol}
use Rattle.merlin_model.specs.Packets.{Packet, IsPacket, source_of}
use Rattle.merlin_model.specs.Predicates.{holds, IsPred}
use Rattle.merlin_model.specs.Networks.{Network, Pairwise}
use Rattle.merlin_model.specs.Words.{at, IsWalk}
use Rattle.merlin_model.specs.Policies.{Policy, match_of, paths_of, IsOnPath}
use Rattle.merlin_model.specs.Rates.{AreLiveSources}
use Rattle.predicate_split.specs.Between.{HoldsBetween}
use Rattle.product_graph.specs.declared.span.Vertex.{Vertex as ListedVertex}
use Rattle.product_graph.specs.declared.span.Product.{Product}
use Rattle.product_graph.specs.Followers.{AreFollowersOf}
use Rattle.topology.specs.Symbols.{network_symbols}
use Rattle.rules_model.specs.Tables.{all_hosts}
use Rattle.policy_check.specs.Checked.{IsSoundPolicy, HasAutomata}
use Rattle.configuration_model.specs.Checked.{preds_of}
use Rattle.configuration_model.specs.Hosts.{host_at}
use Rattle.openflow_rules.specs.declared.walk_rows.WalkRow.{WalkRow}
use Rattle.openflow_rules.specs.declared.sources.SourceSearch.{SourceSearch}

-- a walk on the path of statement i leads from host s to another host d
pub record StartsWalk (net : Network) (policy : Policy) (i d s : ℕ) : Type 0 where
  pub apart : s ≢ d
  pub word : List Symbol
  pub walk : IsWalk net s d word
  pub on_path : IsOnPath policy i word

-- the marks are on the locations that are among these
pub record AreMarkedAmong (locations : ℕ) (locs : List ℕ) (marks : List Bool) : Type 0 where
  pub size : length marks ≡ locations
  pub each : (loc : ℕ) → (slice_index_or marks loc false ≡ true) ↔ Contains locs loc

-- the location of a vertex
abbrev pub listed_loc : List ListedVertex → ℕ → ℕ
listed_loc vertices k = (slice_index_or vertices k (record { symbol = at 0; state = 0 })).symbol.loc

-- walks start at vertices of the product, and these are at so many locations
abbrev pub HasStartsWithin : ℕ → Product → Type 0
HasStartsWithin locations product = AllByRecursion (λ k. (k < length product.vertices) × (listed_loc product.vertices k < locations)) product.starts

-- the row of statement i marks the hosts from which such walks lead to its destination
pub record IsWalkRow (net : Network) (policy : Policy) (i : ℕ) (row : WalkRow) : Type 0 where
  pub size : length row.marks ≡ length net.locations
  pub each : (s : ℕ) → (slice_index_or row.marks s false ≡ true) ↔ StartsWalk net policy i row.dest s

-- one row for each host
pub record AreWalkRows (net : Network) (policy : Policy) (i : ℕ) (rows : List WalkRow) : Type 0 where
  pub dests : map (λ row. row.dest) rows ≡ all_hosts net
  pub each : AllByRecursion (IsWalkRow net policy i) rows

-- the row has a mark for each of so many locations, and its destination is one of them
abbrev pub IsRowWithin : ℕ → WalkRow → Type 0
IsRowWithin locations row = (length row.marks ≡ locations) × (row.dest < locations)

-- the predicate of statement i; the default's holds where no other does
abbrev pub pred_of_statement : Policy → ℕ → Pred
pred_of_statement policy i = unwrap_or (slice_get (preds_of policy) i) (Not (AnyOf (preds_of policy)))

-- the predicate is well formed, and holds of the packets of statement i
pub record TellsStatement (policy : Policy) (i : ℕ) (pred : Pred) : Type 0 where
  pub formed : IsPred pred
  pub tells : (p : Packet) → IsPacket p → (match_of policy p ≡ i) ↔ (holds pred p ≡ true)

-- the predicate holds of no packet that bears these addresses as its sources
abbrev pub HoldsNowhereFrom : HostAddress → Pred → Type 0
HoldsNowhereFrom source pred = (p : Packet) → source_of p ≡ source → holds pred p ≡ false

-- the predicate holds of a packet from host s to the destination of the row, and a walk leads there
abbrev pub SendsTo : Network → Pred → ℕ → WalkRow → Type 0
SendsTo net pred s row = (slice_index_or row.marks s false ≡ true) × HoldsBetween (host_at net s) (host_at net row.dest) pred

abbrev pub SendsAlong : Network → Pred → List WalkRow → ℕ → Type 0
SendsAlong net pred rows s = (row : WalkRow) × Contains rows row × SendsTo net pred s row

-- the element was put behind the others if it has the property
abbrev pub IsPutIf : Type 0 → ℕ → List ℕ → List ℕ → Type 0
IsPutIf P x old new = (P × (new ≡ old ++ x ∷ [])) ⊎ ((¬ P) × (new ≡ old))

-- those of the hosts that send, in order
pub record AreSenders (net : Network) (pred : Pred) (rows : List WalkRow) (hosts found : List ℕ) : Type 0 where
  pub ascend : Pairwise (λ a b. a < b) found
  pub each : (s : ℕ) → Contains found s ↔ (Contains hosts s × SendsAlong net pred rows s)

-- Statements group by group.

-- the statement is in one of the groups before this one, or in this one and among the first statements
abbrev pub IsDone : ℕ → ℕ → ℕ → ℕ → Type 0
IsDone group statement i g = (g < group) ⊎ ((g ≡ group) × (i < statement))

-- one list for each statement, and for those that are done their live sources
pub record AreSourcesUpTo (net : Network) (policy : Policy) (group_of : List ℕ) (group statement : ℕ) (sources : List (List ℕ)) : Type 0 where
  pub size : length sources ≡ length group_of
  pub each : (i g : ℕ) (hosts : List ℕ) → slice_get group_of i ≡ Some g → IsDone group statement i g →
      slice_get sources i ≡ Some hosts → AreLiveSources net policy i hosts

-- live sources are looked for over a network, a policy with its automata, all hosts and the groups of statements
pub record IsSourceSearch (search : SourceSearch) : Type 0 where
  pub followers : AreFollowersOf search.site.net.now (network_symbols search.site.net.now) search.site.followers.now
  pub automata : HasAutomata (network_symbols search.site.net.now) search.site.checked.now
  pub sound : IsSoundPolicy search.site.checked.now.policy
  pub hosts : search.hosts.now ≡ all_hosts search.site.net.now
  pub default : search.default.now ≡ Not (AnyOf (preds_of search.site.checked.now.policy))
  pub group_of : length search.group_of.now ≡ length (paths_of search.site.checked.now.policy)
