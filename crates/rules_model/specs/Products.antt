-- Products: the vertices between two hosts, and which of them follow each other.
use Rattle.std.specs.Prelude.{map, ℕ, suc, ◌≡◌, ◌≢◌, ◌≤◌, ◌<◌, ◌⊎◌, ◌↔◌, Bool, true, List, [], ◌∷◌, ◌++◌, length, Option, None, Some, slice_get}
use Rattle.std.specs.List.{AllByRecursion}
use Rattle.merlin_model.specs.declared.policy.Symbol.{Symbol}
use Rattle.merlin_model.specs.declared.policy.Path.{Path}
use Rattle.merlin_model.specs.Paths.{InLanguage}
use Rattle.merlin_model.specs.Networks.{Network, IsHost, Pairwise}
use Rattle.merlin_model.specs.Words.{at, IsSymbol, MayFollow}

-- A deterministic automaton over symbols. Its first state is 0.
pub record SymbolAutomaton : Type 0 where
  pub step : ℕ → Symbol → ℕ
  pub accepts : ℕ → Bool

-- the state after a word
abbrev pub ending_state : SymbolAutomaton → ℕ → List Symbol → ℕ
ending_state a q [] = q
ending_state a q (x ∷ w) = ending_state a (a.step q x) w

-- the automaton takes, of the words over the network's symbols, exactly those of the path
abbrev pub RecognisesPath : Network → SymbolAutomaton → Path → Type 0
RecognisesPath net a path =
    (w : List Symbol) → AllByRecursion (IsSymbol net) w →
    (a.accepts (ending_state a 0 w) ≡ true) ↔ InLanguage path w

-- a symbol with the state after it
pub record Vertex : Type 0 where
  pub symbol : Symbol
  pub state : ℕ

abbrev pub loc_of : Vertex → ℕ
loc_of v = v.symbol.loc

-- where the words from host s start
abbrev pub start_of : SymbolAutomaton → ℕ → Vertex
start_of a s = record { symbol = at s; state = a.step 0 (at s) }

-- an edge to another vertex that is at no host
pub record IsEdge (net : Network) (a : SymbolAutomaton) (v u : Vertex) : Type 0 where
  pub follows : MayFollow net (v.symbol, u.symbol)
  pub symbol : IsSymbol net u.symbol
  pub inside : ¬ IsHost net (loc_of u)
  pub state : u.state ≡ a.step v.state u.symbol
  pub turns : v ≢ u

-- an edge to the end: host d is entered in an accepting state
pub record IsLast (net : Network) (a : SymbolAutomaton) (d : ℕ) (v : Vertex) : Type 0 where
  pub follows : MayFollow net (v.symbol, at d)
  pub accepts : a.accepts (a.step v.state (at d)) ≡ true

-- the vertices lead from v to the end, which stands after the last of them
abbrev pub LeadsToEnd : Network → SymbolAutomaton → ℕ → Vertex → List Vertex → Type 0
LeadsToEnd net a d v [] = IsLast net a d v
LeadsToEnd net a d v (u ∷ us) = IsEdge net a v u × LeadsToEnd net a d u us

-- the vertices lead from v to u
abbrev pub LeadsTo : Network → SymbolAutomaton → Vertex → List Vertex → Vertex → Type 0
LeadsTo net a v [] u = v ≡ u
LeadsTo net a v (x ∷ xs) u = IsEdge net a v x × LeadsTo net a x xs u

-- The order of vertices: by location, function (none first) and state.
abbrev pub function_place : Option ℕ → ℕ
function_place None = 0
function_place (Some f) = suc f

abbrev pub IsUpTo : Vertex → Vertex → Type 0
IsUpTo u v =
    (loc_of u < loc_of v)
    ⊎ ((loc_of u ≡ loc_of v) × ((function_place u.symbol.fun < function_place v.symbol.fun)
    ⊎ ((function_place u.symbol.fun ≡ function_place v.symbol.fun) × (u.state ≤ v.state))))

-- the vertex comes before another one
abbrev pub IsBefore : Vertex → Vertex → Type 0
IsBefore u v =
    (loc_of u < loc_of v)
    ⊎ ((loc_of u ≡ loc_of v) × ((function_place u.symbol.fun < function_place v.symbol.fun)
    ⊎ ((function_place u.symbol.fun ≡ function_place v.symbol.fun) × (u.state < v.state))))

-- Edges of a product go by the places of their two vertices, in order.
abbrev pub IsEdgeBefore : ℕ × ℕ → ℕ × ℕ → Type 0
IsEdgeBefore e f = (e.0 < f.0) ⊎ ((e.0 ≡ f.0) × (e.1 < f.1))

-- an edge leads from the vertex at the first place to that at the second, or to the end, which
-- stands after these vertices
abbrev pub IsJoined : Network → SymbolAutomaton → ℕ → List Vertex → ℕ × ℕ → Type 0
IsJoined net a d inside e =
    (v : Vertex) × (slice_get inside e.0 ≡ Some v)
    × (((u : Vertex) × (slice_get inside e.1 ≡ Some u) × IsEdge net a v u)
    ⊎ ((e.1 ≡ length inside) × IsLast net a d v))

-- u is the next vertex after v in the sink tree: of those that v has an edge to, it is among the
-- ones with the fewest edges to the end, and of these the least. The vertices us lead from u to the
-- end.
pub record IsNext (net : Network) (a : SymbolAutomaton) (d : ℕ) (v u : Vertex) (us : List Vertex) : Type 0 where
  pub edge : IsEdge net a v u
  pub not_end : ¬ IsLast net a d v
  pub fewest : (x : Vertex) (xs : List Vertex) → IsEdge net a v x → LeadsToEnd net a d x xs →
      length us ≤ length xs
  pub least : (x : Vertex) (xs : List Vertex) → IsEdge net a v x → LeadsToEnd net a d x xs →
      length xs ≡ length us → IsUpTo u x

-- what follows v in the sink tree of host d
abbrev pub IsInTree : Network → SymbolAutomaton → ℕ → Vertex → List Vertex → Type 0
IsInTree net a d v [] = IsLast net a d v
IsInTree net a d v (u ∷ us) = IsNext net a d v u us × IsInTree net a d u us

-- Best effort: v stands in the product of destination d, which starts at all other hosts, and us
-- follow it in the sink tree.
pub record TreeFollows (net : Network) (a : SymbolAutomaton) (d : ℕ) (v : Vertex) (us : List Vertex) : Type 0 where
  pub source : ℕ
  pub host : IsHost net source
  pub dest_host : IsHost net d
  pub other : source ≢ d
  pub path : List Vertex
  pub reached : LeadsTo net a (start_of a source) path v
  pub tree : IsInTree net a d v us

-- v stands in the list, and us are what follows it there
abbrev pub IsFollowedBy : List Vertex → Vertex → List Vertex → Type 0
IsFollowedBy [] v us = ⊥
IsFollowedBy (x ∷ xs) v us = ((v ≡ x) × (us ≡ xs)) ⊎ IsFollowedBy xs v us

-- the symbols of vertices, and host d after them
abbrev pub word_to : ℕ → List Vertex → List Symbol
word_to d us = map (λ u. u.symbol) us ++ at d ∷ []

-- The written walk of a guaranteed statement: its ends, and its vertices after the start.
pub record WrittenWalk : Type 0 where
  pub source : ℕ
  pub dest : ℕ
  pub after : List Vertex

abbrev pub written_word : WrittenWalk → List Symbol
written_word w = at w.source ∷ word_to w.dest w.after

-- It is a walk that the automaton takes, without a repeated vertex.
pub record IsWrittenWalk (net : Network) (a : SymbolAutomaton) (w : WrittenWalk) : Type 0 where
  pub source : IsHost net w.source
  pub dest : IsHost net w.dest
  pub way : LeadsToEnd net a w.dest (start_of a w.source) w.after
  pub different : Pairwise (λ u v. u ≢ v) (start_of a w.source ∷ w.after)

-- What follows a vertex in the product for destination d: in a group of best effort the vertices of
-- the sink tree, in a guaranteed one those of the written walk.
abbrev pub FollowsIn : Network → SymbolAutomaton → Option WrittenWalk → ℕ → Vertex → List Vertex → Type 0
FollowsIn net a None d v us = TreeFollows net a d v us
FollowsIn net a (Some w) d v us = (d ≡ w.dest) × IsFollowedBy (start_of a w.source ∷ w.after) v us

-- some walk is allowed from host s to host d
abbrev pub AllowsWalkIn : Network → SymbolAutomaton → Option WrittenWalk → ℕ → ℕ → Type 0
AllowsWalkIn net a None s d = (us : List Vertex) × LeadsToEnd net a d (start_of a s) us
AllowsWalkIn net a (Some w) s d = (s ≡ w.source) × (d ≡ w.dest)

-- v is a vertex of the product from host s to host d: the start leads to it, and it leads to the
-- end
pub record IsOnWayBetween (net : Network) (a : SymbolAutomaton) (s d : ℕ) (v : Vertex) : Type 0 where
  pub before : List Vertex
  pub reached : LeadsTo net a (start_of a s) before v
  pub after : List Vertex
  pub leads : LeadsToEnd net a d v after

-- v is a vertex of the product for destination d: in a group of best effort from any other host, in
-- a guaranteed one from its source
abbrev pub IsVertexIn : Network → SymbolAutomaton → Option WrittenWalk → ℕ → Vertex → Type 0
IsVertexIn net a None d v =
    (s : ℕ) × IsHost net s × IsHost net d × (s ≢ d) × IsOnWayBetween net a s d v
IsVertexIn net a (Some w) d v = (d ≡ w.dest) × IsOnWayBetween net a w.source d v

-- A group: statements of best effort with one normal form, or one guaranteed statement with its
-- written walk and its queue.
pub record Group : Type 0 where
  pub automaton : SymbolAutomaton
  pub written : Option WrittenWalk
  pub queue : Option ℕ

-- Groups go by place. Where there is none, nothing follows and no walk is allowed.

abbrev pub FollowsAt : Network → Option Group → ℕ → Vertex → List Vertex → Type 0
FollowsAt net None d v us = ⊥
FollowsAt net (Some g) d v us = FollowsIn net g.automaton g.written d v us

abbrev pub AllowsWalkAt : Network → Option Group → ℕ → ℕ → Type 0
AllowsWalkAt net None s d = ⊥
AllowsWalkAt net (Some g) s d = AllowsWalkIn net g.automaton g.written s d

abbrev pub IsVertexAt : Network → Option Group → ℕ → Vertex → Type 0
IsVertexAt net None d v = ⊥
IsVertexAt net (Some g) d v = IsVertexIn net g.automaton g.written d v

abbrev pub start_at : Option Group → ℕ → Vertex
start_at None s = record { symbol = at s; state = 0 }
start_at (Some g) s = start_of g.automaton s

abbrev pub queue_at : Option Group → Option ℕ
queue_at None = None
queue_at (Some g) = g.queue

-- each written walk is one without a repeated vertex
abbrev pub AreWrittenWalks : Network → List Group → Type 0
AreWrittenWalks net groups =
    (g : ℕ) (group : Group) (w : WrittenWalk) → slice_get groups g ≡ Some group →
    group.written ≡ Some w → IsWrittenWalk net group.automaton w

-- v stands in the product of group g for destination d, and us follow it up to the end
abbrev pub Follows : Network → List Group → ℕ → ℕ → Vertex → List Vertex → Type 0
Follows net groups g d v us = FollowsAt net (slice_get groups g) d v us

-- v is a vertex of the product of group g for destination d
abbrev pub IsVertex : Network → List Group → ℕ → ℕ → Vertex → Type 0
IsVertex net groups g d v = IsVertexAt net (slice_get groups g) d v

-- group g starts from host s here
abbrev pub start_in : List Group → ℕ → ℕ → Vertex
start_in groups g s = start_at (slice_get groups g) s

-- group g allows some walk from host s to host d
abbrev pub AllowsWalk : Network → List Group → ℕ → ℕ → ℕ → Type 0
AllowsWalk net groups g s d = AllowsWalkAt net (slice_get groups g) s d

abbrev pub queue_in : List Group → ℕ → Option ℕ
queue_in groups g = queue_at (slice_get groups g)
