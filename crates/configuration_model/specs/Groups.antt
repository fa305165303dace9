-- Groups of statements, and the written walks of guaranteed ones.
use Rattle.std.specs.Prelude.{ℕ, suc, ◌≡◌, ◌<◌, ◌⊎◌, ◌↔◌, List, [], ◌∷◌, length, None, Some, slice_get, Contains}
use Rattle.std.specs.List.{AllZip}
use Rattle.std.specs.List.Sorted.{IsStrictlyIncreasing}
use Rattle.merlin_model.specs.declared.policy.Path.{Path}
use Rattle.merlin_model.specs.declared.policy.Symbol.{Symbol}
use Rattle.merlin_model.specs.declared.policy.Ends.{Ends}
use Rattle.merlin_model.specs.Networks.{AreDifferent}
use Rattle.merlin_model.specs.Policies.{Policy, paths_of}
use Rattle.merlin_model.specs.Rates.{IsGuaranteed}
use Rattle.path_regex.specs.Normal.{normal_of}
use Rattle.path_automaton.specs.Automata.{AutomatonTables}
use Rattle.rules_model.specs.Products.{SymbolAutomaton, Vertex, start_of, WrittenWalk, Group}
use Rattle.product_graph.specs.Products.{automaton_of}

-- statements whose paths have one normal form
pub record HaveOneForm (policy : Policy) (i j : ℕ) : Type 0 where
  pub path : Path
  pub other : Path
  pub has : slice_get (paths_of policy) i ≡ Some path
  pub other_has : slice_get (paths_of policy) j ≡ Some other
  pub form : normal_of path ≡ normal_of other

-- j is the first statement of best effort whose path has the normal form of statement i's
pub record IsFirstAlike (policy : Policy) (i j : ℕ) : Type 0 where
  pub best_effort : ¬ IsGuaranteed policy j
  pub alike : HaveOneForm policy i j
  pub first : (k : ℕ) → k < j → ¬ IsGuaranteed policy k → ¬ HaveOneForm policy i k

-- statement j stands for the group of statement i
abbrev pub Leads : Policy → ℕ → ℕ → Type 0
Leads policy i j = (IsGuaranteed policy i × (j ≡ i)) ⊎ ((¬ IsGuaranteed policy i) × IsFirstAlike policy i j)

-- The groups by the statements that stand for them, in order, and the group of each statement, the default's last.
pub record AreGrouped (policy : Policy) (leaders group_of : List ℕ) : Type 0 where
  pub ascending : IsStrictlyIncreasing leaders
  pub leaders_are : (j : ℕ) → Contains leaders j ↔ ((j < length (paths_of policy)) × Leads policy j j)
  pub size : length group_of ≡ length (paths_of policy)
  pub each : (i g : ℕ) → slice_get group_of i ≡ Some g → (j : ℕ) × (slice_get leaders g ≡ Some j) × Leads policy i j

-- the vertices of a word after a state, without the word's last symbol
abbrev pub vertices_after : SymbolAutomaton → ℕ → List Symbol → List Vertex
vertices_after a q [] = []
vertices_after a q (x ∷ []) = []
vertices_after a q (x ∷ y ∷ rest) = record { symbol = x; state = a.step q x } ∷ vertices_after a (a.step q x) (y ∷ rest)

abbrev pub written_after : SymbolAutomaton → Ends → List Symbol → List Vertex
written_after a e [] = []
written_after a e (x ∷ rest) = vertices_after a (start_of a e.src).state rest

abbrev pub written_walk_of : SymbolAutomaton → Ends → List Symbol → WrittenWalk
written_walk_of a e w = record { source = e.src; dest = e.dst; after = written_after a e w }

-- the product vertices of the walk are all different
abbrev pub HasDifferentVertices : SymbolAutomaton → Ends → List Symbol → Type 0
HasDifferentVertices a e w = AreDifferent (start_of a e.src ∷ written_after a e w)

module _ (policy : Policy) (symbols : List Symbol) (automata : List AutomatonTables) (ends : List Ends) (walks : List (List Symbol)) where
  -- each written walk is simple in the automaton of its statement
  abbrev pub HaveDifferentVertices : Type 0
  HaveDifferentVertices = (k : ℕ) (e : Ends) (w : List Symbol) (t : AutomatonTables) → slice_get ends k ≡ Some e → slice_get walks k ≡ Some w → slice_get automata e.statement ≡ Some t → HasDifferentVertices (automaton_of symbols t) e w

  -- The group that statement j stands for. That of the k-th guaranteed statement has its walk, and the queue k + 1.
  pub record IsGroupOf (j : ℕ) (g : Group) : Type 0 where
    pub tables : AutomatonTables
    pub stands : slice_get automata j ≡ Some tables
    pub automaton : g.automaton ≡ automaton_of symbols tables
    pub best_effort : ¬ IsGuaranteed policy j → (g.written ≡ None) × (g.queue ≡ None)
    pub guaranteed : (k : ℕ) (e : Ends) (w : List Symbol) → slice_get ends k ≡ Some e → e.statement ≡ j → slice_get walks k ≡ Some w →
        (g.written ≡ Some (written_walk_of g.automaton e w)) × (g.queue ≡ Some (suc k))

  abbrev pub AreGroups : List ℕ → List Group → Type 0
  AreGroups leaders groups = AllZip IsGroupOf leaders groups
