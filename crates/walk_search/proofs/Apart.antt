-- Simple walks come to no vertex twice.
use Rattle.std.proofs.Common.{◌≡◌, ◌≢◌, ◌++◌, ℕ, zero, suc, List, [], ◌∷◌, slice_get, Some, sym, subst}
use Rattle.std.specs.List.{AllByRecursion, AllZip}
use Rattle.merlin_model.specs.declared.policy.Ends.{Ends}
use Rattle.merlin_model.specs.declared.policy.Symbol.{Symbol}
use Rattle.merlin_model.specs.Assignments.{IsAssignment}
use Rattle.merlin_model.specs.Networks.{Network, Pairwise}
use Rattle.merlin_model.specs.Words.{at, IsWalk}
use Rattle.rules_model.specs.Products.{SymbolAutomaton, Vertex}
use Rattle.cutoff_program.specs.Walks.{vertices_along, IsSimple}
use Rattle.path_automaton.specs.Automata.{AutomatonTables}
use Rattle.topology.specs.Symbols.{network_symbols}
use Rattle.product_graph.specs.Products.{automaton_of}
use Rattle.product_graph.proofs.Lists.{some-same}
use Rattle.policy_check.specs.Checked.{CheckedPolicy}
use Rattle.policy_flows.specs.Layouts.{no_tables}
use Rattle.configuration_model.specs.Groups.{vertices_after, HasDifferentVertices, HaveDifferentVertices}
use Rattle.openflow_rules.specs.Planning.{statement_automata}
use Rattle.walk_search.specs.Parts.{checked_parts}
use Rattle.walk_search.proofs.Owned.{none-some, index-some}

module _ (a : SymbolAutomaton) where
  all-but-last : (P : Vertex → Type 0) (q : ℕ) (w : List Symbol) → AllByRecursion P (vertices_along a q w) → AllByRecursion P (vertices_after a q w)
  all-but-last P q [] h = tt
  all-but-last P q (x ∷ []) h = tt
  all-but-last P q (x ∷ y ∷ rest) h = (h.0, all-but-last P (a.step q x) (y ∷ rest) h.1)

  pairs-but-last : (q : ℕ) (w : List Symbol) → Pairwise (λ u v. u ≢ v) (vertices_along a q w) → Pairwise (λ u v. u ≢ v) (vertices_after a q w)
  pairs-but-last q [] h = tt
  pairs-but-last q (x ∷ []) h = tt
  pairs-but-last q (x ∷ y ∷ rest) h = (all-but-last (λ v. record { symbol = x; state = a.step q x } ≢ v) (a.step q x) (y ∷ rest) h.0, pairs-but-last (a.step q x) (y ∷ rest) h.1)

  different : (net : Network) (e : Ends) (w : List Symbol) → IsWalk net e.src e.dst w → IsSimple a w → HasDifferentVertices a e w
  different net e w walk simple = subst (HasDifferentVertices a e) (sym walk.shape) (by (subst (IsSimple a) walk.shape simple))
    where
      by : IsSimple a (at e.src ∷ (walk.inner ++ at e.dst ∷ [])) → HasDifferentVertices a e (at e.src ∷ (walk.inner ++ at e.dst ∷ []))
      by h = (all-but-last (λ v. record { symbol = at e.src; state = a.step 0 (at e.src) } ≢ v) (a.step 0 (at e.src)) (walk.inner ++ at e.dst ∷ []) h.0, pairs-but-last (a.step 0 (at e.src)) (walk.inner ++ at e.dst ∷ []) h.1)

zip-get : {X Y : Type 0} (R : X → Y → Type 0) (xs : List X) (ys : List Y) → AllZip R xs ys → (k : ℕ) (x : X) (y : Y) → slice_get xs k ≡ Some x → slice_get ys k ≡ Some y → R x y
zip-get R [] ys h k x y e g = absurd (none-some e)
zip-get R (a ∷ xs) [] h k x y e g = absurd (none-some g)
zip-get R (a ∷ xs) (b ∷ ys) h zero x y e g = subst (R x) (some-same g) (subst (λ z. R z b) (some-same e) h.0)
zip-get R (a ∷ xs) (b ∷ ys) h (suc k) x y e g = zip-get R xs ys h.1 k x y e g

pub have-different : (net : Network) (checked : CheckedPolicy) (ends : List Ends) (walks : List (List Symbol)) → IsAssignment net checked.policy ends walks →
    AllZip (λ e w. IsSimple ((checked_parts net checked).automaton e.statement) w) ends walks → HaveDifferentVertices checked.policy (network_symbols net) (statement_automata checked) ends walks
have-different net checked ends walks assigned simple k e w t at-e at-w at-t =
    let walk = zip-get _ ends walks assigned k e w at-e at-w in
    let one = zip-get (λ (e : Ends) (w : List Symbol). IsSimple ((checked_parts net checked).automaton e.statement) w) ends walks simple k e w at-e at-w in
    let same = index-some (statement_automata checked) e.statement no_tables t at-t in
    different (automaton_of (network_symbols net) t) net e w walk.0 (subst (λ (t : AutomatonTables). IsSimple (automaton_of (network_symbols net) t) w) same one)
