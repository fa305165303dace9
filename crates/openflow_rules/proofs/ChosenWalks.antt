-- What is known of a walk that was chosen.
use Rattle.std.proofs.Common.{◌≡◌, ◌<◌, ◌∙◌, ℕ, suc, List, Vec, Global, map, [], ◌∷◌, length, slice_get, Contains, Some, refl, sym, ap, subst}
use Rattle.std.specs.List.{AllByRecursion, AllZip}
use Rattle.merlin_model.specs.declared.policy.Ends.{Ends}
use Rattle.merlin_model.specs.declared.policy.Symbol.{Symbol}
use Rattle.merlin_model.specs.Networks.{Network}
use Rattle.merlin_model.specs.Words.{IsSymbol, IsWalk}
use Rattle.merlin_model.specs.Policies.{Policy, paths_of, IsOnPath}
use Rattle.merlin_model.specs.Assignments.{IsAssignment}
use Rattle.path_automaton.specs.Automata.{AutomatonTables}
use Rattle.path_automaton.proofs.Building.{below-get}
use Rattle.topology.specs.Symbols.{network_symbols}
use Rattle.product_graph.proofs.Lists.{some-same}
use Rattle.product_graph.proofs.Ordered.{ordered}
use Rattle.policy_check.specs.Checked.{CheckedPolicy, HasAutomata, automaton_of_statement}
use Rattle.configuration_model.proofs.Lists.{zip-left}

-- the words of walks
abbrev pub words : List (Vec Symbol Global) → List (List Symbol)
words walks = map (λ w. w.items) walks

-- each automaton is over all symbols
pub width-of : (symbols : List Symbol) (checked : CheckedPolicy) → HasAutomata symbols checked → (j : ℕ) (t : AutomatonTables) → j < length (paths_of checked.policy) → automaton_of_statement checked j ≡ Some t → t.width ≡ length symbols
width-of symbols checked automata j t lt is =
    let path = below-get (paths_of checked.policy) j lt in
    let a = automata j path.0 path.1 in
    subst (λ (x : AutomatonTables). x.width ≡ length symbols) (some-same (sym a.1 ∙ is)) a.2.built.1.width

module _ (net : Network) (policy : Policy) (ends : List Ends) (walks : List (List Symbol)) (assigned : IsAssignment net policy ends walks) where
  pub as-many : length ends ≡ length walks
  as-many = by _ ends walks assigned
    where
      by : (R : Ends → List Symbol → Type 0) (xs : List Ends) (ys : List (List Symbol)) → AllZip R xs ys → length xs ≡ length ys
      by R [] [] h = refl
      by R [] (y ∷ ys) h = absurd h
      by R (x ∷ xs) [] h = absurd h
      by R (x ∷ xs) (y ∷ ys) h = ap suc (by R xs ys h.1)

  -- a walk is over the symbols
  pub walk-symbols : (k : ℕ) (w : List Symbol) → slice_get walks k ≡ Some w → AllByRecursion (Contains (network_symbols net)) w
  walk-symbols k w e =
      let p = zip-left (λ e w. IsWalk net e.src e.dst w × IsOnPath policy e.statement w) ends walks k w assigned e in
      all w p.2.0.symbols
    where
      all : (xs : List Symbol) → AllByRecursion (IsSymbol net) xs → AllByRecursion (Contains (network_symbols net)) xs
      all [] h = tt
      all (x ∷ xs) h = (((ordered net).each x).1 h.0, all xs h.1)
