-- The layout of a policy's statements, and what their automata recognise.
use Rattle.std.proofs.Common.{◌≡◌, ◌↔◌, ℕ, true, List, [], ◌∷◌, map, refl, sym, ◌∙◌, ap, subst}
use Rattle.std.specs.List.{AllByRecursion}
use Rattle.merlin_model.specs.declared.policy.Ends.{Ends}
use Rattle.merlin_model.specs.declared.policy.Objective.{Objective}
use Rattle.merlin_model.specs.declared.policy.Path.{Path}
use Rattle.merlin_model.specs.declared.policy.Symbol.{Symbol}
use Rattle.merlin_model.specs.Networks.{Network, IsNetwork}
use Rattle.merlin_model.specs.Paths.{InLanguage}
use Rattle.merlin_model.specs.Policies.{Policy}
use Rattle.merlin_model.specs.Words.{IsSymbol}
use Rattle.rules_model.specs.Products.{RecognisesPath, ending_state}
use Rattle.path_automaton.specs.States.{IsMadeOf}
use Rattle.path_automaton.specs.Automata.{AutomatonTables, AcceptsWordsOf, accepts, number_in, state_after_numbers}
use Rattle.path_automaton.proofs.Listed.{accepts-listed}
use Rattle.topology.specs.Symbols.{network_symbols}
use Rattle.product_graph.specs.Products.{automaton_of}
use Rattle.product_graph.proofs.Ordered.{ordered}
use Rattle.cutoff_program.specs.declared.flow.Flow.{Flow}
use Rattle.cutoff_program.specs.declared.flow.Problem.{Problem}
use Rattle.cutoff_program.specs.Products.{flow_of}
use Rattle.program_walks.specs.Solutions.{IsFlowWith, AreFlowsWith, IsLaidOut}
use Rattle.policy_flows.specs.Layouts.{StatementParts, IsFlowBetween, AreFlowsBetween, IsLayout}
use Rattle.merlin_program.specs.Guaranteed.{ArePartsIn}

module _ (net : Network) (policy : Policy) (parts : StatementParts) where
  flow-with : (e : Ends) (flow : Flow) (symbols : List Symbol) → ArePartsIn net policy parts e → IsFlowBetween net (parts.automaton e.statement) (parts.rate e.statement) e.src e.dst flow symbols → IsFlowWith net policy parts.automaton e flow symbols
  flow-with e flow symbols own is = record {
    of = record { hosts = own.hosts; automaton = own.automaton; product = is.product; is_product = is.is_product; is = is.is ∙ ap (λ r. flow_of net r is.product) own.rate };
    symbols_are = is.symbols_are;
  }

  flows-with : (ends : List Ends) (flows : List Flow) (symbols : List (List Symbol)) → AllByRecursion (ArePartsIn net policy parts) ends → AreFlowsBetween net parts ends flows symbols → AreFlowsWith net policy parts.automaton ends flows symbols
  flows-with [] [] [] own are = tt
  flows-with (e ∷ ends) (flow ∷ flows) (first ∷ symbols) own are = (flow-with e flow first own.0 are.0, flows-with ends flows symbols own.1 are.1)
  flows-with [] [] (first ∷ symbols) own are = absurd are
  flows-with [] (flow ∷ flows) symbols own are = absurd are
  flows-with (e ∷ ends) [] symbols own are = absurd are
  flows-with (e ∷ ends) (flow ∷ flows) [] own are = absurd are

pub layout-of : (net : Network) (policy : Policy) (parts : StatementParts) (ends : List Ends) (objective : Objective) (problem : Problem) (symbols : List (List Symbol)) → IsNetwork net → AllByRecursion (ArePartsIn net policy parts) ends →
    IsLayout net parts ends objective problem symbols → IsLaidOut net policy parts.automaton ends objective problem symbols
layout-of net policy parts ends objective problem symbols ok own is = record { network = ok; flows = flows-with net policy parts ends problem.flows symbols own is.flows; links_are = is.links_are; objective_is = is.objective_is }

-- the run over symbols is that over their numbers
same-run : (symbols : List Symbol) (t : AutomatonTables) (q : ℕ) (w : List Symbol) → ending_state (automaton_of symbols t) q w ≡ state_after_numbers t q (map (number_in symbols) w)
same-run symbols t q [] = refl
same-run symbols t q (x ∷ w) = same-run symbols t ((automaton_of symbols t).step q x) w

made-of : (net : Network) (w : List Symbol) → AllByRecursion (IsSymbol net) w → IsMadeOf (network_symbols net) w
made-of net [] is = tt
made-of net (x ∷ w) is = (((ordered net).each x).1 is.0, made-of net w is.1)

pub recognises : (net : Network) (path : Path) (tables : AutomatonTables) → AcceptsWordsOf (network_symbols net) path tables → RecognisesPath net (automaton_of (network_symbols net) tables) path
recognises net path tables words w is =
    subst (λ q. (accepts tables q ≡ true) ↔ InLanguage path w) (sym (same-run (network_symbols net) tables 0 w))
    (accepts-listed (network_symbols net) path tables words w (made-of net w is))
