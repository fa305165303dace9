-- Automata over listed symbols.
use Rattle.std.proofs.Common.{◌≡◌, ℕ, true, List, [], ◌∷◌, map, refl, sym, ◌∙◌, ap}
use Rattle.std.specs.List.{AllByRecursion}
use Rattle.merlin_model.specs.declared.policy.Path.{Path}
use Rattle.merlin_model.specs.declared.policy.Symbol.{Symbol}
use Rattle.merlin_model.specs.Networks.{Network}
use Rattle.merlin_model.specs.Words.{IsSymbol}
use Rattle.path_automaton.specs.Automata.{AutomatonTables, AcceptsWordsOf, number_in, step, accepts, state_after_numbers}
use Rattle.path_automaton.specs.States.{IsMadeOf}
use Rattle.path_automaton.proofs.Listed.{accepts-listed}
use Rattle.rules_model.specs.Products.{RecognisesPath, ending_state}
use Rattle.product_graph.specs.Products.{automaton_of}
use Rattle.configuration_model.specs.Checked.{AreSymbols}

module _ (net : Network) (symbols : List Symbol) (are : AreSymbols net symbols) (t : AutomatonTables) where
  made-of : (w : List Symbol) → AllByRecursion (IsSymbol net) w → IsMadeOf symbols w
  made-of [] h = tt
  made-of (x ∷ w) h = ((are x).1 h.0, made-of w h.1)

  run-same : (q : ℕ) (w : List Symbol) → ending_state (automaton_of symbols t) q w ≡ state_after_numbers t q (map (number_in symbols) w)
  run-same q [] = refl
  run-same q (x ∷ w) = run-same (step t q (number_in symbols x)) w

  -- the tables take, of the words over the network's symbols, those of the path
  pub takes : (path : Path) → AcceptsWordsOf symbols path t → RecognisesPath net (automaton_of symbols t) path
  takes path is w h =
      let both = accepts-listed symbols path t is w (made-of w h) in
      let same = run-same 0 w in
      (λ e. both.0 (ap (accepts t) (sym same) ∙ e), λ l. ap (accepts t) same ∙ both.1 l)
