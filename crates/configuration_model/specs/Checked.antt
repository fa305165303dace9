-- What is known of a policy that was checked.
use Rattle.std.specs.Prelude.{ℕ, suc, ◌≡◌, ◌≤◌, ◌<◌, ◌↔◌, ◌==◌, ◌&&◌, Bool, List, [], ◌∷◌, length, map, Some, slice_get, Contains, if◌then◌else◌}
use Rattle.std.specs.List.{AllByRecursion}
use Rattle.merlin_model.specs.declared.policy.Pred.{Pred}
use Rattle.merlin_model.specs.declared.policy.Path.{Path}
use Rattle.merlin_model.specs.declared.policy.Symbol.{Symbol}
use Rattle.merlin_model.specs.Packets.{Packet, IsPacket}
use Rattle.merlin_model.specs.Predicates.{IsPred}
use Rattle.merlin_model.specs.Networks.{Network}
use Rattle.merlin_model.specs.Words.{IsSymbol}
use Rattle.merlin_model.specs.Policies.{Policy, AreDisjoint, match_of, paths_of}
use Rattle.merlin_model.specs.Rates.{max_of, min_of}
use Rattle.path_regex.specs.Functions.{HasNoFunctionUnderNot}
use Rattle.path_automaton.specs.Automata.{AutomatonTables, AcceptsWordsOf}

abbrev pub AreSymbols : Network → List Symbol → Type 0
AreSymbols net symbols = (x : Symbol) → Contains symbols x ↔ IsSymbol net x

abbrev pub preds_of : Policy → List Pred
preds_of policy = map (λ s. s.pred) policy.statements

pub record IsChecked (net : Network) (policy : Policy) (symbols : List Symbol) (automata : List AutomatonTables) : Type 0 where
  pub symbols_are : AreSymbols net symbols
  pub preds : AllByRecursion IsPred (preds_of policy)
  pub disjoint : AreDisjoint policy
  -- each packet has a statement, or there is a default
  pub total : (p : Packet) → IsPacket p → match_of policy p < length (paths_of policy)
  pub functions : (i : ℕ) (path : Path) → slice_get (paths_of policy) i ≡ Some path → HasNoFunctionUnderNot path
  pub count : length automata ≡ length (paths_of policy)
  pub automata_are : (i : ℕ) (path : Path) (t : AutomatonTables) → slice_get (paths_of policy) i ≡ Some path → slice_get automata i ≡ Some t → AcceptsWordsOf symbols path t
  -- no statement's minimum is above its maximum
  pub rates : (i most : ℕ) → max_of policy i ≡ Some most → min_of policy i ≤ most
