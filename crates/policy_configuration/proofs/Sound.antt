-- What a policy that was checked has.
use Rattle.std.proofs.Common.{◌≡◌, ◌↔◌, ◌<◌, ◌++◌, ℕ, zero, suc, List, [], ◌∷◌, length, map, slice_get, Contains, Option, None, Some, refl, sym, ◌∙◌, ap, subst}
use Rattle.std.specs.Prelude.{filter_map, option_and_then}
use Rattle.std.specs.Option.{option_map, option_to_list}
use Rattle.std.specs.List.{AllByRecursion, cons_option}
use Rattle.merlin_model.specs.declared.policy.Symbol.{Symbol}
use Rattle.merlin_model.specs.Predicates.{IsPred}
use Rattle.merlin_model.specs.Networks.{Network}
use Rattle.merlin_model.specs.Words.{IsSymbol}
use Rattle.merlin_model.specs.Policies.{Statement, paths_of}
use Rattle.path_regex.specs.Functions.{HasNoFunctionUnderNot}
use Rattle.path_automaton.specs.Automata.{AutomatonTables, AcceptsWordsOf}
use Rattle.path_automaton.proofs.Building.{below-get, get-below}
use Rattle.product_graph.proofs.Lists.{some-same, all-get}
use Rattle.topology.specs.Symbols.{network_symbols}
use Rattle.policy_grammar.specs.declared.written.RawPath.{RawPath}
use Rattle.policy_grammar.specs.NumberedPaths.{numbered}
use Rattle.policy_expansion.specs.declared.policy.Statement.{Statement as NamedStatement}
use Rattle.policy_expansion.specs.declared.policy.Policy.{Policy as NamedPolicy}
use Rattle.policy_names.specs.Names.{meaning_of, name_faults, raw_paths}
use Rattle.policy_check.specs.Numbered.{numbered_statement}
use Rattle.policy_check.specs.Checked.{CheckedPolicy, IsSoundPolicy, HasAutomata, IsCheckOf, automaton_of_statement}
use Rattle.configuration_model.specs.Checked.{IsChecked}
use Rattle.openflow_rules.specs.Planning.{statement_automata}
use Rattle.policy_configuration.proofs.Few.{none-some}

-- Where all elements lead to values, the values stand at the same places.
module _ {X Y : Type 0} (f : X → Option Y) where
  abbrev LeadsAll : List X → Type 0
  LeadsAll xs = (i : ℕ) (x : X) → slice_get xs i ≡ Some x → (y : Y) × (f x ≡ Some y)

  values-length : (xs : List X) → LeadsAll xs → length (filter_map f xs) ≡ length xs
  values-length [] all = refl
  values-length (x ∷ xs) all = ap (λ o. length (cons_option o (filter_map f xs))) (all 0 x refl).1 ∙ ap suc (values-length xs (λ i y at. all (suc i) y at))

  value-at : (xs : List X) (k : ℕ) (x : X) (y : Y) → LeadsAll xs → slice_get xs k ≡ Some x → f x ≡ Some y → slice_get (filter_map f xs) k ≡ Some y
  value-at [] k x y all e is = absurd (none-some e)
  value-at (a ∷ xs) zero x y all e is = ap (λ o. slice_get (cons_option o (filter_map f xs)) 0) (ap f (some-same e) ∙ is)
  value-at (a ∷ xs) (suc k) x y all e is = ap (λ o. slice_get (cons_option o (filter_map f xs)) (suc k)) (all 0 a refl).1 ∙ value-at xs k x y (λ i b at. all (suc i) b at) e is

formed-preds : (ss : List Statement) → AllByRecursion (λ s. IsPred s.pred) ss → AllByRecursion IsPred (map (λ (s : Statement). s.pred) ss)
formed-preds [] h = tt
formed-preds (s ∷ ss) h = (h.0, formed-preds ss h.1)

-- the paths over numbers are those over names, each numbered
paths-numbered : (net : Network) (ss : List NamedStatement) (d : Option RawPath) →
    map (λ (s : Statement). s.path) (map (numbered_statement net) ss) ++ option_to_list (option_map (numbered (meaning_of net)) d)
    ≡ map (numbered (meaning_of net)) (map (λ (s : NamedStatement). s.path) ss ++ option_to_list d)
paths-numbered net [] None = refl
paths-numbered net [] (Some path) = refl
paths-numbered net (s ∷ ss) d = ap (λ l. numbered (meaning_of net) s.path ∷ l) (paths-numbered net ss d)

-- The automaton of a statement stands at its place.
module _ (symbols : List Symbol) (checked : CheckedPolicy) (automata : HasAutomata symbols checked) (numbers : length checked.automaton_numbers ≡ length (paths_of checked.policy)) where
  abbrev numbers_of : List ℕ
  numbers_of = checked.automaton_numbers

  -- each number is that of an automaton
  each : LeadsAll (slice_get checked.automata) numbers_of
  each i n at =
      let path = below-get (paths_of checked.policy) i (subst (λ k. i < k) numbers (get-below numbers_of i n at)) in
      let t = automata i path.0 path.1 in
      (t.0, sym (ap (option_and_then (slice_get checked.automata)) at) ∙ t.1)

  as-many : length (statement_automata checked) ≡ length (paths_of checked.policy)
  as-many = values-length (slice_get checked.automata) numbers_of each ∙ numbers

  pub stands : (i : ℕ) (t : AutomatonTables) → automaton_of_statement checked i ≡ Some t → slice_get (statement_automata checked) i ≡ Some t
  stands i t at = by (slice_get numbers_of i) refl at
    where
      by : (o : Option ℕ) → slice_get numbers_of i ≡ o → option_and_then (slice_get checked.automata) o ≡ Some t → slice_get (statement_automata checked) i ≡ Some t
      by None e h = absurd (none-some h)
      by (Some n) e h = value-at (slice_get checked.automata) numbers_of i n t each e h

module _ (net : Network) (raw : NamedPolicy) (checked : CheckedPolicy) (is : IsCheckOf net (network_symbols net) raw checked) (sound : IsSoundPolicy checked.policy) (numbers : length checked.automaton_numbers ≡ length (paths_of checked.policy)) where
  paths-are : paths_of checked.policy ≡ map (numbered (meaning_of net)) (raw_paths raw)
  paths-are = ap paths_of is.policy ∙ paths-numbered net raw.statements raw.default_path

  pub checked-is : ((x : Symbol) → Contains (network_symbols net) x ↔ IsSymbol net x) → ((paths : List RawPath) → name_faults (meaning_of net) paths ≡ [] → AllByRecursion HasNoFunctionUnderNot (map (numbered (meaning_of net)) paths)) →
      IsChecked net checked.policy (network_symbols net) (statement_automata checked)
  checked-is symbols under = record {
    symbols_are = symbols;
    preds = formed-preds checked.policy.statements sound.preds;
    disjoint = sound.disjoint;
    total = sound.total;
    functions = λ i path has. all-get HasNoFunctionUnderNot (map (numbered (meaning_of net)) (raw_paths raw)) i path
        (under (raw_paths raw) is.rules.rated.covering.apart.named) (subst (λ l. slice_get l i ≡ Some path) paths-are has);
    count = as-many (network_symbols net) checked is.automata numbers;
    automata_are = λ i path t has at.
        let own = is.automata i path has in
        subst (AcceptsWordsOf (network_symbols net) path) (some-same (sym (stands (network_symbols net) checked is.automata numbers i own.0 own.1) ∙ at)) own.2.words;
    rates = sound.room;
  }
