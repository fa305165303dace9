-- The parts of the guaranteed statements of a policy that was checked.
use Rattle.std.proofs.Common.{◌≡◌, ◌+◌, ◌<◌, ◌≤◌, ◌++◌, ℕ, zero, suc, List, [], ◌∷◌, length, map, take, slice_get, Option, None, Some, IsSome, refl, sym, ◌∙◌, ap, subst, arith}
use Rattle.std.specs.Prelude.{filter_map, option_and_then, slice_index_or}
use Rattle.std.specs.List.{AllByRecursion, cons_option}
use Rattle.std.specs.Option.{option_map, option_map_or, option_to_list}
use Rattle.merlin_model.specs.declared.limits.TheConstants.{MAX_RATE}
use Rattle.merlin_model.specs.declared.network.HostAddress.{HostAddress}
use Rattle.merlin_model.specs.declared.policy.Ends.{Ends}
use Rattle.merlin_model.specs.declared.policy.Path.{Path}
use Rattle.merlin_model.specs.declared.policy.Symbol.{Symbol}
use Rattle.merlin_model.specs.Assignments.{AreTheEnds}
use Rattle.merlin_model.specs.Networks.{Network, IsHost, address_of}
use Rattle.merlin_model.specs.Policies.{Policy, Statement, paths_of}
use Rattle.merlin_model.specs.Rates.{min_of, IsGuaranteed, greatest_of, min_shares}
use Rattle.rules_model.specs.Products.{RecognisesPath}
use Rattle.rate_formula.specs.Usage.{ids_in}
use Rattle.localise.specs.Localised.{localised}
use Rattle.path_automaton.specs.Automata.{AutomatonTables, AcceptsWordsOf}
use Rattle.topology.specs.Symbols.{network_symbols}
use Rattle.product_graph.specs.Products.{automaton_of}
use Rattle.policy_check.specs.Checked.{CheckedPolicy, HasAutomata, automaton_of_statement}
use Rattle.configuration_model.specs.Checked.{IsChecked}
use Rattle.openflow_rules.specs.Planning.{statement_automata}
use Rattle.policy_flows.specs.Layouts.{HasParts, no_tables}
use Rattle.merlin_program.specs.Guaranteed.{ArePartsIn}
use Rattle.walk_search.specs.Parts.{checked_parts}
use Rattle.path_automaton.proofs.Building.{below-get, get-below}
use Rattle.product_graph.proofs.Lists.{some-same}

pub none-some : {X : Type 0} {x : X} → None ≡ Some x → ⊥
none-some e = cc

module _ {X Y : Type 0} (f : X → Option Y) where
  abbrev LeadsAll : List X → Type 0
  LeadsAll xs = (i : ℕ) (x : X) → slice_get xs i ≡ Some x → (y : Y) × (f x ≡ Some y)

  pub value-at : (xs : List X) (k : ℕ) (x : X) (y : Y) → LeadsAll xs → slice_get xs k ≡ Some x → f x ≡ Some y → slice_get (filter_map f xs) k ≡ Some y
  value-at [] k x y all e is = absurd (none-some e)
  value-at (a ∷ xs) zero x y all e is = ap (λ o. slice_get (cons_option o (filter_map f xs)) 0) (ap f (some-same e) ∙ is)
  value-at (a ∷ xs) (suc k) x y all e is = ap (λ o. slice_get (cons_option o (filter_map f xs)) (suc k)) (all 0 a refl).1 ∙ value-at xs k x y (λ i b at. all (suc i) b at) e is

  -- one more value, at the end
  pub value-more : (xs : List X) (k : ℕ) (y : Y) → option_and_then f (slice_get xs k) ≡ Some y → filter_map f (take (suc k) xs) ≡ filter_map f (take k xs) ++ y ∷ []
  value-more [] k y e = absurd (none-some e)
  value-more (x ∷ xs) zero y e = ap (λ o. cons_option o []) e
  value-more (x ∷ xs) (suc k) y e = by (f x) (value-more xs k y e)
    where
      by : (o : Option Y) → filter_map f (take (suc k) xs) ≡ filter_map f (take k xs) ++ y ∷ [] → cons_option o (filter_map f (take (suc k) xs)) ≡ cons_option o (filter_map f (take k xs)) ++ y ∷ []
      by None ih = ih
      by (Some z) ih = ap (λ l. z ∷ l) ih

  -- the same, where the place after it is counted by a sum
  pub value-next : (xs : List X) (k : ℕ) (y : Y) → option_and_then f (slice_get xs k) ≡ Some y → filter_map f (take (k + 1) xs) ≡ filter_map f (take k xs) ++ y ∷ []
  value-next xs k y e = let next : k + 1 ≡ suc k = omega arith in ap (λ n. filter_map f (take n xs)) next ∙ value-more xs k y e

pub index-some : {X : Type 0} (xs : List X) (i : ℕ) (d x : X) → slice_get xs i ≡ Some x → slice_index_or xs i d ≡ x
index-some [] i d x e = absurd (none-some e)
index-some (y ∷ xs) zero d x e = some-same e
index-some (y ∷ xs) (suc i) d x e = index-some xs i d x e

pub map-more : {X Y : Type 0} (f : X → Y) (xs : List X) (x : X) → map f (xs ++ x ∷ []) ≡ map f xs ++ f x ∷ []
map-more f [] x = refl
map-more f (y ∷ xs) x = ap (λ l. f y ∷ l) (map-more f xs x)

-- The automaton of a statement stands at its place.
module _ (symbols : List Symbol) (checked : CheckedPolicy) (automata : HasAutomata symbols checked) (numbers : length checked.automaton_numbers ≡ length (paths_of checked.policy)) where
  each : LeadsAll (slice_get checked.automata) checked.automaton_numbers
  each i n at =
      let path = below-get (paths_of checked.policy) i (subst (λ k. i < k) numbers (get-below checked.automaton_numbers i n at)) in
      let t = automata i path.0 path.1 in
      (t.0, sym (ap (option_and_then (slice_get checked.automata)) at) ∙ t.1)

  stands : (i : ℕ) (t : AutomatonTables) → automaton_of_statement checked i ≡ Some t → slice_get (statement_automata checked) i ≡ Some t
  stands i t at = by (slice_get checked.automaton_numbers i) refl at
    where
      by : (o : Option ℕ) → slice_get checked.automaton_numbers i ≡ o → option_and_then (slice_get checked.automata) o ≡ Some t → slice_get (statement_automata checked) i ≡ Some t
      by None e h = absurd (none-some h)
      by (Some n) e h = value-at (slice_get checked.automata) checked.automaton_numbers i n t each e h

path-at : (ss : List Statement) (rest : List Path) (i : ℕ) (s : Statement) → slice_get ss i ≡ Some s → slice_get (map (λ (s : Statement). s.path) ss ++ rest) i ≡ Some s.path
path-at [] rest i s e = absurd (none-some e)
path-at (t ∷ ss) rest zero s e = ap (λ (o : Option Statement). option_map (λ s. s.path) o) e
path-at (t ∷ ss) rest (suc i) s e = path-at ss rest i s e

-- a guaranteed statement is one of the policy's
guaranteed-stands : (policy : Policy) (i : ℕ) → IsGuaranteed policy i → (s : Statement) × (slice_get policy.statements i ≡ Some s)
guaranteed-stands policy i g = by (slice_get policy.statements i) refl g
  where
    by : (o : Option Statement) → slice_get policy.statements i ≡ o → 0 < option_map_or (λ s. greatest_of (min_shares s.id policy.terms)) o 0 → (s : Statement) × (slice_get policy.statements i ≡ Some s)
    by None e g = absurd (omega (arith, g))
    by (Some s) e g = (s, e)

is-host : (net : Network) (h : ℕ) (a : HostAddress) → address_of net h ≡ Some a → IsHost net h
is-host net h a e = subst (λ (o : Option HostAddress). IsSome o) (sym e) refl

-- the localised minima of its statements
abbrev pub mins_of : CheckedPolicy → List ℕ
mins_of checked = (localised checked.policy.terms (ids_in checked.policy)).min

module _ (net : Network) (checked : CheckedPolicy) (automata : HasAutomata (network_symbols net) checked) (is : IsChecked net checked.policy (network_symbols net) (statement_automata checked)) (numbers : length checked.automaton_numbers ≡ length (paths_of checked.policy))
    (rates : (policy : Policy) (i : ℕ) (s : Statement) → slice_get policy.statements i ≡ Some s → slice_get (localised policy.terms (ids_in policy)).min i ≡ Some (min_of policy i))
    (small : (i : ℕ) → min_of checked.policy i ≤ MAX_RATE)
    (recognised : (net : Network) (path : Path) (tables : AutomatonTables) → AcceptsWordsOf (network_symbols net) path tables → RecognisesPath net (automaton_of (network_symbols net) tables) path) where
  one : (e : Ends) → AreTheEnds net checked.policy e → HasParts net (statement_automata checked) (mins_of checked) e × ArePartsIn net checked.policy (checked_parts net checked) e
  one e are =
      let i : ℕ = e.statement in
      let s = guaranteed-stands checked.policy i are.guaranteed in
      let path = path-at checked.policy.statements (option_to_list checked.policy.default_path) i s.0 s.1 in
      let t = automata i s.0.path path in
      let at = stands (network_symbols net) checked automata numbers i t.0 t.1 in
      let table = index-some (statement_automata checked) i no_tables t.0 at in
      let rate = rates checked.policy i s.0 s.1 in
      let value = index-some (mins_of checked) i 0 (min_of checked.policy i) rate in
      let proper = are.traffic.proper in
      let src = is-host net e.src _ proper.source in
      let dst = is-host net e.dst _ proper.destination in (
        record {
          automaton = get-below (statement_automata checked) i t.0 at;
          width = ap (λ (t : AutomatonTables). t.width) table ∙ t.2.built.1.width;
          rate = get-below (mins_of checked) i (min_of checked.policy i) rate;
          small = subst (λ (n : ℕ). n ≤ MAX_RATE) (sym value) (small i);
          src = src;
          dst = dst;
        },
        record {
          hosts = record { src = src; dst = dst; differ = proper.differ };
          automaton = record {
            path = s.0.path;
            has = path;
            recognises = subst (λ (t : AutomatonTables). RecognisesPath net (automaton_of (network_symbols net) t) s.0.path) (sym table) (recognised net s.0.path t.0 t.2.words);
          };
          rate = value;
        },
      )

  pub have-parts : (ends : List Ends) → AllByRecursion (AreTheEnds net checked.policy) ends → AllByRecursion (HasParts net (statement_automata checked) (mins_of checked)) ends
  have-parts [] are = tt
  have-parts (e ∷ ends) are = ((one e are.0).0, have-parts ends are.1)

  pub own-parts : (ends : List Ends) → AllByRecursion (AreTheEnds net checked.policy) ends → AllByRecursion (ArePartsIn net checked.policy (checked_parts net checked)) ends
  own-parts [] are = tt
  own-parts (e ∷ ends) are = ((one e are.0).1, own-parts ends are.1)
