-- The groups of a checked policy, before walks are chosen.
use Rattle.std.proofs.Common.{◌≡◌, ◌<◌, ◌+◌, ◌==◌, ℕ, zero, suc, Bool, true, false, cond, List, [], ◌∷◌, length, map, find, slice_get, Contains, Option, None, Some, refl, sym, ◌∙◌, ap, subst, arith}
use Rattle.std.specs.Prelude.{filter_map, option_map, option_and_then, unwrap_or}
use Rattle.std.specs.List.{AllByRecursion, AllZip, cons_option, position_from}
use Rattle.merlin_model.specs.declared.policy.Ends.{Ends}
use Rattle.merlin_model.specs.Networks.{Network, Pairwise}
use Rattle.merlin_model.specs.Policies.{paths_of}
use Rattle.merlin_model.specs.Rates.{IsGuaranteed}
use Rattle.merlin_model.specs.Words.{at}
use Rattle.merlin_model.specs.Assignments.{AreTheEnds, AreAllEnds}
use Rattle.merlin_model.proofs.Members.{in_from, all_in}
use Rattle.merlin_model.proofs.Ascending.{increasing-pairwise}
use Rattle.path_automaton.specs.Automata.{AutomatonTables}
use Rattle.topology.specs.Symbols.{network_symbols}
use Rattle.rules_model.specs.Products.{Group}
use Rattle.product_graph.specs.Products.{automaton_of}
use Rattle.product_graph.proofs.Lists.{some-same, none-some, all-map, all-contained, get-contains}
use Rattle.path_automaton.proofs.Building.{below-get, get-map}
use Rattle.policy_check.specs.Checked.{CheckedPolicy, HasAutomata, automaton_of_statement}
use Rattle.configuration_model.specs.Groups.{AreGrouped, IsGroupOf, AreGroups, written_walk_of}
use Rattle.configuration_model.proofs.Lists.{find-in}
use Rattle.openflow_rules.specs.Planning.{statement_automata, bare_walks}
use Rattle.openflow_rules.specs.GroupSpans.{ends_for, bare_walk, group_by}

abbrev pub no_table : AutomatonTables
no_table = record { steps = []; width = 0; accepting = []; living = [] }

-- the group that a statement stands for
abbrev pub planned : Network → CheckedPolicy → List Ends → ℕ → Group
planned net checked ends j = group_by net ends j (unwrap_or (automaton_of_statement checked j) no_table)

-- where all before lead to values, what leads to a value stands at the same place among the values
filtered-at : {X Y : Type 0} (f : X → Option Y) (xs : List X) (k : ℕ) (x : X) (y : Y) → ((i : ℕ) (a : X) → i < k → slice_get xs i ≡ Some a → (b : Y) × (f a ≡ Some b)) → slice_get xs k ≡ Some x → f x ≡ Some y → slice_get (filter_map f xs) k ≡ Some y
filtered-at f [] k x y all e is = absurd (none-some e)
filtered-at f (a ∷ xs) zero x y all e is = ap (λ o. slice_get (cons_option o (filter_map f xs)) 0) (ap f (some-same e) ∙ is)
filtered-at f (a ∷ xs) (suc k) x y all e is =
    let first = all 0 a (omega arith) refl in
    ap (λ o. slice_get (cons_option o (filter_map f xs)) (suc k)) first.1 ∙ filtered-at f xs k x y (λ i b lt at_i. all (suc i) b (omega (arith, lt)) at_i) e is

pub zip-map : {X Y : Type 0} (R : X → Y → Type 0) (f : X → Y) (xs : List X) → AllByRecursion (λ x. R x (f x)) xs → AllZip R xs (map f xs)
zip-map R f [] h = tt
zip-map R f (x ∷ xs) h = (h.0, zip-map R f xs h.1)

-- the ends that are found for a statement are those that stand for it
module _ (j : ℕ) where
  abbrev pub is_for : Ends → Bool
  is_for e = e.statement == j

  pub for-it : (e : Ends) → e.statement ≡ j → is_for e ≡ true
  for-it e is = grind arith

  pub not-for : (e x : Ends) → e.statement ≡ j → x.statement < e.statement → is_for x ≡ false
  not-for e x is lt = grind arith

  pub is-j : (e : Ends) → is_for e ≡ true → e.statement ≡ j
  is-j e is = grind arith

  pub found-at : (ends : List Ends) (k : ℕ) (e : Ends) → Pairwise (λ a b. a.statement < b.statement) ends → slice_get ends k ≡ Some e → e.statement ≡ j → find is_for ends ≡ Some e
  found-at [] k e up at_k is = absurd (none-some at_k)
  found-at (x ∷ ends) zero e up at_k is = ap (λ b. cond b (Some x) (find is_for ends)) (for-it x (ap (λ a. a.statement) (some-same at_k) ∙ is)) ∙ at_k
  found-at (x ∷ ends) (suc k) e up at_k is =
      ap (λ b. cond b (Some x) (find is_for ends)) (not-for e x is (all_in (λ b. x.statement < b.statement) ends e up.0 (in_from ends e (get-contains ends k e at_k)))) ∙ found-at ends k e up.1 at_k is

  pub position-at : (n : ℕ) (ends : List Ends) (k : ℕ) (e : Ends) → Pairwise (λ a b. a.statement < b.statement) ends → slice_get ends k ≡ Some e → e.statement ≡ j → position_from is_for n ends ≡ Some (n + k)
  position-at n [] k e up at_k is = absurd (none-some at_k)
  position-at n (x ∷ ends) zero e up at_k is =
      ap (λ b. cond b (Some n) (position_from is_for (n + 1) ends)) (for-it x (ap (λ a. a.statement) (some-same at_k) ∙ is)) ∙ ap Some (let s : n ≡ n + 0 = omega arith in s)
  position-at n (x ∷ ends) (suc k) e up at_k is =
      ap (λ b. cond b (Some n) (position_from is_for (n + 1) ends)) (not-for e x is (all_in (λ b. x.statement < b.statement) ends e up.0 (in_from ends e (get-contains ends k e at_k))))
      ∙ position-at (n + 1) ends k e up.1 at_k is ∙ ap Some (let s : (n + 1) + k ≡ n + suc k = omega arith in s)

  pub found-none : (ends : List Ends) → AllByRecursion (λ e. is_for e ≡ false) ends → find is_for ends ≡ None
  found-none [] h = refl
  found-none (x ∷ ends) h = ap (λ b. cond b (Some x) (find is_for ends)) h.0 ∙ found-none ends h.1

  pub position-none : (n : ℕ) (ends : List Ends) → AllByRecursion (λ e. is_for e ≡ false) ends → position_from is_for n ends ≡ None
  position-none n [] h = refl
  position-none n (x ∷ ends) h = ap (λ b. cond b (Some n) (position_from is_for (n + 1) ends)) h.0 ∙ position-none (n + 1) ends h.1

ends-up : (ends : List Ends) → Pairwise (λ a b. a < b) (map (λ e. e.statement) ends) → Pairwise (λ a b. a.statement < b.statement) ends
ends-up [] up = tt
ends-up (x ∷ ends) up = (each ends up.0, ends-up ends up.1)
  where
    each : (es : List Ends) → AllByRecursion (λ b. x.statement < b) (map (λ e. e.statement) es) → AllByRecursion (λ b. x.statement < b.statement) es
    each [] h = tt
    each (e ∷ es) h = (h.0, each es h.1)

module _ (net : Network) (checked : CheckedPolicy) (ends : List Ends) (automata : HasAutomata (network_symbols net) checked) (all : AreAllEnds net checked.policy ends) where
  -- the automaton of a statement
  pub record IsTableOf (j : ℕ) : Type 0 where
    pub table : AutomatonTables
    pub is : automaton_of_statement checked j ≡ Some table
    pub width : table.width ≡ length (network_symbols net)

  pub table-of : (j : ℕ) → j < length (paths_of checked.policy) → IsTableOf j
  table-of j lt =
      let path = below-get (paths_of checked.policy) j lt in
      let t = automata j path.0 path.1 in
      record { table = t.0; is = t.1; width = t.2.built.1.width }

  pub up : Pairwise (λ a b. a.statement < b.statement) ends
  up = ends-up ends (increasing-pairwise (map (λ e. e.statement) ends) all.ascending)

  -- the ends that are found are those of a guaranteed statement
  pub ends-are : (j : ℕ) (e : Ends) → ends_for ends j ≡ Some e → AreTheEnds net checked.policy e
  ends-are j e found = all_in (AreTheEnds net checked.policy) ends e all.each (find-in (λ x. x.statement == j) ends e found).0

  pub no-ends : (j : ℕ) → ¬ IsGuaranteed checked.policy j → AllByRecursion (λ e. (e.statement == j) ≡ false) ends
  no-ends j free = all-map (AreTheEnds net checked.policy) (λ e. (e.statement == j) ≡ false) (λ e h. by e h (e.statement == j) refl) ends all.each
    where
      by : (e : Ends) → AreTheEnds net checked.policy e → (b : Bool) → (e.statement == j) ≡ b → (e.statement == j) ≡ false
      by e h true is = absurd (free (subst (IsGuaranteed checked.policy) (is-j j e is) h.guaranteed))
      by e h false is = is

  pub stands-at : (j : ℕ) (t : AutomatonTables) → j < length (paths_of checked.policy) → automaton_of_statement checked j ≡ Some t → slice_get (statement_automata checked) j ≡ Some t
  stands-at j t lt is = by (slice_get checked.automaton_numbers j) refl is
    where
      each : (i n : ℕ) → i < j → slice_get checked.automaton_numbers i ≡ Some n → (table : AutomatonTables) × (slice_get checked.automata n ≡ Some table)
      each i n before at_i =
          let t = table-of i (omega (arith, lt, before)) in
          (t.table, sym (ap (option_and_then (slice_get checked.automata)) at_i) ∙ t.is)

      by : (o : Option ℕ) → slice_get checked.automaton_numbers j ≡ o → option_and_then (slice_get checked.automata) o ≡ Some t → slice_get (statement_automata checked) j ≡ Some t
      by None at_j is = absurd (none-some is)
      by (Some n) at_j is = filtered-at (slice_get checked.automata) checked.automaton_numbers j n t each at_j is

  group-of : (j : ℕ) → j < length (paths_of checked.policy) → IsGroupOf checked.policy (network_symbols net) (statement_automata checked) ends (bare_walks ends) j (planned net checked ends j)
  group-of j lt =
      let t = table-of j lt in
      record {
        tables = t.table;
        stands = stands-at j t.table lt t.is;
        automaton = ap (λ o. automaton_of (network_symbols net) (unwrap_or o no_table)) t.is;
        best_effort = λ free. (ap (option_map bare_walk) (found-none j ends (no-ends j free)), ap (option_map suc) (position-none j 0 ends (no-ends j free)));
        guaranteed = λ k e w at_k is walk. (
          ap (option_map bare_walk) (found-at j ends k e up at_k is)
              ∙ ap (λ x. Some (written_walk_of (planned net checked ends j).automaton e x)) (some-same (sym (get-map (λ x. at x.src ∷ at x.dst ∷ []) ends k e at_k) ∙ walk)),
          ap (option_map suc) (position-at j 0 ends k e up at_k is ∙ ap Some (let s : 0 + k ≡ k = omega arith in s)),
        );
      }

  pub are-groups : (leaders group_of : List ℕ) → AreGrouped checked.policy leaders group_of → AreGroups checked.policy (network_symbols net) (statement_automata checked) ends (bare_walks ends) leaders (map (planned net checked ends) leaders)
  are-groups leaders group_of grouped = zip-map _ (planned net checked ends) leaders (each leaders (λ j c. ((grouped.leaders_are j).0 c).0))
    where
      each : (js : List ℕ) → ((j : ℕ) → Contains js j → j < length (paths_of checked.policy)) → AllByRecursion (λ j. IsGroupOf checked.policy (network_symbols net) (statement_automata checked) ends (bare_walks ends) j (planned net checked ends j)) js
      each js within = all-contained _ js (λ j c. group-of j (within j c))
