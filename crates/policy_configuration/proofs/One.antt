-- The lines for a policy with given automata and walks are determined.
use Rattle.std.proofs.Common.{◌≡◌, ◌<◌, ◌≤◌, ◌⊎◌, inl, inr, ℕ, suc, List, [], ◌∷◌, length, slice_get, Some, refl, sym, ◌∙◌, ap, ap₂, subst, arith}
use Rattle.merlin_model.specs.declared.config.Config.{Config}
use Rattle.merlin_model.specs.declared.policy.Ends.{Ends}
use Rattle.merlin_model.specs.declared.policy.Symbol.{Symbol}
use Rattle.merlin_model.specs.Networks.{Network, IsNetwork}
use Rattle.merlin_model.specs.Words.{IsWalk}
use Rattle.merlin_model.specs.Policies.{Policy, IsOnPath}
use Rattle.merlin_model.specs.Assignments.{AreAllEnds, IsAssignment}
use Rattle.merlin_model.proofs.Ascending.{increasing-pairwise, sources-same}
use Rattle.path_automaton.specs.Automata.{AutomatonTables}
use Rattle.topology.specs.Symbols.{network_symbols}
use Rattle.rules_model.specs.Products.{Group, AreWrittenWalks}
use Rattle.rules_model.specs.Tables.{Cell, Plan, IsPlan, IsInOrder, table_rules, table_processes}
use Rattle.product_graph.proofs.Lists.{lt-or-ge}
use Rattle.configuration_model.specs.Groups.{Leads, AreGrouped, AreGroups}
use Rattle.configuration_model.specs.Hosts.{host_lines}
use Rattle.configuration_model.specs.Pairs.{pair_cells}
use Rattle.configuration_model.specs.Tables.{AreSources, grouped_cells}
use Rattle.configuration_model.proofs.Lists.{pairwise-place, zip-right}
use Rattle.policy_configuration.specs.Parts.{HasLinesFor}
use Rattle.policy_configuration.proofs.Groups.{leaders-same, groups-of-same}

-- lists with the same elements at the same places are one
same-places : {X : Type 0} (xs ys : List X) → length xs ≡ length ys → ((k : ℕ) (x y : X) → slice_get xs k ≡ Some x → slice_get ys k ≡ Some y → x ≡ y) → xs ≡ ys
same-places [] [] long each = refl
same-places [] (y ∷ ys) long each = absurd (omega (arith, long))
same-places (x ∷ xs) [] long each = absurd (omega (arith, long))
same-places (x ∷ xs) (y ∷ ys) long each = ap₂ (λ z zs. z ∷ zs) (each 0 x y refl refl) (same-places xs ys (omega (arith, long)) (λ k. each (suc k)))

-- a statement has one that stands for its group
leads-one : (policy : Policy) (i j k : ℕ) → Leads policy i j → Leads policy i k → j ≡ k
leads-one policy i j k (inl h) (inl g) = h.1 ∙ sym g.1
leads-one policy i j k (inl h) (inr g) = absurd (g.0 h.0)
leads-one policy i j k (inr h) (inl g) = absurd (h.0 g.0)
leads-one policy i j k (inr h) (inr g) = by (lt-or-ge j k) (lt-or-ge k j)
  where
    by : (j < k) ⊎ (k ≤ j) → (k < j) ⊎ (j ≤ k) → j ≡ k
    by (inl lt) other = absurd (g.1.first j lt h.1.best_effort h.1.alike)
    by (inr le) (inl lt) = absurd (h.1.first k lt g.1.best_effort g.1.alike)
    by (inr le) (inr ge) = omega (arith, le, ge)

group_of-same : (policy : Policy) (leaders group_of groups_of : List ℕ) → AreGrouped policy leaders group_of → AreGrouped policy leaders groups_of → group_of ≡ groups_of
group_of-same policy leaders group_of groups_of h g = same-places group_of groups_of (h.size ∙ sym g.size) each
  where
    each : (i m n : ℕ) → slice_get group_of i ≡ Some m → slice_get groups_of i ≡ Some n → m ≡ n
    each i m n at-m at-n =
        let one = h.each i m at-m in
        let two = g.each i n at-n in
        let same = leads-one policy i one.0 two.0 one.2 two.2 in
        pairwise-place (λ a b. a < b) leaders (increasing-pairwise leaders h.ascending) m n one.0 one.0 one.1 (two.1 ∙ ap Some (sym same)) (λ lt. omega (arith, lt)) (λ lt. omega (arith, lt))

sources-one : (net : Network) (policy : Policy) (xs ys : List (List ℕ)) → AreSources net policy xs → AreSources net policy ys → xs ≡ ys
sources-one net policy xs ys h g = same-places xs ys (h.size ∙ sym g.size) (λ i a b at-a at-b. sources-same net policy i a b (h.each i a at-a) (g.each i b at-b))

module _ (net : Network) (policy : Policy) (automata : List AutomatonTables) (ends : List Ends) (walks : List (List Symbol)) (config other : Config) (all : AreAllEnds net policy ends) (assigned : IsAssignment net policy ends walks)
    (h : HasLinesFor net policy automata ends walks config) (g : HasLinesFor net policy automata ends walks other) where
  walk-for : (k : ℕ) (e : Ends) → slice_get ends k ≡ Some e → (w : List Symbol) × (slice_get walks k ≡ Some w)
  walk-for k e stands = let w = zip-right (λ e w. IsWalk net e.src e.dst w × IsOnPath policy e.statement w) ends walks k e assigned stands in (w.0, w.1)

  leaders : g.tables.leaders ≡ h.tables.leaders
  leaders = leaders-same policy g.tables.leaders h.tables.leaders g.tables.group_of h.tables.group_of g.tables.grouped h.tables.grouped

  group_of : g.tables.group_of ≡ h.tables.group_of
  group_of = group_of-same policy h.tables.leaders g.tables.group_of h.tables.group_of (subst (λ l. AreGrouped policy l g.tables.group_of) leaders g.tables.grouped) h.tables.grouped

  groups : g.tables.groups ≡ h.tables.groups
  groups = groups-of-same net policy (network_symbols net) automata ends walks all walk-for h.tables.leaders g.tables.groups h.tables.groups
      (subst (λ l. AreGroups policy (network_symbols net) automata ends walks l g.tables.groups) leaders g.tables.groups_are) h.tables.groups_are

  abbrev OnePlan : Type 0
  OnePlan = (net : Network) (groups : List Group) (cells : ℕ → ℕ → List (Cell × ℕ)) (plan other : Plan) → IsNetwork net → AreWrittenWalks net groups → IsPlan net groups plan → IsPlan net groups other →
      IsInOrder net groups cells plan → IsInOrder net groups cells other → plan ≡ other

  plans : OnePlan → IsNetwork net → AreWrittenWalks net h.tables.groups → g.tables.plan ≡ h.tables.plan
  plans one network written =
      one net h.tables.groups (grouped_cells policy h.tables.group_of (pair_cells net policy)) g.tables.plan h.tables.plan network written
      (subst (λ gs. IsPlan net gs g.tables.plan) groups g.tables.plan_is) h.tables.plan_is
      (subst (λ gs. IsInOrder net gs (grouped_cells policy h.tables.group_of (pair_cells net policy)) g.tables.plan) groups
      (subst (λ of. IsInOrder net g.tables.groups (grouped_cells policy of (pair_cells net policy)) g.tables.plan) group_of g.tables.in_order)) h.tables.in_order

  pub one-configuration : OnePlan → IsNetwork net → AreWrittenWalks net h.tables.groups → config ≡ other
  one-configuration one network written =
      let plan = sym (plans one network written) in
      let rules = h.tables.rules_are ∙ ap (table_rules net) plan ∙ sym g.tables.rules_are in
      let processes = h.tables.processes_are ∙ ap (table_processes net) plan ∙ sym g.tables.processes_are in
      let queues = h.queues ∙ sym g.queues in
      let sources = sources-one net policy h.hosts.sources g.hosts.sources h.hosts.sources_are g.hosts.sources_are in
      let hosts = h.hosts.is ∙ ap (λ s. host_lines net policy s (pair_cells net policy)) sources ∙ sym g.hosts.is in
      λ i. record { rules = rules i; processes = processes i; queues = queues i; hosts = hosts i }
