-- The branches of all groups are those that tables are made from.
use Rattle.std.proofs.Common.{◌≡◌, ◌≢◌, ◌==◌, ℕ, suc, List, [], ◌∷◌, length, map, slice_get, Option, None, Some, refl, sym, ◌∙◌, ap, subst, arith}
use Rattle.std.specs.List.{AllZip}
use Rattle.merlin_model.specs.declared.policy.Ends.{Ends}
use Rattle.merlin_model.specs.declared.policy.Symbol.{Symbol}
use Rattle.merlin_model.specs.declared.config.Rule.{Rule}
use Rattle.merlin_model.specs.declared.config.Process.{Process}
use Rattle.merlin_model.specs.Networks.{Network, IsHost}
use Rattle.merlin_model.specs.Rates.{IsGuaranteed}
use Rattle.merlin_model.specs.Words.{IsWalk}
use Rattle.merlin_model.specs.Policies.{IsOnPath}
use Rattle.merlin_model.specs.Assignments.{AreAllEnds, IsAssignment}
use Rattle.merlin_model.proofs.Members.{in_from, in_map}
use Rattle.topology.specs.Symbols.{network_symbols}
use Rattle.rules_model.specs.Products.{Vertex, Group, Follows, AllowsWalk, AllowsWalkAt, AreWrittenWalks, start_in}
use Rattle.rules_model.specs.Tables.{all_hosts, all_owned}
use Rattle.product_graph.specs.Products.{automaton_of}
use Rattle.product_graph.proofs.Lists.{some-same, none-some, get-below, get-contains}
use Rattle.path_automaton.proofs.Building.{below-get}
use Rattle.policy_check.specs.Checked.{CheckedPolicy, HasAutomata}
use Rattle.configuration_model.specs.Groups.{AreGrouped, written_walk_of, AreGroups, IsGroupOf, HasDifferentVertices, HaveDifferentVertices}
use Rattle.configuration_model.specs.Pairs.{pair_cells}
use Rattle.configuration_model.specs.Tables.{grouped_cells, AreTables}
use Rattle.configuration_model.proofs.Lists.{in-at, find-in, zip-left, zip-right}
use Rattle.rule_tables.specs.declared.branches.TagKey.{TagKey as ListedKey}
use Rattle.rule_tables.specs.declared.branches.GroupBranches.{GroupBranches}
use Rattle.rule_tables.specs.declared.branches.OwnedCell.{OwnedCell}
use Rattle.rule_tables.specs.Branches.{key_of, owned_of, AreGroupBranches, AreBranches, IsPrepared, AreTablesOf}
use Rattle.openflow_rules.specs.Planning.{statement_automata, bare_walks, AreTags}
use Rattle.openflow_rules.specs.PlanParts.{AreBareGroups}
use Rattle.openflow_rules.specs.GroupSpans.{ends_for, span_to, spans_by}
use Rattle.openflow_rules.specs.Gathered.{IsBranchFor}
use Rattle.openflow_rules.specs.WalkGroups.{IsPlaceFor, IsWalkGroup, IsWalkGroupAt, IsGroupWith, IsGroupFor, AreGroupsFor}
use Rattle.openflow_rules.proofs.PlannedGroups.{is-j, found-at, up, stands-at}
use Rattle.openflow_rules.proofs.ChosenGroups.{same-tag, are-written, alike-groups}
use Rattle.openflow_rules.proofs.ChosenBranches.{same-group, effort-branches, effort-starts, walk-starts, walk-branches}

zip-long : {X Y : Type 0} (R : X → Y → Type 0) (xs : List X) (ys : List Y) → AllZip R xs ys → length xs ≡ length ys
zip-long R [] [] h = refl
zip-long R [] (y ∷ ys) h = absurd h
zip-long R (x ∷ xs) [] h = absurd h
zip-long R (x ∷ xs) (y ∷ ys) h = ap suc (zip-long R xs ys h.1)

module _ (net : Network) (checked : CheckedPolicy) (ends : List Ends) (automata : HasAutomata (network_symbols net) checked) (all : AreAllEnds net checked.policy ends) (walks : List (List Symbol))
    (assigned : IsAssignment net checked.policy ends walks) (simple : HaveDifferentVertices checked.policy (network_symbols net) (statement_automata checked) ends walks)
    (leaders group_of : List ℕ) (grouped : AreGrouped checked.policy leaders group_of) (bare groups : List Group) (before : AreBareGroups net checked ends leaders bare)
    (are : AreGroups checked.policy (network_symbols net) (statement_automata checked) ends walks leaders groups) where
  -- a statement without ends is of best effort
  no-guarantee : (j : ℕ) → ends_for ends j ≡ None → ¬ IsGuaranteed checked.policy j
  no-guarantee j none h =
      let member = in_map (λ e. e.statement) ends j (in_from (map (λ e. e.statement) ends) j (all.all j h)) in
      let spot = in-at ends member.0 member.1 in
      none-some (sym none ∙ found-at j ends spot.0 member.0 (up net checked ends automata all) spot.1 (sym member.2))

  module _ (g j : ℕ) (at_g : slice_get leaders g ≡ Some j) (group : GroupBranches) (made : IsGroupFor net checked ends walks bare g j group) where
    -- the group, before and after walks are chosen
    old : (b : Group) × (slice_get bare g ≡ Some b) × IsGroupOf checked.policy (network_symbols net) (statement_automata checked) ends (bare_walks ends) j b
    old = zip-right _ leaders bare g j before at_g

    new : (c : Group) × (slice_get groups g ≡ Some c) × IsGroupOf checked.policy (network_symbols net) (statement_automata checked) ends walks j c
    new = zip-right _ leaders groups g j are at_g

    -- of best effort the two are one
    one-group : ¬ IsGuaranteed checked.policy j → slice_get bare g ≡ Some new.0
    one-group free =
        let b = old.2.best_effort free in
        let c = new.2.best_effort free in
        old.1 ∙ ap Some (same-group old.0 new.0 (old.2.automaton ∙ ap (automaton_of (network_symbols net)) (some-same (sym old.2.stands ∙ new.2.stands)) ∙ sym new.2.automaton) (b.0 ∙ sym c.0) (b.1 ∙ sym c.1))

    own-are : ends_for ends j ≡ None → AllZip (IsBranchFor net bare) (map (span_to g j) (all_hosts net)) made.own
    own-are none = subst (λ o. AllZip (IsBranchFor net bare) (spans_by (all_hosts net) g j o) made.own) none made.own_are

    -- guaranteed: the walk at the place
    module _ (k : ℕ) (is : IsWalkGroupAt net checked ends walks j k group) (p : IsPlaceFor ends j (Some k)) where
      for_j : is.pair.statement ≡ j
      for_j = subst (λ x. x.statement ≡ j) (some-same (sym p.1 ∙ is.pair_is)) (is-j j p.0 (find-in (λ x. x.statement == j) ends p.0 p.2).1)

      given : (new.0.written ≡ Some (written_walk_of new.0.automaton is.pair is.walk)) × (new.0.queue ≡ Some (suc k))
      given = new.2.guaranteed k is.pair is.walk is.pair_is for_j is.walk_is

      walk-is : IsWalk net is.pair.src is.pair.dst is.walk
      walk-is =
          let w = zip-right (λ e w. IsWalk net e.src e.dst w × IsOnPath checked.policy e.statement w) ends walks k is.pair assigned is.pair_is in
          subst (IsWalk net is.pair.src is.pair.dst) (some-same (sym w.1 ∙ is.walk_is)) w.2.0

      same-automaton : new.0.automaton ≡ automaton_of (network_symbols net) is.table
      same-automaton =
          let below = ((grouped.leaders_are j).0 (get-contains leaders g j at_g)).0 in
          new.2.automaton ∙ ap (automaton_of (network_symbols net)) (some-same (sym new.2.stands ∙ stands-at net checked ends automata all j is.table below is.table_is))

      different : HasDifferentVertices new.0.automaton is.pair is.walk
      different =
          subst (λ a. HasDifferentVertices a is.pair is.walk) (sym new.2.automaton)
          (simple k is.pair is.walk new.2.tables is.pair_is is.walk_is (subst (λ i. slice_get (statement_automata checked) i ≡ Some new.2.tables) (sym for_j) new.2.stands))

    group-branches : AreGroupBranches net groups g group
    group-branches = by made.place made.place_is made.is
      where
        by : (place : Option ℕ) → IsPlaceFor ends j place → IsGroupWith net checked ends walks j made.own place group → AreGroupBranches net groups g group
        by None none is =
            let c = new.2.best_effort (no-guarantee j none) in
            effort-branches net bare groups g new.0 (one-group (no-guarantee j none)) new.1 c.0 c.1 j made.own (own-are none) group is.0 is.1
        by (Some k) p is =
            walk-branches net groups g new.0 new.1 is.pair is.walk (given k is p).0 k (given k is p).1 (walk-is k is p) (different k is p) group
            (subst (λ a. IsWalkGroup a is.walk is.pair.dst (suc k) group) (sym (same-automaton k is p)) is.is)

    group-starts : (s d : ℕ) → IsHost net s → IsHost net d → s ≢ d → AllowsWalk net groups g s d → (us : List Vertex) × Follows net groups g d (start_in groups g s) us
    group-starts s d host dest differ allows = by made.place made.place_is made.is
      where
        by : (place : Option ℕ) → IsPlaceFor ends j place → IsGroupWith net checked ends walks j made.own place group → (us : List Vertex) × Follows net groups g d (start_in groups g s) us
        by None none is =
            let c = new.2.best_effort (no-guarantee j none) in
            effort-starts net bare groups g new.0 (one-group (no-guarantee j none)) new.1 c.0 c.1 j made.own (own-are none) s d host dest differ allows
        by (Some k) p is = walk-starts net groups g new.0 new.1 is.pair is.walk (given k is p).0 s d allows

  branches-are : (made : List GroupBranches) → AreGroupsFor net checked ends walks bare leaders made → AreBranches net groups made
  branches-are made h = record {
    size = h.size ∙ zip-long _ leaders groups are;
    each = λ g group e.
        let lt = get-below made g group e in
        let size = h.size in
        let j = below-get leaders g (omega (arith, lt, size)) in
        group-branches g j.0 j.1 group (h.each g j.0 group j.1 e);
    starts = λ g s d host dest differ allows. by g (slice_get groups g) refl s d host dest differ allows;
  }
    where
      by : (g : ℕ) (o : Option Group) → slice_get groups g ≡ o → (s d : ℕ) → IsHost net s → IsHost net d → s ≢ d → AllowsWalk net groups g s d → (us : List Vertex) × Follows net groups g d (start_in groups g s) us
      by g None e s d host dest differ allows = absurd (subst (λ o. AllowsWalkAt net o s d) e allows)
      by g (Some c) e s d host dest differ allows =
          let j = zip-left _ leaders groups g c are e in
          let lt = get-below leaders g j.0 j.1 in
          let size = h.size in
          let m = below-get made g (omega (arith, lt, size)) in
          group-starts g j.0 j.1 m.0 (h.each g j.0 m.0 j.1 m.1) s d host dest differ allows

  pub written : AreWrittenWalks net groups
  written = are-written net checked ends automata all walks assigned simple leaders group_of grouped groups are

  pub prepared : (tags : List ListedKey) → AreTags net bare (map key_of tags) → (made : List GroupBranches) → AreGroupsFor net checked ends walks bare leaders made → (owned : List OwnedCell) →
      map owned_of owned ≡ all_owned net (grouped_cells checked.policy group_of (pair_cells net checked.policy)) →
      IsPrepared net groups (grouped_cells checked.policy group_of (pair_cells net checked.policy)) tags made owned
  prepared tags t made h owned same = record {
    tags_ascend = t.ascend;
    tags_are = λ key.
        let both = same-tag net bare groups (alike-groups net checked ends automata all walks assigned leaders group_of grouped bare groups before are) key in
        (λ c. both.0 ((t.are key).0 c), λ x. (t.are key).1 (both.1 x));
    branches_are = branches-are made h;
    owned_are = same;
  }

  pub whole : (rules : List Rule) (processes : List Process) → AreTablesOf net groups (grouped_cells checked.policy group_of (pair_cells net checked.policy)) rules processes →
      AreTables net checked.policy (network_symbols net) (statement_automata checked) ends walks (pair_cells net checked.policy) rules processes
  whole rules processes t = record {
    leaders = leaders;
    group_of = group_of;
    grouped = grouped;
    groups = groups;
    groups_are = are;
    plan = t.plan;
    plan_is = t.plan_is;
    in_order = t.in_order;
    rules_are = t.rules_are;
    processes_are = t.processes_are;
  }
