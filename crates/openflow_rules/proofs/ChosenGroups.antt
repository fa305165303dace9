-- The groups of a plan once walks are chosen. They have the products that they had before.
use Rattle.std.proofs.Common.{◌≡◌, ◌≤◌, ◌<◌, ◌+◌, ◌==◌, ◌↔◌, inl, inr, ℕ, zero, suc, false, cond, List, [], ◌∷◌, length, map, slice_get, Contains, Option, None, Some, refl, sym, ◌∙◌, ap, subst, arith}
use Rattle.std.specs.Prelude.{option_map, option_to_list, unwrap_or}
use Rattle.std.specs.Option.{option_map_or}
use Rattle.std.specs.List.{AllByRecursion, AllZip, position_from}
use Rattle.merlin_model.specs.declared.policy.Ends.{Ends}
use Rattle.merlin_model.specs.declared.policy.Path.{Path}
use Rattle.merlin_model.specs.declared.policy.Symbol.{Symbol}
use Rattle.merlin_model.specs.Networks.{Network, Pairwise}
use Rattle.merlin_model.specs.Words.{at, IsWalk}
use Rattle.merlin_model.specs.Policies.{Statement, paths_of, IsOnPath}
use Rattle.merlin_model.specs.Rates.{IsGuaranteed, greatest_of, min_shares}
use Rattle.merlin_model.specs.Assignments.{AreTheEnds, AreAllEnds, IsAssignment}
use Rattle.merlin_model.proofs.Members.{In, in_from, in_to, in_map, all_in}
use Rattle.merlin_model.proofs.Ascending.{increasing-pairwise}
use Rattle.path_automaton.proofs.Building.{get-map}
use Rattle.topology.specs.Symbols.{network_symbols}
use Rattle.rules_model.specs.Products.{SymbolAutomaton, RecognisesPath, Vertex, WrittenWalk, IsWrittenWalk, IsOnWayBetween, Group, AreWrittenWalks, IsVertexIn, IsVertexAt}
use Rattle.rules_model.specs.Tables.{TagKey, IsTagKey}
use Rattle.product_graph.specs.Products.{automaton_of}
use Rattle.product_graph.proofs.Lists.{some-same, none-some, all-contained, get-below, get-contains, get-more, map-length}
use Rattle.product_graph.proofs.Ordered.{ordered}
use Rattle.policy_check.specs.Checked.{CheckedPolicy, HasAutomata, automaton_of_statement}
use Rattle.configuration_model.specs.Groups.{Leads, AreGrouped, HasDifferentVertices, HaveDifferentVertices, IsGroupOf, AreGroups, written_walk_of}
use Rattle.configuration_model.proofs.Lists.{in-at, zip-right, zip-left}
use Rattle.configuration_model.proofs.Numbered.{takes}
use Rattle.configuration_model.proofs.Walked.{written-ok}
use Rattle.openflow_rules.specs.Planning.{statement_automata, bare_walks}
use Rattle.openflow_rules.specs.PlanParts.{AreBareGroups}
use Rattle.openflow_rules.proofs.PlannedGroups.{no_table, is_for, for-it, not-for, position-at, position-none, zip-map, table-of, up, no-ends, stands-at}

-- the walk that is written for a statement
abbrev pub chosen_in : SymbolAutomaton → ℕ → List Ends → List (List Symbol) → Option WrittenWalk
chosen_in a j [] walks = None
chosen_in a j (e ∷ ends) [] = None
chosen_in a j (e ∷ ends) (w ∷ walks) = cond (e.statement == j) (Some (written_walk_of a e w)) (chosen_in a j ends walks)

chosen-at : (a : SymbolAutomaton) (j : ℕ) (ends : List Ends) (walks : List (List Symbol)) (k : ℕ) (e : Ends) (w : List Symbol) → Pairwise (λ x y. x.statement < y.statement) ends → slice_get ends k ≡ Some e → e.statement ≡ j →
    slice_get walks k ≡ Some w → chosen_in a j ends walks ≡ Some (written_walk_of a e w)
chosen-at a j [] walks k e w rise at_k is walk = absurd (none-some at_k)
chosen-at a j (x ∷ ends) [] k e w rise at_k is walk = absurd (none-some walk)
chosen-at a j (x ∷ ends) (y ∷ walks) zero e w rise at_k is walk =
    ap (λ b. cond b (Some (written_walk_of a x y)) (chosen_in a j ends walks)) (for-it j x (ap (λ z. z.statement) (some-same at_k) ∙ is))
    ∙ ap (λ z. Some (written_walk_of a z y)) (some-same at_k) ∙ ap (λ z. Some (written_walk_of a e z)) (some-same walk)
chosen-at a j (x ∷ ends) (y ∷ walks) (suc k) e w rise at_k is walk =
    ap (λ b. cond b (Some (written_walk_of a x y)) (chosen_in a j ends walks)) (not-for j e x is (all_in (λ b. x.statement < b.statement) ends e rise.0 (in_from ends e (get-contains ends k e at_k))))
    ∙ chosen-at a j ends walks k e w rise.1 at_k is walk

chosen-none : (a : SymbolAutomaton) (j : ℕ) (ends : List Ends) (walks : List (List Symbol)) → AllByRecursion (λ e. is_for j e ≡ false) ends → chosen_in a j ends walks ≡ None
chosen-none a j [] walks h = refl
chosen-none a j (x ∷ ends) [] h = refl
chosen-none a j (x ∷ ends) (y ∷ walks) h = ap (λ b. cond b (Some (written_walk_of a x y)) (chosen_in a j ends walks)) h.0 ∙ chosen-none a j ends walks h.1

-- Groups that differ in their walks alone.

abbrev pub HaveSameEnds : Option WrittenWalk → Option WrittenWalk → Type 0
HaveSameEnds None None = Unit {0}
HaveSameEnds None (Some x) = ⊥
HaveSameEnds (Some w) None = ⊥
HaveSameEnds (Some w) (Some x) = (w.source ≡ x.source) × (w.dest ≡ x.dest)

pub record AreAlike (b c : Group) : Type 0 where
  pub automaton : b.automaton ≡ c.automaton
  pub ends : HaveSameEnds b.written c.written

abbrev pub AreAlikeAt : Option Group → Option Group → Type 0
AreAlikeAt None None = Unit {0}
AreAlikeAt None (Some c) = ⊥
AreAlikeAt (Some b) None = ⊥
AreAlikeAt (Some b) (Some c) = AreAlike b c

flipped : (b c : Group) → AreAlike b c → AreAlike c b
flipped b c h = record { automaton = sym h.automaton; ends = by b.written c.written h.ends }
  where
    by : (w x : Option WrittenWalk) → HaveSameEnds w x → HaveSameEnds x w
    by None None e = tt
    by None (Some x) e = absurd e
    by (Some w) None e = absurd e
    by (Some w) (Some x) e = (sym e.0, sym e.1)

flipped-at : (o p : Option Group) → AreAlikeAt o p → AreAlikeAt p o
flipped-at None None h = tt
flipped-at None (Some c) h = absurd h
flipped-at (Some b) None h = absurd h
flipped-at (Some b) (Some c) h = flipped b c h

module _ (net : Network) where
  same-vertex : (b c : Group) → AreAlike b c → (d : ℕ) (v : Vertex) → IsVertexIn net b.automaton b.written d v → IsVertexIn net c.automaton c.written d v
  same-vertex b c alike d v h = by b.written c.written alike.ends (subst (λ a. IsVertexIn net a b.written d v) alike.automaton h)
    where
      by : (w x : Option WrittenWalk) → HaveSameEnds w x → IsVertexIn net c.automaton w d v → IsVertexIn net c.automaton x d v
      by None None e i = i
      by None (Some x) e i = absurd e
      by (Some w) None e i = absurd e
      by (Some w) (Some x) e i = (i.0 ∙ e.1, subst (λ s. IsOnWayBetween net c.automaton s d v) e.0 i.1)

  same-vertex-at : (o p : Option Group) → AreAlikeAt o p → (d : ℕ) (v : Vertex) → IsVertexAt net o d v → IsVertexAt net p d v
  same-vertex-at None None h d v i = i
  same-vertex-at None (Some c) h d v i = absurd h
  same-vertex-at (Some b) None h d v i = absurd h
  same-vertex-at (Some b) (Some c) h d v i = same-vertex b c h d v i

  module _ (bare groups : List Group) (alike : (g : ℕ) → AreAlikeAt (slice_get bare g) (slice_get groups g)) where
    pub same-tag : (key : TagKey) → IsTagKey net bare key ↔ IsTagKey net groups key
    same-tag key = (
      λ t. record { dest = t.dest; vertex = t.vertex; stands = same-vertex-at (slice_get bare key.group) (slice_get groups key.group) (alike key.group) t.dest t.vertex t.stands; outside = t.outside; is = t.is },
      λ t. record {
        dest = t.dest;
        vertex = t.vertex;
        stands = same-vertex-at (slice_get groups key.group) (slice_get bare key.group) (flipped-at (slice_get bare key.group) (slice_get groups key.group) (alike key.group)) t.dest t.vertex t.stands;
        outside = t.outside;
        is = t.is;
      },
    )

-- lists of groups for the same leaders
alike-lists : (R S : ℕ → Group → Type 0) (leaders : List ℕ) (bare groups : List Group) → ((j : ℕ) → In j leaders → (b c : Group) → R j b → S j c → AreAlike b c) → AllZip R leaders bare → AllZip S leaders groups →
    (g : ℕ) → AreAlikeAt (slice_get bare g) (slice_get groups g)
alike-lists R S [] [] [] same h i g = tt
alike-lists R S [] [] (c ∷ groups) same h i g = absurd i
alike-lists R S [] (b ∷ bare) groups same h i g = absurd h
alike-lists R S (j ∷ leaders) [] groups same h i g = absurd h
alike-lists R S (j ∷ leaders) (b ∷ bare) [] same h i g = absurd i
alike-lists R S (j ∷ leaders) (b ∷ bare) (c ∷ groups) same h i zero = same j (inl refl) b c h.0 i.0
alike-lists R S (j ∷ leaders) (b ∷ bare) (c ∷ groups) same h i (suc g) = alike-lists R S leaders bare groups (λ k m. same k (inr m)) h.1 i.1 g

-- Different numbers between two others are no more than there are.
few-between : (xs : List ℕ) (a n : ℕ) → a ≤ n → AllByRecursion (λ x. a ≤ x) xs → AllByRecursion (λ x. x < n) xs → Pairwise (λ x y. x < y) xs → a + length xs ≤ n
few-between [] a n le above below rise = omega (arith, le)
few-between (x ∷ xs) a n le above below rise =
    let lt = below.0 in
    let ge = above.0 in
    let rest = few-between xs (x + 1) n (omega (arith, lt)) (each xs rise.0) below.1 rise.1 in
    omega (arith, ge, rest)
  where
    each : (ys : List ℕ) → AllByRecursion (λ y. x < y) ys → AllByRecursion (λ y. x + 1 ≤ y) ys
    each [] h = tt
    each (y ∷ ys) h = let lt = h.0 in (omega (arith, lt), each ys h.1)

module _ (net : Network) (checked : CheckedPolicy) (ends : List Ends) (automata : HasAutomata (network_symbols net) checked) (all : AreAllEnds net checked.policy ends) where
  -- the ends are no more than the statements
  pub ends-few : length ends ≤ length (paths_of checked.policy)
  ends-few =
      let n = length (paths_of checked.policy) in
      let few = few-between (map (λ e. e.statement) ends) 0 n (omega arith) (above (map (λ e. e.statement) ends)) (below ends all.each) (increasing-pairwise (map (λ e. e.statement) ends) all.ascending) in
      let long = map-length (λ (e : Ends). e.statement) ends in
      omega (arith, few, long)
    where
      above : (xs : List ℕ) → AllByRecursion (λ x. 0 ≤ x) xs
      above [] = tt
      above (x ∷ xs) = (omega arith, above xs)

      within : (i : ℕ) → IsGuaranteed checked.policy i → i < length (paths_of checked.policy)
      within i h = by (slice_get checked.policy.statements i) refl h
        where
          by : (o : Option Statement) → slice_get checked.policy.statements i ≡ o → 0 < option_map_or (λ s. greatest_of (min_shares s.id checked.policy.terms)) o 0 → i < length (paths_of checked.policy)
          by None e h = absurd (omega (arith, h))
          by (Some s) e h = get-below (paths_of checked.policy) i s.path (get-more (map (λ s. s.path) checked.policy.statements) (option_to_list checked.policy.default_path) i s.path (get-map (λ s. s.path) checked.policy.statements i s e))

      below : (es : List Ends) → AllByRecursion (AreTheEnds net checked.policy) es → AllByRecursion (λ x. x < length (paths_of checked.policy)) (map (λ e. e.statement) es)
      below [] h = tt
      below (e ∷ es) h = (within e.statement h.0.guaranteed, below es h.1)

  module _ (walks : List (List Symbol)) where
    abbrev automaton_for : ℕ → SymbolAutomaton
    automaton_for j = automaton_of (network_symbols net) (unwrap_or (automaton_of_statement checked j) no_table)

    -- the group that a statement stands for
    abbrev pub walked : ℕ → Group
    walked j = record { automaton = automaton_for j; written = chosen_in (automaton_for j) j ends walks; queue = option_map suc (position_from (λ e. e.statement == j) 0 ends) }

    abbrev pub IsOf : ℕ → Group → Type 0
    IsOf j g = IsGroupOf checked.policy (network_symbols net) (statement_automata checked) ends walks j g

    walked-of : (j : ℕ) → j < length (paths_of checked.policy) → IsOf j (walked j)
    walked-of j lt =
        let t = table-of net checked ends automata all j lt in
        record {
          tables = t.table;
          stands = stands-at net checked ends automata all j t.table lt t.is;
          automaton = ap (λ o. automaton_of (network_symbols net) (unwrap_or o no_table)) t.is;
          best_effort = λ free. (
            chosen-none (automaton_for j) j ends walks (no-ends net checked ends automata all j free),
            ap (option_map suc) (position-none j 0 ends (no-ends net checked ends automata all j free)),
          );
          guaranteed = λ k e w at_k is walk. (
            chosen-at (automaton_for j) j ends walks k e w (up net checked ends automata all) at_k is walk,
            ap (option_map suc) (position-at j 0 ends k e (up net checked ends automata all) at_k is ∙ ap Some (let s : 0 + k ≡ k = omega arith in s)),
          );
        }

    -- there are such groups
    pub are-walked : (leaders : List ℕ) → ((j : ℕ) → Contains leaders j → j < length (paths_of checked.policy)) →
        AreGroups checked.policy (network_symbols net) (statement_automata checked) ends walks leaders (map walked leaders)
    are-walked leaders within = zip-map _ walked leaders (all-contained _ leaders (λ j c. walked-of j (within j c)))

    module _ (assigned : IsAssignment net checked.policy ends walks) where
      -- the group that stands for a statement takes the statement's path
      own-path : (j : ℕ) (g : Group) (path : Path) → IsOf j g → slice_get (paths_of checked.policy) j ≡ Some path → RecognisesPath net g.automaton path
      own-path j g path is has =
          let t = automata j path has in
          let same : is.tables ≡ t.0 = some-same (sym is.stands ∙ stands-at net checked ends automata all j t.0 (get-below (paths_of checked.policy) j path has) t.1) in
          subst (λ a. RecognisesPath net a path) (sym (is.automaton ∙ ap (automaton_of (network_symbols net)) same)) (takes net (network_symbols net) (ordered net).each t.0 path t.2.words)

      -- the walk of a guaranteed statement
      pub record HasWalk (j : ℕ) (g : Group) : Type 0 where
        pub place : ℕ
        pub pair : Ends
        pub pair_is : slice_get ends place ≡ Some pair
        pub statement : pair.statement ≡ j
        pub word : List Symbol
        pub word_is : slice_get walks place ≡ Some word
        pub walk : IsWalk net pair.src pair.dst word
        pub on : IsOnPath checked.policy pair.statement word
        pub written : g.written ≡ Some (written_walk_of g.automaton pair word)
        pub queue : g.queue ≡ Some (suc place)

      -- the walk at the place of the ends
      pub walk-at : (j : ℕ) (g : Group) (k : ℕ) (e : Ends) → IsOf j g → slice_get ends k ≡ Some e → e.statement ≡ j → HasWalk j g
      walk-at j g k e is at_k for_j =
          let w = zip-right (λ e w. IsWalk net e.src e.dst w × IsOnPath checked.policy e.statement w) ends walks k e assigned at_k in
          let given = is.guaranteed k e w.0 at_k for_j w.1 in
          record { place = k; pair = e; pair_is = at_k; statement = for_j; word = w.0; word_is = w.1; walk = w.2.0; on = w.2.1; written = given.0; queue = given.1 }

      pub has-walk : (j : ℕ) (g : Group) → IsGuaranteed checked.policy j → IsOf j g → HasWalk j g
      has-walk j g guaranteed is =
          let member = in_map (λ e. e.statement) ends j (in_from (map (λ e. e.statement) ends) j (all.all j guaranteed)) in
          let spot = in-at ends member.0 member.1 in
          walk-at j g spot.0 member.0 is spot.1 (sym member.2)

      module _ (simple : HaveDifferentVertices checked.policy (network_symbols net) (statement_automata checked) ends walks) where
        pub walk-simple : (j : ℕ) (g : Group) → IsOf j g → (h : HasWalk j g) → HasDifferentVertices g.automaton h.pair h.word
        walk-simple j g is h =
            subst (λ a. HasDifferentVertices a h.pair h.word) (sym is.automaton)
            (simple h.place h.pair h.word is.tables h.pair_is h.word_is (subst (λ i. slice_get (statement_automata checked) i ≡ Some is.tables) (sym h.statement) is.stands))

        walk-written : (j : ℕ) (g : Group) → IsOf j g → (h : HasWalk j g) → IsWrittenWalk net g.automaton (written_walk_of g.automaton h.pair h.word)
        walk-written j g is h =
            (written-ok net g.automaton h.pair h.word h.walk
            ((own-path j g h.on.path is (subst (λ i. slice_get (paths_of checked.policy) i ≡ Some h.on.path) h.statement h.on.has) h.word h.walk.symbols).1 h.on.described) (walk-simple j g is h)).0

        -- each written walk is one without a repeated vertex
        pub are-written : (leaders group_of : List ℕ) → AreGrouped checked.policy leaders group_of → (groups : List Group) → AllZip IsOf leaders groups → AreWrittenWalks net groups
        are-written leaders group_of grouped groups are g group w stands written = by ((grouped.leaders_are from.0).0 (get-contains leaders g from.0 from.1)).1
          where
            from : (j : ℕ) × (slice_get leaders g ≡ Some j) × IsOf j group
            from = zip-left IsOf leaders groups g group are stands

            by : Leads checked.policy from.0 from.0 → IsWrittenWalk net group.automaton w
            by (inl h) = let c = has-walk from.0 group h.0 from.2 in subst (IsWrittenWalk net group.automaton) (some-same (sym c.written ∙ written)) (walk-written from.0 group from.2 c)
            by (inr h) = absurd (none-some (sym (from.2.best_effort h.0).0 ∙ written))

      -- the groups have the products that they had before
      alike-of : (j : ℕ) (b c : Group) → IsGroupOf checked.policy (network_symbols net) (statement_automata checked) ends (bare_walks ends) j b → IsOf j c → Leads checked.policy j j → AreAlike b c
      alike-of j b c bare is leads = record { automaton = bare.automaton ∙ ap (automaton_of (network_symbols net)) (some-same (sym bare.stands ∙ is.stands)) ∙ sym is.automaton; ends = by leads }
        where
          by : Leads checked.policy j j → HaveSameEnds b.written c.written
          by (inl h) =
              let w = has-walk j c h.0 is in
              let given = bare.guaranteed w.place w.pair _ w.pair_is w.statement (get-map (λ x. at x.src ∷ at x.dst ∷ []) ends w.place w.pair w.pair_is) in
              same (sym given.0) (sym w.written) (refl, refl)
            where
              same : {x y : WrittenWalk} → Some x ≡ b.written → Some y ≡ c.written → (x.source ≡ y.source) × (x.dest ≡ y.dest) → HaveSameEnds b.written c.written
              same {x} {y} p q e = subst (λ o. HaveSameEnds o c.written) p (subst (HaveSameEnds (Some x)) q e)
          by (inr h) = subst (λ o. HaveSameEnds o c.written) (sym (bare.best_effort h.0).0) (subst (HaveSameEnds None) (sym (is.best_effort h.0).0) tt)

      pub alike-groups : (leaders group_of : List ℕ) → AreGrouped checked.policy leaders group_of → (bare groups : List Group) → AreBareGroups net checked ends leaders bare → AllZip IsOf leaders groups → (g : ℕ) → AreAlikeAt (slice_get bare g) (slice_get groups g)
      alike-groups leaders group_of grouped bare groups before are =
          alike-lists _ IsOf leaders bare groups (λ j i b c r s. alike-of j b c r s ((grouped.leaders_are j).0 (in_to leaders j i)).1) before are
