-- The rules, `process` lines and queues of what is made name locations and functions of the network.
use Rattle.std.proofs.Common.{◌≡◌, ◌<◌, ◌==◌, ◌+◌, ℕ, zero, suc, nat_lt, inl, inr, Bool, true, false, cond, List, [], ◌∷◌, ◌++◌, length, map, filter, slice_get, Contains, Option, None, Some, refl, sym, subst, arith}
use Rattle.std.specs.Prelude.{MatchOption, ⊤, IsSome}
use Rattle.std.specs.Option.{option_map, option_to_list}
use Rattle.std.specs.List.{AllByRecursion, flat_map, range_with_len}
use Rattle.std.proofs.lemmas.Bool.{eqb-true}
use Rattle.merlin_model.specs.declared.config.Rule.{Rule}
use Rattle.merlin_model.specs.declared.config.Process.{Process}
use Rattle.merlin_model.specs.declared.config.Queue.{Queue}
use Rattle.merlin_model.specs.declared.network.FnDecl.{FnDecl}
use Rattle.merlin_model.specs.declared.network.Location.{Location}
use Rattle.merlin_model.specs.declared.network.LocationKind.{LocationKind}
use Rattle.merlin_model.specs.declared.network.DirectedLink.{DirectedLink}
use Rattle.merlin_model.specs.declared.policy.Ends.{Ends}
use Rattle.merlin_model.specs.declared.policy.Symbol.{Symbol}
use Rattle.merlin_model.specs.Networks.{Network, IsNetwork, IsHost, JoinsLocations, kind_of, address_at, places_of, directed_links}
use Rattle.merlin_model.specs.Words.{at, IsSymbol, functions_of, crossings}
use Rattle.merlin_model.specs.Policies.{Policy}
use Rattle.merlin_model.proofs.Members.{In, in_to, in_filter, all_in, all_both}
use Rattle.path_automaton.proofs.Building.{get-below}
use Rattle.product_graph.proofs.Lists.{all-map}
use Rattle.rules_model.specs.Products.{SymbolAutomaton, Vertex, loc_of, start_of, LeadsTo, LeadsToEnd, IsInTree, WrittenWalk, IsWrittenWalk, AreWrittenWalks, Group, IsFollowedBy, FollowsIn, FollowsAt}
use Rattle.rules_model.specs.Tables.{functions_here, TableRow, Plan, IsPlan, rules_of_row, rules_by_tag, cell_rule, last_rule, process_of, is_middlebox_kind, is_switch_kind, locations_of_kind, all_switches, rules_at, table_rules, table_processes}
use Rattle.configuration_model.specs.Queues.{queue_line, queues_on, reserved_queues}
use Rattle.policy_configuration.proofs.Few.{none-some}

-- Lists.

pub all-flat : {X A : Type 0} (P : A → Type 0) (f : X → List A) (xs : List X) → ((x : X) → In x xs → AllByRecursion P (f x)) → AllByRecursion P (flat_map f xs)
all-flat P f [] each = tt
all-flat P f (x ∷ xs) each = all_both P (f x) (flat_map f xs) (each x (inl refl)) (all-flat P f xs (λ y i. each y (inr i)))

pub all-mapped : {X A : Type 0} (P : A → Type 0) (f : X → A) (xs : List X) → ((x : X) → In x xs → P (f x)) → AllByRecursion P (map f xs)
all-mapped P f [] each = tt
all-mapped P f (x ∷ xs) each = (each x (inl refl), all-mapped P f xs (λ y i. each y (inr i)))

pub all-chosen : {X : Type 0} (P : X → Type 0) (b : Bool) (xs ys : List X) → AllByRecursion P xs → AllByRecursion P ys → AllByRecursion P (cond b xs ys)
all-chosen P true xs ys h g = h
all-chosen P false xs ys h g = g

range-from : (a n k : ℕ) → In k (range_with_len a n) → k < a + n
range-from a zero k i = absurd i
range-from a (suc n) k (inl e) = omega arith
range-from a (suc n) k (inr i) = let lt = range-from (a + 1) n k i in omega (arith, lt)

pub of-kind-below : (is_kind : Option LocationKind → Bool) (net : Network) (loc : ℕ) → In loc (locations_of_kind is_kind net) → loc < length net.locations
of-kind-below is_kind net loc i =
    let lt = range-from 0 (length net.locations) loc (in_filter (λ l. is_kind (kind_of net l)) (range_with_len 0 (length net.locations)) loc i).0 in
    omega (arith, lt)

pub known-below : (net : Network) (loc : ℕ) (kind : LocationKind) → kind_of net loc ≡ Some kind → loc < length net.locations
known-below net loc kind e = by (slice_get net.locations loc) refl e
  where
    by : (o : Option Location) → slice_get net.locations loc ≡ o → option_map (λ l. l.kind) o ≡ Some kind → loc < length net.locations
    by None at h = absurd (none-some h)
    by (Some l) at h = get-below net.locations loc l at

-- Rules.

module _ (net : Network) (plan : Plan) where
  abbrev IsAt : ℕ → Rule → Type 0
  IsAt loc r = r.loc ≡ loc

  row-at : (loc : ℕ) (row : TableRow) → loc_of row.vertex ≡ loc → (tag : Option ℕ) → AllByRecursion (IsAt loc) (rules_by_tag row tag)
  row-at loc row here None = (here, tt)
  row-at loc row here (Some n) = (here, (here, tt))

  rules-at : (loc : ℕ) → AllByRecursion (IsAt loc) (rules_at net plan loc)
  rules-at loc =
      all_both (IsAt loc) (flat_map rules_of_row (filter (λ row. loc_of row.vertex == loc) plan.rows)) (map cell_rule (filter (λ e. e.pair.link.to == loc) plan.entries) ++ last_rule loc ∷ [])
      (all-flat (IsAt loc) rules_of_row (filter (λ row. loc_of row.vertex == loc) plan.rows) (λ row i. row-at loc row (eqb-true (loc_of row.vertex) loc (in_filter (λ row. loc_of row.vertex == loc) plan.rows row i).1) row.hop.tag))
      (all_both (IsAt loc) (map cell_rule (filter (λ e. e.pair.link.to == loc) plan.entries)) (last_rule loc ∷ [])
      (all-mapped (IsAt loc) cell_rule (filter (λ e. e.pair.link.to == loc) plan.entries) (λ e i. eqb-true e.pair.link.to loc (in_filter (λ e. e.pair.link.to == loc) plan.entries e i).1))
      (refl, tt))

  pub rules-stand : AllByRecursion (λ r. r.loc < length net.locations) (table_rules net plan)
  rules-stand = all-flat (λ r. r.loc < length net.locations) (rules_at net plan) (all_switches net) (λ loc i.
      all-map (IsAt loc) (λ r. r.loc < length net.locations) (λ r here. subst (λ k. k < length net.locations) (sym here) (of-kind-below is_switch_kind net loc i)) (rules_at net plan loc) (rules-at loc))

-- The functions of vertices.

module _ (net : Network) where
  abbrev IsDeclared : ℕ → Type 0
  IsDeclared f = f < length net.functions

  abbrev IsKnown : Vertex → Type 0
  IsKnown v = IsSymbol net v.symbol

  declared : (f : ℕ) (loc : ℕ) → MatchOption (places_of net f) ⊥ (λ places. Contains places loc) → IsDeclared f
  declared f loc h = by (slice_get net.functions f) refl h
    where
      by : (o : Option FnDecl) → slice_get net.functions f ≡ o → MatchOption (option_map (λ g. g.places) o) ⊥ (λ places. Contains places loc) → IsDeclared f
      by None is h = absurd h
      by (Some g) is h = get-below net.functions f g is

  symbol-declared : (x : Symbol) → IsSymbol net x → AllByRecursion IsDeclared (functions_of x)
  symbol-declared x h = by (kind_of net x.loc) h x.fun refl
    where
      by : (k : Option LocationKind) → MatchOption k ⊥ (λ _. MatchOption x.fun ⊤ (λ f. MatchOption (places_of net f) ⊥ (λ places. Contains places x.loc))) → (o : Option ℕ) → x.fun ≡ o → AllByRecursion IsDeclared (option_to_list x.fun)
      by None h o is = absurd h
      by (Some k) h None is = subst (λ o. AllByRecursion IsDeclared (option_to_list o)) (sym is) tt
      by (Some k) h (Some f) is =
          subst (λ o. AllByRecursion IsDeclared (option_to_list o)) (sym is)
          (declared f x.loc (subst (λ o. MatchOption o ⊤ (λ f. MatchOption (places_of net f) ⊥ (λ places. Contains places x.loc))) is h), tt)

  here-declared : (loc : ℕ) (us : List Vertex) → AllByRecursion IsKnown us → AllByRecursion IsDeclared (functions_here loc us)
  here-declared loc [] h = tt
  here-declared loc (u ∷ us) h =
      all-chosen IsDeclared (loc_of u == loc) (functions_of u.symbol ++ functions_here loc us) []
      (all_both IsDeclared (functions_of u.symbol) (functions_here loc us) (symbol-declared u.symbol h.0) (here-declared loc us h.1)) tt

  -- What follows in a product is known.

  start-known : (a : SymbolAutomaton) (s : ℕ) → IsHost net s → IsKnown (start_of a s)
  start-known a s host = by (kind_of net s) host
    where
      by : (k : Option LocationKind) → IsSome (address_at k) → MatchOption k ⊥ (λ _. ⊤)
      by None h = let no : ⊥ = cc in absurd no
      by (Some k) h = tt

  led-known : (a : SymbolAutomaton) (v u : Vertex) (path : List Vertex) → IsKnown v → LeadsTo net a v path u → IsKnown u
  led-known a v u [] h same = subst IsKnown same h
  led-known a v u (x ∷ path) h way = led-known a x u path way.0.symbol way.1

  tree-known : (a : SymbolAutomaton) (d : ℕ) (v : Vertex) (us : List Vertex) → IsInTree net a d v us → AllByRecursion IsKnown us
  tree-known a d v [] h = tt
  tree-known a d v (u ∷ us) h = (h.0.edge.symbol, tree-known a d u us h.1)

  way-known : (a : SymbolAutomaton) (d : ℕ) (v : Vertex) (us : List Vertex) → LeadsToEnd net a d v us → AllByRecursion IsKnown us
  way-known a d v [] h = tt
  way-known a d v (u ∷ us) h = (h.0.symbol, way-known a d u us h.1)

  after-known : (xs : List Vertex) (v : Vertex) (us : List Vertex) → AllByRecursion IsKnown xs → IsFollowedBy xs v us → AllByRecursion IsKnown (v ∷ us)
  after-known [] v us h f = absurd f
  after-known (x ∷ xs) v us h (inl f) = (subst IsKnown (sym f.0) h.0, subst (AllByRecursion IsKnown) (sym f.1) h.1)
  after-known (x ∷ xs) v us h (inr f) = after-known xs v us h.1 f

  follows-known : (a : SymbolAutomaton) (o : Option WrittenWalk) → ((w : WrittenWalk) → o ≡ Some w → IsWrittenWalk net a w) → (d : ℕ) (v : Vertex) (us : List Vertex) → FollowsIn net a o d v us → AllByRecursion IsKnown (v ∷ us)
  follows-known a None ok d v us h = (led-known a (start_of a h.source) v h.path (start-known a h.source h.host) h.reached, tree-known a d v us h.tree)
  follows-known a (Some w) ok d v us h =
      let is = ok w refl in
      after-known (start_of a w.source ∷ w.after) v us (start-known a w.source is.source, way-known a w.dest (start_of a w.source) w.after is.way) h.1

  at-known : (o : Option Group) → ((g : Group) (w : WrittenWalk) → o ≡ Some g → g.written ≡ Some w → IsWrittenWalk net g.automaton w) → (d : ℕ) (v : Vertex) (us : List Vertex) → FollowsAt net o d v us → AllByRecursion IsKnown (v ∷ us)
  at-known None ok d v us h = absurd h
  at-known (Some g) ok d v us h = follows-known g.automaton g.written (λ w e. ok g w refl e) d v us h

  module _ (groups : List Group) (plan : Plan) (is : IsPlan net groups plan) (written : AreWrittenWalks net groups) where
    row-declared : (row : TableRow) → In row plan.rows → AllByRecursion IsDeclared row.hop.functions
    row-declared row i =
        let r = is.rows_are row (in_to plan.rows row i) in
        let known = at-known (slice_get groups row.group) (λ g w. written row.group g w) row.dest row.vertex r.after r.followed in
        subst (AllByRecursion IsDeclared) (sym r.hop.functions)
        (all_both IsDeclared (functions_of row.vertex.symbol) (functions_here (loc_of row.vertex) r.after) (symbol-declared row.vertex.symbol known.0) (here-declared (loc_of row.vertex) r.after known.1))

    abbrev is_boxed : TableRow → Bool
    is_boxed row = is_middlebox_kind (kind_of net (loc_of row.vertex))

    row-stands : (row : TableRow) → is_boxed row ≡ true → loc_of row.vertex < length net.locations
    row-stands row e = by (kind_of net (loc_of row.vertex)) refl e
      where
        by : (k : Option LocationKind) → kind_of net (loc_of row.vertex) ≡ k → is_middlebox_kind k ≡ true → loc_of row.vertex < length net.locations
        by None at h = let no : ⊥ = cc in absurd no
        by (Some k) at h = known-below net (loc_of row.vertex) k at

    pub processes-stand : AllByRecursion (λ p. p.loc < length net.locations) (table_processes net plan)
    processes-stand = all-mapped (λ (p : Process). p.loc < length net.locations) process_of (filter is_boxed plan.rows) (λ row i. row-stands row (in_filter is_boxed plan.rows row i).1)

    pub processes-run : AllByRecursion (λ p. AllByRecursion IsDeclared p.functions) (table_processes net plan)
    processes-run = all-mapped (λ (p : Process). AllByRecursion IsDeclared p.functions) process_of (filter is_boxed plan.rows) (λ row i. row-declared row (in_filter is_boxed plan.rows row i).0)

-- Queues.

module _ (net : Network) (policy : Policy) where
  abbrev QueuesAt : ℕ → Queue → Type 0
  QueuesAt loc q = q.loc ≡ loc

  line-at : (link : DirectedLink) (n : ℕ) (e : Ends) (w : List Symbol) → AllByRecursion (QueuesAt link.from) (queue_line policy link n e w)
  line-at link n e w = all-chosen (QueuesAt link.from) (nat_lt 0 (crossings w link.from link.to)) _ [] (refl, tt) tt

  queues-at : (link : DirectedLink) (n : ℕ) (ends : List Ends) (walks : List (List Symbol)) → AllByRecursion (QueuesAt link.from) (queues_on policy link n ends walks)
  queues-at link n [] walks = tt
  queues-at link n (e ∷ ends) [] = tt
  queues-at link n (e ∷ ends) (w ∷ walks) = all_both (QueuesAt link.from) (queue_line policy link n e w) (queues_on policy link (suc n) ends walks) (line-at link n e w) (queues-at link (suc n) ends walks)

  pub queues-stand : IsNetwork net → (ends : List Ends) (walks : List (List Symbol)) → AllByRecursion (λ q. q.loc < length net.locations) (reserved_queues net policy ends walks)
  queues-stand is ends walks = all-flat (λ (q : Queue). q.loc < length net.locations) (λ link. queues_on policy link 1 ends walks) (directed_links net) (λ link i.
      all-map (QueuesAt link.from) (λ q. q.loc < length net.locations)
      (λ q here. subst (λ k. k < length net.locations) (sym here) (all_in (JoinsLocations net) (directed_links net) link is.ends i).0) (queues_on policy link 1 ends walks) (queues-at link 1 ends walks))
