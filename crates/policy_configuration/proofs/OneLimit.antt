-- Which limits a policy passes does not depend on the tables of its automata: in the states that are reached they do the same.
use Rattle.std.proofs.Common.{◌≡◌, ◌<◌, ◌+◌, ◌↔◌, inl, inr, ℕ, zero, suc, List, [], ◌∷◌, ◌++◌, length, map, slice_get, Contains, Option, None, Some, IsSome, Ok, refl, sym, ◌∙◌, ap, ap₂, subst, arith}
use Rattle.std.specs.List.{AllByRecursion, AllZip, enumerate_from, flat_map}
use Rattle.merlin_model.specs.declared.policy.Path.{Path}
use Rattle.merlin_model.specs.declared.policy.Symbol.{Symbol}
use Rattle.merlin_model.specs.declared.policy.Ends.{Ends}
use Rattle.merlin_model.specs.declared.network.HostAddress.{HostAddress}
use Rattle.merlin_model.specs.Networks.{Network, IsHost, address_of}
use Rattle.merlin_model.specs.Words.{at, IsSymbol}
use Rattle.merlin_model.specs.Policies.{Policy, paths_of}
use Rattle.merlin_model.specs.Rates.{IsGuaranteed, min_of}
use Rattle.merlin_model.specs.Assignments.{AreTheEnds, AreAllEnds}
use Rattle.merlin_model.proofs.Members.{In, in_from, in_to}
use Rattle.merlin_model.proofs.Ascending.{ascending-same}
use Rattle.topology.specs.Symbols.{network_symbols}
use Rattle.path_regex.specs.Normal.{normal_of}
use Rattle.path_automaton.specs.States.{AreStates, followers}
use Rattle.path_automaton.specs.Automata.{AutomatonTables, AreTablesOfPath, step, number_in}
use Rattle.path_automaton.specs.Built.{IsBuilt}
use Rattle.path_automaton.proofs.Noting.{with_all_new-keeps}
use Rattle.path_automaton.proofs.Building.{get-below, below-get, one-place}
use Rattle.path_automaton.proofs.Numbering.{states-differ}
use Rattle.path_automaton.proofs.Listed.{number-at}
use Rattle.rules_model.specs.Products.{SymbolAutomaton, Vertex, start_of, IsEdge, IsLast, LeadsToEnd, LeadsTo, IsOnWayBetween, IsVertexIn, IsVertex, WrittenWalk, Group}
use Rattle.rules_model.specs.Tables.{TagKey, IsTagKey}
use Rattle.rules_model.proofs.Trees.{host_symbol}
use Rattle.product_graph.specs.Products.{automaton_of}
use Rattle.product_graph.proofs.Lists.{some-same, all-map, all-get}
use Rattle.path_automaton.proofs.Classing.{get-map}
use Rattle.predicate_split.specs.declared.fault.TheConstants.{MAX_CELLS}
use Rattle.policy_expansion.specs.declared.policy.Policy.{Policy as NamedPolicy}
use Rattle.policy_check.specs.Numbered.{numbered_policy}
use Rattle.policy_check.specs.Checked.{CheckedPolicy, IsCheckOf}
use Rattle.configuration_model.specs.Groups.{AreGrouped, IsGroupOf}
use Rattle.configuration_model.specs.Pairs.{count_of_cells}
use Rattle.openflow_rules.specs.declared.fault.RuleFault.{RuleFault}
use Rattle.openflow_rules.specs.declared.fault.RuleFault.TheVariants.{TooManyTags, TooManyCells, TooManyEntries, OutOfMemory}
use Rattle.openflow_rules.specs.Planning.{statement_automata, bare_walks, AreInnerVertices, destinations_of, products_of, HaveEntries, ArePlanned, IsWithinLimits, PassesLimit}
use Rattle.policy_configuration.proofs.Sound.{stands}

-- Two automata that do the same over the symbols of a network, in the states below a bound, which they do not leave.
pub record DoAlike (net : Network) (a b : SymbolAutomaton) (n : ℕ) : Type 0 where
  pub first : 0 < n
  pub step : (q : ℕ) (x : Symbol) → q < n → IsSymbol net x → (a.step q x ≡ b.step q x) × (a.step q x < n)
  pub accepts : (q : ℕ) → q < n → a.accepts q ≡ b.accepts q

-- a written walk is between two hosts
abbrev IsBetweenHosts : Network → Option WrittenWalk → Type 0
IsBetweenHosts net None = Unit {0}
IsBetweenHosts net (Some w) = IsHost net w.source × IsHost net w.dest

pub alike-back : (net : Network) (a b : SymbolAutomaton) (n : ℕ) → DoAlike net a b n → DoAlike net b a n
alike-back net a b n h = record {
  first = h.first;
  step = λ q x lt is. let s = h.step q x lt is in (sym s.0, subst (λ k. k < n) s.0 s.1);
  accepts = λ q lt. sym (h.accepts q lt);
}

module _ (net : Network) (a b : SymbolAutomaton) (n : ℕ) (alike : DoAlike net a b n) where
  pub edge : (v u : Vertex) → v.state < n → IsEdge net a v u → IsEdge net b v u × (u.state < n)
  edge v u lt e =
      let s = alike.step v.state u.symbol lt e.symbol in
      (record { follows = e.follows; symbol = e.symbol; inside = e.inside; state = e.state ∙ s.0; turns = e.turns }, subst (λ k. k < n) (sym e.state) s.1)

  pub last : (d : ℕ) (v : Vertex) → IsHost net d → v.state < n → IsLast net a d v → IsLast net b d v
  last d v host lt l =
      let s = alike.step v.state (at d) lt (host_symbol net d host) in
      record { follows = l.follows; accepts = ap b.accepts (sym s.0) ∙ sym (alike.accepts (a.step v.state (at d)) s.1) ∙ l.accepts }

  pub leads : (d : ℕ) (v : Vertex) (us : List Vertex) → IsHost net d → v.state < n → LeadsToEnd net a d v us → LeadsToEnd net b d v us
  leads d v [] host lt h = last d v host lt h
  leads d v (u ∷ us) host lt h = let e = edge v u lt h.0 in (e.0, leads d u us host e.1 h.1)

  pub comes : (v : Vertex) (xs : List Vertex) (u : Vertex) → v.state < n → LeadsTo net a v xs u → LeadsTo net b v xs u × (u.state < n)
  comes v [] u lt e = (e, subst (λ w. w.state < n) e lt)
  comes v (x ∷ xs) u lt h = let e = edge v x lt h.0 in let rest = comes x xs u e.1 h.1 in ((e.0, rest.0), rest.1)

  pub on-way : (s d : ℕ) (v : Vertex) → IsHost net s → IsHost net d → IsOnWayBetween net a s d v → IsOnWayBetween net b s d v
  on-way s d v source dest h =
      let first = alike.step 0 (at s) alike.first (host_symbol net s source) in
      let start : start_of a s ≡ start_of b s = ap (λ q. record { symbol = at s; state = q }) first.0 in
      let way = comes (start_of a s) h.before v first.1 h.reached in
      record {
        before = h.before;
        reached = subst (λ w. LeadsTo net b w h.before v) start way.0;
        after = h.after;
        leads = leads d v h.after dest way.1 h.leads;
      }

  vertex : (w : Option WrittenWalk) → IsBetweenHosts net w → (d : ℕ) (v : Vertex) → IsVertexIn net a w d v → IsVertexIn net b w d v
  vertex None between d v (s, source, dest, other, way) = (s, source, dest, other, on-way s d v source dest way)
  vertex (Some w) between d v (e, way) = (e, on-way w.source d v between.0 (subst (IsHost net) (sym e) between.1) way)

-- Groups with the same written walk, if they have one, whose automata do alike.
record AreAlike (net : Network) (g h : Group) : Type 0 where
  same : g.written ≡ h.written
  between : IsBetweenHosts net g.written
  bound : ℕ
  alike : DoAlike net g.automaton h.automaton bound

module _ (net : Network) where
  groups-back : (gs hs : List Group) → AllZip (AreAlike net) gs hs → AllZip (AreAlike net) hs gs
  groups-back [] [] z = tt
  groups-back [] (h ∷ hs) z = absurd z
  groups-back (g ∷ gs) [] z = absurd z
  groups-back (g ∷ gs) (h ∷ hs) z = (
    record {
      same = sym z.0.same;
      between = subst (IsBetweenHosts net) z.0.same z.0.between;
      bound = z.0.bound;
      alike = alike-back net g.automaton h.automaton z.0.bound z.0.alike;
    },
    groups-back gs hs z.1,
  )

  vertex-in : (gs hs : List Group) → AllZip (AreAlike net) gs hs → (k d : ℕ) (v : Vertex) → IsVertex net gs k d v → IsVertex net hs k d v
  vertex-in [] [] z k d v h = absurd h
  vertex-in [] (h ∷ hs) z k d v is = absurd z
  vertex-in (g ∷ gs) [] z k d v is = absurd z
  vertex-in (g ∷ gs) (h ∷ hs) z zero d v is =
      subst (λ w. IsVertexIn net h.automaton w d v) z.0.same
      (vertex net g.automaton h.automaton z.0.bound z.0.alike g.written z.0.between d v is)
  vertex-in (g ∷ gs) (h ∷ hs) z (suc k) d v is = vertex-in gs hs z.1 k d v is

  tag-in : (gs hs : List Group) → AllZip (AreAlike net) gs hs → (key : TagKey) → IsTagKey net gs key → IsTagKey net hs key
  tag-in gs hs z key t =
      record { dest = t.dest; vertex = t.vertex; stands = vertex-in gs hs z key.group t.dest t.vertex t.stands; outside = t.outside; is = t.is }

  inner-in : (gs hs : List Group) → AllZip (AreAlike net) gs hs → (g d : ℕ) (vs : List Vertex) → AreInnerVertices net gs g d vs → AreInnerVertices net hs g d vs
  inner-in gs hs z g d vs h = record {
    ascend = h.ascend;
    are = λ v. (
      λ c. let is = (h.are v).0 c in (is.0, vertex-in gs hs z g d v is.1),
      λ is. (h.are v).1 (is.0, vertex-in hs gs (groups-back gs hs z) g d v is.1),
    );
  }

  abbrev of_group : ℕ × Group → List (ℕ × ℕ)
  of_group g = map (λ d. (g.0, d)) (destinations_of net g.1.written)

  products-from : (n : ℕ) (gs hs : List Group) → AllZip (AreAlike net) gs hs → flat_map of_group (enumerate_from n gs) ≡ flat_map of_group (enumerate_from n hs)
  products-from n [] [] z = refl
  products-from n [] (h ∷ hs) z = absurd z
  products-from n (g ∷ gs) [] z = absurd z
  products-from n (g ∷ gs) (h ∷ hs) z =
      ap₂ (λ xs ys. xs ++ ys) (ap (λ w. map (λ d. (n, d)) (destinations_of net w)) z.0.same) (products-from (n + 1) gs hs z.1)

zip-map : {X Y : Type 0} (R S : X → Y → Type 0) → ((x : X) (y : Y) → R x y → S x y) → (xs : List X) (ys : List Y) → AllZip R xs ys → AllZip S xs ys
zip-map R S f [] [] z = tt
zip-map R S f [] (y ∷ ys) z = absurd z
zip-map R S f (x ∷ xs) [] z = absurd z
zip-map R S f (x ∷ xs) (y ∷ ys) z = (f x y z.0, zip-map R S f xs ys z.1)

entries-in : (net : Network) (gs hs : List Group) → AllZip (AreAlike net) gs hs → (count : ℕ) → HaveEntries net gs count → HaveEntries net hs count
entries-in net gs hs z count h = record {
  vertices = h.vertices;
  are = subst (λ ps. AllZip (λ p vs. AreInnerVertices net hs p.0 p.1 vs) ps h.vertices) (products-from net 0 gs hs z)
      (zip-map (λ p vs. AreInnerVertices net gs p.0 p.1 vs) (λ p vs. AreInnerVertices net hs p.0 p.1 vs) (λ p vs is. inner-in net gs hs z p.0 p.1 vs is) (products_of net gs) h.vertices h.are);
  count_is = h.count_is;
}

-- the policy was checked, and each path has the number of an automaton
pub record WasNumbered (net : Network) (raw : NamedPolicy) (checked : CheckedPolicy) : Type 0 where
  pub is_check : IsCheckOf net (network_symbols net) raw checked
  pub numbers : length checked.automaton_numbers ≡ length (paths_of checked.policy)

-- What is known of symbols and of the states of a path.
pub record Numbering : Type 0 where
  pub symbols : (net : Network) (x : Symbol) → Contains (network_symbols net) x ↔ IsSymbol net x
  pub one : (path : Path) (symbols : List Symbol) (forms others : List Path) → AreStates path symbols forms → AreStates path symbols others → forms ≡ others

-- two tables of one path do alike
module _ (known : Numbering) (net : Network) (path : Path) (t u : AutomatonTables) (forms : List Path) (a : AreTablesOfPath path (network_symbols net) t forms) (b : AreTablesOfPath path (network_symbols net) u forms) where
  pub alike-tables : DoAlike net (automaton_of (network_symbols net) t) (automaton_of (network_symbols net) u) (length forms)
  alike-tables = record {
    first = get-below forms 0 (normal_of path) (subst (λ l. slice_get l 0 ≡ Some (normal_of path)) (sym a.states.in_order)
        (with_all_new-keeps (normal_of path ∷ []) (flat_map (followers (network_symbols net)) forms) 0 (normal_of path) refl));
    step = λ q x lt is.
        let k = number_in (network_symbols net) x in
        let place = number-at (network_symbols net) x (in_from (network_symbols net) x ((known.symbols net x).1 is)) in
        let form = below-get forms q lt in
        let one = a.next q k form.0 x form.1 place in
        let two = b.next q k form.0 x form.1 place in
        (one-place forms (states-differ path (network_symbols net) forms a.states) (step t q k) (step u q k) _ one two, get-below forms (step t q k) _ one);
    accepts = λ q lt. let form = below-get forms q lt in a.accepting q form.0 form.1 ∙ sym (b.accepting q form.0 form.1);
  }

-- the ends of a statement, among those of all guaranteed ones
ends-of : (ends : List Ends) (j : ℕ) → In j (map (λ e. e.statement) ends) → (k : ℕ) × (e : Ends) × (slice_get ends k ≡ Some e) × (e.statement ≡ j)
ends-of [] j i = absurd i
ends-of (e ∷ ends) j (inl h) = (0, e, refl, sym h)
ends-of (e ∷ ends) j (inr i) = let rest = ends-of ends j i in (suc rest.0, rest.1, rest.2, rest.3)

host-of : (net : Network) (loc : ℕ) (a : HostAddress) → address_of net loc ≡ Some a → IsHost net loc
host-of net loc a e = subst IsSome (sym e) refl

module _ (known : Numbering) (net : Network) (raw : NamedPolicy) (ends : List Ends) (all : AreAllEnds net (numbered_policy net raw) ends) where
  abbrev pub policy : Policy
  policy = numbered_policy net raw

  abbrev pub symbols : List Symbol
  symbols = network_symbols net

  -- the automaton of a statement, and its path
  pub record HasTable (j : ℕ) (t : AutomatonTables) : Type 0 where
    pub path : Path
    pub has : slice_get (paths_of policy) j ≡ Some path
    pub built : IsBuilt path symbols (Ok t)

  pub table-of : (checked : CheckedPolicy) → WasNumbered net raw checked → (j : ℕ) → j < length (paths_of policy) → (t : AutomatonTables) → slice_get (statement_automata checked) j ≡ Some t → HasTable j t
  table-of checked was j lt t at =
      let path = below-get (paths_of policy) j lt in
      let there : slice_get (paths_of checked.policy) j ≡ Some path.0 = subst (λ p. slice_get (paths_of p) j ≡ Some path.0) (sym was.is_check.policy) path.1 in
      let own = was.is_check.automata j path.0 there in
      let same : own.0 ≡ t = some-same (sym (stands symbols checked was.is_check.automata was.numbers j own.0 own.1) ∙ at) in
      record { path = path.0; has = path.1; built = subst (λ t. IsBuilt path.0 symbols (Ok t)) same own.2.built }

  module _ (checked other : CheckedPolicy) (was : WasNumbered net raw checked) (has : WasNumbered net raw other) where
    abbrev IsBare : CheckedPolicy → ℕ → Group → Type 0
    IsBare c j g = IsGroupOf policy symbols (statement_automata c) ends (bare_walks ends) j g

    abbrev bare-between : Ends → Option WrittenWalk
    bare-between e = Some (record { source = e.src; dest = e.dst; after = [] })

    -- of a group before walks are chosen only the ends are known
    written-alike : (j : ℕ) (g h : Group) → IsBare checked j g → IsBare other j h → (n : ℕ) → n ≡ min_of policy j → (g.written ≡ h.written) × IsBetweenHosts net g.written
    written-alike j g h is other_is zero e =
        let free : ¬ IsGuaranteed policy j = λ some. let none : min_of policy j ≡ 0 = sym e in omega (arith, some, none) in
        let no = (is.best_effort free).0 in
        (no ∙ sym (other_is.best_effort free).0, subst (IsBetweenHosts net) (sym no) tt)
    written-alike j g h is other_is (suc n) e =
        let some : IsGuaranteed policy j = omega (arith, e) in
        let own_ends = ends-of ends j (in_from (map (λ e. e.statement) ends) j (all.all j some)) in
        let walk = get-map (λ e. at e.src ∷ at e.dst ∷ []) ends own_ends.0 own_ends.1 own_ends.2 in
        let one : g.written ≡ bare-between own_ends.1 = (is.guaranteed own_ends.0 own_ends.1 (at own_ends.1.src ∷ at own_ends.1.dst ∷ []) own_ends.2 own_ends.3 walk).0 in
        let two : h.written ≡ bare-between own_ends.1 = (other_is.guaranteed own_ends.0 own_ends.1 (at own_ends.1.src ∷ at own_ends.1.dst ∷ []) own_ends.2 own_ends.3 walk).0 in
        let own = all-get (AreTheEnds net policy) ends own_ends.0 own_ends.1 all.each own_ends.2 in
        (one ∙ sym two, subst (IsBetweenHosts net) (sym one) (host-of net own_ends.1.src _ own.traffic.proper.source, host-of net own_ends.1.dst _ own.traffic.proper.destination))

    alike-groups : (j : ℕ) → j < length (paths_of policy) → (g h : Group) → IsBare checked j g → IsBare other j h → AreAlike net g h
    alike-groups j lt g h is other_is =
        let one = table-of checked was j lt is.tables is.stands in
        let two = table-of other has j lt other_is.tables other_is.stands in
        let path : two.path ≡ one.path = some-same (sym two.has ∙ one.has) in
        let built = subst (λ p. IsBuilt p symbols (Ok other_is.tables)) path two.built in
        let forms : built.0 ≡ one.built.0 = known.one one.path symbols built.0 one.built.0 built.1.states one.built.1.states in
        let walks = written-alike j g h is other_is (min_of policy j) refl in
        record {
          same = walks.0;
          between = walks.1;
          bound = length one.built.0;
          alike = subst (λ a. DoAlike net a h.automaton (length one.built.0)) (sym is.automaton)
              (subst (λ b. DoAlike net (automaton_of symbols is.tables) b (length one.built.0)) (sym other_is.automaton)
              (alike-tables known net one.path is.tables other_is.tables one.built.0 one.built.1 (subst (AreTablesOfPath one.path symbols other_is.tables) forms built.1)));
        }

    alike-all : (leaders : List ℕ) (gs hs : List Group) → AllByRecursion (λ j. j < length (paths_of policy)) leaders → AllZip (IsBare checked) leaders gs → AllZip (IsBare other) leaders hs → AllZip (AreAlike net) gs hs
    alike-all [] [] [] lt z w = tt
    alike-all [] [] (h ∷ hs) lt z w = absurd w
    alike-all [] (g ∷ gs) hs lt z w = absurd z
    alike-all (j ∷ leaders) [] hs lt z w = absurd z
    alike-all (j ∷ leaders) (g ∷ gs) [] lt z w = absurd w
    alike-all (j ∷ leaders) (g ∷ gs) (h ∷ hs) lt z w = (alike-groups j lt.0 g h z.0 w.0, alike-all leaders gs hs lt.1 z.1 w.1)

    -- the groups of a policy, by the numbers of a network
    record Bare (c : CheckedPolicy) (gs : List Group) : Type 0 where
      leaders : List ℕ
      group_of : List ℕ
      grouped : AreGrouped policy leaders group_of
      are : AllZip (IsBare c) leaders gs

    bare : (c : CheckedPolicy) → WasNumbered net raw c → (gs : List Group) → ArePlanned net c ends gs → Bare c gs
    bare c is gs p = record {
      leaders = p.leaders;
      group_of = p.group_of;
      grouped = subst (λ q. AreGrouped q p.leaders p.group_of) is.is_check.policy p.grouped;
      are = subst (λ q. AllZip (IsGroupOf q symbols (statement_automata c) ends (bare_walks ends)) p.leaders gs) is.is_check.policy p.are;
    }

    planned-alike : (gs hs : List Group) → ArePlanned net checked ends gs → ArePlanned net other ends hs → AllZip (AreAlike net) gs hs
    planned-alike gs hs p q =
        let a = bare checked was gs p in
        let b = bare other has hs q in
        let same : b.leaders ≡ a.leaders = ascending-same b.leaders a.leaders b.grouped.ascending a.grouped.ascending
        (λ j. (λ c. (a.grouped.leaders_are j).1 ((b.grouped.leaders_are j).0 c), λ c. (b.grouped.leaders_are j).1 ((a.grouped.leaders_are j).0 c))) in
        alike-all a.leaders gs hs (all-from a.leaders (λ j i. ((a.grouped.leaders_are j).0 (in_to a.leaders j i)).0)) a.are (subst (λ l. AllZip (IsBare other) l hs) same b.are)
      where
        all-from : (js : List ℕ) → ((j : ℕ) → In j js → j < length (paths_of policy)) → AllByRecursion (λ j. j < length (paths_of policy)) js
        all-from [] f = tt
        all-from (j ∷ js) f = (f j (inl refl), all-from js (λ k i. f k (inr i)))

    -- what the one passes the other passes, where it is within the limits before
    passes-too : IsWithinLimits net checked ends → (fault : RuleFault) → PassesLimit net other ends fault → PassesLimit net checked ends fault
    passes-too within (TooManyTags count) (m, e) =
        let f = within.tags in
        let z = groups-back net f.groups m.groups (planned-alike f.groups m.groups f.planned m.planned) in (
          record {
            groups = f.groups;
            planned = f.planned;
            tags = m.tags;
            ascend = m.ascend;
            each = all-map (IsTagKey net m.groups) (IsTagKey net f.groups) (λ key is. tag-in net m.groups f.groups z key is) m.tags m.each;
            many = m.many;
          },
          e,
        )
    passes-too within (TooManyCells count) (few, many, e) =
        (within.tags, subst (λ p. MAX_CELLS < count_of_cells net p) (has.is_check.policy ∙ sym was.is_check.policy) many, e)
    passes-too within (TooManyEntries count) (few, cells, (n, h, many), e) =
        let f = within.entries.1 in
        let z = groups-back net f.groups h.groups (planned-alike f.groups h.groups f.planned h.planned) in
        (within.tags, within.cells, (n, record { groups = f.groups; planned = f.planned; are = entries-in net h.groups f.groups z n h.are }, many), e)
    passes-too within OutOfMemory h = tt

pub passes-as-well : Numbering → (net : Network) (raw : NamedPolicy) (checked other : CheckedPolicy) (ends : List Ends) (fault : RuleFault) → AreAllEnds net (numbered_policy net raw) ends →
    IsCheckOf net (network_symbols net) raw checked → length checked.automaton_numbers ≡ length (paths_of checked.policy) →
    IsCheckOf net (network_symbols net) raw other → length other.automaton_numbers ≡ length (paths_of other.policy) →
    IsWithinLimits net checked ends → PassesLimit net other ends fault → PassesLimit net checked ends fault
passes-as-well known net raw checked other ends fault all is numbers other_is as_many within h =
    passes-too known net raw ends all checked other (record { is_check = is; numbers = numbers }) (record { is_check = other_is; numbers = as_many }) within fault h
