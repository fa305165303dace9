-- The products of groups, as spans and as the model names them.
use Rattle.std.proofs.Common.{◌≡◌, ◌<◌, ◌+◌, inl, inr, ℕ, zero, suc, List, [], ◌∷◌, ◌++◌, length, map, slice_get, Contains, Option, None, Some, refl, sym, ◌∙◌, ap, subst, arith}
use Rattle.std.specs.Prelude.{is_some, option_map, unwrap_or}
use Rattle.std.specs.List.{AllByRecursion, AllZip, enumerate_from, flat_map, range_with_len}
use Rattle.merlin_model.specs.declared.policy.Ends.{Ends}
use Rattle.merlin_model.specs.Networks.{Network, IsHost, kind_of}
use Rattle.merlin_model.specs.Policies.{paths_of}
use Rattle.merlin_model.specs.Assignments.{AreAllEnds}
use Rattle.merlin_model.proofs.Members.{In, in_to, in_filter, in_map, map_in, in_flat_map, flat_map_in}
use Rattle.topology.specs.Symbols.{network_symbols}
use Rattle.rules_model.specs.Products.{Vertex, Group, IsVertex, IsVertexAt, IsVertexIn}
use Rattle.rules_model.specs.Tables.{TagKey as ModelKey, tag_key_of, IsTagKey, all_hosts, is_host_kind}
use Rattle.product_graph.specs.declared.span.Span2.TheVariants.{Pair, All}
use Rattle.product_graph.specs.Products.{automaton_of, dest_of}
use Rattle.product_graph.proofs.Lists.{none-some, some-same}
use Rattle.path_automaton.proofs.Building.{get-map, get-in}
use Rattle.policy_check.specs.Checked.{CheckedPolicy, HasAutomata, automaton_of_statement}
use Rattle.configuration_model.proofs.Decided.{host-listed}
use Rattle.openflow_rules.specs.declared.spans.GroupSpan.{GroupSpan}
use Rattle.openflow_rules.specs.Planning.{destinations_of, products_of, AreInnerVertices}
use Rattle.openflow_rules.specs.GroupSpans.{ends_for, bare_walk, span_to, spans_by, spans_over, IsSpanOf, IsGroupSpan}
use Rattle.openflow_rules.specs.Gathered.{AreInnerOf, IsTagIn}
use Rattle.openflow_rules.proofs.PlannedGroups.{no_table, planned, IsTableOf, table-of, ends-are}

abbrev pub place_of : GroupSpan → ℕ × ℕ
place_of s = (s.group, dest_of s.span)

map-append : {X Y : Type 0} (f : X → Y) (xs ys : List X) → map f (xs ++ ys) ≡ map f xs ++ map f ys
map-append f [] ys = refl
map-append f (x ∷ xs) ys = ap (λ r. f x ∷ r) (map-append f xs ys)

map-map : {X Y Z : Type 0} (f : X → Y) (g : Y → Z) (xs : List X) → map g (map f xs) ≡ map (λ x. g (f x)) xs
map-map f g [] = refl
map-map f g (x ∷ xs) = ap (λ r. g (f x) ∷ r) (map-map f g xs)

-- what is numbered stands at its number
numbered-at : {X : Type 0} (n : ℕ) (xs : List X) (p : ℕ × X) → In p (enumerate_from n xs) → (k : ℕ) × (p.0 ≡ n + k) × (slice_get xs k ≡ Some p.1)
numbered-at n [] p i = absurd i
numbered-at n (x ∷ xs) p (inl e) = (0, ap (λ q. q.0) e ∙ (let s : n ≡ n + 0 = omega arith in s), ap Some (sym (ap (λ q. q.1) e)))
numbered-at n (x ∷ xs) p (inr i) = let r = numbered-at (n + 1) xs p i in (suc r.0, r.1 ∙ (let s : (n + 1) + r.0 ≡ n + suc r.0 = omega arith in s), r.2)

abbrev pair-of : {X : Type 0} → ℕ → X → ℕ × X
pair-of k x = (k, x)

pair-same : {X : Type 0} (m n : ℕ) (x y : X) → m ≡ n → x ≡ y → pair-of m x ≡ pair-of n y
pair-same m n x y a b = ap (λ k. pair-of k x) a ∙ ap (pair-of n) b

at-numbered : {X : Type 0} (n : ℕ) (xs : List X) (k : ℕ) (x : X) → slice_get xs k ≡ Some x → In (n + k, x) (enumerate_from n xs)
at-numbered n [] k x e = absurd (none-some e)
at-numbered n (y ∷ xs) zero x e = inl (pair-same (n + 0) n x y (let s : n + 0 ≡ n = omega arith in s) (sym (some-same e)))
at-numbered n (y ∷ xs) (suc k) x e = inr (subst (λ m. In (m, x) (enumerate_from (n + 1) xs)) (let s : (n + 1) + k ≡ n + suc k = omega arith in s) (at-numbered (n + 1) xs k x e))

module _ (net : Network) (checked : CheckedPolicy) (ends : List Ends) where
  abbrev pub group-at : ℕ → Group
  group-at = planned net checked ends

  -- the products by their groups and destinations
  pub products-are : (n : ℕ) (leaders : List ℕ) →
      flat_map (λ g. map (λ d. (g.0, d)) (destinations_of net g.1.written)) (enumerate_from n (map group-at leaders))
      ≡ map place_of (flat_map (λ l. spans_by (all_hosts net) l.0 l.1 (ends_for ends l.1)) (enumerate_from n leaders))
  products-are n [] = refl
  products-are n (j ∷ leaders) =
      ap (λ r. map (λ d. (n, d)) (destinations_of net (group-at j).written) ++ r) (products-are (n + 1) leaders)
      ∙ ap (λ h. h ++ map place_of (flat_map (λ l. spans_by (all_hosts net) l.0 l.1 (ends_for ends l.1)) (enumerate_from (n + 1) leaders))) (here (ends_for ends j))
      ∙ sym (map-append place_of (spans_by (all_hosts net) n j (ends_for ends j)) (flat_map (λ l. spans_by (all_hosts net) l.0 l.1 (ends_for ends l.1)) (enumerate_from (n + 1) leaders)))
    where
      here : (o : Option Ends) → map (λ d. (n, d)) (destinations_of net (option_map bare_walk o)) ≡ map place_of (spans_by (all_hosts net) n j o)
      here None = sym (map-map (span_to n j) place_of (all_hosts net))
      here (Some e) = refl

  zip-places : (spans : List GroupSpan) (vertices : List (List Vertex)) (groups : List Group) → AllZip (AreInnerOf net groups) spans vertices → AllZip (λ p vs. AreInnerVertices net groups p.0 p.1 vs) (map place_of spans) vertices
  zip-places [] [] groups h = tt
  zip-places [] (v ∷ vs) groups h = absurd h
  zip-places (s ∷ spans) [] groups h = absurd h
  zip-places (s ∷ spans) (v ∷ vs) groups h = (h.0, zip-places spans vs groups h.1)

  module _ (leaders : List ℕ) where
    abbrev pub groups : List Group
    groups = map group-at leaders

    abbrev pub spans : List GroupSpan
    spans = spans_over (all_hosts net) ends leaders

    pub inner-of-all : (vertices : List (List Vertex)) → AllZip (AreInnerOf net groups) spans vertices → AllZip (λ p vs. AreInnerVertices net groups p.0 p.1 vs) (products_of net groups) vertices
    inner-of-all vertices h = subst (λ ps. AllZip (λ p vs. AreInnerVertices net groups p.0 p.1 vs) ps vertices) (sym (products-are 0 leaders)) (zip-places spans vertices groups h)

    -- each tag is that of one of the products
    pub tag-in : (key : ModelKey) → IsTagKey net groups key → IsTagIn net groups spans key
    tag-in key t = by (slice_get leaders key.group) refl
      where
        at_group : (o : Option ℕ) → slice_get leaders key.group ≡ o → IsVertexAt net (option_map group-at o) t.dest t.vertex
        at_group o e = subst (λ g. IsVertexAt net g t.dest t.vertex) (get-map-all leaders key.group ∙ ap (option_map group-at) e) t.stands
          where
            get-map-all : (js : List ℕ) (k : ℕ) → slice_get (map group-at js) k ≡ option_map group-at (slice_get js k)
            get-map-all [] k = refl
            get-map-all (j ∷ js) zero = refl
            get-map-all (j ∷ js) (suc k) = get-map-all js k

        among : (j : ℕ) → slice_get leaders key.group ≡ Some j → (s : GroupSpan) → In s (spans_by (all_hosts net) key.group j (ends_for ends j)) → Contains spans s
        among j e s i = in_to spans s (flat_map_in (λ l. spans_by (all_hosts net) l.0 l.1 (ends_for ends l.1)) (enumerate_from 0 leaders) (key.group, j) s (subst (λ m. In (m, j) (enumerate_from 0 leaders)) (let z : 0 + key.group ≡ key.group = omega arith in z) (at-numbered 0 leaders key.group j e)) i)

        found : (j : ℕ) → slice_get leaders key.group ≡ Some j → (o : Option Ends) → ends_for ends j ≡ o → IsVertexIn net (group-at j).automaton (option_map bare_walk o) t.dest t.vertex → IsTagIn net groups spans key
        found j e None is stands = record {
          span = span_to key.group j t.dest;
          among = among j e (span_to key.group j t.dest) (subst (λ o. In (span_to key.group j t.dest) (spans_by (all_hosts net) key.group j o)) (sym is) (map_in (span_to key.group j) (all_hosts net) t.dest (host-listed net t.dest stands.2)));
          vertex = t.vertex;
          outside = t.outside;
          stands = t.stands;
          is = t.is;
        }
        found j e (Some x) is stands =
            let s : GroupSpan = record { group = key.group; leader = j; span = Pair x.src x.dst } in
            record {
              span = s;
              among = among j e s (subst (λ o. In s (spans_by (all_hosts net) key.group j o)) (sym is) (inl refl));
              vertex = t.vertex;
              outside = t.outside;
              stands = subst (λ d. IsVertex net groups key.group d t.vertex) stands.0 t.stands;
              is = t.is;
            }

        by : (o : Option ℕ) → slice_get leaders key.group ≡ o → IsTagIn net groups spans key
        by None e = absurd (at_group None e)
        by (Some j) e = found j e (ends_for ends j) refl (at_group (Some j) e)

    pub in-tag : (key : ModelKey) → IsTagIn net groups spans key → IsTagKey net groups key
    in-tag key t =
        let same : key.group ≡ t.span.group = ap (λ k. k.group) t.is in
        record {
          dest = dest_of t.span.span;
          vertex = t.vertex;
          stands = subst (λ g. IsVertex net groups g (dest_of t.span.span) t.vertex) (sym same) t.stands;
          outside = t.outside;
          is = t.is ∙ ap (λ g. tag_key_of g t.vertex) (sym same);
        }

  -- the spans are those of groups
  module _ (automata : HasAutomata (network_symbols net) checked) (all : AreAllEnds net checked.policy ends) (leaders : List ℕ) (within : (j : ℕ) → Contains leaders j → j < length (paths_of checked.policy)) where
    hosts-are : (d : ℕ) → In d (all_hosts net) → IsHost net d
    hosts-are d i = (in_filter (λ loc. is_host_kind (kind_of net loc)) (range_with_len 0 (length net.locations)) d i).1

    span-ok : (g j : ℕ) → slice_get leaders g ≡ Some j → (s : GroupSpan) → In s (spans_by (all_hosts net) g j (ends_for ends j)) → IsGroupSpan net checked (map group-at leaders) s
    span-ok g j at_g s i = by (ends_for ends j) refl i
      where
        t : IsTableOf net checked ends automata all j
        t = table-of net checked ends automata all j (within j (in_to leaders j (get-in leaders g j at_g)))

        made : (s : GroupSpan) → s.group ≡ g → s.leader ≡ j → IsSpanOf net (group-at j).written s.span → IsGroupSpan net checked (map group-at leaders) s
        made s eg ej span = record {
          leads = subst (λ k. k < length (paths_of checked.policy)) (sym ej) (within j (in_to leaders j (get-in leaders g j at_g)));
          table = t.table;
          is_table = ap (automaton_of_statement checked) ej ∙ t.is;
          width = t.width;
          group = group-at j;
          there = ap (slice_get (map group-at leaders)) eg ∙ get-map group-at leaders g j at_g;
          automaton = ap (λ o. automaton_of (network_symbols net) (unwrap_or o no_table)) t.is;
          span = span;
        }

        by : (o : Option Ends) → ends_for ends j ≡ o → In s (spans_by (all_hosts net) g j o) → IsGroupSpan net checked (map group-at leaders) s
        by None e i =
            let m = in_map (span_to g j) (all_hosts net) s i in
            made s (ap (λ x. x.group) m.2) (ap (λ x. x.leader) m.2)
            (subst (λ x. IsSpanOf net (option_map bare_walk (ends_for ends j)) x.span) (sym m.2) (subst (λ o. IsSpanOf net (option_map bare_walk o) (All m.0)) (sym e) (hosts-are m.0 m.1)))
        by (Some x) e (inr i) = absurd i
        by (Some x) e (inl same) =
            let the = ends-are net checked ends automata all j x e in
            made s (ap (λ y. y.group) same) (ap (λ y. y.leader) same)
            (subst (λ y. IsSpanOf net (option_map bare_walk (ends_for ends j)) y.span) (sym same)
            (subst (λ o. IsSpanOf net (option_map bare_walk o) (Pair x.src x.dst)) (sym e) (ap is_some the.traffic.proper.source, ap is_some the.traffic.proper.destination, refl, refl)))

    pub spans-ok : AllByRecursion (IsGroupSpan net checked (map group-at leaders)) (spans_over (all_hosts net) ends leaders)
    spans-ok = each (spans_over (all_hosts net) ends leaders) (λ s i. i)
      where
        one : (s : GroupSpan) → In s (spans_over (all_hosts net) ends leaders) → IsGroupSpan net checked (map group-at leaders) s
        one s i =
            let f = in_flat_map (λ l. spans_by (all_hosts net) l.0 l.1 (ends_for ends l.1)) (enumerate_from 0 leaders) s i in
            let k = numbered-at 0 leaders f.0 f.1 in
            let at_g : slice_get leaders f.0.0 ≡ Some f.0.1 = ap (slice_get leaders) (k.1 ∙ (let z : 0 + k.0 ≡ k.0 = omega arith in z)) ∙ k.2 in
            span-ok f.0.0 f.0.1 at_g s f.2

        each : (ss : List GroupSpan) → ((s : GroupSpan) → In s ss → In s (spans_over (all_hosts net) ends leaders)) → AllByRecursion (IsGroupSpan net checked (map group-at leaders)) ss
        each [] sub = tt
        each (s ∷ ss) sub = (one s (sub s (inl refl)), each ss (λ x i. sub x (inr i)))
