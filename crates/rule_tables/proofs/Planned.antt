-- The plan of rows and entries, and its tables.
use Rattle.std.proofs.Common.{◌≡◌, ◌≢◌, ℕ, zero, suc, ◌<◌, ◌+◌, ◌==◌, inl, inr, Bool, true, false, cond, List, [], ◌∷◌, ◌++◌, length, map, filter, Contains, Option, None, Some, slice_get, MatchOption, refl, sym, ◌∙◌, ap, ap₂, subst, arith}
use Rattle.std.specs.Bool.{⊤}
use Rattle.std.specs.List.{AllByRecursion, AllZip, flat_map, range_with_len}
use Rattle.std.proofs.lemmas.Bool.{eq-eqb}
use Rattle.std.proofs.lemmas.List.{map-append}
use Rattle.std.proofs.lemmas.Option.{slice_get_within}
use Rattle.merlin_model.specs.declared.network.LocationKind.{LocationKind}
use Rattle.merlin_model.specs.Networks.{Network, IsHost, IsNetwork, kind_of, Pairwise, places_of}
use Rattle.merlin_model.specs.Words.{IsSymbol}
use Rattle.merlin_model.specs.declared.config.Rule.{Rule}
use Rattle.merlin_model.specs.declared.config.Process.{Process}
use Rattle.merlin_model.specs.declared.policy.Symbol.{Symbol}
use Rattle.merlin_model.proofs.Members.{In, in_from, in_to, all_in, in_map, map_in, in_filter, in_flat_map}
use Rattle.rules_model.specs.Products.{Vertex, loc_of, Group, AreWrittenWalks, FollowsAt, Follows, queue_in, queue_at}
use Rattle.rules_model.specs.Tables.{TagKey, IsBelowKey, TableRow, IngressEntry, Cell, Plan, IsTableRow, IsFirstHop, IsIngressEntry, IsPlan, IsInOrder, IsBelowRow, Owned, owned_by, all_owned, all_hosts, all_switches, is_switch_kind, is_middlebox_kind, is_host_kind, rules_of_row, cell_rule, last_rule, process_of, rules_at, table_rules, table_processes}
use Rattle.rules_model.proofs.Pieces.{filter-piece, filter-pieces, flat_map-same, range-up}
use Rattle.rules_model.proofs.TableRules.{in_range, is_location}
use Rattle.rules_model.proofs.Trees.{group_routing}
use Rattle.rule_tables.specs.declared.branches.TagKey.{TagKey as ListedKey}
use Rattle.rule_tables.specs.declared.branches.Branch.{Branch}
use Rattle.rule_tables.specs.declared.branches.GroupBranches.{GroupBranches}
use Rattle.rule_tables.specs.declared.branches.OwnedCell.{OwnedCell}
use Rattle.rule_tables.specs.declared.rows.Row.{Row}
use Rattle.rule_tables.specs.declared.entries.Entry.{Entry}
use Rattle.rule_tables.specs.Branches.{key_of, owned_of, vertex_in, IsBranch, AreGroupBranches, IsPrepared, AreTablesOf}
use Rattle.rule_tables.specs.Rows.{tags_alone, table_row, Spot, IsRowOf, AreSpotRows, spots_from}
use Rattle.rule_tables.specs.Entries.{entry_of, AreBetweenHosts, IsCellEntry}
use Rattle.rule_tables.specs.Placed.{rows_at, entries_entering, rules_by, all_rules_by, all_processes_by}
use Rattle.rule_tables.proofs.Spotting.{IsLater, all-apart, spot-in, row-spot, spot-row, rows-later}
use Rattle.rule_tables.proofs.Placing.{located}
use Rattle.rule_tables.proofs.Ordered.{sorted_rows, loc_in, in-at, in-sorted, sorted-in, sorted-up}

some-same : {X : Type 0} {a b : X} → Some a ≡ Some b → a ≡ b
some-same e = cc

none-some : {X : Type 0} {a : X} → None ≡ Some a → ⊥
none-some e = cc

-- Lists.

filter-map : {X A : Type 0} (t : A → Bool) (f : X → A) (xs : List X) → filter t (map f xs) ≡ map f (filter (λ x. t (f x)) xs)
filter-map t f [] = refl
filter-map {X} {A} t f (x ∷ xs) = by (t (f x)) (filter-map t f xs)
  where
    by : (b : Bool) → filter t (map f xs) ≡ map f (filter (λ x. t (f x)) xs) → cond b (f x ∷ filter t (map f xs)) (filter t (map f xs)) ≡ map f (cond b (x ∷ filter (λ x. t (f x)) xs) (filter (λ x. t (f x)) xs))
    by true ih = ap (λ ys. f x ∷ ys) ih
    by false ih = ih

map-map : {X A B : Type 0} (g : A → B) (f : X → A) (xs : List X) → map g (map f xs) ≡ map (λ x. g (f x)) xs
map-map g f [] = refl
map-map g f (x ∷ xs) = ap (λ ys. g (f x) ∷ ys) (map-map g f xs)

pieces-map : {X A B : Type 0} (f : A → List B) (g : X → A) (xs : List X) → flat_map f (map g xs) ≡ flat_map (λ x. f (g x)) xs
pieces-map f g [] = refl
pieces-map f g (x ∷ xs) = ap (λ ys. f (g x) ++ ys) (pieces-map f g xs)

map-pieces : {X A B : Type 0} (g : A → B) (f : X → List A) (xs : List X) → map g (flat_map f xs) ≡ flat_map (λ x. map g (f x)) xs
map-pieces g f [] = refl
map-pieces g f (x ∷ xs) = map-append g (f x) (flat_map f xs) ∙ ap (λ ys. map g (f x) ++ ys) (map-pieces g f xs)

-- past the end of one list, and of another that is as long
pub none-both : {X Y : Type 0} (xs : List X) (ys : List Y) → length xs ≡ length ys → (i : ℕ) → slice_get xs i ≡ None → slice_get ys i ≡ None
none-both [] [] e i n = refl
none-both [] (y ∷ ys) e i n = let no_way : ⊥ = omega (arith, e) in absurd no_way
none-both (x ∷ xs) [] e i n = refl
none-both (x ∷ xs) (y ∷ ys) e zero n = absurd (none-some (sym n))
none-both (x ∷ xs) (y ∷ ys) e (suc i) n = none-both xs ys (let s : length xs ≡ length ys = omega (arith, e) in s) i n

get-in : {X : Type 0} (xs : List X) (k : ℕ) (x : X) → slice_get xs k ≡ Some x → In x xs
get-in [] k x e = absurd (none-some e)
get-in (y ∷ ys) zero x e = inl (sym (some-same e))
get-in (y ∷ ys) (suc k) x e = inr (get-in ys k x e)

-- the places of a list whose elements all differ
place-one : {X : Type 0} (R : X → X → Type 0) → ((x : X) → ¬ R x x) → (xs : List X) → Pairwise R xs → (i j : ℕ) (x : X) → slice_get xs i ≡ Some x → slice_get xs j ≡ Some x → i ≡ j
place-one R never [] up i j x e f = absurd (none-some e)
place-one R never (y ∷ ys) up zero zero x e f = refl
place-one R never (y ∷ ys) up zero (suc j) x e f = absurd (never x (subst (λ z. R z x) (some-same e) (all_in (R y) ys x up.0 (get-in ys j x f))))
place-one R never (y ∷ ys) up (suc i) zero x e f = absurd (never x (subst (λ z. R z x) (some-same f) (all_in (R y) ys x up.0 (get-in ys i x e))))
place-one R never (y ∷ ys) up (suc i) (suc j) x e f = ap suc (place-one R never ys up.1 i j x e f)

key-never : (k : TagKey) → ¬ IsBelowKey k k
key-never k (inl h) = omega arith
key-never k (inr (e, inl h)) = omega arith
key-never k (inr (e, inr (f, h))) = omega arith

-- a symbol is at a location
pub symbol-location : (net : Network) (x : Symbol) → IsSymbol net x → x.loc < length net.locations
symbol-location net x symbol = by (kind_of net x.loc) refl symbol
  where
    by : (o : Option LocationKind) → kind_of net x.loc ≡ o → MatchOption o ⊥ (λ _. MatchOption x.fun ⊤ (λ f. MatchOption (places_of net f) ⊥ (λ places. Contains places x.loc))) → x.loc < length net.locations
    by None e s = absurd s
    by (Some kind) e s = is_location net x.loc kind e

-- The entries are those of the cells.
module _ (net : Network) (of : List Group) (tags : List ListedKey) where
  pub entries-owned : (owned : List OwnedCell) (entries : List Entry) → AllZip (IsCellEntry net of tags) owned entries → map owned_by (map entry_of entries) ≡ map owned_of owned
  entries-owned [] [] h = refl
  entries-owned [] (e ∷ es) h = absurd h
  entries-owned (c ∷ cs) [] h = absurd h
  entries-owned (c ∷ cs) (e ∷ es) h = ap₂ (λ x xs. x ∷ xs) h.0.owned (entries-owned cs es h.1)

  pub entry-is : (owned : List OwnedCell) (entries : List Entry) → AllZip (IsCellEntry net of tags) owned entries → (e : Entry) → In e entries → IsIngressEntry net of (tags_alone tags) (entry_of e)
  entry-is [] [] h e i = absurd i
  entry-is [] (x ∷ es) h e i = absurd h
  entry-is (c ∷ cs) [] h e i = absurd i
  entry-is (c ∷ cs) (x ∷ es) h e (inl s) = subst (λ y. IsIngressEntry net of (tags_alone tags) (entry_of y)) (sym s) h.0.is
  entry-is (c ∷ cs) (x ∷ es) h e (inr i) = entry-is cs es h.1 e i

-- Cells are of pairs of different hosts.
module _ (net : Network) (cells : ℕ → ℕ → List (Cell × ℕ)) where
  host-in : (loc : ℕ) → In loc (all_hosts net) → IsHost net loc
  host-in loc i = (in_filter (λ loc. is_host_kind (kind_of net loc)) (range_with_len 0 (length net.locations)) loc i).1

  abbrev between : ℕ → ℕ → List Owned
  between s d = cond (s == d) [] (map (λ c. record { source = s; dest = d; cell = c.0; group = c.1 }) (cells s d))

  record IsPair (o : Owned) : Type 0 where
    pub source : IsHost net o.source
    pub dest : IsHost net o.dest
    pub differ : o.source ≢ o.dest

  owned-pair : (o : Owned) → In o (all_owned net cells) → IsPair o
  owned-pair o i =
      let m = in_flat_map (λ s. flat_map (between s) (all_hosts net)) (all_hosts net) o i in
      let n = in_flat_map (between m.0) (all_hosts net) o m.2 in
      by m.0 n.0 (host-in m.0 m.1) (host-in n.0 n.1) (m.0 == n.0) refl n.2
    where
      by : (s d : ℕ) → IsHost net s → IsHost net d → (b : Bool) → (s == d) ≡ b → In o (cond b [] (map (λ c. record { source = s; dest = d; cell = c.0; group = c.1 }) (cells s d))) → IsPair o
      by s d hs hd true e j = absurd j
      by s d hs hd false e j =
          let k = in_map (λ c. record { source = s; dest = d; cell = c.0; group = c.1 }) (cells s d) o j in
          let es : o.source ≡ s = ap (λ x. x.source) k.2 in
          let ed : o.dest ≡ d = ap (λ x. x.dest) k.2 in
          record { source = subst (IsHost net) (sym es) hs; dest = subst (IsHost net) (sym ed) hd; differ = λ same. apart (sym e ∙ eq-eqb s d (sym es ∙ same ∙ ed)) }
        where
          apart : false ≡ true → ⊥
          apart x = cc

  pub cells-between : (owned : List OwnedCell) → map owned_of owned ≡ all_owned net cells → AreBetweenHosts net owned
  cells-between owned e = from owned (λ c i. owned-pair (owned_of c) (subst (In (owned_of c)) e (map_in owned_of owned c i)))
    where
      from : (cs : List OwnedCell) → ((c : OwnedCell) → In c cs → IsPair (owned_of c)) → AreBetweenHosts net cs
      from [] h = tt
      from (c ∷ cs) h = let p = h c (inl refl) in (record { source = p.source; dest = p.dest; differ = p.differ }, from cs (λ x i. h x (inr i)))

module _ (net : Network) (of : List Group) (cells : ℕ → ℕ → List (Cell × ℕ)) (tags : List ListedKey) (branches : List GroupBranches) (owned : List OwnedCell)
    (ok : IsNetwork net) (written_are : AreWrittenWalks net of) (prepared : IsPrepared net of cells tags branches owned)
    (rows : List Row) (rows_are : AreSpotRows net of tags (spots_from 0 branches) rows)
    (entries : List Entry) (entries_are : AllZip (IsCellEntry net of tags) owned entries) where
  abbrev locations : ℕ
  locations = length net.locations

  abbrev count : ℕ
  count = length tags + 1

  abbrev sorted : List Row
  sorted = sorted_rows locations count rows

  abbrev plan : Plan
  plan = record { tags = map key_of tags; rows = map table_row sorted; entries = map entry_of entries }

  groups_at : (g : ℕ) (group : GroupBranches) → slice_get branches g ≡ Some group → AreGroupBranches net of g group
  groups_at = prepared.branches_are.each

  later : Pairwise IsLater rows
  later = rows-later net of tags (spots_from 0 branches) rows
      (all-apart net of 0 branches (λ i group e. subst (λ n. AreGroupBranches net of n group) (let s : i ≡ 0 + i = omega arith in s) (groups_at i group e)))
      rows_are

  -- a row by the tags alone is a row of the plan
  row-here : (row : TableRow) → IsTableRow net of (tags_alone tags) row → IsTableRow net of plan row
  row-here row r = record { after = r.after; followed = r.followed; outside = r.outside; tag = r.tag; address = r.address; dest = r.dest; eth = r.eth; hop = r.hop; queue = r.queue }

  entry-here : (e : IngressEntry) → IsIngressEntry net of (tags_alone tags) e → IsIngressEntry net of plan e
  entry-here e r = record { pair = r.pair; hop = by e.hop r.hop; queue = r.queue }
    where
      by : (h : Option _) → IsFirstHop net of (tags_alone tags) e.group e.pair.source e.pair.dest h → IsFirstHop net of plan e.group e.pair.source e.pair.dest h
      by None x = x
      by (Some hop) x = x

  made : (row : Row) → In row rows → (spot : Spot) × In spot (spots_from 0 branches) × IsRowOf net of tags spot row
  made = row-spot net of tags (spots_from 0 branches) rows rows_are

  queue-above : (g : ℕ) → queue_in of g ≢ Some 0
  queue-above g e = by (slice_get branches g) refl
    where
      by : (o : Option GroupBranches) → slice_get branches g ≡ o → ⊥
      by (Some group) here = (groups_at g group here).queue_above ((groups_at g group here).queue ∙ e)
      by None here = none-some (sym (ap queue_at (none-both branches of prepared.branches_are.size g here)) ∙ e)

  rows-are : (row : TableRow) → Contains plan.rows row → IsTableRow net of plan row
  rows-are row c =
      let m = in_map table_row sorted row (in_from plan.rows row c) in
      let n = made m.0 (in-sorted count rows locations m.0 m.1) in
      subst (IsTableRow net of plan) (sym m.2) (row-here (table_row m.0) n.2.is)

  each-row : (g d : ℕ) (v : Vertex) (us : List Vertex) → Follows net of g d v us → (¬ IsHost net (loc_of v)) → (row : TableRow) × Contains plan.rows row × (row.group ≡ g) × (row.dest ≡ d) × (row.vertex ≡ v)
  each-row g d v us h outside = by (slice_get branches g) refl
    where
      by : (o : Option GroupBranches) → slice_get branches g ≡ o → (row : TableRow) × Contains plan.rows row × (row.group ≡ g) × (row.dest ≡ d) × (row.vertex ≡ v)
      by None here = absurd (subst (λ o. FollowsAt net o d v us) (none-both branches of prepared.branches_are.size g here) h)
      by (Some group) here =
          (table_row row, in_to plan.rows (table_row row) (map_in table_row sorted row (sorted-in count rows locations row m.1 tag loc)), is.group, is.dest ∙ found.2, is.vertex)
        where
          found : (branch : Branch) × Contains group.branches branch × (branch.dest ≡ d)
          found = (groups_at g group here).all d v us h

          branch : IsBranch net of g found.0
          branch = (groups_at g group here).each found.0 found.1

          followed : Follows net of g found.0.dest v us
          followed = subst (λ e. Follows net of g e v us) (sym found.2) h

          spot : In (g, found.0.dest, v) (spots_from 0 branches)
          spot = subst (λ n. In (n, found.0.dest, v) (spots_from 0 branches)) (let s : 0 + g ≡ g = omega arith in s)
              (spot-in net of 0 branches g group found.0 v here (in_from group.branches found.0 found.1) (in_from (map vertex_in found.0.steps) v (branch.all v us followed)))

          m : (row : Row) × In row rows × IsRowOf net of tags (g, found.0.dest, v) row
          m = spot-row net of tags (spots_from 0 branches) rows rows_are (g, found.0.dest, v) spot outside

          row : Row
          row = m.0

          is : IsRowOf net of tags (g, found.0.dest, v) row
          is = m.2

          tag : row.tag < count
          tag = let k = is.is.tag.0 in let lt : k < length (map key_of tags) = slice_get_within (map key_of tags) k _ is.is.tag.1 in let same = length-map-keys tags in let e = is.is.tag.2 in omega arith
            where
              length-map-keys : (ks : List ListedKey) → length (map key_of ks) ≡ length ks
              length-map-keys [] = refl
              length-map-keys (k ∷ ks) = ap suc (length-map-keys ks)

          loc : loc_in row < locations
          loc = subst (λ u. loc_of u < locations) (sym is.vertex) (symbol-location net v.symbol ((group_routing net of written_are).symbol g d v us h))

  pub plan-is : IsPlan net of plan
  plan-is = record {
    queues_above = queue-above;
    tags_differ = place-one IsBelowKey key-never (map key_of tags) prepared.tags_ascend;
    rows_are = rows-are;
    each_row = each-row;
    entries_are = λ e c. let m = in_map entry_of entries e (in_from plan.entries e c) in
        subst (IsIngressEntry net of plan) (sym m.2) (entry-here (entry_of m.0) (entry-is net of tags owned entries entries_are m.0 m.1));
  }

  pub in-order : IsInOrder net of cells plan
  in-order = record {
    tags = prepared.tags_ascend;
    tags_are = prepared.tags_are;
    rows = up sorted (sorted-up count rows later locations);
    entries = entries-owned net of tags owned entries entries_are ∙ prepared.owned_are;
  }
    where
      up : (xs : List Row) → Pairwise (λ r s. IsBelowRow (table_row r) (table_row s)) xs → Pairwise IsBelowRow (map table_row xs)
      up [] h = tt
      up (x ∷ xs) h = (all xs h.0, up xs h.1)
        where
          all : (ys : List Row) → AllByRecursion (λ s. IsBelowRow (table_row x) (table_row s)) ys → AllByRecursion (IsBelowRow (table_row x)) (map table_row ys)
          all [] k = tt
          all (y ∷ ys) k = (k.0, all ys k.1)

  -- Its tables.

  abbrev here : ℕ → TableRow → Bool
  here loc row = loc_of row.vertex == loc

  rows-part : (loc : ℕ) → loc < locations → filter (here loc) plan.rows ≡ map table_row (rows_at count rows loc)
  rows-part loc lt =
      filter-map (here loc) table_row sorted
      ∙ ap (map table_row) (filter-piece (λ r. r.vertex.symbol.loc == loc) (rows_at count rows) loc (range_with_len 0 locations)
      (λ k r i. ap (λ n. n == loc) (in-at count rows k r i).1) (range-up 0 locations) (in_range locations loc lt))

  switch-rules : (loc : ℕ) → loc < locations → rules_by loc (rows_at count rows loc) (entries_entering entries loc) ≡ rules_at net plan loc
  switch-rules loc lt = ap₂ (λ a b. a ++ (b ++ last_rule loc ∷ []))
      (sym (ap (flat_map rules_of_row) (rows-part loc lt) ∙ pieces-map rules_of_row table_row (rows_at count rows loc)))
      (sym (ap (map cell_rule) (filter-map (λ e. e.pair.link.to == loc) entry_of entries) ∙ map-map cell_rule entry_of (entries_entering entries loc)))

  pub rules-are : all_rules_by net (rows_at count rows) (entries_entering entries) ≡ table_rules net plan
  rules-are = flat_map-same (λ loc. rules_by loc (rows_at count rows loc) (entries_entering entries loc)) (rules_at net plan) (all_switches net) (λ loc i. switch-rules loc (located net is_switch_kind loc i))

  abbrev at_middlebox : ℕ → Bool
  at_middlebox loc = is_middlebox_kind (kind_of net loc)

  pub processes-are : all_processes_by net (rows_at count rows) ≡ table_processes net plan
  processes-are = sym (
      ap (map process_of) (filter-map (λ row. at_middlebox (loc_of row.vertex)) table_row sorted)
      ∙ map-map process_of table_row (filter (λ r. at_middlebox (loc_in r)) sorted)
      ∙ ap (map (λ r. process_of (table_row r))) (filter-pieces (λ r. at_middlebox (loc_in r)) (rows_at count rows) at_middlebox (range_with_len 0 locations) (λ k r i. ap at_middlebox (in-at count rows k r i).1))
      ∙ map-pieces (λ r. process_of (table_row r)) (rows_at count rows) (filter at_middlebox (range_with_len 0 locations)))

  pub tables-are : (rules : List Rule) (processes : List Process) → rules ≡ all_rules_by net (rows_at count rows) (entries_entering entries) → processes ≡ all_processes_by net (rows_at count rows) → AreTablesOf net of cells rules processes
  tables-are rules processes er ep = record {
    plan = plan;
    plan_is = plan-is;
    in_order = in-order;
    rules_are = er ∙ rules-are;
    processes_are = ep ∙ processes-are;
  }
