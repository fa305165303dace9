-- How a cell comes in at the first switch.
use Rattle.std.proofs.Common.{◌≡◌, ◌≢◌, ℕ, zero, suc, ◌<◌, ◌+◌, ◌==◌, inl, inr, List, [], ◌∷◌, ◌++◌, map, length, get_or, Contains, Option, None, Some, IsSome, option_map, slice_get, refl, sym, ◌∙◌, ap, subst, add-zero, zero-add, arith}
use Rattle.std.specs.List.{AllByRecursion, AllZip, range_with_len}
use Rattle.std.specs.Option.{option_and_then}
use Rattle.std.proofs.lemmas.Bool.{eqb-true}
use Rattle.merlin_model.specs.declared.network.HostAddress.{HostAddress}
use Rattle.merlin_model.specs.declared.network.DirectedLink.{DirectedLink}
use Rattle.merlin_model.specs.Networks.{Network, IsHost, IsNetwork, address_of, directed_links}
use Rattle.merlin_model.specs.Words.{at}
use Rattle.merlin_model.specs.Machine.{uplink_of}
use Rattle.merlin_model.proofs.Members.{In, in_from, in_to, in_map}
use Rattle.merlin_model.proofs.DirectedLinks.{uplink_of-is}
use Rattle.rules_model.specs.declared.attached_host.AttachedHost.{AttachedHost}
use Rattle.rules_model.specs.Products.{Vertex, loc_of, Group, Follows, AllowsWalk, AllowsWalkAt, start_in, queue_in, queue_at}
use Rattle.rules_model.specs.Tables.{IsHop, IsFirstHop}
use Rattle.rules_model.specs.AttachedHosts.{attached_host_at, attached_host_by}
use Rattle.rules_model.proofs.Setting.{starts_at}
use Rattle.rules_model.proofs.Trees.{group_routing, host_symbol}
use Rattle.configuration_model.specs.Cells.{table_cell}
use Rattle.rule_tables.specs.declared.branches.TagKey.{TagKey as ListedKey}
use Rattle.rule_tables.specs.declared.branches.Step.{Step}
use Rattle.rule_tables.specs.declared.branches.Branch.{Branch}
use Rattle.rule_tables.specs.declared.branches.GroupBranches.{GroupBranches}
use Rattle.rule_tables.specs.declared.branches.OwnedCell.{OwnedCell}
use Rattle.rule_tables.specs.declared.hops.Hop.{Hop as MadeHop}
use Rattle.rule_tables.specs.Branches.{key_of, vertex_in, vertex_at, next_step_at, LeadsOn, IsBranch, AreBranches}
use Rattle.rule_tables.specs.Hops.{CanHop, IsHopMade, table_hop}
use Rattle.rule_tables.specs.Rows.{IsReady, tags_alone}
use Rattle.rule_tables.specs.Entries.{attached_in, IsBetweenHosts, IsCellEntry}
use Rattle.rule_tables.proofs.Leading.{some-same, none-some}
use Rattle.rule_tables.proofs.Following.{is-start, start-not_last, can-hop}
use Rattle.rule_tables.proofs.Making.{find-is}
use Rattle.rule_tables.proofs.Planned.{none-both, symbol-location}

get-in : {X : Type 0} (xs : List X) (k : ℕ) (x : X) → slice_get xs k ≡ Some x → In x xs
get-in [] k x e = absurd (none-some e)
get-in (y ∷ ys) zero x e = inl (sym (some-same e))
get-in (y ∷ ys) (suc k) x e = inr (get-in ys k x e)

in-get : {X : Type 0} (xs : List X) (x : X) → In x xs → (k : ℕ) × (slice_get xs k ≡ Some x)
in-get [] x i = absurd i
in-get (y ∷ ys) x (inl e) = (0, ap Some (sym e))
in-get (y ∷ ys) x (inr i) = let m = in-get ys x i in (suc m.0, m.1)

-- The queue of a group.
pub queue-is : (net : Network) (of : List Group) (branches : List GroupBranches) → AreBranches net of branches → (g : ℕ) → option_and_then (λ group. group.queue) (slice_get branches g) ≡ queue_in of g
queue-is net of branches are g = by (slice_get branches g) refl
  where
    by : (o : Option GroupBranches) → slice_get branches g ≡ o → option_and_then (λ group. group.queue) o ≡ queue_in of g
    by None e = sym (ap queue_at (none-both branches of are.size g e))
    by (Some group) e = (are.each g group e).queue

module _ (net : Network) (ok : IsNetwork net) (of : List Group) (tags : List ListedKey) (ready : IsReady net of tags) (branches : List GroupBranches) (are : AreBranches net of branches)
    (g s d : ℕ) (source : IsHost net s) (dest : IsHost net d) (differ : s ≢ d) where
  abbrev Closed : Type 0
  Closed = ¬ AllowsWalk net of g s d

  -- No walk is allowed where there is no group, no branch, or no start.

  pub no-group : slice_get branches g ≡ None → Closed
  no-group none walk = subst (λ o. AllowsWalkAt net o s d) (none-both branches of are.size g none) walk

  module _ (group : GroupBranches) (at_group : slice_get branches g ≡ Some group) where
    pub no-branch : ((branch : Branch) → Contains group.branches branch → branch.dest ≢ d) → Closed
    no-branch none walk =
        let started = are.starts g s d source dest differ walk in
        let found = (are.each g group at_group).all d (start_in of g s) started.0 started.1 in
        none found.0 found.1 found.2

    module _ (branch : Branch) (among : Contains group.branches branch) (here : branch.dest ≡ d) where
      is : IsBranch net of g branch
      is = (are.each g group at_group).each branch among

      pub no-start : ((step : Step) → Contains branch.steps step → step.vertex.symbol.loc ≢ s) → Closed
      no-start none walk =
          let started = are.starts g s d source dest differ walk in
          let found = is.all (start_in of g s) started.0 (subst (λ e. Follows net of g e (start_in of g s) started.0) (sym here) started.1) in
          let m = in_map vertex_in branch.steps (start_in of g s) (in_from (map vertex_in branch.steps) (start_in of g s) found) in
          none m.0 (in_to branch.steps m.0 m.1) (ap loc_of (sym m.2) ∙ ap (λ x. x.loc) (starts_at of g s))

      module _ (step : Step) (among_steps : Contains branch.steps step) (at_source : step.vertex.symbol.loc ≡ s) where
        place : (k : ℕ) × (slice_get branch.steps k ≡ Some step)
        place = in-get branch.steps step (in_from branch.steps step among_steps)

        follow : (us : List Vertex) × LeadsOn branch.steps place.0 us × Follows net of g branch.dest (vertex_in step) us
        follow = is.follow place.0 (vertex_in step) (ap (option_map vertex_in) place.1)

        at_host : IsHost net (loc_of (vertex_in step))
        at_host = subst (IsHost net) (sym at_source) source

        pub no-next : step.next ≡ None → ⊥
        no-next none = by follow.0 follow.1 follow.2
          where
            by : (us : List Vertex) → LeadsOn branch.steps place.0 us → Follows net of g branch.dest (vertex_in step) us → ⊥
            by [] leads h = start-not_last net of ready.written_are ok g branch.dest (vertex_in step) h at_host (λ same. differ (sym at_source ∙ same ∙ here))
            by (u ∷ us) leads h = none-some (some-same (sym (ap (option_map (λ x. x.next)) place.1 ∙ ap Some none) ∙ leads.1))

        -- the vertex after the start
        pub record IsFirst (n : ℕ) : Type 0 where
          pub u : Vertex
          pub us : List Vertex
          pub follows : Follows net of g d (start_in of g s) (u ∷ us)
          pub stands : vertex_at branch.steps n ≡ Some u
          pub leads : LeadsOn branch.steps n us
          pub can : CanHop net (map key_of tags) g branch.dest u us

        pub first-is : (n : ℕ) → step.next ≡ Some n → IsFirst n
        first-is n next = by follow.0 follow.1 follow.2
          where
            next_is : next_step_at branch.steps place.0 ≡ Some (Some n)
            next_is = ap (option_map (λ x. x.next)) place.1 ∙ ap Some next

            start : vertex_in step ≡ start_in of g s
            start = is-start net of ready.written_are g branch.dest (vertex_in step) follow.0 follow.2 at_host ∙ ap (start_in of g) at_source

            by : (us : List Vertex) → LeadsOn branch.steps place.0 us → Follows net of g branch.dest (vertex_in step) us → IsFirst n
            by [] leads h = absurd (none-some (some-same (sym leads ∙ next_is)))
            by (u ∷ us) leads h =
                let same : leads.0 ≡ n = some-same (some-same (sym leads.1 ∙ next_is)) in
                let routes = group_routing net of ready.written_are in
                record {
                  u = u;
                  us = us;
                  follows = subst (λ T. T) (λ i. Follows net of g (here i) (start i) (u ∷ us)) h;
                  stands = ap (vertex_at branch.steps) (sym same) ∙ leads.2;
                  leads = subst (λ k. LeadsOn branch.steps k us) same leads.3;
                  can = can-hop net of ready.written_are tags ready g branch.dest u us (routes.goes_on g branch.dest (vertex_in step) u us h) (routes.inside g branch.dest (vertex_in step) u us h);
                }

        pub first-made : (n : ℕ) (first : IsFirst n) (hop : Option MadeHop) → IsHopMade net (map key_of tags) g branch.dest first.u first.us hop → IsFirstHop net of (tags_alone tags) g s d (option_map table_hop hop)
        first-made n first None made = absurd made
        first-made n first (Some hop) made = (first.u, first.us, first.follows, subst (λ e. IsHop net (map key_of tags) g e first.u first.us (table_hop hop)) here made)

-- Attached hosts.

pub record IsAttached (net : Network) (loc : ℕ) (host : AttachedHost) : Type 0 where
  pub loc_is : host.loc ≡ loc
  pub address : address_of net loc ≡ Some host.address
  pub present : Contains (directed_links net) host.link
  pub starts : host.link.from ≡ loc

pub attached : (net : Network) (loc : ℕ) (host : AttachedHost) → attached_host_at net loc ≡ Some host → IsAttached net loc host
attached net loc host e = by (address_of net loc) refl (uplink_of net loc) refl e
  where
    by : (a : Option HostAddress) → address_of net loc ≡ a → (w : Option DirectedLink) → uplink_of net loc ≡ w → attached_host_by loc a w ≡ Some host → IsAttached net loc host
    by None ea w ew h = absurd (none-some h)
    by (Some a) ea None ew h = absurd (none-some h)
    by (Some a) ea (Some w) ew h =
        let same = some-same h in
        let m = find-is (λ v. v.from == loc) (directed_links net) w ew in
        record {
          loc_is = sym (ap (λ x. x.loc) same);
          address = ea ∙ ap (λ x. Some x.address) same;
          present = subst (Contains (directed_links net)) (ap (λ x. x.link) same) (in_to (directed_links net) w m.0);
          starts = subst (λ x. x.from ≡ loc) (ap (λ x. x.link) same) (eqb-true w.from loc m.1);
        }

-- a host is attached
pub is-attached : (net : Network) → IsNetwork net → (loc : ℕ) → IsHost net loc → attached_host_at net loc ≡ None → ⊥
is-attached net ok loc host none = by (address_of net loc) host (uplink_of net loc) (uplink_of-is net ok loc host) none
  where
    by : (a : Option HostAddress) → IsSome a → (w : Option DirectedLink) → w ≡ Some ((ok.host_link loc host).0) → attached_host_by loc a w ≡ None → ⊥
    by None s w e h = let no_way : ⊥ = cc in no_way
    by (Some a) s None e h = none-some e
    by (Some a) s (Some w) e h = none-some (sym h)

host-location : (net : Network) (loc : ℕ) → IsHost net loc → loc < length net.locations
host-location net loc host = symbol-location net (at loc) (host_symbol net loc host)

pub host-there : (net : Network) (hosts : List (Option AttachedHost)) → hosts ≡ map (attached_host_at net) (range_with_len 0 (length net.locations)) → (loc : ℕ) → IsHost net loc → attached_in hosts loc ≡ attached_host_at net loc
host-there net hosts e loc host = ap (λ hs. attached_in hs loc) e ∙ ap (λ o. option_and_then (λ h. h) o) (there 0 (length net.locations) loc (host-location net loc host)) ∙ ap (attached_host_at net) (zero-add loc)
  where
    there : (a n k : ℕ) → k < n → slice_get (map (attached_host_at net) (range_with_len a n)) k ≡ Some (attached_host_at net (a + k))
    there a zero k lt = let no_way : ⊥ = omega arith in absurd no_way
    there a (suc n) zero lt = ap (λ j. Some (attached_host_at net j)) (sym (add-zero a))
    there a (suc n) (suc k) lt = there (a + 1) n k (omega arith) ∙ ap (λ j. Some (attached_host_at net j)) (let s : a + 1 + k ≡ a + suc k = omega arith in s)

-- The entry of a cell.
pub entry-made : (net : Network) (of : List Group) (tags : List ListedKey) (c : OwnedCell) (between : IsBetweenHosts net c) (source dest : AttachedHost) → attached_host_at net c.source ≡ Some source → attached_host_at net c.dest ≡ Some dest →
    (queue : Option ℕ) → queue ≡ queue_in of c.group → (hop : Option MadeHop) → IsFirstHop net of (tags_alone tags) c.group c.source c.dest (option_map table_hop hop) →
    IsCellEntry net of tags c (record { source = source; dest = c.dest; address = dest.address; cell = c.cell; group = c.group; queue = queue; hop = hop })
entry-made net of tags c between source dest at_source at_dest queue queue_is hop hop_is =
    let s = attached net c.source source at_source in
    let t = attached net c.dest dest at_dest in
    record {
      is = record {
        pair = record {
          differ = λ same. between.differ (sym s.loc_is ∙ same);
          source = ap (address_of net) s.loc_is ∙ s.address;
          dest = t.address;
          present = s.present;
          starts = s.starts ∙ sym s.loc_is;
        };
        hop = subst (λ l. IsFirstHop net of (tags_alone tags) c.group l c.dest (option_map table_hop hop)) (sym s.loc_is) hop_is;
        queue = queue_is;
      };
      owned = ap (λ l. record { source = l; dest = c.dest; cell = table_cell c.cell; group = c.group }) s.loc_is;
    }

-- Lists.

pub found-branch : (branches : List Branch) (k d : ℕ) (branch : Branch) → ((b : Branch) × (slice_get branches k ≡ Some b) × (b.dest ≡ d)) → slice_get branches k ≡ Some branch → Contains branches branch × (branch.dest ≡ d)
found-branch branches k d branch found at = (in_to branches branch (get-in branches k branch at), ap (λ b. b.dest) (some-same (sym at ∙ found.1)) ∙ found.2)

pub zip-push : {A B : Type 0} (R : A → B → Type 0) (xs : List A) (ys : List B) (x : A) (y : B) → AllZip R xs ys → R x y → AllZip R (xs ++ x ∷ []) (ys ++ y ∷ [])
zip-push R [] [] x y h r = (r, tt)
zip-push R [] (b ∷ ys) x y h r = absurd h
zip-push R (a ∷ xs) [] x y h r = absurd h
zip-push R (a ∷ xs) (b ∷ ys) x y h r = (h.0, zip-push R xs ys x y h.1 r)

pub all-at : {X : Type 0} (P : X → Type 0) (xs : List X) (i : ℕ) (d : X) → i < length xs → AllByRecursion P xs → P (get_or xs i d)
all-at P [] i d lt h = let no_way : ⊥ = omega arith in absurd no_way
all-at P (x ∷ xs) zero d lt h = h.0
all-at P (x ∷ xs) (suc i) d lt h = all-at P xs i d (omega arith) h.1
