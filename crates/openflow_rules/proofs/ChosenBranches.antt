-- The branches of a group, with its walk if it is guaranteed.
use Rattle.std.proofs.Common.{◌≡◌, ◌≢◌, ◌≤◌, ◌<◌, inl, inr, ℕ, zero, suc, nat_lt, Bool, true, false, cond, List, [], ◌∷◌, length, map, slice_get, Contains, Option, None, Some, refl, sym, ◌∙◌, ap, subst, arith}
use Rattle.std.specs.List.{AllByRecursion, AllZip, range_with_len}
use Rattle.merlin_model.specs.declared.policy.Ends.{Ends}
use Rattle.merlin_model.specs.declared.policy.Symbol.{Symbol}
use Rattle.merlin_model.specs.Networks.{Network, IsHost, Pairwise, kind_of}
use Rattle.merlin_model.specs.Words.{IsWalk, WalksFrom}
use Rattle.merlin_model.proofs.Members.{In, in_from, in_to}
use Rattle.merlin_model.proofs.WordLaws.{walk-goes_on}
use Rattle.rules_model.specs.Products.{SymbolAutomaton, Vertex, start_of, WrittenWalk, Group, IsFollowedBy, TreeFollows, FollowsIn, FollowsAt, Follows, AllowsWalkIn, AllowsWalkAt, AllowsWalk, start_at, start_in, queue_at}
use Rattle.rules_model.specs.Tables.{all_hosts, is_host_kind}
use Rattle.rules_model.proofs.Trees.{after-in}
use Rattle.rules_model.proofs.Pieces.{range-up, filter-up}
use Rattle.product_graph.proofs.Lists.{some-same, none-some, contains-get, contains-last, contains-one, get-below, map-length}
use Rattle.configuration_model.specs.Groups.{vertices_after, written_after, written_walk_of, HasDifferentVertices}
use Rattle.configuration_model.proofs.Decided.{host-listed}
use Rattle.rule_tables.specs.declared.branches.Step.{Step}
use Rattle.rule_tables.specs.declared.branches.Branch.{Branch}
use Rattle.rule_tables.specs.declared.branches.GroupBranches.{GroupBranches}
use Rattle.rule_tables.specs.Branches.{vertex_in, vertex_at, next_step_at, LeadsOn, IsBranch, AreGroupBranches}
use Rattle.openflow_rules.specs.GroupSpans.{span_to}
use Rattle.openflow_rules.specs.Gathered.{IsBranchTo, IsBranchFor}
use Rattle.openflow_rules.specs.WalkBranches.{place_after}
use Rattle.openflow_rules.specs.WalkGroups.{IsWalkGroup}
use Rattle.openflow_rules.proofs.Sinking.{get-mapped}

-- Best effort.

abbrev group_with : SymbolAutomaton → Option WrittenWalk → Option ℕ → Group
group_with a w q = record { automaton = a; written = w; queue = q }

pub same-group : (b c : Group) → b.automaton ≡ c.automaton → b.written ≡ c.written → b.queue ≡ c.queue → b ≡ c
same-group b c a w q = ap (λ x. group_with x b.written b.queue) a ∙ ap (λ x. group_with c.automaton x b.queue) w ∙ ap (λ x. group_with c.automaton c.written x) q

module _ (net : Network) (bare groups : List Group) (g : ℕ) (c : Group) (at_bare : slice_get bare g ≡ Some c) (at_groups : slice_get groups g ≡ Some c) where
  same : slice_get bare g ≡ slice_get groups g
  same = at_bare ∙ sym at_groups

  same-branch : (branch : Branch) → IsBranch net bare g branch → IsBranch net groups g branch
  same-branch branch h = record {
    follow = λ k v e. let p = h.follow k v e in (p.0, p.1, subst (λ o. FollowsAt net o branch.dest v p.0) same p.2);
    all = λ v us f. h.all v us (subst (λ o. FollowsAt net o branch.dest v us) (sym same) f);
    differ = h.differ;
  }

  -- a group of best effort has one branch for each host
  branch-in : (j : ℕ) (hosts : List ℕ) (own : List Branch) → AllZip (IsBranchFor net bare) (map (span_to g j) hosts) own → (branch : Branch) → In branch own → (d : ℕ) × IsBranchTo net bare g d branch
  branch-in j [] [] h branch i = absurd i
  branch-in j [] (b ∷ own) h branch i = absurd h
  branch-in j (d ∷ hosts) [] h branch i = absurd h
  branch-in j (d ∷ hosts) (b ∷ own) h branch (inl e) = (d, subst (IsBranchTo net bare g d) (sym e) h.0)
  branch-in j (d ∷ hosts) (b ∷ own) h branch (inr i) = branch-in j hosts own h.1 branch i

  branch-to : (j : ℕ) (hosts : List ℕ) (own : List Branch) → AllZip (IsBranchFor net bare) (map (span_to g j) hosts) own → (d : ℕ) → In d hosts → (branch : Branch) × In branch own × IsBranchTo net bare g d branch
  branch-to j [] own h d i = absurd i
  branch-to j (x ∷ hosts) [] h d i = absurd h
  branch-to j (x ∷ hosts) (b ∷ own) h d (inl e) = (b, inl refl, subst (λ y. IsBranchTo net bare g y b) (sym e) h.0)
  branch-to j (x ∷ hosts) (b ∷ own) h d (inr i) = let r = branch-to j hosts own h.1 d i in (r.0, inr r.1, r.2)

  dests-up : (j : ℕ) (hosts : List ℕ) (own : List Branch) → AllZip (IsBranchFor net bare) (map (span_to g j) hosts) own → Pairwise (λ k l. k < l) hosts → Pairwise (λ a b. a.dest < b.dest) own
  dests-up j [] [] h p = tt
  dests-up j [] (b ∷ own) h p = absurd h
  dests-up j (d ∷ hosts) [] h p = absurd h
  dests-up j (d ∷ hosts) (b ∷ own) h p = (each hosts own h.1 p.0, dests-up j hosts own h.1 p.1)
    where
      each : (ds : List ℕ) (bs : List Branch) → AllZip (IsBranchFor net bare) (map (span_to g j) ds) bs → AllByRecursion (λ x. d < x) ds → AllByRecursion (λ x. b.dest < x.dest) bs
      each [] [] z q = tt
      each [] (y ∷ bs) z q = absurd z
      each (x ∷ ds) [] z q = absurd z
      each (x ∷ ds) (y ∷ bs) z q = (subst (λ n. n < y.dest) (sym h.0.dest) (subst (λ n. d < n) (sym z.0.dest) q.0), each ds bs z.1 q.1)

  hosts-up : Pairwise (λ k l. k < l) (all_hosts net)
  hosts-up = filter-up (λ k l. k < l) (λ loc. is_host_kind (kind_of net loc)) (range_with_len 0 (length net.locations)) (range-up 0 (length net.locations))

  module _ (effort : c.written ≡ None) (free : c.queue ≡ None) (j : ℕ) (own : List Branch) (are : AllZip (IsBranchFor net bare) (map (span_to g j) (all_hosts net)) own) where
    in-tree : (d : ℕ) (v : Vertex) (us : List Vertex) → Follows net groups g d v us → TreeFollows net c.automaton d v us
    in-tree d v us f = subst (λ o. FollowsIn net c.automaton o d v us) effort (subst (λ o. FollowsAt net o d v us) at_groups f)

    pub effort-branches : (group : GroupBranches) → group.queue ≡ None → group.branches ≡ own → AreGroupBranches net groups g group
    effort-branches group queue branches = record {
      queue = queue ∙ sym (ap queue_at at_groups ∙ free);
      queue_above = λ is. none-some (sym queue ∙ is);
      ascend = subst (Pairwise (λ a b. a.dest < b.dest)) (sym branches) (dests-up j (all_hosts net) own are hosts-up);
      each = λ branch there. same-branch branch (branch-in j (all_hosts net) own are branch (in_from own branch (subst (λ l. Contains l branch) branches there))).1.is;
      all = λ d v us f.
          let b = branch-to j (all_hosts net) own are d (host-listed net d (in-tree d v us f).dest_host) in
          (b.0, subst (λ l. Contains l b.0) (sym branches) (in_to own b.0 b.1), b.2.dest);
    }

    pub effort-starts : (s d : ℕ) → IsHost net s → IsHost net d → s ≢ d → AllowsWalk net groups g s d → (us : List Vertex) × Follows net groups g d (start_in groups g s) us
    effort-starts s d host dest differ allows =
        let b = branch-to j (all_hosts net) own are d (host-listed net d dest) in
        let k = contains-get (map vertex_in b.0.steps) (start_in bare g s) (b.2.starts s host differ (subst (λ o. AllowsWalkAt net o s d) (sym same) allows)) in
        let p = b.2.is.follow k.0 (start_in bare g s) (sym (get-mapped vertex_in b.0.steps k.0) ∙ k.1) in
        (p.0, subst (λ o. FollowsAt net o d (start_at o s) p.0) same (subst (λ x. Follows net bare g x (start_in bare g s) p.0) b.2.dest p.2))

-- Guaranteed.

-- the vertices of a list stand at their places, each with what comes after it
abbrev IsPlaced : List Vertex → ℕ → Vertex → List Vertex → Type 0
IsPlaced [] k v us = ⊥
IsPlaced (x ∷ xs) zero v us = (v ≡ x) × (us ≡ xs)
IsPlaced (x ∷ xs) (suc k) v us = IsPlaced xs k v us

placed : (vs : List Vertex) (k : ℕ) (v : Vertex) → slice_get vs k ≡ Some v → (us : List Vertex) × IsPlaced vs k v us
placed [] k v e = absurd (none-some e)
placed (x ∷ xs) zero v e = (xs, (sym (some-same e), refl))
placed (x ∷ xs) (suc k) v e = placed xs k v e

placed-followed : (vs : List Vertex) (k : ℕ) (v : Vertex) (us : List Vertex) → IsPlaced vs k v us → IsFollowedBy vs v us
placed-followed [] k v us h = absurd h
placed-followed (x ∷ xs) zero v us h = inl h
placed-followed (x ∷ xs) (suc k) v us h = inr (placed-followed xs k v us h)

placed-at : (vs : List Vertex) (k : ℕ) (v : Vertex) (us : List Vertex) → IsPlaced vs k v us → slice_get vs k ≡ Some v
placed-at [] k v us h = absurd h
placed-at (x ∷ xs) zero v us h = ap Some (sym h.0)
placed-at (x ∷ xs) (suc k) v us h = placed-at xs k v us h

placed-next : (vs : List Vertex) (k : ℕ) (v u : Vertex) (us : List Vertex) → IsPlaced vs k v (u ∷ us) → IsPlaced vs (suc k) u us
placed-next [] k v u us h = absurd h
placed-next (x ∷ xs) zero v u us h = subst (λ ys. IsPlaced ys zero u us) h.1 (refl, refl)
placed-next (x ∷ xs) (suc k) v u us h = placed-next xs k v u us h

placed-last : (vs : List Vertex) (k : ℕ) (v : Vertex) → IsPlaced vs k v [] → length vs ≡ suc k
placed-last [] k v h = absurd h
placed-last (x ∷ xs) zero v h = ap (λ ys. suc (length ys)) (sym h.1)
placed-last (x ∷ xs) (suc k) v h = ap suc (placed-last xs k v h)

last-place : (n k : ℕ) → n ≡ suc k → place_after n k ≡ None
last-place n k e = by (nat_lt (suc k) n) refl
  where
    by : (b : Bool) → nat_lt (suc k) n ≡ b → cond b (Some (suc k)) None ≡ None
    by true is = absurd (let lt : suc k < n = grind arith in omega (arith, lt, e))
    by false is = refl

next-place : (n k : ℕ) → suc k < n → place_after n k ≡ Some (suc k)
next-place n k lt = by (nat_lt (suc k) n) refl
  where
    by : (b : Bool) → nat_lt (suc k) n ≡ b → cond b (Some (suc k)) None ≡ Some (suc k)
    by true is = refl
    by false is = absurd (let ge : n ≤ suc k = grind arith in omega (arith, lt, ge))

module _ (steps : List Step) (vs : List Vertex) (vertices : map vertex_in steps ≡ vs) (follows : (k : ℕ) → k < length steps → next_step_at steps k ≡ Some (place_after (length steps) k)) where
  long : length steps ≡ length vs
  long = sym (map-length vertex_in steps) ∙ ap length vertices

  at-step : (k : ℕ) (v : Vertex) → slice_get vs k ≡ Some v → vertex_at steps k ≡ Some v
  at-step k v e = sym (get-mapped vertex_in steps k) ∙ ap (λ l. slice_get l k) vertices ∙ e

  -- each vertex leads on through those after it
  leads-on : (k : ℕ) (v : Vertex) (us : List Vertex) → IsPlaced vs k v us → LeadsOn steps k us
  leads-on k v [] h =
      let l = long in
      let end = placed-last vs k v h in
      follows k (omega (arith, l, end)) ∙ ap Some (last-place (length steps) k (l ∙ end))
  leads-on k v (u ∷ us) h =
      let l = long in
      let next = placed-next vs k v u us h in
      let here = placed-at vs (suc k) u us next in
      let lt = get-below vs (suc k) u here in
      (suc k, follows k (omega (arith, l, lt)) ∙ ap Some (next-place (length steps) k (omega (arith, l, lt))), at-step (suc k) u here, leads-on (suc k) u us next)

  pub walk-follow : (k : ℕ) (v : Vertex) → vertex_at steps k ≡ Some v → (us : List Vertex) × LeadsOn steps k us × IsFollowedBy vs v us
  walk-follow k v e =
      let p = placed vs k v (ap (λ l. slice_get l k) (sym vertices) ∙ get-mapped vertex_in steps k ∙ e) in
      (p.0, leads-on k v p.0 p.1, placed-followed vs k v p.0 p.1)

-- the vertices of a walk before its end: the start, and those after it
pub walk-vertices : (net : Network) (a : SymbolAutomaton) (e : Ends) (w : List Symbol) → IsWalk net e.src e.dst w → vertices_after a 0 w ≡ start_of a e.src ∷ written_after a e w
walk-vertices net a e w walk = by w (walk-goes_on net e.src e.dst w walk)
  where
    by : (w : List Symbol) → WalksFrom net e.src e.dst w → vertices_after a 0 w ≡ start_of a e.src ∷ written_after a e w
    by [] h = absurd h
    by (x ∷ []) h = absurd h.4
    by (x ∷ y ∷ rest) h = ap (λ (z : Symbol). record { symbol = z; state = a.step 0 z } ∷ vertices_after a (a.step 0 z) (y ∷ rest)) h.0

module _ (net : Network) (groups : List Group) (g : ℕ) (c : Group) (there : slice_get groups g ≡ Some c) (e : Ends) (w : List Symbol) (written : c.written ≡ Some (written_walk_of c.automaton e w)) where
  to-follows : (d : ℕ) (v : Vertex) (us : List Vertex) → (d ≡ e.dst) × IsFollowedBy (start_of c.automaton e.src ∷ written_after c.automaton e w) v us → Follows net groups g d v us
  to-follows d v us f = subst (λ o. FollowsAt net o d v us) (sym there) (subst (λ o. FollowsIn net c.automaton o d v us) (sym written) f)

  from-follows : (d : ℕ) (v : Vertex) (us : List Vertex) → Follows net groups g d v us → (d ≡ e.dst) × IsFollowedBy (start_of c.automaton e.src ∷ written_after c.automaton e w) v us
  from-follows d v us f = subst (λ o. FollowsIn net c.automaton o d v us) written (subst (λ o. FollowsAt net o d v us) there f)

  pub walk-starts : (s d : ℕ) → AllowsWalk net groups g s d → (us : List Vertex) × Follows net groups g d (start_in groups g s) us
  walk-starts s d allows =
      let h = subst (λ o. AllowsWalkIn net c.automaton o s d) written (subst (λ o. AllowsWalkAt net o s d) there allows) in
      (written_after c.automaton e w, subst (λ o. Follows net groups g d (start_at o s) (written_after c.automaton e w)) (sym there) (to-follows d (start_of c.automaton s) (written_after c.automaton e w) (h.1, inl (ap (start_of c.automaton) h.0, refl))))

  pub walk-branches : (k : ℕ) → c.queue ≡ Some (suc k) → IsWalk net e.src e.dst w → HasDifferentVertices c.automaton e w → (group : GroupBranches) → IsWalkGroup c.automaton w e.dst (suc k) group → AreGroupBranches net groups g group
  walk-branches k queue walk simple group is = record {
    queue = is.queue_is ∙ sym (ap queue_at there ∙ queue);
    queue_above = λ zero_is. absurd (let no : suc k ≡ 0 = some-same (sym is.queue_is ∙ zero_is) in omega (arith, no));
    ascend = subst (Pairwise (λ a b. a.dest < b.dest)) (sym is.alone) (tt, tt);
    each = λ branch there. subst (IsBranch net groups g) (sym (contains-one is.branch branch (subst (λ l. Contains l branch) is.alone there))) one;
    all = λ d v us f. (is.branch, subst (λ l. Contains l is.branch) (sym is.alone) (contains-last [] is.branch), is.is.dest_is ∙ sym (from-follows d v us f).0);
  }
    where
      vs : List Vertex
      vs = start_of c.automaton e.src ∷ written_after c.automaton e w

      vertices : map vertex_in is.branch.steps ≡ vs
      vertices = is.is.vertices ∙ walk-vertices net c.automaton e w walk

      one : IsBranch net groups g is.branch
      one = record {
        follow = λ i v at_i. let p = walk-follow is.branch.steps vs vertices is.is.follows i v at_i in (p.0, p.1, to-follows is.branch.dest v p.0 (is.is.dest_is, p.2));
        all = λ v us f. subst (λ l. Contains l v) (sym vertices) (in_to vs v (after-in vs v us (from-follows is.branch.dest v us f).1));
        differ = subst (Pairwise (λ u v. u ≢ v)) (sym vertices) simple;
      }
