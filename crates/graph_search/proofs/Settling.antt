-- Entries are taken out, vertices are settled, and what is known at the end.
use Rattle.std.proofs.Common.{◌≡◌, ◌≢◌, ◌<◌, ◌≤◌, ◌+◌, ◌⊎◌, inl, inr, ℕ, suc, zero, Bool, true, false, List, [], ◌∷◌, ◌++◌, length, get_or, set, replicate, reverse, slice_get, Contains, Option, None, Some, refl, sym, ◌∙◌, ap, subst, append_assoc, arith}
use Rattle.std.proofs.lemmas.List.{length-set}
use Rattle.std.proofs.lemmas.List.Sorted.{IsPermutation-reverse, sum_by-IsPermutation}
use Rattle.std.proofs.lemmas.Grind.{reverse_onto}
use Rattle.merlin_model.proofs.Members.{in_from}
use Rattle.graph_search.specs.declared.graph.Edge.{Edge}
use Rattle.graph_search.specs.declared.search.SearchState.{SearchState}
use Rattle.graph_search.specs.Graphs.{known_at, IsEdgePath, cost_of_edge, cost_of_path, GoesBack, IsReachedAtCost, ArePotentials}
use Rattle.graph_search.specs.Frontiers.{HasAlso, IsTakenOut}
use Rattle.graph_search.specs.Departures.{IsLastToLeave}
use Rattle.graph_search.specs.Searching.{is_settled, cost_of_settled, ComesBack, IsSettling, IsReadyToSettle}
use Rattle.graph_search.proofs.Places.{some-same, none-some, same-or-not, le-or-lt, known-below, get-below, set-here, set-there, settled-other}
use Rattle.graph_search.proofs.Costs.{cost_of_settled-grows, cost_of_settled-more}
use Rattle.graph_search.proofs.Following.{cost-cons}

-- The cheapest entry is taken out.

module _ (n : ℕ) (edges : List Edge) (source low : ℕ) (s : SearchState) (searching : IsSettling n edges source low n 0 s) (entry : ℕ × ℕ) (rest : List (ℕ × ℕ)) (taken : IsTakenOut entry s.frontier rest) where
  entry-there : Contains s.frontier entry
  entry-there = (taken.rest entry).1 (inl refl)

  kept : (c v : ℕ) → v ≢ entry.1 → Contains s.frontier (c, v) → Contains rest (c, v)
  kept c v other there = by ((taken.rest (c, v)).0 there)
    where
      by : (◌≡◌ {A = ℕ × ℕ} (c, v) entry) ⊎ Contains rest (c, v) → Contains rest (c, v)
      by (inl same) = absurd (other (ap (λ x. x.1) same))
      by (inr h) = h

  -- that of a settled vertex is of no more use
  pub stale : is_settled s.settled entry.1 ≡ true → IsSettling n edges source low n 0 (record { distance = s.distance; before = s.before; settled = s.settled; frontier = rest })
  stale is_set = record {
    distances = searching.distances;
    befores = searching.befores;
    flags = searching.flags;
    start = searching.start;
    start_before = searching.start_before;
    settled = searching.settled;
    waiting = λ v c turns is_free d. kept c v (λ same. settled-other s.settled entry.1 v is_set is_free (sym same)) (searching.waiting v c turns is_free d);
    entries = λ c v there. searching.entries c v ((taken.rest (c, v)).1 (inr there));
    back = searching.back;
    unreached = searching.unreached;
    followed = searching.followed;
    small = searching.small;
  }

  -- another one is the nearest
  pub nearest : is_settled s.settled entry.1 ≡ false → IsReadyToSettle n edges source entry.0 entry.1 (record { distance = s.distance; before = s.before; settled = s.settled; frontier = rest })
  nearest is_free = record {
    within = own.1;
    fresh = is_free;
    distance = here;
    searching = record {
      distances = searching.distances;
      befores = searching.befores;
      flags = searching.flags;
      start = searching.start;
      start_before = searching.start_before;
      settled = λ v is_set. let h = searching.settled v is_set in let le = h.2 in let more = own.0 in (h.0, h.1, omega (arith, le, more));
      waiting = λ v c turns free d. kept c v turns (searching.waiting v c (below v c d) free d);
      entries = λ c v there. let old = (taken.rest (c, v)).1 (inr there) in let h = searching.entries c v old in (taken.cheapest (c, v) old, h.1, h.2);
      back = searching.back;
      unreached = searching.unreached;
      followed = λ k c e at is_set high d. searching.followed k c e at is_set (λ from. let lt = known-below s.distance e.from c d in let size = searching.distances in absurd (omega (arith, lt, size, from))) d;
      small = searching.small;
    };
  }
    where
      own : (low ≤ entry.0) × (entry.1 < n) × ((b : ℕ) × (known_at s.distance entry.1 ≡ Some b) × (b ≤ entry.0))
      own = searching.entries entry.0 entry.1 entry-there

      below : (v c : ℕ) → known_at s.distance v ≡ Some c → v ≢ n
      below v c d same = let lt = known-below s.distance v c d in let size = searching.distances in omega (arith, lt, size, same)

      here : known_at s.distance entry.1 ≡ Some entry.0
      here =
          let b = own.2 in
          let lt = own.1 in
          let waits : Contains s.frontier (b.0, entry.1) = searching.waiting entry.1 b.0 (λ same. omega (arith, lt, same)) is_free b.1 in
          let le = b.2 in
          let ge : entry.0 ≤ b.0 = taken.cheapest (b.0, entry.1) waits in
          let same : b.0 ≡ entry.0 = omega (arith, le, ge) in
          b.1 ∙ ap Some same

-- The nearest vertex is settled.

comes-settled : (edges : List Edge) (before : List (Option ℕ)) (settled : List Bool) (source u : ℕ) → u < length settled → (ks : List ℕ) (v : ℕ) → ComesBack edges before settled source ks v → ComesBack edges before (set settled u true) source ks v
comes-settled edges before settled source u within [] v h = h
comes-settled edges before settled source u within (j ∷ ks) v h = (h.0, h.1, h.2, h.3, by (same-or-not h.0.from u), comes-settled edges before settled source u within ks h.0.from h.5)
  where
    by : (h.0.from ≡ u) ⊎ (h.0.from ≢ u) → is_settled (set settled u true) h.0.from ≡ true
    by (inl same) = set-here settled u h.0.from true false within same
    by (inr other) = set-there settled u h.0.from true false other ∙ h.4

module _ (n : ℕ) (edges : List Edge) (source cost turn : ℕ) (s : SearchState) (near : IsReadyToSettle n edges source cost turn s) where
  turn-below : turn < length s.settled
  turn-below = let size = near.searching.flags in let lt = near.within in omega (arith, size, lt)

  was-free : (v : ℕ) → v ≢ turn → is_settled (set s.settled turn true) v ≡ is_settled s.settled v
  was-free v other = set-there s.settled turn v true false other

  pub own-settled : is_settled (set s.settled turn true) turn ≡ true
  own-settled = set-here s.settled turn turn true false turn-below refl

  pub room : (k : ℕ) (e : Edge) → slice_get edges k ≡ Some e → e.from ≡ turn → cost + e.cost ≤ cost_of_settled edges (set s.settled turn true)
  room k e at from = let more = cost_of_settled-more s.settled turn turn-below near.fresh edges k e at from in let low = near.searching.small turn cost near.distance in omega (arith, more, low)

  pub settles : IsSettling n edges source cost turn (length edges) (record { distance = s.distance; before = s.before; settled = set s.settled turn true; frontier = s.frontier })
  settles = record {
    distances = near.searching.distances;
    befores = near.searching.befores;
    flags = length-set s.settled turn true ∙ near.searching.flags;
    start = near.searching.start;
    start_before = near.searching.start_before;
    settled = settled;
    waiting = λ v c turns free d. near.searching.waiting v c turns (sym (was-free v turns) ∙ free) d;
    entries = near.searching.entries;
    back = λ v c d. let h = near.searching.back v c d in (h.0, comes-settled edges s.before s.settled source turn turn-below h.0 v h.1, h.2);
    unreached = near.searching.unreached;
    followed = followed;
    small = λ v c d. let le = near.searching.small v c d in let grows = cost_of_settled-grows s.settled turn turn-below near.fresh edges in omega (arith, le, grows);
  }
    where
      settled : (v : ℕ) → is_settled (set s.settled turn true) v ≡ true → (c : ℕ) × (known_at s.distance v ≡ Some c) × (c ≤ cost)
      settled v is_set = by (same-or-not v turn)
        where
          by : (v ≡ turn) ⊎ (v ≢ turn) → (c : ℕ) × (known_at s.distance v ≡ Some c) × (c ≤ cost)
          by (inl same) = (cost, ap (known_at s.distance) same ∙ near.distance, omega arith)
          by (inr other) = near.searching.settled v (sym (was-free v other) ∙ is_set)

      followed : (k c : ℕ) (e : Edge) → slice_get edges k ≡ Some e → is_settled (set s.settled turn true) e.from ≡ true → (e.from ≡ turn → length edges ≤ k) → known_at s.distance e.from ≡ Some c → (b : ℕ) × (known_at s.distance e.to ≡ Some b) × (b ≤ c + e.cost)
      followed k c e at is_set high d = by (same-or-not e.from turn)
        where
          by : (e.from ≡ turn) ⊎ (e.from ≢ turn) → (b : ℕ) × (known_at s.distance e.to ≡ Some b) × (b ≤ c + e.cost)
          by (inl same) = let ge = high same in let lt = get-below edges k e at in absurd (omega (arith, ge, lt))
          by (inr other) = near.searching.followed k c e at (sym (was-free e.from other) ∙ is_set) high d

-- all edges that leave it were followed
pub all-followed : (n : ℕ) (edges : List Edge) (source cost turn bound : ℕ) (s : SearchState) → IsSettling n edges source cost turn bound s → IsLastToLeave edges turn bound None → is_settled s.settled turn ≡ true → IsSettling n edges source cost n 0 s
all-followed n edges source cost turn bound s searching none own = record {
  distances = searching.distances;
  befores = searching.befores;
  flags = searching.flags;
  start = searching.start;
  start_before = searching.start_before;
  settled = searching.settled;
  waiting = λ v c turns free d. searching.waiting v c (λ same. settled-other s.settled turn v own free (sym same)) free d;
  entries = searching.entries;
  back = searching.back;
  unreached = searching.unreached;
  followed = λ k c e at is_set high d. searching.followed k c e at is_set (λ from. high-enough k e at from (le-or-lt bound k)) d;
  small = searching.small;
}
  where
    high-enough : (k : ℕ) (e : Edge) → slice_get edges k ≡ Some e → e.from ≡ turn → (bound ≤ k) ⊎ (k < bound) → bound ≤ k
    high-enough k e at from (inl le) = le
    high-enough k e at from (inr lt) = absurd (none k lt (e, at, from))

-- At the end.

back-path : (edges : List Edge) (before : List (Option ℕ)) (settled : List Bool) (source : ℕ) (ks : List ℕ) (v w : ℕ) (path : List ℕ) → ComesBack edges before settled source ks v → IsEdgePath edges v path w → IsEdgePath edges source (reverse ks ++ path) w
back-path edges before settled source [] v w path h p = subst (λ u. IsEdgePath edges u path w) h p
back-path edges before settled source (k ∷ ks) v w path h p =
    let more : IsEdgePath edges h.0.from (k ∷ path) w = (h.0, h.2, refl, subst (λ u. IsEdgePath edges u path w) (sym h.3) p) in
    let rest : IsEdgePath edges source (reverse ks ++ k ∷ path) w = back-path edges before settled source ks h.0.from w (k ∷ path) h.5 more in
    subst (λ l. IsEdgePath edges source l w) (sym (turned ks)) rest
  where
    turned : (ks : List ℕ) → reverse (k ∷ ks) ++ path ≡ reverse ks ++ k ∷ path
    turned ks = ap (λ l. l ++ path) (reverse_onto ks k []) ∙ append_assoc (reverse ks) (k ∷ []) path

back-goes : (edges : List Edge) (before : List (Option ℕ)) (settled : List Bool) (source : ℕ) → known_at before source ≡ None → (ks : List ℕ) (v : ℕ) → ComesBack edges before settled source ks v → GoesBack edges before source ks v
back-goes edges before settled source none [] v h = (h, ap (known_at before) h ∙ none)
back-goes edges before settled source none (k ∷ ks) v h = (h.0, h.1, h.2, h.3, back-goes edges before settled source none ks h.0.from h.5)

reverse-cost : (edges : List Edge) (ks : List ℕ) → cost_of_path edges (reverse ks) ≡ cost_of_path edges ks
reverse-cost edges ks = sum_by-IsPermutation (cost_of_edge edges) ks (reverse ks) (IsPermutation-reverse ks)

none-waits : (x : ℕ × ℕ) → Contains [] x → ⊥
none-waits x h = in_from [] x h

module _ (n : ℕ) (edges : List Edge) (source low : ℕ) (s : SearchState) (searching : IsSettling n edges source low n 0 s) (none : s.frontier ≡ []) where
  all-settled : (v c : ℕ) → known_at s.distance v ≡ Some c → is_settled s.settled v ≡ true
  all-settled v c d = by (is_settled s.settled v) refl
    where
      by : (b : Bool) → is_settled s.settled v ≡ b → b ≡ true
      by true q = refl
      by false q =
          let lt = known-below s.distance v c d in
          let size = searching.distances in
          absurd (none-waits (c, v) (subst (λ l. Contains l (c, v)) none (searching.waiting v c (λ same. omega (arith, lt, size, same)) q d)))

  -- along a path distances grow by no more than it costs
  path-bound : (path : List ℕ) (u v c : ℕ) → known_at s.distance u ≡ Some c → IsEdgePath edges u path v → (b : ℕ) × (known_at s.distance v ≡ Some b) × (b ≤ c + cost_of_path edges path)
  path-bound [] u v c d p = (c, ap (known_at s.distance) (sym p) ∙ d, omega arith)
  path-bound (k ∷ path) u v c d p =
      let from : known_at s.distance p.0.from ≡ Some c = ap (known_at s.distance) p.2 ∙ d in
      let step = searching.followed k c p.0 p.1 (all-settled p.0.from c from) (λ same. omega arith) from in
      let rest = path-bound path p.0.to v step.0 step.1 p.3 in
      let price = cost-cons edges k p.0 path p.1 in
      let low_step = step.2 in
      let low_rest = rest.2 in
      (rest.0, rest.1, omega (arith, price, low_step, low_rest))

  pub ended : ArePotentials n edges source (record { distance = s.distance; before = s.before })
  ended = record {
    distances = searching.distances;
    befores = searching.befores;
    reached = reached;
    unreached = λ v d. (searching.unreached v d, λ path p. let b = path-bound path source v 0 searching.start p in none-some (sym d ∙ b.1));
  }
    where
      reached : (v cost : ℕ) → known_at s.distance v ≡ Some cost → IsReachedAtCost edges s.before source v cost
      reached v cost d =
          let h = searching.back v cost d in
          record {
            back = h.0;
            goes_back = back-goes edges s.before s.settled source searching.start_before h.0 v h.1;
            path = subst (λ l. IsEdgePath edges source l v) (append-none (reverse h.0)) (back-path edges s.before s.settled source h.0 v v [] h.1 refl);
            costs = reverse-cost edges h.0 ∙ h.2;
            least = λ other p. let b = path-bound other source v 0 searching.start p in let same : b.0 ≡ cost = some-same (sym b.1 ∙ d) in let le = b.2 in omega (arith, same, le);
          }
        where
          append-none : {X : Type 0} (xs : List X) → xs ++ [] ≡ xs
          append-none [] = refl
          append-none (x ∷ xs) = ap (λ l. x ∷ l) (append-none xs)

length-same : {X : Type 0} (n : ℕ) (a : X) → length (replicate n a) ≡ n
length-same zero a = refl
length-same (suc n) a = ap suc (length-same n a)

same-everywhere : {X : Type 0} (n v : ℕ) (a : X) → get_or (replicate n a) v a ≡ a
same-everywhere zero v a = refl
same-everywhere (suc n) zero a = refl
same-everywhere (suc n) (suc v) a = same-everywhere n v a

-- At the beginning the source alone is reached.
pub begins : (n : ℕ) (edges : List Edge) (source : ℕ) (frontier : List (ℕ × ℕ)) → source < n → HasAlso (0, source) [] frontier →
    IsSettling n edges source 0 n 0 (record { distance = set (replicate n None) source (Some 0); before = replicate n None; settled = replicate n false; frontier = frontier })
begins n edges source frontier lt also = record {
  distances = length-set (replicate n None) source (Some 0) ∙ long;
  befores = long;
  flags = flags;
  start = here source refl;
  start_before = nothing source;
  settled = λ v is_set. absurd (clash (sym (free v) ∙ is_set));
  waiting = waiting;
  entries = entries;
  back = λ v c d. let k = known v c d in ([], k.0, k.1);
  unreached = λ v d. nothing v;
  followed = λ k c e at is_set high d. absurd (clash (sym (free e.from) ∙ is_set));
  small = λ v c d. let k = known v c d in let zero_cost = k.1 in omega (arith, zero_cost);
}
  where
    clash : false ≡ true → ⊥
    clash e = cc

    long : length {A = Option ℕ} (replicate n None) ≡ n
    long = length-same n None

    flags : length (replicate n false) ≡ n
    flags = length-same n false

    nothing : (v : ℕ) → known_at (replicate n None) v ≡ None
    nothing v = same-everywhere n v None

    free : (v : ℕ) → is_settled (replicate n false) v ≡ false
    free v = same-everywhere n v false

    here : (v : ℕ) → v ≡ source → known_at (set (replicate n None) source (Some 0)) v ≡ Some 0
    here v same = set-here (replicate n None) source v (Some 0) None (omega (arith, lt, long)) same

    known : (v c : ℕ) → known_at (set (replicate n None) source (Some 0)) v ≡ Some c → (v ≡ source) × (0 ≡ c)
    known v c d = by (same-or-not v source)
      where
        by : (v ≡ source) ⊎ (v ≢ source) → (v ≡ source) × (0 ≡ c)
        by (inl same) = (same, some-same (sym (here v same) ∙ d))
        by (inr other) = absurd (none-some (sym (set-there (replicate n None) source v (Some 0) None other ∙ nothing v) ∙ d))

    waiting : (v c : ℕ) → v ≢ n → is_settled (replicate n false) v ≡ false → known_at (set (replicate n None) source (Some 0)) v ≡ Some c → Contains frontier (c, v)
    waiting v c turns is_free d = let k = known v c d in (also (c, v)).1 (inl (λ i. (sym k.1 i, k.0 i)))

    entries : (c v : ℕ) → Contains frontier (c, v) → (0 ≤ c) × (v < n) × ((b : ℕ) × (known_at (set (replicate n None) source (Some 0)) v ≡ Some b) × (b ≤ c))
    entries c v there = by ((also (c, v)).0 there)
      where
        by : (◌≡◌ {A = ℕ × ℕ} (c, v) (0, source)) ⊎ Contains {X = ℕ × ℕ} [] (c, v) → (0 ≤ c) × (v < n) × ((b : ℕ) × (known_at (set (replicate n None) source (Some 0)) v ≡ Some b) × (b ≤ c))
        by (inl same) = let vs : v ≡ source = ap (λ x. x.1) same in (omega arith, omega (arith, vs, lt), (0, here v vs, omega arith))
        by (inr h) = absurd (none-waits (c, v) h)
