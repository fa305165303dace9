-- The hosts that send along the rows of a statement are its live sources.
use Rattle.std.proofs.Common.{◌≡◌, ◌<◌, ◌≤◌, ◌+◌, ◌⊎◌, ◌↔◌, inl, inr, ℕ, zero, suc, Bool, true, false, not, cond, ◌||◌, List, [], ◌∷◌, ◌++◌, length, map, filter, take, get_or, slice_get, Contains, Option, None, Some, refl, sym, ◌∙◌, ap, subst, arith}
use Rattle.std.specs.Prelude.{IsSome, unwrap_or}
use Rattle.std.specs.List.{AllByRecursion, list_any, range_with_len, slice_index_or}
use Rattle.merlin_model.specs.declared.network.HostAddress.{HostAddress}
use Rattle.merlin_model.specs.declared.policy.Pred.{Pred, AnyOf, Not}
use Rattle.merlin_model.specs.Packets.{Packet, source_of, destination_of}
use Rattle.merlin_model.specs.Predicates.{holds, IsPred, AnyOf-holds, Not-holds}
use Rattle.merlin_model.specs.Networks.{Network, IsHost, Pairwise, address_of, kind_of}
use Rattle.merlin_model.specs.Policies.{Policy, Statement, match_of, match_among, paths_of, IsOnPath}
use Rattle.merlin_model.specs.Rates.{IsLiveSource, AreLiveSources}
use Rattle.merlin_model.proofs.Members.{In, in_from, in_to, in_map, map_in, in_filter}
use Rattle.rules_model.specs.Tables.{all_hosts, is_host_kind}
use Rattle.predicate_split.specs.Between.{HoldsBetween}
use Rattle.predicate_split.proofs.Starting.{none_formed}
use Rattle.product_graph.proofs.Lists.{none-some, false-true, all-at, all-get, all-contained, contained-all, get-none, contains-left, contains-last, contains-snoc, contains-none, take-more, pairwise-snoc, pairwise-last}
use Rattle.path_automaton.proofs.Building.{get-map}
use Rattle.policy_check.specs.Checked.{IsSoundPolicy}
use Rattle.policy_check.proofs.Matched.{belongs}
use Rattle.policy_check.proofs.Guaranteed.{pairwise-increasing}
use Rattle.configuration_model.specs.Checked.{preds_of}
use Rattle.configuration_model.specs.Hosts.{host_at}
use Rattle.configuration_model.proofs.Decided.{host-listed}
use Rattle.openflow_rules.specs.declared.walk_rows.WalkRow.{WalkRow}
use Rattle.openflow_rules.specs.Sources.{StartsWalk, IsWalkRow, AreWalkRows, IsRowWithin, pred_of_statement, TellsStatement, HoldsNowhereFrom, SendsTo, SendsAlong, IsPutIf, AreSenders}
use Rattle.openflow_rules.proofs.Inner.{hosts-below}
use Rattle.openflow_rules.proofs.Rooms.{all-mapped}

-- The predicate of a statement.

one-less : (m n : ℕ) → 1 + m ≡ suc n → m ≡ n
one-less m n e = omega (arith, e)

one-more : (m n : ℕ) → m ≡ n → 1 + m ≡ suc n
one-more m n e = omega (arith, e)

no-suc : {n : ℕ} → 0 ≡ suc n → ⊥
no-suc e = omega (arith, e)

-- no statement matches a packet exactly where no predicate holds of it
unmatched : (ss : List Statement) (p : Packet) → (match_among ss p ≡ length ss) ↔ (list_any (λ q. holds q p) (map (λ s. s.pred) ss) ≡ false)
unmatched [] p = (λ e. refl, λ e. refl)
unmatched (s ∷ ss) p = by (holds s.pred p) (unmatched ss p)
  where
    by : (b : Bool) → (match_among ss p ≡ length ss) ↔ (list_any (λ q. holds q p) (map (λ s. s.pred) ss) ≡ false) →
        (cond b 0 (1 + match_among ss p) ≡ suc (length ss)) ↔ ((b || list_any (λ q. holds q p) (map (λ s. s.pred) ss)) ≡ false)
    by true rest = (λ e. absurd (no-suc e), λ e. absurd (false-true (sym e)))
    by false rest = (λ e. rest.0 (one-less (match_among ss p) (length ss) e), λ e. one-more (match_among ss p) (length ss) (rest.1 e))

not-true : (b : Bool) → (b ≡ false) ↔ (not b ≡ true)
not-true true = (λ e. absurd (false-true (sym e)), λ e. absurd (false-true e))
not-true false = (λ e. refl, λ e. refl)

few-paths : (policy : Policy) → length (paths_of policy) ≤ length policy.statements + 1
few-paths policy = by policy.statements policy.default_path
  where
    by : (ss : List Statement) (d : _) → length (map (λ s. s.path) ss ++ Rattle.std.specs.Option.option_to_list d) ≤ length ss + 1
    by [] None = omega arith
    by [] (Some p) = omega arith
    by (s ∷ ss) d = let rest = by ss d in omega (arith, rest)

pub tells-statement : (policy : Policy) → IsSoundPolicy policy → (i : ℕ) → i < length (paths_of policy) → TellsStatement policy i (pred_of_statement policy i)
tells-statement policy sound i lt = by (slice_get policy.statements i) refl
  where
    preds : AllByRecursion IsPred (preds_of policy)
    preds = all-mapped IsPred (λ (s : Statement). s.pred) policy.statements sound.preds

    by : (o : Option Statement) → slice_get policy.statements i ≡ o → TellsStatement policy i (pred_of_statement policy i)
    by (Some s) e =
        let pred : s.pred ≡ pred_of_statement policy i = sym (ap (λ o. unwrap_or o (Not (AnyOf (preds_of policy)))) (get-map (λ (s : Statement). s.pred) policy.statements i s e)) in
        subst (TellsStatement policy i) pred (record { formed = all-get (λ (s : Statement). IsPred s.pred) policy.statements i s sound.preds e; tells = λ p packet. belongs policy p i s sound.disjoint packet e })
    by None e =
        let past = get-none policy.statements i e in
        let few = few-paths policy in
        let last : i ≡ length policy.statements = omega (arith, past, few, lt) in
        let none : slice_get (preds_of policy) i ≡ None = missing policy.statements i e in
        let pred : Not (AnyOf (preds_of policy)) ≡ pred_of_statement policy i = sym (ap (λ o. unwrap_or o (Not (AnyOf (preds_of policy)))) none) in
        subst (TellsStatement policy i) pred (record { formed = none_formed (preds_of policy) preds; tells = λ p packet. told last p })
      where
        missing : (ss : List Statement) (k : ℕ) → slice_get ss k ≡ None → slice_get (map (λ s. s.pred) ss) k ≡ None
        missing [] k e = refl
        missing (s ∷ ss) zero e = absurd (none-some (sym e))
        missing (s ∷ ss) (suc k) e = missing ss k e

        is : (p : Packet) → holds (Not (AnyOf (preds_of policy))) p ≡ not (list_any (λ q. holds q p) (preds_of policy))
        is p = Not-holds (AnyOf (preds_of policy)) p ∙ ap not (AnyOf-holds (preds_of policy) p)

        told : i ≡ length policy.statements → (p : Packet) → (match_of policy p ≡ i) ↔ (holds (Not (AnyOf (preds_of policy))) p ≡ true)
        told last p =
            let any = list_any (λ q. holds q p) (preds_of policy) in (
              λ m. is p ∙ (not-true any).0 ((unmatched policy.statements p).0 (m ∙ last)),
              λ h. (unmatched policy.statements p).1 ((not-true any).1 (sym (is p) ∙ h)) ∙ sym last,
            )

-- Hosts and their addresses.

host-address : (net : Network) (s : ℕ) → IsHost net s → address_of net s ≡ Some (host_at net s)
host-address net s h = by (address_of net s) h
  where
    by : (o : Option HostAddress) → IsSome o → o ≡ Some (unwrap_or o (record { eth = 0; ip = 0 }))
    by None is = let no : ⊥ = cc in absurd no
    by (Some a) is = refl

address-is : (net : Network) (s : ℕ) (a : HostAddress) → address_of net s ≡ Some a → a ≡ host_at net s
address-is net s a e = sym (ap (λ o. unwrap_or o (record { eth = 0; ip = 0 })) e)

-- Sending.

pub shut-out : (net : Network) (pred : Pred) (rows : List WalkRow) (s : ℕ) → HoldsNowhereFrom (host_at net s) pred → ¬ SendsAlong net pred rows s
shut-out net pred rows s shut sends = let between = sends.2.1 in false-true (sym (shut between.packet between.source) ∙ between.holds)

module _ (net : Network) (policy : Policy) (i : ℕ) (pred : Pred) (tells : TellsStatement policy i pred) (rows : List WalkRow) (are : AreWalkRows net policy i rows) where
  sends-live : (s : ℕ) → SendsAlong net pred rows s → IsLiveSource net policy i s
  sends-live s h =
      let row = contained-all (IsWalkRow net policy i) rows h.0 are.each h.1 in
      let walk = (row.each s).0 h.2.0 in
      let between = h.2.1 in
      let matches : match_of policy between.packet ≡ i = (tells.tells between.packet between.is_packet).1 between.holds in
      record {
        packet = between.packet;
        is_packet = between.is_packet;
        matches = matches;
        word = walk.word;
        allowed = record {
          to = h.0.dest;
          proper = record {
            differ = walk.apart;
            source = host-address net s walk.walk.start ∙ ap Some (sym between.source);
            destination = host-address net h.0.dest walk.walk.end ∙ ap Some (sym between.destination);
          };
          walk = walk.walk;
          on_path = subst (λ k. IsOnPath policy k walk.word) (sym matches) walk.on_path;
        };
      }

  live-sends : (s : ℕ) → IsLiveSource net policy i s → SendsAlong net pred rows s
  live-sends s l =
      let to : ℕ = l.allowed.to in
      let m = in_map (λ (row : WalkRow). row.dest) rows to (subst (In to) (sym are.dests) (host-listed net to l.allowed.walk.end)) in
      let among = in_to rows m.0 m.1 in
      let row = contained-all (IsWalkRow net policy i) rows m.0 are.each among in
      let walk : StartsWalk net policy i to s = record { apart = l.allowed.proper.differ; word = l.word; walk = l.allowed.walk; on_path = subst (λ k. IsOnPath policy k l.word) l.matches l.allowed.on_path } in
      let between : HoldsBetween (host_at net s) (host_at net to) pred = record {
        packet = l.packet;
        is_packet = l.is_packet;
        source = address-is net s (source_of l.packet) l.allowed.proper.source;
        destination = address-is net to (destination_of l.packet) l.allowed.proper.destination;
        holds = (tells.tells l.packet l.is_packet).0 l.matches;
      } in (
        m.0,
        among,
        ((row.each s).1 (subst (λ d. StartsWalk net policy i d s) m.2 walk), subst (λ d. HoldsBetween (host_at net s) (host_at net d) pred) m.2 between),
      )

  host-of : (s : ℕ) → IsLiveSource net policy i s → Contains (all_hosts net) s
  host-of s l = in_to (all_hosts net) s (host-listed net s l.allowed.walk.start)

  pub senders-live : (found : List ℕ) → AreSenders net pred rows (all_hosts net) found → AreLiveSources net policy i found
  senders-live found h = record {
    ascending = pairwise-increasing found h.ascend;
    exactly = λ s. (λ c. sends-live s ((h.each s).0 c).1, λ l. (h.each s).1 (host-of s l, live-sends s l));
  }

pub rows-within : (net : Network) (policy : Policy) (i : ℕ) (rows : List WalkRow) → AreWalkRows net policy i rows → AllByRecursion (IsRowWithin (length net.locations)) rows
rows-within net policy i rows are = all-contained _ rows within
  where
    within : (row : WalkRow) → Contains rows row → IsRowWithin (length net.locations) row
    within row c = (
      (contained-all (IsWalkRow net policy i) rows row are.each c).size,
      contained-all (λ k. k < length net.locations) (all_hosts net) row.dest (hosts-below net) (in_to (all_hosts net) row.dest (subst (In row.dest) are.dests (map_in (λ (r : WalkRow). r.dest) rows row (in_from rows row c)))),
    )

-- All hosts.

pub all-hosts : (net : Network) (hosts : List ℕ) (i : ℕ) → hosts ≡ all_hosts net → i < length hosts → IsHost net (get_or hosts i 0)
all-hosts net hosts i are lt =
    all-at (IsHost net) hosts i 0 lt
    (subst (AllByRecursion (IsHost net)) (sym are)
    (all-contained (IsHost net) (all_hosts net) (λ s c. (in_filter (λ loc. is_host_kind (kind_of net loc)) (range_with_len 0 (length net.locations)) s (in_from (all_hosts net) s c)).1)))

range-up : (a n : ℕ) → Pairwise (λ h k. h < k) (range_with_len a n)
range-up a zero = tt
range-up a (suc n) = (above n (a + 1) (omega arith), range-up (a + 1) n)
  where
    above : (n b : ℕ) → a < b → AllByRecursion (λ k. a < k) (range_with_len b n)
    above zero b lt = tt
    above (suc n) b lt = (lt, above n (b + 1) (omega (arith, lt)))

filter-up : (t : ℕ → Bool) (xs : List ℕ) → Pairwise (λ h k. h < k) xs → Pairwise (λ h k. h < k) (filter t xs)
filter-up t [] p = tt
filter-up t (x ∷ xs) p = by (t x) (filter-up t xs p.1)
  where
    by : (b : Bool) → Pairwise (λ h k. h < k) (filter t xs) → Pairwise (λ h k. h < k) (cond b (x ∷ filter t xs) (filter t xs))
    by true rest = (all-contained (λ k. x < k) (filter t xs) (λ k c. contained-all (λ k. x < k) xs k p.0 (in_to xs k (in_filter t xs k (in_from (filter t xs) k c)).0)), rest)
    by false rest = rest

pub hosts-up : (net : Network) → Pairwise (λ h k. h < k) (all_hosts net)
hosts-up net = filter-up (λ loc. is_host_kind (kind_of net loc)) (range_with_len 0 (length net.locations)) (range-up 0 (length net.locations))

pub up-taken : (xs : List ℕ) (n : ℕ) → Pairwise (λ h k. h < k) xs → Pairwise (λ h k. h < k) (take n xs)
up-taken [] zero up = tt
up-taken [] (suc n) up = tt
up-taken (x ∷ xs) zero up = tt
up-taken (x ∷ xs) (suc n) up = (front xs n up.0, up-taken xs n up.1)
  where
    front : (ys : List ℕ) (n : ℕ) → AllByRecursion (λ k. x < k) ys → AllByRecursion (λ k. x < k) (take n ys)
    front [] zero h = tt
    front [] (suc n) h = tt
    front (y ∷ ys) zero h = tt
    front (y ∷ ys) (suc n) h = (h.0, front ys n h.1)

-- Rows and hosts, one after the other.

pub sends-here : (net : Network) (pred : Pred) (rows : List WalkRow) (s : ℕ) (row : WalkRow) → Contains rows row → SendsTo net pred s row → SendsAlong net pred rows s
sends-here net pred rows s row c h = (row, c, h)

pub sends-none : (net : Network) (pred : Pred) (rows : List WalkRow) (s : ℕ) → AllByRecursion (λ row. ¬ SendsTo net pred s row) rows → ¬ SendsAlong net pred rows s
sends-none net pred rows s none h = contained-all (λ row. ¬ SendsTo net pred s row) rows h.0 none h.1 h.2

module _ (net : Network) (pred : Pred) (rows : List WalkRow) where
  pub senders-none : AreSenders net pred rows [] []
  senders-none = record { ascend = tt; each = λ s. (λ c. absurd (contains-none s c), λ h. absurd (contains-none s h.0)) }

  pub senders-next : (hosts : List ℕ) (x : ℕ) (old new : List ℕ) → Pairwise (λ h k. h < k) (hosts ++ x ∷ []) → AreSenders net pred rows hosts old → IsPutIf (SendsAlong net pred rows x) x old new → AreSenders net pred rows (hosts ++ x ∷ []) new
  senders-next hosts x old new up h (inl put) = subst (AreSenders net pred rows (hosts ++ x ∷ [])) (sym put.1) (record {
    ascend = pairwise-snoc (λ a b. a < b) old x (all-contained (λ y. y < x) old (λ y c. contained-all (λ y. y < x) hosts y (pairwise-last (λ a b. a < b) hosts x up).1 ((h.each y).0 c).0)) h.ascend;
    each = λ s. (λ c. to s (contains-snoc old x s c), λ g. from s (contains-snoc hosts x s g.0) g.1);
  })
    where
      to : (s : ℕ) → Contains old s ⊎ (s ≡ x) → Contains (hosts ++ x ∷ []) s × SendsAlong net pred rows s
      to s (inl c) = let g = (h.each s).0 c in (contains-left hosts (x ∷ []) s g.0, g.1)
      to s (inr e) = (subst (Contains (hosts ++ x ∷ [])) (sym e) (contains-last hosts x), subst (SendsAlong net pred rows) (sym e) put.0)

      from : (s : ℕ) → Contains hosts s ⊎ (s ≡ x) → SendsAlong net pred rows s → Contains (old ++ x ∷ []) s
      from s (inl c) sends = contains-left old (x ∷ []) s ((h.each s).1 (c, sends))
      from s (inr e) sends = subst (Contains (old ++ x ∷ [])) (sym e) (contains-last old x)
  senders-next hosts x old new up h (inr kept) = subst (AreSenders net pred rows (hosts ++ x ∷ [])) (sym kept.1) (record {
    ascend = h.ascend;
    each = λ s. (λ c. (let g = (h.each s).0 c in (contains-left hosts (x ∷ []) s g.0, g.1)), λ g. from s (contains-snoc hosts x s g.0) g.1);
  })
    where
      from : (s : ℕ) → Contains hosts s ⊎ (s ≡ x) → SendsAlong net pred rows s → Contains old s
      from s (inl c) sends = (h.each s).1 (c, sends)
      from s (inr e) sends = absurd (kept.0 (subst (SendsAlong net pred rows) e sends))

  pub senders-more : (hosts : List ℕ) (i : ℕ) (old new : List ℕ) → i < length hosts → Pairwise (λ h k. h < k) hosts → AreSenders net pred rows (take i hosts) old → IsPutIf (SendsAlong net pred rows (get_or hosts i 0)) (get_or hosts i 0) old new →
      AreSenders net pred rows (take (i + 1) hosts) new
  senders-more hosts i old new lt up h put =
      let more = take-more hosts i 0 lt in
      subst (λ l. AreSenders net pred rows l new) (sym more) (senders-next (take i hosts) (get_or hosts i 0) old new (subst (Pairwise (λ h k. h < k)) more (up-taken hosts (i + 1) up)) h put)
