-- Classes: which statements have one at a host, and what their packets go through.
use Rattle.std.proofs.Common.{◌≡◌, ◌≢◌, ℕ, zero, suc, ◌+◌, ◌<◌, ◌/◌, ◌%◌, ◌==◌, ◌&&◌, ◌||◌, ◌⊎◌, inl, inr, nat_lt, Bool, true, false, cond, List, [], ◌∷◌, ◌++◌, length, get_or, Contains, Option, None, Some, is_some, unwrap_or, slice_get, refl, sym, ◌∙◌, ap, subst, arith}
use Rattle.std.proofs.lemmas.Bool.{eqb-true, eq-eqb}
use Rattle.std.specs.List.{AllByRecursion, flat_map, range_with_len}
use Rattle.std.specs.List.Sorted.{IsStrictlyIncreasing}
use Rattle.merlin_model.specs.declared.policy.Symbol.{Symbol}
use Rattle.merlin_model.specs.declared.policy.Ends.{Ends}
use Rattle.merlin_model.specs.declared.config.HostLine.{HostLine}
use Rattle.merlin_model.specs.declared.config.HostLine.TheVariants as line
use Rattle.merlin_model.specs.declared.config.Config.{Config}
use Rattle.merlin_model.specs.Packets.{Packet, IsPacket}
use Rattle.merlin_model.specs.Networks.{Network, Pairwise, IsHost, IsProper}
use Rattle.merlin_model.specs.Policies.{Policy, match_of, paths_of}
use Rattle.merlin_model.specs.Rates.{share, max_of, min_of, IsGuaranteed, IsLiveSource, AreLiveSources, IsShareAt}
use Rattle.merlin_model.specs.Assignments.{AreTheEnds}
use Rattle.merlin_model.specs.Machine.{Frame, start, Visit, End, EachRun}
use Rattle.merlin_model.specs.Headline.{HasAllowed, HasRoom, GoesThrough, IsClassed, IsClassOf}
use Rattle.merlin_model.proofs.Members.{In, in_from, in_to, all_in, filter_in, in_filter, in_append-left, flat_map_in}
use Rattle.merlin_model.proofs.Ascending.{increasing-pairwise}
use Rattle.rules_model.specs.Tables.{all_hosts}
use Rattle.rules_model.specs.Promise.{IsThrough}
use Rattle.rules_model.proofs.Promise.{goes_through}
use Rattle.rules_model.proofs.TableRules.{in_range}
use Rattle.rules_model.proofs.Pieces.{range-up, filter-up}
use Rattle.configuration_model.specs.Hosts.{place_among, share_at, is_above, is_guaranteed, is_classed, classed_at, class_from, class_at, rate_at, ceiling_at, class_lines, readings, outputs, others, headed, lines_at, host_lines}
use Rattle.configuration_model.specs.Compiled.{IsMade}
use Rattle.configuration_model.proofs.Lists.{false-true, at-in, at-below}
use Rattle.configuration_model.proofs.Grouped.{has-group, queue-is}
use Rattle.configuration_model.proofs.Decided.{host-listed}
use Rattle.configuration_model.proofs.Dropped.{place-at, in-place, share-is, is-share}
use Rattle.configuration_model.proofs.Classed.{in-class}
use Rattle.configuration_model.proofs.Made.{compiled}

-- Numbers.

pub positive : (n : ℕ) → nat_lt 0 n ≡ true → 0 < n
positive n e = grind arith

pub positive-is : (n : ℕ) → 0 < n → nat_lt 0 n ≡ true
positive-is n h = grind arith

add-suc : (n : ℕ) → n + 1 ≡ suc n
add-suc n = omega arith

share-one : (cap : ℕ) → share cap 1 0 ≡ cap
share-one cap = by (nat_lt 0 (cap % 1)) refl
  where
    by : (b : Bool) → nat_lt 0 (cap % 1) ≡ b → cap / 1 + cond b 1 0 ≡ cap
    by true e = let more : 0 < cap % 1 = positive (cap % 1) e in omega arith
    by false e = omega arith

pairwise-increasing : (xs : List ℕ) → Pairwise (λ a b. a < b) xs → IsStrictlyIncreasing xs
pairwise-increasing [] up k lt = let none : ⊥ = omega arith in absurd none
pairwise-increasing (x ∷ []) up k lt = let none : ⊥ = omega arith in absurd none
pairwise-increasing (x ∷ y ∷ ys) up zero lt = up.0.0
pairwise-increasing (x ∷ y ∷ ys) up (suc k) lt =
    let next = pairwise-increasing (y ∷ ys) up.1 k (omega arith) in
    let far : get_or (x ∷ y ∷ ys) (suc k + 1) 0 ≡ get_or (y ∷ ys) (k + 1) 0 = ap (λ n. get_or (x ∷ y ∷ ys) n 0) (add-suc (suc k)) ∙ sym (ap (λ n. get_or (y ∷ ys) n 0) (add-suc k)) in
    omega arith

-- an ascending list of one number
pub one-member : (t : ℕ) (xs : List ℕ) → Pairwise (λ a b. a < b) xs → ((x : ℕ) → In x xs → x ≡ t) → xs ≢ [] → xs ≡ t ∷ []
one-member t [] up only some = absurd (some refl)
one-member t (x ∷ []) up only some = ap (λ y. y ∷ []) (only x (inl refl))
one-member t (x ∷ y ∷ ys) up only some = let a = only x (inl refl) in let b = only y (inr (inl refl)) in let lt = up.0.0 in let none : ⊥ = omega arith in absurd none

run-map : (net : Network) (config : Config) (f : Frame) (P Q : List Visit → End → Type 0) → ((records : List Visit) (end : End) → P records end → Q records end) → EachRun net config f P → EachRun net config f Q
run-map net config f P Q h r = (r.0, record { ends = r.1.ends; outcome = λ visits end runs. h visits end (r.1.outcome visits end runs) })

module _ (net : Network) (policy : Policy) (ends : List Ends) (walks : List (List Symbol)) (config : Config) (m : IsMade net policy ends walks config) where
  abbrev classed : ℕ → ℕ → Bool
  classed i s = is_classed net policy m.sources m.cells i s

  abbrev classes : ℕ → List ℕ
  classes s = classed_at net policy m.sources m.cells s

  -- the live sources of statement i
  listed : (i : ℕ) → i < length (paths_of policy) → (hosts : List ℕ) × (slice_get m.sources i ≡ Some hosts) × AreLiveSources net policy i hosts
  listed i below = let own = at-below m.sources i (subst (λ n. i < n) (sym m.sources_are.size) below) in (own.0, own.1, m.sources_are.each i own.0 own.1)

  abbrev hosts_at : ℕ → List ℕ
  hosts_at i = unwrap_or (slice_get m.sources i) []

  live : (i s : ℕ) → i < length (paths_of policy) → is_some (place_among (hosts_at i) s) ≡ true → IsLiveSource net policy i s
  live i s below e = by (place_among (hosts_at i) s) refl e
    where
      own : (hosts : List ℕ) × (slice_get m.sources i ≡ Some hosts) × AreLiveSources net policy i hosts
      own = listed i below

      by : (o : Option ℕ) → place_among (hosts_at i) s ≡ o → is_some o ≡ true → IsLiveSource net policy i s
      by None e n = absurd (false-true n)
      by (Some k) e n = (own.2.exactly s).0 (in_to own.0 s (at-in own.0 k s (place-at own.0 s k (sym (ap (λ o. place_among (unwrap_or o []) s) own.1) ∙ e))))

  is-live : (i s : ℕ) → i < length (paths_of policy) → IsLiveSource net policy i s → is_some (place_among (hosts_at i) s) ≡ true
  is-live i s below source =
      let own = listed i below in
      let place = in-place own.0 s (in_from own.0 s ((own.2.exactly s).1 source)) in
      ap is_some (ap (λ o. place_among (unwrap_or o []) s) own.1 ∙ place.1)

  both : (a b : Bool) → (a && b) ≡ true → (a ≡ true) × (b ≡ true)
  both true b e = (refl, e)
  both false b e = absurd (false-true e)

  either : (a b : Bool) → (a || b) ≡ true → (a ≡ true) ⊎ (b ≡ true)
  either true b e = inl refl
  either false b e = inr e

  join : (a b : Bool) → a ≡ true → b ≡ true → (a && b) ≡ true
  join true b e f = f
  join false b e f = e

  left : (a b : Bool) → a ≡ true → (a || b) ≡ true
  left true b e = refl
  left false b e = absurd (false-true e)

  right : (a b : Bool) → b ≡ true → (a || b) ≡ true
  right true b e = refl
  right false b e = e

  abbrev Room : ℕ → ℕ → Type 0
  Room i s = (c : ℕ) × IsShareAt net policy i s c × (0 < c)

  room : (i s : ℕ) → i < length (paths_of policy) → is_above (share_at net policy m.sources m.cells i s) ≡ true → Room i s
  room i s below e = by (share_at net policy m.sources m.cells i s) refl e
    where
      by : (o : Option ℕ) → share_at net policy m.sources m.cells i s ≡ o → is_above o ≡ true → Room i s
      by None e n = absurd (false-true n)
      by (Some c) e n = (c, share-is net policy m.sources m.sources_are i s c below e, positive c n)

  has-room : (i s : ℕ) → i < length (paths_of policy) → Room i s → is_above (share_at net policy m.sources m.cells i s) ≡ true
  has-room i s below r = ap is_above (is-share net policy m.sources m.sources_are i s r.0 below r.1) ∙ positive-is r.0 r.2

  pub classed-is : (i s : ℕ) → i < length (paths_of policy) → is_classed net policy m.sources m.cells i s ≡ true → IsClassed net policy ends walks config i s
  classed-is i s below e =
      let parts = both (is_some (place_among (hosts_at i) s)) (is_guaranteed net policy m.sources m.cells i || is_above (share_at net policy m.sources m.cells i s)) e in
      (live i s below parts.0, by (either (is_guaranteed net policy m.sources m.cells i) (is_above (share_at net policy m.sources m.cells i s)) parts.1))
    where
      by : (is_guaranteed net policy m.sources m.cells i ≡ true) ⊎ (is_above (share_at net policy m.sources m.cells i s) ≡ true) → IsGuaranteed policy i ⊎ Room i s
      by (inl g) = inl (positive (min_of policy i) g)
      by (inr a) = inr (room i s below a)

  pub is-classed : (i s : ℕ) → i < length (paths_of policy) → IsClassed net policy ends walks config i s → is_classed net policy m.sources m.cells i s ≡ true
  is-classed i s below h = join (is_some (place_among (hosts_at i) s)) (is_guaranteed net policy m.sources m.cells i || is_above (share_at net policy m.sources m.cells i s)) (is-live i s below h.0) (by h.1)
    where
      by : IsGuaranteed policy i ⊎ Room i s → (is_guaranteed net policy m.sources m.cells i || is_above (share_at net policy m.sources m.cells i s)) ≡ true
      by (inl g) = left (is_guaranteed net policy m.sources m.cells i) (is_above (share_at net policy m.sources m.cells i s)) (positive-is (min_of policy i) g)
      by (inr r) = right (is_guaranteed net policy m.sources m.cells i) (is_above (share_at net policy m.sources m.cells i s)) (has-room i s below r)

  -- a statement with a live source is one of the policy
  pub below-source : (i s : ℕ) → IsLiveSource net policy i s → i < length (paths_of policy)
  below-source i s source = subst (λ n. n < length (paths_of policy)) source.matches (m.checked.total source.packet source.is_packet)

  in-classes : (i s : ℕ) → i < length (paths_of policy) → classed i s ≡ true → In i (classes s)
  in-classes i s below e = filter_in (λ i. classed i s) (range_with_len 0 (length (paths_of policy))) i (in_range (length (paths_of policy)) i below) e

  range-below : (a n k : ℕ) → In k (range_with_len a n) → k < a + n
  range-below a zero k i = absurd i
  range-below a (suc n) k (inl e) = omega arith
  range-below a (suc n) k (inr i) = let lt = range-below (a + 1) n k i in omega arith

  classes-in : (i s : ℕ) → In i (classes s) → (i < length (paths_of policy)) × (classed i s ≡ true)
  classes-in i s h = let f = in_filter (λ i. classed i s) (range_with_len 0 (length (paths_of policy))) i h in (let lt = range-below 0 (length (paths_of policy)) i f.0 in omega arith, f.1)

  -- the number of a class is its place
  class-place : (x : ℕ) (js : List ℕ) (i : ℕ) → In i js → (k : ℕ) × (slice_get js k ≡ Some i) × (class_from x js i ≡ x + k)
  class-place x [] i h = absurd h
  class-place x (j ∷ js) i h = by (j == i) refl h (class-place (suc x) js i)
    where
      by : (b : Bool) → (j == i) ≡ b → In i (j ∷ js) → (In i js → (k : ℕ) × (slice_get js k ≡ Some i) × (class_from (suc x) js i ≡ suc x + k)) →
          (k : ℕ) × (slice_get (j ∷ js) k ≡ Some i) × (cond b x (class_from (suc x) js i) ≡ x + k)
      by true e h ih = (0, ap Some (eqb-true j i e), omega arith)
      by false e (inl same) ih = absurd (false-true (sym e ∙ eq-eqb j i (sym same)))
      by false e (inr h) ih = let r = ih h in let value = r.2 in (suc r.0, r.1, omega arith)

  pub class-of : (i s : ℕ) → i < length (paths_of policy) → is_classed net policy m.sources m.cells i s ≡ true → IsClassOf net policy ends walks config i s (class_at net policy m.sources m.cells s i)
  class-of i s below e =
      let place = class-place 1 (classes s) i (in-classes i s below e) in
      record {
        classed = classes s;
        ascending = pairwise-increasing (classes s) (filter-up (λ a b. a < b) (λ i. classed i s) (range_with_len 0 (length (paths_of policy))) (range-up 0 (length (paths_of policy))));
        exactly = λ j. (
          λ c. let h = classes-in j s (in_from (classes s) j c) in classed-is j s h.0 h.1,
          λ c. in_to (classes s) j (in-classes j s (below-source j s c.0) (is-classed j s (below-source j s c.0) c)),
        );
        place = place.0;
        stands = place.1;
        number = let value = place.2 in omega arith;
      }

  -- its line
  line-in : (s x : ℕ) (js : List ℕ) (i : ℕ) → In i js → In (line.Class s (class_from x js i) (rate_at net policy m.sources m.cells i s) (ceiling_at net policy m.sources m.cells i s)) (class_lines net policy m.sources m.cells s x js)
  line-in s x [] i h = absurd h
  line-in s x (j ∷ js) i h = by (j == i) refl h (line-in s (suc x) js i)
    where
      by : (b : Bool) → (j == i) ≡ b → In i (j ∷ js) →
          (In i js → In (line.Class s (class_from (suc x) js i) (rate_at net policy m.sources m.cells i s) (ceiling_at net policy m.sources m.cells i s)) (class_lines net policy m.sources m.cells s (suc x) js)) →
          In (line.Class s (cond b x (class_from (suc x) js i)) (rate_at net policy m.sources m.cells i s) (ceiling_at net policy m.sources m.cells i s)) (class_lines net policy m.sources m.cells s x (j ∷ js))
      by true e h ih = inl (ap (λ n. line.Class s x (rate_at net policy m.sources m.cells n s) (ceiling_at net policy m.sources m.cells n s)) (sym (eqb-true j i e)))
      by false e (inl same) ih = absurd (false-true (sym e ∙ eq-eqb j i (sym same)))
      by false e (inr h) ih = inr (ih h)

  headed-in : (s : ℕ) (l : HostLine) (lines : List HostLine) → In l lines → In l (headed net policy m.sources m.cells s lines)
  headed-in s l [] h = h
  headed-in s l (x ∷ lines) h = inr h

  pub class-line : (i s : ℕ) → IsHost net s → i < length (paths_of policy) → is_classed net policy m.sources m.cells i s ≡ true →
      Contains config.hosts (line.Class s (class_at net policy m.sources m.cells s i) (rate_at net policy m.sources m.cells i s) (ceiling_at net policy m.sources m.cells i s))
  class-line i s host below e =
      subst (λ lines. Contains lines (line.Class s (class_at net policy m.sources m.cells s i) (rate_at net policy m.sources m.cells i s) (ceiling_at net policy m.sources m.cells i s))) (sym m.hosts)
      (in_to (host_lines net policy m.sources m.cells) _ (flat_map_in (lines_at net policy m.sources m.cells) (all_hosts net) s _ (host-listed net s host)
      (in_append-left (headed net policy m.sources m.cells s (class_lines net policy m.sources m.cells s 1 (classes s)))
      (flat_map (readings net policy m.sources m.cells s) (others net policy m.sources m.cells s) ++ flat_map (outputs net policy m.sources m.cells s) (others net policy m.sources m.cells s)) _
      (headed-in s _ (class_lines net policy m.sources m.cells s 1 (classes s)) (line-in s 1 (classes s) i (in-classes i s below e))))))

  -- Runs of a packet with an allowed walk, which its host classes.
  module _ (s : ℕ) (p : Packet) (valid : IsPacket p) (allowed : HasAllowed net policy s p) where
    abbrev mine : ℕ
    mine = match_of policy p

    below : match_of policy p < length (paths_of policy)
    below = m.checked.total p valid

    source : IsLiveSource net policy mine s
    source = record { packet = p; is_packet = valid; matches = refl; word = allowed.0; allowed = allowed.1 }

    proper : IsProper net p s allowed.1.to
    proper = allowed.1.proper

    host : IsHost net s
    host = ap is_some proper.source

    runs : HasRoom net policy mine s → EachRun net config (start s p) (λ records end. IsThrough config s p (has-group net policy ends walks config m mine below).group.queue records)
    runs room = goes_through net policy ends walks m.tables.groups m.tables.group_of m.tables.plan config (compiled net policy ends walks config m) s allowed.1.to p (has-group net policy ends walks config m mine below) valid proper allowed room

    -- a statement with a share above 0 has its class
    pub in-its-class : (c : ℕ) → IsShareAt net policy mine s c → 0 < c → EachRun net config (start s p) (λ records end.
        (first : Visit) × (others : List Visit) × (x : ℕ) × (records ≡ first ∷ others) × (first.class ≡ Some x) × IsClassOf net policy ends walks config mine s x)
    in-its-class c share above =
        let is : classed mine s ≡ true = is-classed mine s below (source, inr (c, share, above)) in
        run-map net config (start s p) _ _ (λ records end t. (t.first, t.others, class_at net policy m.sources m.cells s mine, t.begins, t.class ∙ in-class net policy ends walks config m s allowed.1.to p valid proper is, class-of mine s below is))
        (runs (inr (c, share, above)))

    -- Guaranteed statements.
    module _ (k : ℕ) (e : Ends) (stands : slice_get ends k ≡ Some e) (statement : e.statement ≡ match_of policy p) where
      the-ends : AreTheEnds net policy e
      the-ends = all_in (AreTheEnds net policy) ends e m.ends_are.each (at-in ends k e stands)

      guaranteed : IsGuaranteed policy mine
      guaranteed = subst (IsGuaranteed policy) statement the-ends.guaranteed

      -- there is one live source
      only-source : (h : ℕ) → IsLiveSource net policy mine h → h ≡ e.src
      only-source h l = (the-ends.only h l.allowed.to (record { packet = l.packet; is_packet = l.is_packet; proper = l.allowed.proper; matches = l.matches ∙ sym statement })).0

      sources-one : (hosts : List ℕ) → AreLiveSources net policy mine hosts → hosts ≡ s ∷ []
      sources-one hosts are =
          one-member s hosts (increasing-pairwise hosts are.ascending) (λ h i. only-source h ((are.exactly h).0 (in_to hosts h i)) ∙ sym (only-source s source))
          (λ none. subst (In s) none (in_from hosts s ((are.exactly s).1 source)))

      has-capacity : HasRoom net policy mine s
      has-capacity = by (max_of policy mine) refl
        where
          by : (o : Option ℕ) → max_of policy mine ≡ o → HasRoom net policy mine s
          by None most = inl most
          by (Some cap) most =
              let own = listed mine below in
              let one = sources-one own.0 own.2 in
              let value : cap ≡ share cap (length own.0) 0 = sym (ap (λ hs. share cap (length hs) 0) one ∙ share-one cap) in
              let le = m.checked.rates mine cap most in
              let some : 0 < min_of policy mine = guaranteed in
              inr (cap, record { cap = cap; capped = most; hosts = own.0; sources = own.2; place = 0; stands = ap (λ hs. slice_get hs 0) one; value = value }, omega arith)

      pub taken : EachRun net config (start s p) (λ records end. GoesThrough net policy ends walks config s (k + 1) (min_of policy e.statement) records)
      taken =
          let is : classed mine s ≡ true = is-classed mine s below (source, inl guaranteed) in
          let queue : (has-group net policy ends walks config m mine below).group.queue ≡ Some (k + 1) = queue-is net policy ends walks config m mine below guaranteed k e stands statement ∙ ap Some (sym (add-suc k)) in
          let rate : rate_at net policy m.sources m.cells mine s ≡ min_of policy e.statement =
          ap (λ b. cond b (min_of policy mine) (unwrap_or (share_at net policy m.sources m.cells mine s) 0)) (positive-is (min_of policy mine) guaranteed) ∙ ap (min_of policy) (sym statement) in
          run-map net config (start s p) _ _ (λ records end t. record {
            first = t.first;
            others = t.others;
            begins = t.begins;
            host = t.host;
            class = (
              class_at net policy m.sources m.cells s mine,
              ceiling_at net policy m.sources m.cells mine s,
              t.class ∙ in-class net policy ends walks config m s allowed.1.to p valid proper is,
              subst (λ r. Contains config.hosts (line.Class s (class_at net policy m.sources m.cells s mine) r (ceiling_at net policy m.sources m.cells mine s))) rate (class-line mine s host below is),
            );
            queues = subst (λ q. AllByRecursion (λ v. v.queue ≡ q) t.others) queue t.queues;
          }) (runs has-capacity)
