-- Pairs of hosts between which a predicate holds of some packet.
use Rattle.std.proofs.Common.{◌≡◌, ◌≢◌, ◌==◌, ◌<◌, ◌≤◌, ◌⊎◌, ◌↔◌, inl, inr, ℕ, Bool, true, false, IsTrue, ◌+◌, length, Option, None, Some, option_map, slice_get, refl, sym, ◌∙◌, ap, subst, arith, ltb}
use Rattle.std.proofs.lemmas.Bool.{ltb-false}
use Rattle.std.proofs.lemmas.Bool.Decides.{Decides-ltb}
use Rattle.std.proofs.lemmas.Option.{slice_get_within}
use Rattle.merlin_model.specs.declared.network.HostAddress.{HostAddress}
use Rattle.merlin_model.specs.declared.network.Location.{Location}
use Rattle.merlin_model.specs.declared.policy.Pred.{Pred}
use Rattle.merlin_model.specs.Packets.{source_of, destination_of}
use Rattle.merlin_model.specs.Networks.{Network, address_at, address_of}
use Rattle.predicate_split.specs.Between.{HoldsBetween}
use Rattle.policy_check.specs.declared.pairs.Pairs.TheVariants.{NoPair, OnePair, MorePairs}
use Rattle.policy_check.specs.Traffic.{IsPairBefore, HasPacket, HasNoPairFrom, IsNextPair, IsNextDestination, ArePairs}

pub host-within : (net : Network) (loc : ℕ) (a : HostAddress) → address_of net loc ≡ Some a → loc < length net.locations
host-within net loc a e = by (slice_get net.locations loc) refl e
  where
    by : (o : Option Location) → slice_get net.locations loc ≡ o → address_at (option_map (λ l. l.kind) o) ≡ Some a → loc < length net.locations
    by None at e = cc
    by (Some l) at e = slice_get_within net.locations loc l at

no_address : (a : HostAddress) (o : Option HostAddress) → o ≡ None → o ≡ Some a → ⊥
no_address a o e f = absurd (by (sym e ∙ f))
  where
    by : None ≡ Some a → ⊥
    by e = cc

not_true : false ≡ true → ⊥
not_true e = cc

module _ (net : Network) (pred : Pred) where
  pub source-within : (src dst : ℕ) → HasPacket net pred (src, dst) → src < length net.locations
  source-within src dst h = host-within net src (source_of h.packet) h.proper.source

  pub destination-within : (src dst : ℕ) → HasPacket net pred (src, dst) → dst < length net.locations
  destination-within src dst h = host-within net dst (destination_of h.packet) h.proper.destination

  pub no-pair-at-one : (src dst : ℕ) → src ≡ dst → IsTrue false ↔ HasPacket net pred (src, dst)
  no-pair-at-one src dst same = (λ t. absurd (not_true t), λ h. absurd (h.proper.differ same))

  pub no-source : (src dst : ℕ) → address_of net src ≡ None → IsTrue false ↔ HasPacket net pred (src, dst)
  no-source src dst none = (λ t. absurd (not_true t), λ h. absurd (no_address (source_of h.packet) (address_of net src) none h.proper.source))

  pub no-destination : (src dst : ℕ) → address_of net dst ≡ None → IsTrue false ↔ HasPacket net pred (src, dst)
  no-destination src dst none = (λ t. absurd (not_true t), λ h. absurd (no_address (destination_of h.packet) (address_of net dst) none h.proper.destination))

  pub between-hosts : (src dst : ℕ) (source destination : HostAddress) (found : Bool) → src ≢ dst → address_of net src ≡ Some source → address_of net dst ≡ Some destination →
      IsTrue found ↔ HoldsBetween source destination pred → IsTrue found ↔ HasPacket net pred (src, dst)
  between-hosts src dst source destination found apart from to told = (λ t. there (told.0 t), λ h. told.1 (here h))
    where
      there : HoldsBetween source destination pred → HasPacket net pred (src, dst)
      there h = record {
        packet = h.packet;
        is_packet = h.is_packet;
        proper = record { differ = apart; source = from ∙ sym (ap Some h.source); destination = to ∙ sym (ap Some h.destination) };
        holds = h.holds;
      }

      same : (a b : HostAddress) (o : Option HostAddress) → o ≡ Some a → o ≡ Some b → a ≡ b
      same a b o e f = by (sym e ∙ f)
        where
          by : Some a ≡ Some b → a ≡ b
          by e = cc

      here : HasPacket net pred (src, dst) → HoldsBetween source destination pred
      here h = record {
        packet = h.packet;
        is_packet = h.is_packet;
        source = same (source_of h.packet) source (address_of net src) h.proper.source from;
        destination = same (destination_of h.packet) destination (address_of net dst) h.proper.destination to;
        holds = h.holds;
      }

  -- Destinations, one after the other.

  -- none of the destinations from this number up to the other has a packet
  abbrev pub HasNoneTo : ℕ → ℕ → ℕ → Type 0
  HasNoneTo src from end = (dst : ℕ) → HasPacket net pred (src, dst) → (dst < from) ⊎ (end ≤ dst)

  pub none-to-start : (src from : ℕ) → HasNoneTo src from from
  none-to-start src from dst h = by (ltb dst from) refl
    where
      by : (b : Bool) → ltb dst from ≡ b → (dst < from) ⊎ (from ≤ dst)
      by true e = inl ((Decides-ltb dst from).0 e)
      by false e = inr (ltb-false dst from e)

  pub none-to-more : (src from end : ℕ) (found : Bool) → HasNoneTo src from end → found ≡ false → IsTrue found ↔ HasPacket net pred (src, end) → HasNoneTo src from (end + 1)
  none-to-more src from end found before none told dst h = by (before dst h)
    where
      other : (b : Bool) → (dst == end) ≡ b → end ≤ dst → (dst < from) ⊎ (end + 1 ≤ dst)
      other true e over = let same : dst ≡ end = grind (arith, e) in absurd (not_true (sym none ∙ told.1 (subst (λ d. HasPacket net pred (src, d)) same h)))
      other false e over = inr (grind (arith, e, over))

      by : (dst < from) ⊎ (end ≤ dst) → (dst < from) ⊎ (end + 1 ≤ dst)
      by (inl less) = inl less
      by (inr over) = other (dst == end) refl over

  pub next-found : (src from end : ℕ) (found : Bool) → HasNoneTo src from end → from ≤ end → found ≡ true → IsTrue found ↔ HasPacket net pred (src, end) → IsNextDestination net pred src from end
  next-found src from end found before up is told = record { has = told.0 is; reached = up; others = before }

  pub none-at-all : (src from end : ℕ) → HasNoneTo src from end → length net.locations ≤ end → (dst : ℕ) → HasPacket net pred (src, dst) → dst < from
  none-at-all src from end before over dst h = by (before dst h)
    where
      by : (dst < from) ⊎ (end ≤ dst) → dst < from
      by (inl less) = less
      by (inr more) = let inside = destination-within src dst h in omega (arith, over, more, inside)

  -- Sources, one after the other.

  -- none of the pairs from this one up to this source has a packet
  abbrev pub HasNonePairTo : ℕ × ℕ → ℕ → Type 0
  HasNonePairTo from end = (pair : ℕ × ℕ) → HasPacket net pred pair → IsPairBefore pair from ⊎ (end ≤ pair.0)

  pub none-pair-start : (from : ℕ × ℕ) → HasNonePairTo from from.0
  none-pair-start from pair h = by (ltb pair.0 from.0) refl
    where
      by : (b : Bool) → ltb pair.0 from.0 ≡ b → IsPairBefore pair from ⊎ (from.0 ≤ pair.0)
      by true e = inl (inl ((Decides-ltb pair.0 from.0).0 e))
      by false e = inr (ltb-false pair.0 from.0 e)

  -- the number from which destinations of this source count
  abbrev pub least_of_source : ℕ × ℕ → ℕ → ℕ → Type 0
  least_of_source from src least = ((src ≡ from.0) × (least ≡ from.1)) ⊎ ((from.0 < src) × (least ≡ 0))

  pub none-pair-more : (from : ℕ × ℕ) (src least : ℕ) → least_of_source from src least → HasNonePairTo from src → ((dst : ℕ) → HasPacket net pred (src, dst) → dst < least) → HasNonePairTo from (src + 1)
  none-pair-more from src least start before none pair h = by (before pair h)
    where
      at : pair.0 ≡ src → pair.1 < least
      at same = none pair.1 (subst (λ s. HasPacket net pred (s, pair.1)) same h)

      here : pair.0 ≡ src → least_of_source from src least → IsPairBefore pair from ⊎ (src + 1 ≤ pair.0)
      here same (inl (is, from_is)) = inl (inr (same ∙ is, subst (λ n. pair.1 < n) from_is (at same)))
      here same (inr (less, zero_is)) = let under = subst (λ n. pair.1 < n) zero_is (at same) in absurd (omega (arith, under))

      other : (b : Bool) → (pair.0 == src) ≡ b → src ≤ pair.0 → IsPairBefore pair from ⊎ (src + 1 ≤ pair.0)
      other true e over = here (grind (arith, e)) start
      other false e over = inr (grind (arith, e, over))

      by : IsPairBefore pair from ⊎ (src ≤ pair.0) → IsPairBefore pair from ⊎ (src + 1 ≤ pair.0)
      by (inl early) = inl early
      by (inr over) = other (pair.0 == src) refl over

  pub next-pair-found : (from : ℕ × ℕ) (src least dst : ℕ) → least_of_source from src least → HasNonePairTo from src → IsNextDestination net pred src least dst → IsNextPair net pred from (src, dst)
  next-pair-found from src least dst start before next = record { has = next.has; reached = reached start; others = λ pair h. by pair h (before pair h) }
    where
      reached : least_of_source from src least → IsPairBefore (src, dst) from → ⊥
      reached (inl (is, from_is)) (inl less) = omega (arith, is, less)
      reached (inl (is, from_is)) (inr (same, under)) = let up = next.reached in omega (arith, from_is, under, up)
      reached (inr (later, zero_is)) (inl less) = omega (arith, later, less)
      reached (inr (later, zero_is)) (inr (same, under)) = omega (arith, later, same)

      there : (pair : ℕ × ℕ) → pair.0 ≡ src → least_of_source from src least → (pair.1 < least) ⊎ (dst ≤ pair.1) → IsPairBefore pair from ⊎ (pair ≡ (src, dst)) ⊎ IsPairBefore (src, dst) pair
      there pair same (inl (is, from_is)) (inl under) = inl (inr (same ∙ is, omega (arith, from_is, under)))
      there pair same (inr (later, zero_is)) (inl under) = absurd (omega (arith, zero_is, under))
      there pair same start (inr over) = on (pair.1 == dst) refl
        where
          on : (b : Bool) → (pair.1 == dst) ≡ b → IsPairBefore pair from ⊎ (pair ≡ (src, dst)) ⊎ IsPairBefore (src, dst) pair
          on true e = let second : pair.1 ≡ dst = grind (arith, e) in inr (inl (λ k. (same k, second k)))
          on false e = inr (inr (inr (sym same, grind (arith, e, over))))

      on-source : (pair : ℕ × ℕ) → HasPacket net pred pair → (b : Bool) → (pair.0 == src) ≡ b → src ≤ pair.0 → IsPairBefore pair from ⊎ (pair ≡ (src, dst)) ⊎ IsPairBefore (src, dst) pair
      on-source pair h true e over = let same : pair.0 ≡ src = grind (arith, e) in there pair same start (next.others pair.1 (subst (λ s. HasPacket net pred (s, pair.1)) same h))
      on-source pair h false e over = inr (inr (inl (grind (arith, e, over))))

      by : (pair : ℕ × ℕ) → HasPacket net pred pair → IsPairBefore pair from ⊎ (src ≤ pair.0) → IsPairBefore pair from ⊎ (pair ≡ (src, dst)) ⊎ IsPairBefore (src, dst) pair
      by pair h (inl early) = inl early
      by pair h (inr over) = on-source pair h (pair.0 == src) refl over

  pub no-pair-from : (from : ℕ × ℕ) (end : ℕ) → HasNonePairTo from end → length net.locations ≤ end → HasNoPairFrom net pred from
  no-pair-from from end before over pair h = by (before pair h)
    where
      by : IsPairBefore pair from ⊎ (end ≤ pair.0) → IsPairBefore pair from
      by (inl early) = early
      by (inr more) = let inside = source-within pair.0 pair.1 h in absurd (omega (arith, over, more, inside))

  -- Two pairs.

  never-before-first : (pair : ℕ × ℕ) → IsPairBefore pair (0, 0) → ⊥
  never-before-first pair (inl less) = omega (arith, less)
  never-before-first pair (inr (same, less)) = omega (arith, less)

  pub no-pair : HasNoPairFrom net pred (0, 0) → ArePairs net pred NoPair
  no-pair none pair h = never-before-first pair (none pair h)

  -- what comes before the pair behind this one comes before this one, or is it
  behind : (pair first : ℕ × ℕ) → IsPairBefore pair (first.0, first.1 + 1) → IsPairBefore pair first ⊎ (pair ≡ first)
  behind pair first (inl less) = inl (inl less)
  behind pair first (inr (same, under)) = by (pair.1 == first.1) refl
    where
      by : (b : Bool) → (pair.1 == first.1) ≡ b → IsPairBefore pair first ⊎ (pair ≡ first)
      by true e = let second : pair.1 ≡ first.1 = grind (arith, e) in inr (λ k. (same k, second k))
      by false e = inl (inr (same, grind (arith, e, under)))

  not-both : (p q : ℕ × ℕ) → IsPairBefore p q → IsPairBefore q p → ⊥
  not-both p q (inl a) (inl b) = omega (arith, a, b)
  not-both p q (inl a) (inr (e, b)) = omega (arith, a, e)
  not-both p q (inr (e, a)) (inl b) = omega (arith, e, b)
  not-both p q (inr (e, a)) (inr (f, b)) = omega (arith, a, b)

  -- a pair at which there is a packet does not come before the first one
  first-is-first : (first pair : ℕ × ℕ) → IsNextPair net pred (0, 0) first → HasPacket net pred pair → IsPairBefore pair first → ⊥
  first-is-first first pair next h early = by (next.others pair h)
    where
      by : IsPairBefore pair (0, 0) ⊎ (pair ≡ first) ⊎ IsPairBefore first pair → ⊥
      by (inl less) = never-before-first pair less
      by (inr (inl same)) = not-both first first (subst (λ p. IsPairBefore p first) same early) (subst (λ p. IsPairBefore p first) same early)
      by (inr (inr later)) = not-both pair first early later

  pub one-pair : (first : ℕ × ℕ) → IsNextPair net pred (0, 0) first → HasNoPairFrom net pred (first.0, first.1 + 1) → ArePairs net pred (OnePair first)
  one-pair first next none = record { has = next.has; only = λ pair h. by pair h (behind pair first (none pair h)) }
    where
      by : (pair : ℕ × ℕ) → HasPacket net pred pair → IsPairBefore pair first ⊎ (pair ≡ first) → pair ≡ first
      by pair h (inl early) = absurd (first-is-first first pair next h early)
      by pair h (inr same) = same

  pub more-pairs : (first second : ℕ × ℕ) → IsNextPair net pred (0, 0) first → IsNextPair net pred (first.0, first.1 + 1) second → ArePairs net pred (MorePairs first second)
  more-pairs first second next later = record { has_first = next.has; has_second = later.has; before = before (next.others second later.has); others = λ pair h. by pair h (later.others pair h) }
    where
      before : IsPairBefore second (0, 0) ⊎ (second ≡ first) ⊎ IsPairBefore first second → IsPairBefore first second
      before (inl less) = absurd (never-before-first second less)
      before (inr (inl same)) = absurd (later.reached (inr (ap (λ (p : ℕ × ℕ). p.0) same, let e = ap (λ (p : ℕ × ℕ). p.1) same in omega (arith, e))))
      before (inr (inr is)) = is

      of : (pair : ℕ × ℕ) → HasPacket net pred pair → IsPairBefore pair first ⊎ (pair ≡ first) → (pair ≡ first) ⊎ (pair ≡ second) ⊎ IsPairBefore second pair
      of pair h (inl early) = absurd (first-is-first first pair next h early)
      of pair h (inr same) = inl same

      by : (pair : ℕ × ℕ) → HasPacket net pred pair → IsPairBefore pair (first.0, first.1 + 1) ⊎ (pair ≡ second) ⊎ IsPairBefore second pair → (pair ≡ first) ⊎ (pair ≡ second) ⊎ IsPairBefore second pair
      by pair h (inl early) = of pair h (behind pair first early)
      by pair h (inr (inl same)) = inr (inl same)
      by pair h (inr (inr is)) = inr (inr is)
