-- The pairs of hosts between which a predicate holds of some packet, in the order of their numbers.
use Rattle.std.specs.Prelude.{ℕ, ◌≡◌, ◌<◌, ◌≤◌, ◌⊎◌, true}
use Rattle.merlin_model.specs.declared.policy.Pred.{Pred}
use Rattle.merlin_model.specs.Packets.{Packet, IsPacket}
use Rattle.merlin_model.specs.Predicates.{holds}
use Rattle.merlin_model.specs.Networks.{Network, IsProper}
use Rattle.policy_check.specs.declared.pairs.Pairs.{Pairs}
use Rattle.policy_check.specs.declared.pairs.Pairs.TheVariants.{NoPair, OnePair, MorePairs}

-- a pair of numbers comes before another: the first numbers that differ decide
abbrev pub IsPairBefore : ℕ × ℕ → ℕ × ℕ → Type 0
IsPairBefore p q = (p.0 < q.0) ⊎ ((p.0 ≡ q.0) × (p.1 < q.1))

-- the predicate holds of some proper packet between these hosts
pub record HasPacket (net : Network) (pred : Pred) (pair : ℕ × ℕ) : Type 0 where
  pub packet : Packet
  pub is_packet : IsPacket packet
  pub proper : IsProper net packet pair.0 pair.1
  pub holds : holds pred packet ≡ true

module _ (net : Network) (pred : Pred) where
  -- no pair from this one on has a packet
  abbrev pub HasNoPairFrom : ℕ × ℕ → Type 0
  HasNoPairFrom from = (pair : ℕ × ℕ) → HasPacket net pred pair → IsPairBefore pair from

  -- the first pair from this one on that has a packet
  pub record IsNextPair (from found : ℕ × ℕ) : Type 0 where
    pub has : HasPacket net pred found
    pub reached : ¬ IsPairBefore found from
    pub others : (pair : ℕ × ℕ) → HasPacket net pred pair → IsPairBefore pair from ⊎ (pair ≡ found) ⊎ IsPairBefore found pair

  -- the first destination from this number on to which there is a packet
  pub record IsNextDestination (src from found : ℕ) : Type 0 where
    pub has : HasPacket net pred (src, found)
    pub reached : from ≤ found
    pub others : (dst : ℕ) → HasPacket net pred (src, dst) → (dst < from) ⊎ (found ≤ dst)

  -- the one pair that has a packet
  pub record IsOnlyPair (pair : ℕ × ℕ) : Type 0 where
    pub has : HasPacket net pred pair
    pub only : (other : ℕ × ℕ) → HasPacket net pred other → other ≡ pair

  -- the first two pairs that have one
  pub record AreFirstPairs (first second : ℕ × ℕ) : Type 0 where
    pub has_first : HasPacket net pred first
    pub has_second : HasPacket net pred second
    pub before : IsPairBefore first second
    pub others : (pair : ℕ × ℕ) → HasPacket net pred pair → (pair ≡ first) ⊎ (pair ≡ second) ⊎ IsPairBefore second pair

  -- what there is of such pairs, as far as two
  abbrev pub ArePairs : Pairs → Type 0
  ArePairs NoPair = (pair : ℕ × ℕ) → HasPacket net pred pair → ⊥
  ArePairs (OnePair pair) = IsOnlyPair pair
  ArePairs (MorePairs first second) = AreFirstPairs first second
