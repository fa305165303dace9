-- Which siblings share a packet: under one parent by the places among its children, and over the whole tree by going on from parent to parent.
use Rattle.std.proofs.Common.{◌≡◌, ℕ, zero, suc, ◌+◌, ◌<◌, ◌≤◌, ◌⊎◌, inl, inr, List, length, Option, None, Some, slice_get, get_or, sym, ◌∙◌, ap, subst, arith}
use Rattle.std.proofs.lemmas.Bool.{cases_lt}
use Rattle.std.proofs.lemmas.Option.{same_Some, slice_get_within, slice_get-get_or}
use Rattle.merlin_model.specs.declared.policy.Symbol.{Symbol}
use Rattle.merlin_model.specs.Networks.{Network}
use Rattle.merlin_model.specs.Packets.{Packet, IsPacket, IsLeastPacket}
use Rattle.merlin_model.specs.Predicates.{holds}
use Rattle.predicate_split.specs.Overlaps.{AreShared, IsLeastOverlap, ShareNothing}
use Rattle.predicate_split.specs.declared.fault.SplitFault.TheVariants as split
use Rattle.predicate_split.specs.Refusals.{RefusesClasses}
use Rattle.delegation.specs.declared.node.Node.{Node}
use Rattle.delegation.specs.declared.scopes.SharedPair.{SharedPair}
use Rattle.delegation.specs.declared.fault.DelegationFault.{DelegationFault}
use Rattle.delegation.specs.declared.fault.DelegationFault.TheVariants.{Own, Classes, ScopeOverlap, TooManyStatements, Joined, Cells, NotAccepted, OutOfMemory}
use Rattle.delegation.specs.NamedTrees.{IsNamedTree, HasParent, scopes_under, numbers_under}
use Rattle.delegation.specs.SharedScopes.{ShareScope, HasApartScopes, IsLeastShared}
use Rattle.delegation.specs.ScopesUnder.{ComesNoLater, IsFoundNoLater, ShareNoneUnder, IsLeastUnder, IsLeastSharing, RefusesScopes}
use Rattle.delegation.specs.TreeRules.{IsSoAtEach, IsFirstNot, HasFewScopeClasses, KeepsOwnRules, BreaksTree}
use Rattle.delegation.specs.Asking.{IsSoBefore}
use Rattle.delegation.proofs.Own.{there}
use Rattle.delegation.proofs.Children.{IsChildAt, child-at, HasPlaceAmong, place-of, ascending, places-ascend, numbers-many}

module _ (nodes : List Node) (place : ℕ) where
  -- what two children share by their places they share by their numbers
  pub shared-numbers : (p q a b : ℕ) (x : Packet) → slice_get (numbers_under nodes place) p ≡ Some a → slice_get (numbers_under nodes place) q ≡ Some b → AreShared (scopes_under nodes place) p q x → ShareScope nodes a b x
  shared-numbers p q a b x e f shared = by (child-at place 0 nodes p a e) (child-at place 0 nodes q b f)
    where
      by : IsChildAt place 0 nodes (scopes_under nodes place) p a → IsChildAt place 0 nodes (scopes_under nodes place) q b → ShareScope nodes a b x
      by c d = record {
        before = ascending place 0 nodes p q a b shared.before e f;
        first = c.node;
        second = d.node;
        has_first = (let n = c.numbered in let same : a ≡ c.at = omega arith in ap (slice_get nodes) same ∙ c.stands);
        has_second = (let n = d.numbered in let same : b ≡ d.at = omega arith in ap (slice_get nodes) same ∙ d.stands);
        parent = place;
        of_first = c.under;
        of_second = d.under;
        holds_first = ap (λ pred. holds pred x) (same_Some c.node.scope shared.first.0 (sym c.scope ∙ shared.first.1)) ∙ shared.first.2;
        holds_second = ap (λ pred. holds pred x) (same_Some d.node.scope shared.second.0 (sym d.scope ∙ shared.second.1)) ∙ shared.second.2;
      }

  -- and the other way round
  shared-places : (p q a b : ℕ) (x : Packet) → slice_get (numbers_under nodes place) p ≡ Some a → slice_get (numbers_under nodes place) q ≡ Some b → ShareScope nodes a b x → AreShared (scopes_under nodes place) p q x
  shared-places p q a b x e f share = by (child-at place 0 nodes p a e) (child-at place 0 nodes q b f)
    where
      by : IsChildAt place 0 nodes (scopes_under nodes place) p a → IsChildAt place 0 nodes (scopes_under nodes place) q b → AreShared (scopes_under nodes place) p q x
      by c d =
          let n = c.numbered in
          let m = d.numbered in
          let at : c.at ≡ a = omega arith in
          let to : d.at ≡ b = omega arith in
          let first : c.node ≡ share.first = same_Some c.node share.first (sym c.stands ∙ ap (slice_get nodes) at ∙ share.has_first) in
          let second : d.node ≡ share.second = same_Some d.node share.second (sym d.stands ∙ ap (slice_get nodes) to ∙ share.has_second) in
          record {
            before = places-ascend place nodes p q a b share.before e f;
            first = (c.node.scope, c.scope, ap (λ (o : Node). holds o.scope x) first ∙ share.holds_first);
            second = (d.node.scope, d.scope, ap (λ (o : Node). holds o.scope x) second ∙ share.holds_second);
          }

  -- siblings under this node have places, in the same order
  placed : (k l : ℕ) (x : Packet) (share : ShareScope nodes k l x) → share.parent ≡ place →
      (p : ℕ) × (q : ℕ) × (slice_get (numbers_under nodes place) p ≡ Some k) × (slice_get (numbers_under nodes place) q ≡ Some l)
  placed k l x share is =
      let first : HasPlaceAmong place (numbers_under nodes place) (scopes_under nodes place) k share.first.scope = place-of place 0 nodes k share.first k share.has_first (share.of_first ∙ ap Some is) (omega arith) in
      let second : HasPlaceAmong place (numbers_under nodes place) (scopes_under nodes place) l share.second.scope = place-of place 0 nodes l share.second l share.has_second (share.of_second ∙ ap Some is) (omega arith) in
      (first.at, second.at, first.number_at, second.number_at)

  -- a place that is no earlier has a number that is no less
  no-less : (p q a b : ℕ) → p ≤ q → slice_get (numbers_under nodes place) p ≡ Some a → slice_get (numbers_under nodes place) q ≡ Some b → a ≤ b
  no-less p q a b le e f = by (cases_lt p q)
    where
      by : (p < q) ⊎ (q ≤ p) → a ≤ b
      by (inl lt) = let less = ascending place 0 nodes p q a b lt e f in omega arith
      by (inr ge) =
          let at : p ≡ q = omega arith in
          let same : a ≡ b = same_Some a b (sym e ∙ ap (slice_get (numbers_under nodes place)) at ∙ f) in
          omega arith

  -- the least pair of places is the least pair of numbers
  pub least-numbers : (p q a b : ℕ) (packet : Packet) → IsLeastOverlap (scopes_under nodes place) p q packet → slice_get (numbers_under nodes place) p ≡ Some a → slice_get (numbers_under nodes place) q ≡ Some b → IsLeastUnder nodes (λ parent. parent ≡ place) a b packet
  least-numbers p q a b packet least e f = record {
    first_pair = λ k l x is share asked. by k l x is share (placed k l x share asked);
    least_packet = record {
      is_packet = least.least_packet.is_packet;
      has = shared-numbers p q a b packet e f least.least_packet.has;
      least = λ x is share. least.least_packet.least x is (shared-places p q a b x e f share);
    };
  }
    where
      by : (k l : ℕ) (x : Packet) → IsPacket x → ShareScope nodes k l x → (r : ℕ) × (s : ℕ) × (slice_get (numbers_under nodes place) r ≡ Some k) × (slice_get (numbers_under nodes place) s ≡ Some l) → ComesNoLater a b k l
      by k l x is share (r, s, g, h) = at (least.first_pair r s x is (shared-places r s k l x g h share))
        where
          at : (p < r) ⊎ ((p ≡ r) × (q ≤ s)) → ComesNoLater a b k l
          at (inl lt) = inl (ascending place 0 nodes p r a k lt e g)
          at (inr (same, le)) = inr (same_Some a k (sym e ∙ ap (slice_get (numbers_under nodes place)) same ∙ g), no-less q s b l le f h)

  -- the places are among those of the numbers
  pub places-within : (numbers : List ℕ) (p q : ℕ) (packet : Packet) → numbers ≡ numbers_under nodes place → IsLeastOverlap (scopes_under nodes place) p q packet → (p < length numbers) × (q < length numbers)
  places-within numbers p q packet are least =
      let shared = least.least_packet.has in
      let many : length numbers ≡ length (scopes_under nodes place) = ap length are ∙ numbers-many place 0 nodes in
      let first = slice_get_within (scopes_under nodes place) p shared.first.0 shared.first.1 in
      let second = slice_get_within (scopes_under nodes place) q shared.second.0 shared.second.1 in
      (omega (arith, many, first), omega (arith, many, second))

  -- the numbers that are read there
  pub least-read : (numbers : List ℕ) (p q : ℕ) (packet : Packet) → numbers ≡ numbers_under nodes place → IsLeastOverlap (scopes_under nodes place) p q packet → IsLeastUnder nodes (λ parent. parent ≡ place) (get_or numbers p 0) (get_or numbers q 0) packet
  least-read numbers p q packet are least =
      let within = places-within numbers p q packet are least in
      least-numbers p q (get_or numbers p 0) (get_or numbers q 0) packet least
      (ap (λ l. slice_get l p) (sym are) ∙ slice_get-get_or numbers p 0 within.0)
      (ap (λ l. slice_get l q) (sym are) ∙ slice_get-get_or numbers q 0 within.1)

  -- where the scopes share nothing, no siblings under this node do
  pub none-numbers : ShareNothing (scopes_under nodes place) → ShareNoneUnder nodes (λ parent. parent ≡ place)
  none-numbers nothing k l x is share asked = by (placed k l x share asked)
    where
      by : (r : ℕ) × (s : ℕ) × (slice_get (numbers_under nodes place) r ≡ Some k) × (slice_get (numbers_under nodes place) s ≡ Some l) → ⊥
      by (r, s, g, h) = nothing r s x is (shared-places r s k l x g h share)

-- a pair no later than one that is no later than a third
later-still : (a b c d e f : ℕ) → ComesNoLater a b c d → ComesNoLater c d e f → ComesNoLater a b e f
later-still a b c d e f (inl l) (inl m) = inl (omega arith)
later-still a b c d e f (inl l) (inr (m, n)) = inl (omega arith)
later-still a b c d e f (inr (l, k)) (inl m) = inl (omega arith)
later-still a b c d e f (inr (l, k)) (inr (m, n)) = inr (omega arith, omega arith)

module _ (nodes : List Node) where
  -- the earlier of what was found under some parents and under others is the least under all of them
  pub least-of-both : (A B C : ℕ → Type 0) → ((parent : ℕ) → C parent → A parent ⊎ B parent) → (left right result : Option SharedPair) → IsLeastSharing nodes A left → IsLeastSharing nodes B right →
      IsFoundNoLater result left → IsFoundNoLater result right → (result ≡ left) ⊎ (result ≡ right) → IsLeastSharing nodes C result
  least-of-both A B C parts left right None h g l r either = λ k i x is share asked. by k i x is share (parts share.parent asked) left right h g l r
    where
      by : (k i : ℕ) (x : Packet) → IsPacket x → (share : ShareScope nodes k i x) → A share.parent ⊎ B share.parent → (left right : Option SharedPair) → IsLeastSharing nodes A left → IsLeastSharing nodes B right →
          IsFoundNoLater None left → IsFoundNoLater None right → ⊥
      by k i x is share (inl a) None right h g l r = h k i x is share a
      by k i x is share (inl a) (Some pair) right h g l r = l
      by k i x is share (inr b) left None h g l r = g k i x is share b
      by k i x is share (inr b) left (Some pair) h g l r = r
  least-of-both A B C parts left right (Some pair) h g l r either = record {
    first_pair = λ k i x is share asked. by k i x is share (parts share.parent asked) left right h g l r;
    least_packet = found either;
  }
    where
      by : (k i : ℕ) (x : Packet) → IsPacket x → (share : ShareScope nodes k i x) → A share.parent ⊎ B share.parent → (left right : Option SharedPair) → IsLeastSharing nodes A left → IsLeastSharing nodes B right →
          IsFoundNoLater (Some pair) left → IsFoundNoLater (Some pair) right → ComesNoLater pair.first pair.second k i
      by k i x is share (inl a) None right h g l r = absurd (h k i x is share a)
      by k i x is share (inl a) (Some other) right h g l r = later-still pair.first pair.second other.first other.second k i l (h.first_pair k i x is share a)
      by k i x is share (inr b) left None h g l r = absurd (g k i x is share b)
      by k i x is share (inr b) left (Some other) h g l r = later-still pair.first pair.second other.first other.second k i r (g.first_pair k i x is share b)

      found : (Some pair ≡ left) ⊎ (Some pair ≡ right) → IsLeastPacket (ShareScope nodes pair.first pair.second) pair.packet
      found (inl e) = (subst (IsLeastSharing nodes A) (sym e) h).least_packet
      found (inr e) = (subst (IsLeastSharing nodes B) (sym e) g).least_packet

  -- one more parent was asked
  pub parent-more : (k : ℕ) (least found more : Option SharedPair) → IsLeastSharing nodes (λ parent. parent < k) least → IsLeastSharing nodes (λ parent. parent ≡ k) found →
      IsFoundNoLater more least → IsFoundNoLater more found → (more ≡ least) ⊎ (more ≡ found) → IsLeastSharing nodes (λ parent. parent < k + 1) more
  parent-more k least found more = least-of-both (λ parent. parent < k) (λ parent. parent ≡ k) (λ parent. parent < k + 1) parts least found more
    where
      parts : (parent : ℕ) → parent < k + 1 → (parent < k) ⊎ (parent ≡ k)
      parts parent l = by (cases_lt parent k)
        where
          by : (parent < k) ⊎ (k ≤ parent) → (parent < k) ⊎ (parent ≡ k)
          by (inl lt) = inl lt
          by (inr ge) = inr (omega arith)

  -- no parent was asked yet
  pub parents-none : IsLeastSharing nodes (λ parent. parent < 0) None
  parents-none k l x is share asked = let no : ⊥ = omega arith in absurd no

  -- each parent is a node of the tree
  parent-within : IsNamedTree nodes → (k l : ℕ) (x : Packet) (share : ShareScope nodes k l x) → share.parent < length nodes
  parent-within tree k zero x share = let less = share.before in let no : ⊥ = omega arith in absurd no
  parent-within tree k (suc l) x share =
      let h : HasParent (suc l) share.second = tree.parents l share.second share.has_second in
      let same : share.parent ≡ h.parent = same_Some share.parent h.parent (sym share.of_second ∙ h.is_parent) in
      let earlier = h.earlier in
      let within = slice_get_within nodes (suc l) share.second share.has_second in
      omega arith

  -- once all were asked, the answer is that for the whole tree
  pub apart-all : IsNamedTree nodes → IsLeastSharing nodes (λ parent. parent < length nodes) None → HasApartScopes nodes
  apart-all tree none k l x is share = none k l x is share (parent-within tree k l x share)

  pub least-all : IsNamedTree nodes → (pair : SharedPair) → IsLeastSharing nodes (λ parent. parent < length nodes) (Some pair) → IsLeastShared nodes pair.first pair.second pair.packet
  least-all tree pair least = record {
    first_pair = λ k l x is share. least.first_pair k l x is share (parent-within tree k l x share);
    least_packet = least.least_packet;
  }

  -- the first node whose children's scopes are in too many classes
  pub scopes-break : (net : Network) (symbols : List Symbol) (k : ℕ) → IsSoAtEach nodes (KeepsOwnRules net symbols nodes) → IsSoBefore nodes (HasFewScopeClasses nodes) k → k < length nodes →
      (fault : DelegationFault) → RefusesScopes nodes k fault → BreaksTree net symbols nodes fault
  scopes-break net symbols k own few within (Classes place count) h = (own, subst (IsFirstNot nodes (HasFewScopeClasses nodes) (λ i n. RefusesClasses (scopes_under nodes i) (split.TooManyClasses count))) (sym h.0) (by (there nodes k within)))
    where
      by : (n : Node) × (slice_get nodes k ≡ Some n) → IsFirstNot nodes (HasFewScopeClasses nodes) (λ i n. RefusesClasses (scopes_under nodes i) (split.TooManyClasses count)) k
      by (n, e) = record { node = n; has = e; is_not = h.1; before = few }
  scopes-break net symbols k own few within OutOfMemory h = tt
  scopes-break net symbols k own few within (Own n f) h = absurd h
  scopes-break net symbols k own few within (ScopeOverlap a b p) h = absurd h
  scopes-break net symbols k own few within (TooManyStatements n c) h = absurd h
  scopes-break net symbols k own few within (Joined n f) h = absurd h
  scopes-break net symbols k own few within (Cells n c) h = absurd h
  scopes-break net symbols k own few within (NotAccepted n f) h = absurd h
