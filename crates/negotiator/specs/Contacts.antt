-- What is found while packets are looked at: which statements touch, and the least packet to which the child allows more.
use Rattle.std.specs.Prelude.{ℕ, ◌≡◌, ◌<◌, ◌+◌, ◌⊎◌, ◌++◌, ⊤, Bool, true, false, List, [], ◌∷◌, map, Contains, Option, MatchOption, if◌then◌else◌}
use Rattle.std.specs.List.{AllByRecursion}
use Rattle.merlin_model.specs.declared.policy.Pred.{Pred}
use Rattle.merlin_model.specs.Packets.{Packet, IsPacket}
use Rattle.merlin_model.specs.Predicates.{holds}
use Rattle.merlin_model.specs.Networks.{Network, IsProper}
use Rattle.merlin_model.specs.Policies.{Policy, match_of}
use Rattle.refinement_model.specs.Refinement.{Touches}
use Rattle.negotiator.specs.declared.contacts.Contact.{Contact}
use Rattle.negotiator.specs.declared.contacts.WidePacket.{WidePacket}
use Rattle.negotiator.specs.declared.contacts.Findings.{Findings}
use Rattle.negotiator.specs.StandIns.{IsNoLaterThan}
use Rattle.negotiator.specs.Between.{HasWalk, StaysWithin}

-- the place of the first predicate that holds of the packet, or the number of predicates
abbrev pub first_holding : List Pred → Packet → ℕ
first_holding [] p = 0
first_holding (pred ∷ rest) p = if holds pred p then 0 else 1 + first_holding rest p

-- the statements that a packet belongs to
abbrev pub contact_at : Policy → Policy → Packet → Contact
contact_at parent child p = record { child = match_of child p; parent = match_of parent p }

module _ (net : Network) (parent child : Policy) where
  -- the child allows the packet that goes from one host to the other more than the parent does
  pub record IsWideBetween (s d : ℕ) (p : Packet) : Type 0 where
    pub is_packet : IsPacket p
    pub proper : IsProper net p s d
    pub strays : ¬ StaysWithin net parent child s d (match_of child p) (match_of parent p)

  abbrev pub IsWide : WidePacket → Type 0
  IsWide wide = IsWideBetween wide.src wide.dst wide.packet

  -- the child allows the packet no more than the parent does, or it comes no earlier than one to which the child allows more
  abbrev pub StaysOrComesLater : ℕ → ℕ → Packet → Option WidePacket → Type 0
  StaysOrComesLater s d p wide = StaysWithin net parent child s d (match_of child p) (match_of parent p) ⊎ MatchOption wide ⊥ (λ w. IsNoLaterThan w.packet p)

  -- the packet goes from one host to the other, and its statement in the child has a walk between them
  pub record IsInTouch (s d : ℕ) (p : Packet) : Type 0 where
    pub is_packet : IsPacket p
    pub proper : IsProper net p s d
    pub walk : HasWalk net child s d (match_of child p)

  -- What is found once these packets were looked at, each with its hosts.
  pub record IsFoundOf (Seen : ℕ → ℕ → Packet → Type 0) (found : Findings) : Type 0 where
    pub touch : (c : Contact) → Contains found.contacts.items c → Touches net parent child c.child c.parent
    pub all_touch : (s d : ℕ) (p : Packet) → Seen s d p → IsInTouch s d p → Contains found.contacts.items (contact_at parent child p)
    pub wide : MatchOption found.wide ⊤ IsWide
    pub others : (s d : ℕ) (p : Packet) → Seen s d p → IsPacket p → IsProper net p s d → StaysOrComesLater s d p found.wide

-- All packets from a host before this one are looked at, all from this one to a host before another, and of those between these two some.
abbrev pub IsSeen : ℕ → ℕ → List Packet → ℕ → ℕ → Packet → Type 0
IsSeen src dst packets s d p = (s < src) ⊎ ((s ≡ src) × ((d < dst) ⊎ ((d ≡ dst) × Contains packets p)))

abbrev pub IsFoundUpTo : Network → Policy → Policy → ℕ → ℕ → List Packet → Findings → Type 0
IsFoundUpTo net parent child src dst packets found = IsFoundOf net parent child (IsSeen src dst packets) found

-- all packets are looked at
abbrev pub IsWholeFound : Network → Policy → Policy → Findings → Type 0
IsWholeFound net parent child found = IsFoundOf net parent child (λ s d p. ⊤) found

-- packets that go from one host to another
abbrev pub AreProper : Network → ℕ → ℕ → List Packet → Type 0
AreProper net s d packets = AllByRecursion (λ p. IsPacket p × IsProper net p s d) packets

-- the predicates of both policies
abbrev pub preds_of_both : Policy → Policy → List Pred
preds_of_both parent child = map (λ st. st.pred) child.statements ++ map (λ st. st.pred) parent.statements

-- the one is one of both, and no later than either
pub record IsLesser (known : Option WidePacket) (other result : WidePacket) : Type 0 where
  pub one : (result ≡ other) ⊎ MatchOption known ⊥ (λ k. result ≡ k)
  pub not_after : IsNoLaterThan result.packet other.packet
  pub not_after_known : MatchOption known ⊤ (λ k. IsNoLaterThan result.packet k.packet)

-- the lesser of both, unless the new one stays within
abbrev pub IsWideWith : Bool → Option WidePacket → WidePacket → Option WidePacket → Type 0
IsWideWith true known other result = result ≡ known
IsWideWith false known other result = MatchOption result ⊥ (IsLesser known other)
