-- Where a child does not refine its parent: which rule fails first, and what shows it.
use Rattle.std.specs.Prelude.{ℕ, ◌≡◌, ◌⊎◌, ◌↔◌, List, Contains, Option, None, Some, MatchOption}
use Rattle.merlin_model.specs.declared.policy.Symbol.{Symbol}
use Rattle.merlin_model.specs.Packets.{Packet, IsPacket, IsLeastPacket}
use Rattle.merlin_model.specs.Networks.{Network}
use Rattle.merlin_model.specs.Policies.{Policy, IsAllowed}
use Rattle.refinement_model.specs.Refinement.{Touches}
use Rattle.language_check.specs.Inclusion.{IsLessWord}
use Rattle.negotiator.specs.declared.comparing.Comparison.{Comparison}
use Rattle.negotiator.specs.declared.contacts.Contact.{Contact}
use Rattle.negotiator.specs.declared.paths.WidePath.{WidePath}

abbrev pub contact : ℕ → ℕ → Contact
contact i j = record { child = i; parent = j }

-- the word, if there is one, with its packet
abbrev pub IsWithPacket : Packet → Option (List Symbol) → Option WidePath → Type 0
IsWithPacket packet word path = MatchOption path (word ≡ None) (λ p. (word ≡ Some p.word) × (p.packet ≡ packet))

module _ (net : Network) (parent child : Policy) where
  -- the child allows the packet this walk, and the parent does not
  abbrev pub IsStrayFor : Packet → List Symbol → Type 0
  IsStrayFor p w = (s : ℕ) × IsAllowed net child p s w × (¬ IsAllowed net parent p s w)

  -- the least walk that the child allows the packet, and the parent does not
  pub record IsLeastStrayFor (symbols : List Symbol) (packet : Packet) (word : List Symbol) : Type 0 where
    pub stray : IsStrayFor packet word
    pub least : (other : List Symbol) → IsStrayFor packet other → (word ≡ other) ⊎ IsLessWord symbols word other

  -- the child allows the packet a walk that the parent does not
  abbrev pub IsWider : Packet → Type 0
  IsWider p = (w : List Symbol) × IsStrayFor p w

  -- The least packet to which the child allows a walk that the parent does not, and the least such walk.
  pub record IsWidePath (symbols : List Symbol) (path : WidePath) : Type 0 where
    pub packet : IsLeastPacket IsWider path.packet
    pub word : IsLeastStrayFor symbols path.packet path.word

  -- what the child allows the parent allows
  abbrev pub KeepsPaths : Type 0
  KeepsPaths = (p : Packet) (s : ℕ) (w : List Symbol) → IsPacket p → IsAllowed net child p s w → IsAllowed net parent p s w

  -- these are the statements that touch, each of the child with one of the parent
  abbrev pub AreContacts : List Contact → Type 0
  AreContacts contacts = (i j : ℕ) → Contains contacts (contact i j) ↔ Touches net parent child i j

  -- these are the statements that touch, and this is what the child allows beside its parent
  pub record IsComparison (symbols : List Symbol) (comparison : Comparison) : Type 0 where
    pub touching : AreContacts comparison.contacts.items
    pub paths : MatchOption comparison.wide KeepsPaths (IsWidePath symbols)
