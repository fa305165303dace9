-- The least packet to which the child allows more, and its least walk.
use Rattle.std.proofs.Common.{◌≡◌, ◌⊎◌, inl, inr, ℕ, Bool, true, false, List, Option, None, Some, IsSome, MatchOption, refl, sym, ◌∙◌, subst}
use Rattle.merlin_model.specs.declared.network.HostAddress.{HostAddress}
use Rattle.merlin_model.specs.declared.policy.Symbol.{Symbol}
use Rattle.merlin_model.specs.Packets.{Packet, IsPacket, ComesBefore, IsLeastPacket, source_of, destination_of}
use Rattle.merlin_model.specs.Networks.{Network, IsNetwork, IsHost, address_of}
use Rattle.merlin_model.specs.Words.{IsWalk}
use Rattle.merlin_model.specs.Policies.{Policy, match_of, IsAllowed}
use Rattle.path_automaton.specs.Automata.{AutomatonTables}
use Rattle.language_check.specs.Inclusion.{accepts_word, IsStrayWalk, IsInclusionAnswer}
use Rattle.language_check.specs.Ways.{AreSymbolsOf}
use Rattle.negotiator.specs.declared.contacts.WidePacket.{WidePacket}
use Rattle.negotiator.specs.declared.contacts.Findings.{Findings}
use Rattle.negotiator.specs.declared.paths.WidePath.{WidePath}
use Rattle.negotiator.specs.Contacts.{IsWideBetween, IsWide, StaysOrComesLater, IsWholeFound}
use Rattle.negotiator.specs.Wider.{IsStrayFor, IsLeastStrayFor, IsWider, IsWidePath, IsWithPacket, KeepsPaths}
use Rattle.negotiator.proofs.Walking.{IsReadBy, on-path}

clash : false ≡ true → ⊥
clash e = cc

pub is-host : (net : Network) (h : ℕ) (a : HostAddress) → address_of net h ≡ Some a → IsHost net h
is-host net h a e = subst IsSome (sym e) refl

module _ (net : Network) (parent child : Policy) where
  -- No packet has more: the parent allows what the child allows.
  pub keeps-paths : (found : Findings) → found.wide ≡ None → IsWholeFound net parent child found → KeepsPaths net parent child
  keeps-paths found gone h p s w is_packet allowed = by (subst (StaysOrComesLater net parent child s allowed.to p) gone (h.others s allowed.to p tt is_packet allowed.proper))
    where
      by : StaysOrComesLater net parent child s allowed.to p None → IsAllowed net parent p s w
      by (inl within) = record { to = allowed.to; proper = allowed.proper; walk = allowed.walk; on_path = within w allowed.walk allowed.on_path }
      by (inr never) = absurd never

  -- The packet that was found is the least.
  pub least-packet : (found : Findings) (wide : WidePacket) → found.wide ≡ Some wide → IsWholeFound net parent child found → (w : List Symbol) → IsStrayFor net parent child wide.packet w →
      IsLeastPacket (IsWider net parent child) wide.packet
  least-packet found wide is h w stray = record {
    is_packet = (subst (λ o. MatchOption o ⊥ (IsWide net parent child)) is (known found.wide is h.wide)).is_packet;
    has = (w, stray);
    least = λ q is_packet has. later q is_packet has;
  }
    where
      known : (o : Option WidePacket) → o ≡ Some wide → MatchOption o (Unit {0}) (IsWide net parent child) → MatchOption o ⊥ (IsWide net parent child)
      known None e m = absurd (none-some e)
        where
          none-some : None ≡ Some wide → ⊥
          none-some e = cc
      known (Some x) e m = m

      later : (q : Packet) → IsPacket q → IsWider net parent child q → (q ≡ wide.packet) ⊎ ComesBefore wide.packet q
      later q is_packet (u, (s, allowed, not_allowed)) =
          by (subst (StaysOrComesLater net parent child s allowed.to q) is (h.others s allowed.to q tt is_packet allowed.proper))
        where
          by : StaysOrComesLater net parent child s allowed.to q (Some wide) → (q ≡ wide.packet) ⊎ ComesBefore wide.packet q
          by (inl within) = absurd (not_allowed (record { to = allowed.to; proper = allowed.proper; walk = allowed.walk; on_path = within u allowed.walk allowed.on_path }))
          by (inr (inl e)) = inl (sym e)
          by (inr (inr f)) = inr f

  -- The least walk, by the automata of both statements.
  module _ (lawful : IsNetwork net) (symbols : List Symbol) (are : AreSymbolsOf net symbols) (s d : ℕ) (p : Packet) (at : IsWideBetween net parent child s d p) (table other : AutomatonTables)
      (r : IsReadBy symbols child (match_of child p) table) (q : IsReadBy symbols parent (match_of parent p) other) where
    same-host : (h k : ℕ) (a : HostAddress) → address_of net h ≡ Some a → address_of net k ≡ Some a → h ≡ k
    same-host h k a e f = lawful.addresses h k a a e f (inl refl)

    stray-walk : (w : List Symbol) → IsStrayFor net parent child p w → IsStrayWalk net symbols table other s d w
    stray-walk w (t, allowed, not_allowed) =
        let walk = subst (λ x. IsWalk net x d w) (same-host t s (source_of p) allowed.proper.source at.proper.source)
        (subst (λ y. IsWalk net t y w) (same-host allowed.to d (destination_of p) allowed.proper.destination at.proper.destination) allowed.walk) in
        record {
          walk = walk;
          accepted = (on-path net symbols are child (match_of child p) table r s d w walk).1 allowed.on_path;
          refused = refused (accepts_word symbols other w) refl walk;
        }
      where
        refused : (b : Bool) → accepts_word symbols other w ≡ b → IsWalk net s d w → accepts_word symbols other w ≡ false
        refused false e walk = e
        refused true e walk =
            absurd (not_allowed (record { to = allowed.to; proper = allowed.proper; walk = allowed.walk; on_path = (on-path net symbols are parent (match_of parent p) other q s d w walk).0 e }))

    pub least-word : (found : Option (List Symbol)) → IsInclusionAnswer net symbols table other s d found → MatchOption found ⊥ (IsLeastStrayFor net parent child symbols p)
    least-word None answer =
        at.strays (λ w walk on. (on-path net symbols are parent (match_of parent p) other q s d w walk).0 (answer w walk ((on-path net symbols are child (match_of child p) table r s d w walk).1 on)))
    least-word (Some w) answer = record {
      stray = (
        s,
        record { to = d; proper = at.proper; walk = answer.0.walk; on_path = (on-path net symbols are child (match_of child p) table r s d w answer.0.walk).0 answer.0.accepted },
        λ allowed. clash (sym answer.0.refused ∙ (on-path net symbols are parent (match_of parent p) other q s d w answer.0.walk).1 allowed.on_path),
      );
      least = λ u stray. answer.1 u (stray-walk u stray);
    }

  -- What was found with its walk is what is answered.
  pub wide-answer : (symbols : List Symbol) (found : Findings) (wide : WidePacket) → found.wide ≡ Some wide → IsWholeFound net parent child found → (word : Option (List Symbol)) →
      MatchOption word ⊥ (IsLeastStrayFor net parent child symbols wide.packet) → (path : Option WidePath) → IsWithPacket wide.packet word path → MatchOption path (KeepsPaths net parent child) (IsWidePath net parent child symbols)
  wide-answer symbols found wide is h word least None e = absurd (subst (λ o. MatchOption o ⊥ (IsLeastStrayFor net parent child symbols wide.packet)) e least)
  wide-answer symbols found wide is h word least (Some path) e =
      let own : IsLeastStrayFor net parent child symbols wide.packet path.word = subst (λ o. MatchOption o ⊥ (IsLeastStrayFor net parent child symbols wide.packet)) e.0 least in
      record {
        packet = subst (IsLeastPacket (IsWider net parent child)) (sym e.1) (least-packet found wide is h path.word own.stray);
        word = subst (λ p. IsLeastStrayFor net parent child symbols p path.word) (sym e.1) own;
      }

  pub wide-is : (found : Findings) (wide : WidePacket) → found.wide ≡ Some wide → IsWholeFound net parent child found → IsWide net parent child wide
  wide-is found wide is h = subst (λ o. MatchOption o (Unit {0}) (IsWide net parent child)) is h.wide
