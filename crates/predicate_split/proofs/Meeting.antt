-- Whether what is left of a predicate between two hosts can hold says whether the predicate can hold between them.
use Rattle.std.proofs.Common.{◌≡◌, ◌↔◌, ◌≤◌, Bool, true, false, IsTrue, Option, None, Some, is_some, IfSome, IfNone, List, [], ◌∷◌, inl, inr, refl, sym, ◌∙◌, ap, ap₂, subst, arith}
use Rattle.merlin_model.specs.declared.network.HostAddress.{HostAddress}
use Rattle.merlin_model.specs.declared.policy.Field.{Field}
use Rattle.merlin_model.specs.declared.policy.Field.TheVariants.{EthSrc, EthDst, IpSrc, IpDst, Proto, Sport, Dport}
use Rattle.merlin_model.specs.declared.policy.Pred.{Pred}
use Rattle.merlin_model.specs.Packets.{Packet, IsPacket, source_of, destination_of, field_of}
use Rattle.merlin_model.specs.Predicates.{holds, IsPred}
use Rattle.merlin_model.proofs.Members.{In}
use Rattle.predicate_logic.specs.Residues.{field_number}
use Rattle.predicate_split.specs.Between.{HoldsBetween}
use Rattle.predicate_split.specs.Left.{left_between}
use Rattle.predicate_split.specs.Cells.{packet_between}
use Rattle.predicate_split.specs.Walks.{AreFresh, IsUnfixed, IsLeastFrom, HoldsNowhere}
use Rattle.predicate_split.proofs.Owners.{GoesBetween, between-holds, left-fresh}

abbrev other_fields : List Field
other_fields = Proto ∷ Sport ∷ Dport ∷ []

pub starts : (src dst : HostAddress) (pred left : Pred) (z : Packet) → IsPred pred → left ≡ left_between src dst pred → z ≡ packet_between src dst 0 0 0 → AreFresh other_fields z.proto (left ∷ [])
unfolding left_between
starts src dst pred left z well is at = subst (λ (p : Packet). AreFresh other_fields p.proto (left ∷ [])) (sym at) (subst (λ l. AreFresh other_fields 0 (l ∷ [])) (sym is) (left-fresh src dst (pred ∷ []) (well, tt)))

false_true : false ≡ true → ⊥
false_true e = cc

not-address : (f : Field) → In f other_fields → 4 ≤ field_number f
not-address f (inl e) = subst (λ g. 4 ≤ field_number g) (sym e) (omega arith)
not-address f (inr (inl e)) = subst (λ g. 4 ≤ field_number g) (sym e) (omega arith)
not-address f (inr (inr (inl e))) = subst (λ g. 4 ≤ field_number g) (sym e) (omega arith)
not-address f (inr (inr (inr i))) = absurd i

module _ (src dst : HostAddress) (pred left : Pred) (z : Packet) (is : left ≡ left_between src dst pred) (at : z ≡ packet_between src dst 0 0 0) where
  left-holds : (p : Packet) → GoesBetween src dst p → holds left p ≡ holds pred p
  left-holds p goes = ap (λ l. holds l p) is ∙ between-holds src dst p goes pred

  -- the packet found goes between the hosts
  found-goes : (c : Packet) → IsLeastFrom other_fields z left c → GoesBetween src dst c
  found-goes c found = record {
    eth_src = found.kept EthSrc (λ i. let far = not-address EthSrc i in omega (arith, far)) ∙ ap (λ (p : Packet). p.eth_src) at;
    eth_dst = found.kept EthDst (λ i. let far = not-address EthDst i in omega (arith, far)) ∙ ap (λ (p : Packet). p.eth_dst) at;
    ip_src = found.kept IpSrc (λ i. let far = not-address IpSrc i in omega (arith, far)) ∙ ap (λ (p : Packet). p.ip_src) at;
    ip_dst = found.kept IpDst (λ i. let far = not-address IpDst i in omega (arith, far)) ∙ ap (λ (p : Packet). p.ip_dst) at;
  }

  met : (c : Packet) → IsPacket c → IsLeastFrom other_fields z left c → HoldsBetween src dst pred
  met c packet found =
      let goes = found-goes c found in
      record {
        packet = c;
        is_packet = packet;
        source = λ k. record { eth = goes.eth_src k; ip = goes.ip_src k };
        destination = λ k. record { eth = goes.eth_dst k; ip = goes.ip_dst k };
        holds = sym (left-holds c goes) ∙ found.meets;
      }

  never : HoldsNowhere left → HoldsBetween src dst pred → ⊥
  never nowhere h = nowhere h.packet h.is_packet (left-holds h.packet goes ∙ h.holds)
    where
      goes : GoesBetween src dst h.packet
      goes = record {
        eth_src = ap (λ (a : HostAddress). a.eth) h.source;
        eth_dst = ap (λ (a : HostAddress). a.eth) h.destination;
        ip_src = ap (λ (a : HostAddress). a.ip) h.source;
        ip_dst = ap (λ (a : HostAddress). a.ip) h.destination;
      }

  pub told : (o : Option Packet) (b : Bool) → b ≡ is_some o → IfSome o IsPacket → IfSome o (IsLeastFrom other_fields z left) → IfNone o (HoldsNowhere left) → IsTrue b ↔ HoldsBetween src dst pred
  told None b e packet some none = (λ t. absurd (false_true (sym e ∙ t)), λ h. absurd (never none h))
  told (Some c) b e packet some none = (λ t. met c packet some, λ h. e)
