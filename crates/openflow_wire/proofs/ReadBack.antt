-- The message of a rule is read as that rule.
use Rattle.std.proofs.Common.{ℕ, ◌≡◌, Bool, true, false, not, cond, Option, Some, None, IfSome, option_map, is_some, refl, ap, ne_eqb, ◌∙◌, arith}
use Rattle.merlin_model.specs.declared.config.Vlan.{Vlan}
use Rattle.merlin_model.specs.declared.config.Vlan.TheVariants.{Untagged, Tag}
use Rattle.merlin_model.specs.declared.config.Match.{Match}
use Rattle.merlin_model.specs.declared.config.Rule.{Rule}
use Rattle.openflow_wire.specs.Rules.{IsRule, IsVlan, IsVlanId}
use Rattle.openflow_wire.specs.declared.numbers.TheConstants.{NO_VLAN}
use Rattle.openflow_wire.specs.Messages.{message_of, message_match, vlan_of, vlan_number, named}
use Rattle.openflow_wire.proofs.FieldsBack as back

twice : (b : Bool) → not (not b) ≡ b
twice true = refl
twice false = refl

made : Option ℕ → Option ℕ → Option ℕ → Option Vlan → Bool → Option ℕ → Option ℕ → Option ℕ → Option ℕ → Option ℕ → Match
made a b c d e f g h i j = record {
  in_port = a;
  dl_src = b;
  dl_dst = c;
  dl_vlan = d;
  dl_type = e;
  nw_proto = f;
  nw_src = g;
  nw_dst = h;
  tp_src = i;
  tp_dst = j;
}

-- matches with the same fields
same_match : (m k : Match) → m.in_port ≡ k.in_port → m.dl_src ≡ k.dl_src → m.dl_dst ≡ k.dl_dst → m.dl_vlan ≡ k.dl_vlan →
    m.dl_type ≡ k.dl_type → m.nw_proto ≡ k.nw_proto → m.nw_src ≡ k.nw_src → m.nw_dst ≡ k.nw_dst → m.tp_src ≡ k.tp_src →
    m.tp_dst ≡ k.tp_dst → m ≡ k
unfolding made
same_match m k a b c d e f g h i j = by a b c d e f g h i j
  where
    by : m.in_port ≡ k.in_port → m.dl_src ≡ k.dl_src → m.dl_dst ≡ k.dl_dst → m.dl_vlan ≡ k.dl_vlan →
        m.dl_type ≡ k.dl_type → m.nw_proto ≡ k.nw_proto → m.nw_src ≡ k.nw_src → m.nw_dst ≡ k.nw_dst → m.tp_src ≡ k.tp_src →
        m.tp_dst ≡ k.tp_dst →
        made m.in_port m.dl_src m.dl_dst m.dl_vlan m.dl_type m.nw_proto m.nw_src m.nw_dst m.tp_src m.tp_dst
        ≡ made k.in_port k.dl_src k.dl_dst k.dl_vlan k.dl_type k.nw_proto k.nw_src k.nw_dst k.tp_src k.tp_dst
    by a b c d e f g h i j = cc

-- a field that a bit leaves out, or whose number is read back
field_back : (o : Option ℕ) (b : Bool) (n : ℕ) → b ≡ not (is_some o) → n ≡ named o → (cond b None (Some n)) ≡ o
field_back None b n e h = ap (λ (c : Bool). cond c None (Some n)) e
field_back (Some v) b n e h = ap (λ (c : Bool). cond c None (Some n)) e ∙ ap Some h

no_other : (k : ℕ) → IsVlanId k → vlan_of k ≡ Tag k
no_other k is = ap (λ (c : Bool). cond c Untagged (Tag k)) (ne_eqb k NO_VLAN (λ e. omega (arith, e, is)))

vlan_back : (o : Option Vlan) (b : Bool) (n : ℕ) → b ≡ not (is_some o) → n ≡ named (option_map vlan_number o) → IfSome o IsVlan →
    (cond b None (Some (vlan_of n))) ≡ o
vlan_back None b n e h is = ap (λ (c : Bool). cond c None (Some (vlan_of n))) e
vlan_back (Some Untagged) b n e h is = ap (λ (c : Bool). cond c None (Some (vlan_of n))) e ∙ ap (λ k. Some (vlan_of k)) h
vlan_back (Some (Tag k)) b n e h is =
    ap (λ (c : Bool). cond c None (Some (vlan_of n))) e ∙ ap (λ j. Some (vlan_of j)) h ∙ ap Some (no_other k is)

pub match_back : (rule : Rule) (xid : ℕ) → IsRule rule → message_match (message_of rule xid) ≡ rule.fits
match_back rule xid is = same_match (message_match (message_of rule xid)) rule.fits
    (field_back rule.fits.in_port _ _ (back.bit_back rule xid 0 _ refl) (back.in_port_back rule xid is))
    (field_back rule.fits.dl_src _ _ (back.bit_back rule xid 2 _ refl) (back.dl_src_back rule xid is))
    (field_back rule.fits.dl_dst _ _ (back.bit_back rule xid 3 _ refl) (back.dl_dst_back rule xid is))
    (vlan_back rule.fits.dl_vlan _ _ (back.bit_back rule xid 1 _ refl) (back.dl_vlan_back rule xid is) is.fits.dl_vlan)
    (ap not (back.bit_back rule xid 4 _ refl) ∙ twice rule.fits.dl_type)
    (field_back rule.fits.nw_proto _ _ (back.bit_back rule xid 5 _ refl) (back.nw_proto_back rule xid is))
    (field_back rule.fits.nw_src _ _ (back.bit_back rule xid 13 _ refl) (back.nw_src_back rule xid is))
    (field_back rule.fits.nw_dst _ _ (back.bit_back rule xid 19 _ refl) (back.nw_dst_back rule xid is))
    (field_back rule.fits.tp_src _ _ (back.bit_back rule xid 6 _ refl) (back.tp_src_back rule xid is))
    (field_back rule.fits.tp_dst _ _ (back.bit_back rule xid 7 _ refl) (back.tp_dst_back rule xid is))
