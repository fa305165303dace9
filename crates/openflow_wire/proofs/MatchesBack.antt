-- The message of a rule matches the frames that the rule fits.
use Rattle.std.proofs.Common.{ℕ, ◌≡◌, ◌≢◌, ◌⊎◌, inl, inr, ◌==◌, ◌≤◌, Bool, true, false, not, ◌&&◌, ◌||◌, Option, Some, None, IfSome, option_map, is_some, refl, sym, ap, ne_eqb, ◌∙◌, arith}
use Rattle.std.proofs.lemmas.Bool.{eq-eqb}
use Rattle.std.proofs.lemmas.Bool.Decides.{eqb_tells}
use Rattle.merlin_model.specs.declared.config.Vlan.{Vlan}
use Rattle.merlin_model.specs.declared.config.Vlan.TheVariants.{Untagged, Tag}
use Rattle.merlin_model.specs.declared.config.Match.{Match}
use Rattle.merlin_model.specs.declared.config.Rule.{Rule}
use Rattle.merlin_model.specs.Packets.{Packet}
use Rattle.merlin_model.specs.Machine.{Frame, agrees, vlan_agrees, fits}
use Rattle.openflow_wire.specs.declared.numbers.TheConstants.{MAX_VLAN, NO_VLAN, IPV4}
use Rattle.openflow_wire.specs.Rules.{IsRule, IsVlan}
use Rattle.openflow_wire.specs.Messages.{message_of, named, vlan_number, ether_type}
use Rattle.openflow_wire.specs.Frames.{tag_number, agrees_at, matches_frame}
use Rattle.openflow_wire.proofs.FieldsBack as back

eqb_comm : (a b : ℕ) → (a == b) ≡ (b == a)
eqb_comm a b = by (eqb_tells a b)
  where
    by : ((a == b ≡ true) × (a ≡ b)) ⊎ ((a == b ≡ false) × (a ≢ b)) → (a == b) ≡ (b == a)
    by (inl h) = h.0 ∙ sym (eq-eqb b a (sym h.1))
    by (inr h) = h.0 ∙ sym (ne_eqb b a (λ e. h.1 (sym e)))

agrees_back : (o : Option ℕ) (b : Bool) (n v : ℕ) → b ≡ not (is_some o) → n ≡ named o → (b || (n == v)) ≡ agrees o v
agrees_back None b n v e h = ap (λ (c : Bool). c || (n == v)) e
agrees_back (Some k) b n v e h = ap (λ (c : Bool). c || (n == v)) e ∙ ap (λ j. j == v) h

vlan_agrees_back : (o : Option Vlan) (b : Bool) (n : ℕ) (tag : Option ℕ) → b ≡ not (is_some o) → n ≡ named (option_map vlan_number o) →
    IfSome o IsVlan → IfSome tag (λ t. t ≤ MAX_VLAN) → (b || (n == tag_number tag)) ≡ vlan_agrees o tag
vlan_agrees_back None b n tag e h is few = ap (λ (c : Bool). c || (n == tag_number tag)) e
vlan_agrees_back (Some Untagged) b n None e h is few = ap (λ (c : Bool). c || (n == NO_VLAN)) e ∙ ap (λ j. j == NO_VLAN) h
vlan_agrees_back (Some Untagged) b n (Some t) e h is few =
    ap (λ (c : Bool). c || (n == t)) e ∙ ne_eqb n t (λ same. omega (arith, same, h, few))
vlan_agrees_back (Some (Tag k)) b n None e h is few =
    ap (λ (c : Bool). c || (n == NO_VLAN)) e ∙ ne_eqb n NO_VLAN (λ same. omega (arith, same, h, is))
vlan_agrees_back (Some (Tag k)) b n (Some t) e h is few =
    ap (λ (c : Bool). c || (n == t)) e ∙ ap (λ j. j == t) h ∙ eqb_comm k t

type_agrees_back : (named b : Bool) (n : ℕ) → b ≡ not named → n ≡ ether_type named → (b || (n == IPV4)) ≡ true
type_agrees_back false b n e h = ap (λ (c : Bool). c || (n == IPV4)) e
type_agrees_back true b n e h = ap (λ (c : Bool). c || (n == IPV4)) e ∙ eq-eqb n IPV4 h

-- the frame's own Ethernet type adds nothing
together : (a b c d e f g h i j : Bool) → e ≡ true →
    ((a && b && c && d && e) && (f && g && h && i && j)) ≡ (a && b && c && d && f && g && h && i && j)
together false b c d e f g h i j is = refl
together true false c d e f g h i j is = refl
together true true false d e f g h i j is = refl
together true true true false e f g h i j is = refl
together true true true true e f g h i j is = ap (λ x. x && (f && g && h && i && j)) is

nine : {a b c d f g h i j a' b' c' d' f' g' h' i' j' : Bool} → a ≡ a' → b ≡ b' → c ≡ c' → d ≡ d' → f ≡ f' → g ≡ g' → h ≡ h' →
    i ≡ i' → j ≡ j' → (a && b && c && d && f && g && h && i && j) ≡ (a' && b' && c' && d' && f' && g' && h' && i' && j')
nine ea eb ec ed ef eg eh ei ej = cc

pub matches_back : (rule : Rule) (xid : ℕ) (frame : Frame) → IsRule rule → IfSome frame.tag (λ tag. tag ≤ MAX_VLAN) →
    matches_frame (message_of rule xid) frame.port frame.tag frame.packet ≡ fits rule.fits frame
matches_back rule xid frame is few =
    together (it 0 12 2 frame.port) (it 2 14 6 p.eth_src) (it 3 20 6 p.eth_dst) (it 1 26 2 (tag_number frame.tag)) (it 4 30 2 IPV4)
    (it 5 33 1 p.proto) (it 13 36 4 p.ip_src) (it 19 40 4 p.ip_dst) (it 6 44 2 p.sport) (it 7 46 2 p.dport)
    (type_agrees_back m.dl_type _ _ (back.bit_back rule xid 4 _ refl) (back.dl_type_back rule xid))
    ∙ nine
    (agrees_back m.in_port _ _ frame.port (back.bit_back rule xid 0 _ refl) (back.in_port_back rule xid is))
    (agrees_back m.dl_src _ _ p.eth_src (back.bit_back rule xid 2 _ refl) (back.dl_src_back rule xid is))
    (agrees_back m.dl_dst _ _ p.eth_dst (back.bit_back rule xid 3 _ refl) (back.dl_dst_back rule xid is))
    (vlan_agrees_back m.dl_vlan _ _ frame.tag (back.bit_back rule xid 1 _ refl) (back.dl_vlan_back rule xid is) is.fits.dl_vlan few)
    (agrees_back m.nw_proto _ _ p.proto (back.bit_back rule xid 5 _ refl) (back.nw_proto_back rule xid is))
    (agrees_back m.nw_src _ _ p.ip_src (back.bit_back rule xid 13 _ refl) (back.nw_src_back rule xid is))
    (agrees_back m.nw_dst _ _ p.ip_dst (back.bit_back rule xid 19 _ refl) (back.nw_dst_back rule xid is))
    (agrees_back m.tp_src _ _ p.sport (back.bit_back rule xid 6 _ refl) (back.tp_src_back rule xid is))
    (agrees_back m.tp_dst _ _ p.dport (back.bit_back rule xid 7 _ refl) (back.tp_dst_back rule xid is))
  where
    m : Match
    m = rule.fits

    p : Packet
    p = frame.packet

    it : (bit at width n : ℕ) → Bool
    it bit at width n = agrees_at (message_of rule xid) bit at width n
