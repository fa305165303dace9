-- Every field of a rule's message holds what it may.
use Rattle.std.proofs.Common.{ℕ, ◌+◌, ◌≡◌, ◌==◌, ◌≤◌, Bool, true, false, not, ◌&&◌, ◌||◌, cond, List, [], ◌∷◌, length, Option, Some, None, IfSome, option_map, is_some, refl, sym, ap, ◌∙◌, arith}
use Rattle.std.specs.List.{find, AllByRecursion}
use Rattle.std.proofs.lemmas.Bool.{le-leb, eq-eqb}
use Rattle.merlin_model.specs.declared.config.Vlan.{Vlan}
use Rattle.merlin_model.specs.declared.config.Vlan.TheVariants.{Untagged, Tag}
use Rattle.merlin_model.specs.declared.config.Match.{Match}
use Rattle.merlin_model.specs.declared.config.Rule.{Rule}
use Rattle.openflow_wire.specs.declared.layout.Taken.{Taken}
use Rattle.openflow_wire.specs.declared.layout.Taken.TheVariants.{Any, Only, AtMost, Length, Wildcards, InPort, VlanId, EtherType}
use Rattle.openflow_wire.specs.declared.layout.TheConstants.{FIELDS}
use Rattle.openflow_wire.specs.declared.numbers.TheConstants.{NO_VLAN, IPV4}
use Rattle.openflow_wire.specs.Rules.{IsRule, IsPhysicalPort, IsVlan}
use Rattle.openflow_wire.specs.Fields.{number_at, are_wildcards, is_count, is_port, is_vlan_id, is_taken, may_hold}
use Rattle.openflow_wire.specs.Messages.{message_of, actions_bytes, first_fault, match_wildcards, wildcard_bits, number_of_bits, named, vlan_number, ether_type}
use Rattle.openflow_wire.proofs.Bits.{bits_above, bits_from}
use Rattle.openflow_wire.proofs.FieldsBack as back
use Rattle.openflow_wire.proofs.ActionsBack.{port_is, vlan_id_is}

-- where all are taken, none is found that isn't
none_faulty : (message : List ℕ) (fields : List (ℕ × ℕ × Taken)) → AllByRecursion (λ field. is_taken message field ≡ true) fields →
    first_fault message fields ≡ None
none_faulty message [] all = refl
none_faulty message (field ∷ fields) all =
    ap (λ (b : Bool). option_map (λ (f : ℕ × ℕ × Taken). f.0) (cond (not b) (Some field) (find (λ f. not (is_taken message f)) fields))) all.0
    ∙ none_faulty message fields all.1

-- a field that is there and holds what it may
taken : (message : List ℕ) (at width : ℕ) (form : Taken) → at + width ≤ length message →
    may_hold form message (number_at message at width) ≡ true → is_taken message (at, width, form) ≡ true
taken message at width form there holds =
    ap (λ (b : Bool). b && may_hold form message (number_at message at width)) (le-leb (at + width) (length message) there) ∙ holds

or_right : (a b : Bool) → b ≡ true → (a || b) ≡ true
or_right true b e = refl
or_right false b e = e

count_of : (b : Bool) → is_count (number_of_bits (false ∷ false ∷ false ∷ false ∷ false ∷ b ∷ [])) ≡ true
count_of true = refl
count_of false = refl

wildcards_taken : (m : Match) → are_wildcards (match_wildcards m) ≡ true
wildcards_taken m =
    rw (
      bits_from 8 6 (wildcard_bits m),
      bits_from 14 6 (wildcard_bits m),
      bits_above 20 (wildcard_bits m),
      count_of (not (is_some m.nw_src)),
      count_of (not (is_some m.nw_dst)),
    ) refl

in_port_taken : (o : Option ℕ) (b : Bool) (n : ℕ) → b ≡ not (is_some o) → n ≡ named o → IfSome o IsPhysicalPort → (b || is_port n) ≡ true
in_port_taken None b n e h is = ap (λ c. c || is_port n) e
in_port_taken (Some v) b n e h is = or_right b (is_port n) (ap is_port h ∙ port_is v is)

vlan_taken : (o : Option Vlan) (b : Bool) (n : ℕ) → b ≡ not (is_some o) → n ≡ named (option_map vlan_number o) → IfSome o IsVlan →
    (b || (is_vlan_id n || (n == NO_VLAN))) ≡ true
vlan_taken None b n e h is = ap (λ c. c || (is_vlan_id n || (n == NO_VLAN))) e
vlan_taken (Some Untagged) b n e h is =
    or_right b _ (or_right (is_vlan_id n) (n == NO_VLAN) (eq-eqb n NO_VLAN h))
vlan_taken (Some (Tag v)) b n e h is =
    or_right b _ (ap (λ (c : Bool). c || (n == NO_VLAN)) (ap is_vlan_id h ∙ vlan_id_is v is))

type_taken : (named b : Bool) (n : ℕ) → b ≡ not named → n ≡ ether_type named → (b || (n == IPV4)) ≡ true
type_taken false b n e h = ap (λ c. c || (n == IPV4)) e
type_taken true b n e h = or_right b _ (eq-eqb n IPV4 h)

message_length : (rule : Rule) (xid : ℕ) → length (message_of rule xid) ≡ 72 + length (actions_bytes rule.actions)
message_length rule xid = omega arith

pub all_taken : (rule : Rule) (xid : ℕ) → IsRule rule → first_fault (message_of rule xid) FIELDS ≡ None
all_taken rule xid is = none_faulty message FIELDS (
  it 0 1 (Only 1) (omega arith) refl,
  (
    it 1 1 (Only 14) (omega arith) refl,
    (
      it 2 2 Length (omega arith) (eq-eqb (number_at message 2 2) (length message) (back.length_back rule xid is ∙ sym (message_length rule xid))),
      (
        it 4 4 Any (omega arith) refl,
        (
          it 8 4 Wildcards (omega arith) (ap are_wildcards (back.wildcards_back rule xid) ∙ wildcards_taken rule.fits),
          (
            it 12 2 InPort (omega arith) (in_port_taken rule.fits.in_port _ _ (back.bit_back rule xid 0 _ refl) (back.in_port_back rule xid is) is.fits.in_port),
            (
              it 14 6 Any (omega arith) refl,
              (
                it 20 6 Any (omega arith) refl,
                (
                  it 26 2 VlanId (omega arith) (vlan_taken rule.fits.dl_vlan _ _ (back.bit_back rule xid 1 _ refl) (back.dl_vlan_back rule xid is) is.fits.dl_vlan),
                  (
                    it 28 1 Any (omega arith) refl,
                    (
                      it 29 1 Any (omega arith) refl,
                      (
                        it 30 2 EtherType (omega arith) (type_taken rule.fits.dl_type _ _ (back.bit_back rule xid 4 _ refl) (back.dl_type_back rule xid)),
                        (
                          it 32 1 Any (omega arith) refl,
                          (
                            it 33 1 Any (omega arith) refl,
                            (
                              it 34 2 Any (omega arith) refl,
                              (
                                it 36 4 Any (omega arith) refl,
                                (
                                  it 40 4 Any (omega arith) refl,
                                  (
                                    it 44 2 Any (omega arith) refl,
                                    (
                                      it 46 2 Any (omega arith) refl,
                                      (
                                        it 48 8 Any (omega arith) refl,
                                        (
                                          it 56 2 (Only 0) (omega arith) refl,
                                          (
                                            it 58 2 (Only 0) (omega arith) refl,
                                            (
                                              it 60 2 (Only 0) (omega arith) refl,
                                              (
                                                it 62 2 Any (omega arith) refl,
                                                (
                                                  it 64 4 (Only 4294967295) (omega arith) refl,
                                                  (
                                                    it 68 2 Any (omega arith) refl,
                                                    (it 70 2 (AtMost 1) (omega arith) refl, tt),
                                                  ),
                                                ),
                                              ),
                                            ),
                                          ),
                                        ),
                                      ),
                                    ),
                                  ),
                                ),
                              ),
                            ),
                          ),
                        ),
                      ),
                    ),
                  ),
                ),
              ),
            ),
          ),
        ),
      ),
    ),
  ),
)
  where
    message : List ℕ
    message = message_of rule xid

    it : (at width : ℕ) (form : Taken) → at + width ≤ 72 → may_hold form message (number_at message at width) ≡ true →
        is_taken message (at, width, form) ≡ true
    it at width form there holds = taken message at width form (omega (arith, there)) holds
