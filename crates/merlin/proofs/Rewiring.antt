-- Messages that are written are read back.
use Rattle.std.proofs.Common.{◌≡◌, ◌≤◌, ◌<◌, ◌+◌, ◌==◌, ◌^◌, ℕ, zero, suc, Bool, true, false, cond, List, [], ◌∷◌, ◌++◌, length, refl, sym, ◌∙◌, ap, subst, arith, append-nil}
use Rattle.std.specs.List.{AllByRecursion, AllZip, flat_map}
use Rattle.std.specs.Int.{bytes_high_first}
use Rattle.hex.specs.Hex.{encode_lower, IsBytes}
use Rattle.hex.proofs.HexLemmas.{decode_of-encode_lower}
use Rattle.merlin_base.specs.Texts.{joined}
use Rattle.merlin_base.specs.declared.status.Status.TheVariants as status
use Rattle.merlin_model.specs.declared.config.Rule.{Rule}
use Rattle.merlin_model.specs.Networks.{Network, IsNetwork}
use Rattle.config_text.specs.Words.{line}
use Rattle.config_read.specs.declared.result.ResultText.{ResultText}
use Rattle.config_read.specs.declared.fault.ConfigFault.TheVariants.{BadConfig}
use Rattle.config_read.specs.Answers.{IsTextOfResult, IsConfigFault}
use Rattle.config_read.proofs.OneResult.{result_once}
use Rattle.openflow_wire.specs.declared.numbers.Number.{Number}
use Rattle.openflow_wire.specs.declared.numbers.Number.TheVariants.{Byte, Short, Word, Mac, Long}
use Rattle.openflow_wire.specs.Fields.{number_bytes, bytes_of}
use Rattle.openflow_wire.specs.Messages.{action_numbers, actions_bytes, header_numbers, header_bytes, message_of, IsMessage}
use Rattle.openflow_wire.specs.Rules.{IsRule}
use Rattle.topology_rules.specs.Faults.{IsTopology}
use Rattle.merlin.specs.declared.wire.WireReply.{WireReply}
use Rattle.merlin.specs.declared.wire.WireReply.TheVariants as wire
use Rattle.merlin.specs.Inputs.{AreNetworkAndResult, BearsName}
use Rattle.merlin.specs.Wire.{WireForm, IsSwitchNamed, rules_at, message_line, message_lines, Wires, IsWireReply, wire_lines, wire_status}
use Rattle.merlin.specs.Unwire.{IsLineOfRule, BeginsWithMessages}
use Rattle.merlin.proofs.Compiling.{of_two}
use Rattle.merlin.proofs.OneTrace.{KnownNetworks}
use Rattle.merlin.proofs.Tracing.{one_bearer}
use Rattle.merlin.proofs.Wiring.{have_rules}

-- The bytes of a message are bytes.

IsSmall : ℕ → Type 0
IsSmall byte = byte < 256

both_small : (xs ys : List ℕ) → AllByRecursion IsSmall xs → AllByRecursion IsSmall ys → AllByRecursion IsSmall (xs ++ ys)
both_small [] ys f g = g
both_small (x ∷ xs) ys f g = (f.0, both_small xs ys f.1 g)

bytes_small : (k n : ℕ) → AllByRecursion IsSmall (bytes_high_first k n)
unfolding IsSmall
bytes_small zero n = tt
bytes_small (suc zero) n = (omega arith, tt)
bytes_small (suc (suc k)) n = (omega arith, bytes_small (suc k) n)

number_small : (n : Number) → AllByRecursion IsSmall (number_bytes n)
number_small (Byte n) = bytes_small 1 n
number_small (Short n) = bytes_small 2 n
number_small (Word n) = bytes_small 4 n
number_small (Mac n) = bytes_small 6 n
number_small (Long n) = bytes_small 8 n

numbers_small : (ns : List Number) → AllByRecursion IsSmall (bytes_of ns)
numbers_small [] = tt
numbers_small (n ∷ ns) = both_small (number_bytes n) (bytes_of ns) (number_small n) (numbers_small ns)

are_bytes : (xs : List ℕ) → AllByRecursion IsSmall xs → IsBytes xs
unfolding IsSmall
are_bytes [] all i = omega arith
are_bytes (x ∷ xs) all zero = all.0
are_bytes (x ∷ xs) all (suc i) = are_bytes xs all.1 i

message_bytes : (rule : Rule) (xid : ℕ) → IsBytes (message_of rule xid)
message_bytes rule xid =
    are_bytes (message_of rule xid) (both_small (header_bytes rule xid (72 + length (actions_bytes rule.actions))) (actions_bytes rule.actions) (numbers_small (header_numbers rule xid (72 + length (actions_bytes rule.actions)))) (numbers_small (flat_map action_numbers rule.actions)))

-- Lines of messages.

digits_from : ℕ → List Rule → List (List ℕ)
digits_from n [] = []
digits_from n (rule ∷ rules) = encode_lower (message_of rule n) ∷ digits_from (n + 1) rules

lines_are : (n : ℕ) (rules : List Rule) → joined (message_lines n rules) ≡ flat_map line (digits_from n rules)
unfolding digits_from
lines_are n [] = refl
lines_are n (rule ∷ rules) = ap (λ z. message_line rule n ++ z) (lines_are (n + 1) rules)

each_is : ((rule : Rule) (xid : ℕ) → IsRule rule → xid < 2 ^ 32 → IsMessage (message_of rule xid) rule.loc rule xid) → (switch n : ℕ) (rules : List Rule) → AllByRecursion IsRule rules → AllByRecursion (λ rule. rule.loc ≡ switch) rules
    → n + length rules ≤ 2 ^ 32 → AllZip (IsLineOfRule switch) (digits_from n rules) rules
unfolding digits_from
each_is back switch n [] are here few = tt
each_is back switch n (rule ∷ rules) are here few = (
  record {
    message = message_of rule n;
    stand_for = decode_of-encode_lower (message_of rule n) (message_bytes rule n);
    xid = n;
    is_message = subst (λ l. IsMessage (message_of rule n) l rule n) here.0 (back rule n are.0 (omega arith));
  },
  each_is back switch (n + 1) rules are.1 here.1 (omega arith),
)

rules_here : (switch : ℕ) (rules : List Rule) → AllByRecursion (λ rule. rule.loc ≡ switch) (rules_at switch rules)
rules_here switch [] = tt
rules_here switch (rule ∷ rules) = by (rule.loc == switch) refl (rules_here switch rules)
  where
    by : (b : Bool) → (rule.loc == switch) ≡ b → AllByRecursion (λ r. r.loc ≡ switch) (rules_at switch rules) → AllByRecursion (λ r. r.loc ≡ switch) (cond b (rule ∷ rules_at switch rules) (rules_at switch rules))
    by true e later = (grind arith, later)
    by false e later = later

rules_lawful : (switch : ℕ) (rules : List Rule) → AllByRecursion IsRule rules → AllByRecursion IsRule (rules_at switch rules)
rules_lawful switch [] all = tt
rules_lawful switch (rule ∷ rules) all = by (rule.loc == switch) (rules_lawful switch rules all.1)
  where
    by : (b : Bool) → AllByRecursion IsRule (rules_at switch rules) → AllByRecursion IsRule (cond b (rule ∷ rules_at switch rules) (rules_at switch rules))
    by true later = (all.0, later)
    by false later = later

fewer : (switch : ℕ) (rules : List Rule) → length (rules_at switch rules) ≤ length rules
fewer switch [] = omega arith
fewer switch (rule ∷ rules) = by (rule.loc == switch) (fewer switch rules)
  where
    by : (b : Bool) → length (rules_at switch rules) ≤ length rules → length (cond b (rule ∷ rules_at switch rules) (rules_at switch rules)) ≤ length (rule ∷ rules)
    by true later = omega arith
    by false later = omega arith

pub read_back : ((rule : Rule) (xid : ℕ) → IsRule rule → xid < 2 ^ 32 → IsMessage (message_of rule xid) rule.loc rule xid) → (net : Network) (bytes : List ℕ) (read : ResultText) (switch : ℕ) → IsTextOfResult net bytes read → length read.config.rules < 2 ^ 32
    → BeginsWithMessages switch (joined (message_lines 1 (rules_at switch read.config.rules))) (rules_at switch read.config.rules) []
read_back back net bytes read switch is few = record {
  digits = digits_from 1 (rules_at switch read.config.rules);
  each = each_is back switch 1 (rules_at switch read.config.rules) (rules_lawful switch read.config.rules (have_rules net bytes read is)) (rules_here switch read.config.rules) (let h = fewer switch read.config.rules in omega arith);
  whole = lines_are 1 (rules_at switch read.config.rules) ∙ sym (append-nil (flat_map line (digits_from 1 (rules_at switch read.config.rules))));
}

-- What is replied is determined by the files and the word.

module _ (known : KnownNetworks) (lawful : (bytes : List ℕ) (net : Network) → IsTopology bytes net → IsNetwork net) (form : WireForm) (topology result : List ℕ) where
  pub Wires-written : (net : Network) (read : ResultText) (switch : ℕ) → AreNetworkAndResult topology result net read → IsSwitchNamed net form.switch switch
      → (reply : WireReply) → Wires form topology result reply → (wire_status reply ≡ status.Done) × (wire_lines reply ≡ message_lines 1 (rules_at switch read.config.rules))
  Wires-written net read switch texts named (wire.BadTopology fault) h = absurd (h.0 (known.apart topology net fault texts.is_network h.1))
  Wires-written net read switch texts named (wire.BadResult at) h =
      let nets : h.net ≡ net = known.one topology h.net net h.is_network texts.is_network in
      let wrong : IsConfigFault net result (BadConfig at) = subst (λ n. IsConfigFault n result (BadConfig at)) nets h.wrong in
      absurd (wrong.none (read, texts.is_result.tree) texts.is_result.is texts.is_result.text)
  Wires-written net read switch texts named (wire.UnknownSwitch name) h =
      let nets : net ≡ h.net = known.one topology net h.net texts.is_network h.texts.is_network in
      absurd (h.none switch (subst (λ n. IsSwitchNamed n form.switch switch) nets named))
  Wires-written net read switch texts named (wire.Written place rules) h =
      let nets : h.net ≡ net = known.one topology h.net net h.texts.is_network texts.is_network in
      let reads : h.read ≡ read = result_once net (lawful topology net texts.is_network) result h.read read (subst (λ n. IsTextOfResult n result h.read) nets h.texts.is_result) texts.is_result in
      let switches : place ≡ switch = one_bearer net form.switch place switch (lawful topology net texts.is_network) (subst (λ n. BearsName n form.switch place) nets h.is_switch.0) named.0 in
      let same : rules ≡ read.config.rules = h.are ∙ ap (λ r. r.config.rules) reads in
      (refl, (λ i. message_lines 1 (rules_at (switches i) (same i))))

  against_refused : (s : WireReply) → wire_status s ≡ status.Refused → Wires form topology result s → (r : WireReply) → Wires form topology result r → wire_status s ≡ wire_status r
  against_refused s e k (wire.BadTopology fault) h = e
  against_refused s e k (wire.BadResult at) h = e
  against_refused s e k (wire.UnknownSwitch name) h = e
  against_refused s e k (wire.Written place rules) h = (Wires-written h.net h.read place h.texts h.is_switch s k).0

  Wires-one : (r s : WireReply) → Wires form topology result r → Wires form topology result s → wire_status s ≡ wire_status r
  Wires-one r (wire.BadTopology fault) h k = against_refused (wire.BadTopology fault) refl k r h
  Wires-one r (wire.BadResult at) h k = against_refused (wire.BadResult at) refl k r h
  Wires-one r (wire.UnknownSwitch name) h k = against_refused (wire.UnknownSwitch name) refl k r h
  Wires-one r (wire.Written place rules) h k = sym (Wires-written k.net k.read place k.texts k.is_switch r h).0

pub IsWireReply-wires : (form : WireForm) (t b : List ℕ) (r : WireReply) → IsWireReply form (t ∷ b ∷ []) r → Wires form t b r
IsWireReply-wires form t b r (x, y, e, h) = of_two (λ u v. Wires form u v r) (t ∷ b ∷ []) t b x y refl e h

pub IsWireReply-one : KnownNetworks → ((bytes : List ℕ) (net : Network) → IsTopology bytes net → IsNetwork net) → (form : WireForm) (contents : List (List ℕ)) (r s : WireReply) → IsWireReply form contents r → IsWireReply form contents s → wire_status s ≡ wire_status r
IsWireReply-one known lawful form contents r s (t, b, e, h) (x, y, e', k) =
    Wires-one known lawful form t b r s h (of_two (λ u v. Wires form u v s) contents t b x y e e' k)
