-- What the command `wire` replies.
use Rattle.std.proofs.Common.{◌≡◌, ◌≢◌, ◌≤◌, ◌<◌, ◌+◌, ◌/◌, ◌%◌, ◌^◌, ◌⊎◌, inl, inr, ℕ, List, [], ◌∷◌, ◌++◌, length, get_or, refl, sym, ◌∙◌, ap, subst, arith, option_map}
use Rattle.std.specs.Prelude.{Option, Some, None, IfSome}
use Rattle.std.specs.List.{All, AllByRecursion}
use Rattle.std.specs.String.{string_bytes}
use Rattle.std.specs.declared.string.String.{String}
use Rattle.std.specs.declared.alloc.Global.{Global}
use Rattle.merlin.specs.Words.{word_texts}
use Rattle.std.specs.Int.{bytes_high_first}
use Rattle.std.proofs.Math.Nat.{div-div-eq-div-mul}
use Rattle.std.proofs.lemmas.List.Elements.{All-from_recursion}
use Rattle.merlin_model.specs.declared.config.Out.{Out}
use Rattle.merlin_model.specs.declared.config.Out.TheVariants.{InPort, Port}
use Rattle.merlin_model.specs.declared.config.Action.{Action}
use Rattle.merlin_model.specs.declared.config.Action.TheVariants.{SetVlan, StripVlan, Output, Enqueue}
use Rattle.merlin_model.specs.declared.config.Vlan.{Vlan}
use Rattle.merlin_model.specs.declared.config.Vlan.TheVariants.{Untagged, Tag}
use Rattle.merlin_model.specs.declared.config.Match.{Match}
use Rattle.merlin_model.specs.declared.config.Rule.{Rule}
use Rattle.merlin_model.specs.declared.config.Config.{Config}
use Rattle.merlin_model.specs.declared.network.LocationKind.{LocationKind}
use Rattle.merlin_model.specs.declared.network.LocationKind.TheVariants as kinds
use Rattle.merlin_model.specs.declared.network.Place.{Place}
use Rattle.merlin_model.specs.declared.network.Place.TheVariants as places
use Rattle.merlin_model.specs.Networks.{Network, IsNetwork, IsSwitch, kind_of}
use Rattle.topology.specs.Look.{place_of_kind, place_at}
use Rattle.config_lines.specs.Words.{IsOptional}
use Rattle.config_lines.specs.Parts.{IsLineVlan, IsLineMatch, IsLineOut, IsTagging, IsSending, AreLineActions}
use Rattle.config_lines.specs.Lines.{IsRuleLine}
use Rattle.config_read.specs.declared.result.Head.{Head}
use Rattle.config_read.specs.declared.result.Head.TheVariants.{Least, Infeasible}
use Rattle.config_read.specs.declared.result.ResultText.{ResultText}
use Rattle.config_read.specs.Results.{IsConfigOf}
use Rattle.config_read.specs.Answers.{IsTextOfResult}
use Rattle.openflow_wire.specs.declared.numbers.Number.TheVariants.{Byte, Short}
use Rattle.openflow_wire.specs.Fields.{number_bytes, bytes_of}
use Rattle.openflow_wire.specs.Messages.{actions_bytes, header_numbers, message_of}
use Rattle.openflow_wire.specs.Rules.{IsOut, IsVlan, IsMatch, ChangesTag, Sends, AreActions, IsRule}
use Rattle.merlin.specs.Inputs.{BearsName}
use Rattle.merlin.specs.Wire.{WireForm, IsSwitchNamed, Wires, HaveMessages}
use Rattle.merlin.specs.declared.wire.WireReply.{WireReply}
use Rattle.merlin.specs.declared.wire.WireReply.TheVariants as wire
use Rattle.merlin.proofs.Tracing.{one_bearer}

-- Four words.

four : {A : Type 0} (ws : List A) (a b c d : A) → length ws ≡ 4 → a ≡ get_or ws 0 a → b ≡ get_or ws 1 b
    → c ≡ get_or ws 2 c → d ≡ get_or ws 3 d → ws ≡ a ∷ b ∷ c ∷ d ∷ []
four [] a b c d long p q r s = absurd (omega (arith, long))
four (w ∷ []) a b c d long p q r s = absurd (omega (arith, long))
four (w ∷ x ∷ []) a b c d long p q r s = absurd (omega (arith, long))
four (w ∷ x ∷ y ∷ []) a b c d long p q r s = absurd (omega (arith, long))
four (w ∷ x ∷ y ∷ z ∷ []) a b c d long p q r s = rw (p, q, r, s)
four (w ∷ x ∷ y ∷ z ∷ v ∷ ws) a b c d long p q r s = absurd (omega (arith, long))

pub texts_of_four_alone : (ws : List (String Global)) (a b c d : String Global) → length ws ≡ 4
    → a ≡ get_or ws 0 a → b ≡ get_or ws 1 b → c ≡ get_or ws 2 c → d ≡ get_or ws 3 d
    → word_texts ws ≡ string_bytes a ∷ string_bytes b ∷ string_bytes c ∷ string_bytes d ∷ []
texts_of_four_alone ws a b c d long p q r s = ap word_texts (four ws a b c d long p q r s)

-- Switches.

pub is_switch : (net : Network) (loc : ℕ) → place_at net loc ≡ Some places.Switch → IsSwitch net loc
is_switch net loc e = by (kind_of net loc) e
  where
    by : (o : Option LocationKind) → option_map place_of_kind o ≡ Some places.Switch → o ≡ Some kinds.Switch
    by None h = absurd (let no_way : ◌≡◌ {A = Option Place} None (Some places.Switch) → ⊥ = λ k. cc in no_way h)
    by (Some (kinds.Host a)) h = absurd (let no_way : ◌≡◌ {A = Option Place} (Some places.Host) (Some places.Switch) → ⊥ = λ k. cc in no_way h)
    by (Some kinds.Switch) h = refl
    by (Some kinds.Middlebox) h = absurd (let no_way : ◌≡◌ {A = Option Place} (Some places.Middlebox) (Some places.Switch) → ⊥ = λ k. cc in no_way h)

some_place : (p q : Place) → ◌≡◌ {A = Option Place} (Some p) (Some q) → p ≡ q
some_place p q e = cc

pub no_switch : (net : Network) (name : List ℕ) (loc : ℕ) (other : Place) → IsNetwork net → BearsName net name loc → place_at net loc ≡ Some other → other ≢ places.Switch → (switch : ℕ) → ¬ IsSwitchNamed net name switch
no_switch net name loc other is bears here differ switch named =
    differ (some_place other places.Switch (sym here ∙ ap (option_map place_of_kind) (subst (λ l. kind_of net l ≡ Some kinds.Switch) (one_bearer net name switch loc is named.0 bears) named.1)))

pub not_switch : (p : Place) → (p ≡ places.Host) ⊎ (p ≡ places.Middlebox) → p ≢ places.Switch
not_switch p (inl e) f = let same : places.Host ≡ places.Switch = sym e ∙ f in cc
not_switch p (inr e) f = let same : places.Middlebox ≡ places.Switch = sym e ∙ f in cc

-- Rules of results have messages.

optional : {X : Type 0} (P Q : X → Type 0) → ((x : X) → P x → Q x) → (o : Option X) → IsOptional P o → IfSome o Q
optional P Q from None is = tt
optional P Q from (Some x) is = from x is

vlan_is : (v : Vlan) → IsLineVlan v → IsVlan v
vlan_is Untagged is = tt
vlan_is (Tag n) is = (is.low, is.high)

match_is : (m : Match) → IsLineMatch m → IsMatch m
match_is m is = record {
  in_port = optional _ _ (λ n k. (k.low, k.high)) m.in_port is.in_port;
  dl_src = optional _ _ (λ n k. k) m.dl_src is.dl_src;
  dl_dst = optional _ _ (λ n k. k) m.dl_dst is.dl_dst;
  dl_vlan = optional _ _ vlan_is m.dl_vlan is.dl_vlan;
  nw_proto = optional (λ n. n ≤ 255) (λ n. n < 2 ^ 8) (λ n k. omega arith) m.nw_proto is.nw_proto;
  nw_src = optional _ _ (λ n k. k) m.nw_src is.nw_src;
  nw_dst = optional _ _ (λ n k. k) m.nw_dst is.nw_dst;
  tp_src = optional (λ n. n ≤ 65535) (λ n. n < 2 ^ 16) (λ n k. omega arith) m.tp_src is.tp_src;
  tp_dst = optional (λ n. n ≤ 65535) (λ n. n < 2 ^ 16) (λ n k. omega arith) m.tp_dst is.tp_dst;
}

out_is : (out : Out) → IsLineOut out → IsOut out
out_is InPort is = tt
out_is (Port n) is = (is.low, is.high)

change_is : (a : Action) → IsTagging a → ChangesTag a
change_is (SetVlan n) is = (is.low, is.high)
change_is StripVlan is = tt
change_is (Output out) is = is
change_is (Enqueue out queue) is = is

send_is : (a : Action) → IsSending a → Sends a
send_is (SetVlan n) is = is
send_is StripVlan is = is
send_is (Output out) is = out_is out is
send_is (Enqueue out queue) is = (out_is out is.0, (is.1.low, is.1.high))

actions_are : (actions : List Action) → AreLineActions actions → AreActions actions
actions_are [] are = tt
actions_are (a ∷ []) are = send_is a are
actions_are (a ∷ b ∷ []) are = (change_is a are.0, send_is b are.1)
actions_are (a ∷ b ∷ c ∷ cs) are = are

pub IsRule-from_line : (net : Network) (rule : Rule) → IsRuleLine net rule → IsRule rule
IsRule-from_line net rule is = record { priority = (let p = is.priority in omega arith); fits = match_is rule.fits is.fits; actions = actions_are rule.actions is.actions }

rules_are : (net : Network) (rules : List Rule) → AllByRecursion (IsRuleLine net) rules → AllByRecursion IsRule rules
rules_are net [] all = tt
rules_are net (rule ∷ rules) all = (IsRule-from_line net rule all.0, rules_are net rules all.1)

config_has : (net : Network) (head : Head) (config : Config) → IsConfigOf net head config → AllByRecursion IsRule config.rules
config_has net (Least objective value walks loads) config is = rules_are net config.rules is.rules
config_has net (Infeasible objective) config is = subst (AllByRecursion IsRule) (sym is.rules) tt

pub have_rules : (net : Network) (bytes : List ℕ) (read : ResultText) → IsTextOfResult net bytes read → AllByRecursion IsRule read.config.rules
have_rules net bytes read is = config_has net read.head read.config is.is.config

pub have_messages : (net : Network) (bytes : List ℕ) (read : ResultText) → IsTextOfResult net bytes read → All IsRule read.config.rules
have_messages net bytes read is = All-from_recursion IsRule read.config.rules (config_has net read.head read.config is.is.config)

pub have_alone : (form : WireForm) (topology result : List ℕ) (reply : WireReply) → Wires form topology result reply → HaveMessages reply
have_alone form topology result (wire.BadTopology fault) h = tt
have_alone form topology result (wire.BadResult at) h = tt
have_alone form topology result (wire.UnknownSwitch name) h = tt
have_alone form topology result (wire.Written switch rules) h = subst (All IsRule) (sym h.are) (have_messages h.net result h.read h.texts.is_result)

-- A message has 32 bits for its number.

word_wraps : (n : ℕ) → bytes_high_first 4 (n % 4294967296) ≡ bytes_high_first 4 n
word_wraps n = by (n % 4294967296) refl
  where
    by : (m : ℕ) → n % 4294967296 ≡ m → bytes_high_first 4 m ≡ bytes_high_first 4 n
    by m e =
        let x : n / 256 / 256 ≡ n / 65536 = div-div-eq-div-mul n 256 256 in
        let y : n / 65536 / 256 ≡ n / 16777216 = div-div-eq-div-mul n 65536 256 in
        let v : m / 256 / 256 ≡ m / 65536 = div-div-eq-div-mul m 256 256 in
        let w : m / 65536 / 256 ≡ m / 16777216 = div-div-eq-div-mul m 65536 256 in
        let first : m / 256 / 256 / 256 % 256 ≡ n / 256 / 256 / 256 % 256 = omega arith in
        let second : m / 256 / 256 % 256 ≡ n / 256 / 256 % 256 = omega arith in
        let third : m / 256 % 256 ≡ n / 256 % 256 = omega arith in
        let fourth : m % 256 ≡ n % 256 = omega arith in
        cc

pub message_wraps : (rule : Rule) (n : ℕ) → message_of rule (n % 4294967296) ≡ message_of rule n
message_wraps rule n =
    ap (λ (w : List ℕ). (number_bytes (Byte 1) ++ (number_bytes (Byte 14) ++ (number_bytes (Short size) ++ (w ++ bytes_of (later (header_numbers rule 0 size)))))) ++ actions_bytes rule.actions) (word_wraps n)
  where
    size : ℕ
    size = 72 + length (actions_bytes rule.actions)

    later : {X : Type 0} → List X → List X
    later (a ∷ b ∷ c ∷ d ∷ xs) = xs
    later xs = xs
