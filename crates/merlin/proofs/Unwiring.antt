-- What the command `unwire` replies.
use Rattle.std.proofs.Common.{◌≡◌, ◌≢◌, ◌<◌, ◌+◌, ◌==◌, ℕ, Bool, false, inl, inr, ◌⊎◌, List, [], ◌∷◌, ◌++◌, length, refl, sym, ◌∙◌, ap, subst, arith, append_assoc, append-nil, Result, Ok, Err, IfOk}
use Rattle.std.specs.List.{All, AllByRecursion, AllZip, flat_map}
use Rattle.std.proofs.lemmas.List.Elements.{All-from_recursion}
use Rattle.std.specs.Prelude.{Some}
use Rattle.hex.specs.Hex.{decode_of}
use Rattle.hex.specs.declared.error.FromHexError.{FromHexError}
use Rattle.hex.specs.declared.error.FromHexError.TheVariants as hex
use Rattle.merlin_model.specs.declared.config.Rule.{Rule}
use Rattle.merlin_model.specs.declared.config.Config.{Config}
use Rattle.merlin_model.specs.Networks.{Network}
use Rattle.config_text.specs.Words.{line}
use Rattle.config_text.specs.Lines.{rule_lines, config_lines, IsConfigOver}
use Rattle.openflow_wire.specs.Messages.{message_fault}
use Rattle.openflow_wire.specs.Layout.{IsWireFault}
use Rattle.openflow_wire.specs.declared.reading.WireFault.{WireFault}
use Rattle.openflow_wire.specs.declared.reading.WireFault.TheVariants.{BadMessage as Bad}
use Rattle.topology_rules.specs.Faults.{IsTopology}
use Rattle.merlin.specs.Unwire.{UnwireForm, IsLineOfRule, BeginsWithMessages, HasRules, rules_alone, HasConfigOf, HasConfigOver, Unwires}
use Rattle.merlin.specs.Wire.{IsSwitchNamed}
use Rattle.merlin_base.specs.Lexemes.{Lacks}
use Rattle.merlin_base.proofs.Cutting.{free, cut_once}
use Rattle.merlin.proofs.Tracing.{location_within}
use Rattle.merlin.specs.Messages.{IsDigitsFault, IsLineBefore, IsFaultBefore, IsFaultIn, Unwired}
use Rattle.merlin.specs.declared.unwire.DigitsFault.{DigitsFault}
use Rattle.merlin.specs.declared.unwire.DigitsFault.TheVariants as faults
use Rattle.merlin.specs.declared.unwire.UnwireReply.{UnwireReply}
use Rattle.merlin.specs.declared.unwire.UnwireReply.TheVariants as replies

-- Digits.

ok_err : (text message : List ℕ) (e : FromHexError) → decode_of text ≡ Err e → decode_of text ≡ Ok message → ⊥
ok_err text message e f g = let same : ◌≡◌ {A = Result (List ℕ) FromHexError} (Err e) (Ok message) = sym f ∙ g in cc

pub no_message : (text : List ℕ) (e : FromHexError) → (e ≡ hex.OutOfMemory → ⊥) → (e ≡ hex.OutOfMemory) ⊎ (decode_of text ≡ Err e) → (message : List ℕ) → ¬ (decode_of text ≡ Ok message)
no_message text e known (inl memory) message ok = known memory
no_message text e known (inr wrong) message ok = ok_err text message e wrong ok

pub told_fault : (message : List ℕ) (fault : WireFault) (at : ℕ) → fault ≡ Bad at → IsWireFault message fault → message_fault message ≡ Some at
told_fault message fault at e h = subst (IsWireFault message) e h

-- a text that is not empty
pub some_rest : (rest : List ℕ) (b : Bool) → b ≡ (length rest == 0) → b ≡ false → rest ≡ [] → ⊥
some_rest rest b e f g = let n : length rest ≡ 0 = ap length g in grind arith

pub fault_before : (text digits rest : List ℕ) (fault : DigitsFault) → text ≡ digits ++ 10 ∷ rest → Lacks 10 digits → IsDigitsFault digits fault → IsFaultBefore text fault
fault_before text digits rest faults.NoDigits e lacks is = λ others message more lack split ok.
    let cut = cut_once 10 digits others rest more (free 10 digits lacks) (free 10 others lack) (sym e ∙ split) in
    is message (ap decode_of cut.front ∙ ok)
fault_before text digits rest (faults.BadMessage at) e lacks is = record { digits = digits; more = rest; whole = e; message = is.0; stand_for = is.1; wrong = is.2 }
fault_before text digits rest faults.OutOfMemory e lacks is = tt

-- Lines.

zip_push : {A B : Type 0} (R : A → B → Type 0) (xs : List A) (ys : List B) (x : A) (y : B) → AllZip R xs ys → R x y → AllZip R (xs ++ x ∷ []) (ys ++ y ∷ [])
zip_push R [] [] x y all is = (is, tt)
zip_push R [] (b ∷ ys) x y all is = absurd all
zip_push R (a ∷ xs) [] x y all is = absurd all
zip_push R (a ∷ xs) (b ∷ ys) x y all is = (all.0, zip_push R xs ys x y all.1 is)

lines_push : (texts : List (List ℕ)) (text : List ℕ) → flat_map line (texts ++ text ∷ []) ≡ flat_map line texts ++ line text
lines_push [] text = append-nil (line text)
lines_push (t ∷ texts) text = ap (λ z. line t ++ z) (lines_push texts text) ∙ sym (append_assoc (line t) (flat_map line texts) (line text))

pub none_read : (switch : ℕ) (text : List ℕ) (rules : List Rule) → rules ≡ [] → BeginsWithMessages switch text rules text
none_read switch text rules e = subst (λ rs. BeginsWithMessages switch text rs text) (sym e) (record { digits = []; each = tt; whole = refl })

pub one_more : (switch : ℕ) (text rest more : List ℕ) (rules others : List Rule) → BeginsWithMessages switch text rules rest
    → (rule : Rule) × IsLineBefore switch rest rule more × (others ≡ rules ++ rule ∷ []) → BeginsWithMessages switch text others more
one_more switch text rest more rules others b (rule, is, e) = subst (λ rs. BeginsWithMessages switch text rs more) (sym e) (record {
  digits = b.digits ++ is.digits ∷ [];
  each = zip_push (IsLineOfRule switch) b.digits rules is.digits rule b.each is.is_line;
  whole = b.whole ∙ ap (λ z. flat_map line b.digits ++ z) (is.whole ∙ sym (append_assoc is.digits (10 ∷ []) more)) ∙ sym (append_assoc (flat_map line b.digits) (line is.digits) more) ∙ ap (λ z. z ++ more) (sym (lines_push b.digits is.digits));
})

pub fault_in : (switch : ℕ) (text rest : List ℕ) (rules : List Rule) (number : ℕ) (fault : DigitsFault) → BeginsWithMessages switch text rules rest → rest ≢ [] → number ≡ length rules + 1
    → IsFaultBefore rest fault → IsFaultIn switch text number fault
fault_in switch text rest rules number faults.NoDigits b some count is = record { rules = rules; rest = rest; before = b; some = some; none = is; counted = count }
fault_in switch text rest rules number (faults.BadMessage at) b some count is = record {
  rules = rules;
  digits = is.digits;
  more = is.more;
  before = subst (BeginsWithMessages switch text rules) is.whole b;
  message = is.message;
  stand_for = is.stand_for;
  wrong = is.wrong;
  counted = count;
}
fault_in switch text rest rules number faults.OutOfMemory b some count is = tt

pub shorter : (switch : ℕ) (text rest : List ℕ) (rule : Rule) → IsLineBefore switch text rule rest → length rest < length text
shorter switch text rest rule is = by is.digits is.whole
  where
    by : (digits : List ℕ) → text ≡ digits ++ 10 ∷ rest → length rest < length text
    by digits e = subst (λ t. length rest < length t) (sym e) (long digits)
      where
        long : (ds : List ℕ) → length rest < length (ds ++ 10 ∷ rest)
        long [] = omega arith
        long (d ∷ ds) = let h = long ds in omega arith

-- Rules.

all_at : (net : Network) (switch : ℕ) (digits : List (List ℕ)) (rules : List Rule) → switch < length net.locations → AllZip (IsLineOfRule switch) digits rules → AllByRecursion (λ rule. rule.loc < length net.locations) rules
all_at net switch [] [] within all = tt
all_at net switch [] (r ∷ rules) within all = absurd all
all_at net switch (d ∷ digits) [] within all = absurd all
all_at net switch (d ∷ digits) (r ∷ rules) within all =
    (subst (λ l. l < length net.locations) (sym all.0.is_message.place) within, all_at net switch digits rules within all.1)

pub rules_within : (net : Network) (switch : ℕ) (text : List ℕ) (rules : List Rule) (rest : List ℕ) → switch < length net.locations → BeginsWithMessages switch text rules rest → All (λ rule. rule.loc < length net.locations) rules
rules_within net switch text rules rest within b = All-from_recursion (λ rule. rule.loc < length net.locations) rules (all_at net switch b.digits rules within b.each)

pub only_rules : (net : Network) (rules : List Rule) → config_lines net (rules_alone rules) ≡ rule_lines net rules
only_rules net rules = append-nil _ ∙ append-nil _ ∙ append-nil _

pub only_rules_over : (net : Network) (rules : List Rule) → All (λ rule. rule.loc < length net.locations) rules → IsConfigOver net (rules_alone rules)
only_rules_over net rules all = record {
  rules = all;
  processes = All-from_recursion _ [] tt;
  functions = All-from_recursion _ [] tt;
  queues = All-from_recursion _ [] tt;
  hosts = All-from_recursion _ [] tt;
}

-- what is written of a configuration of rules
pub lines_of_rules : (messages : List ℕ) (over : Network) (config : Config) (net : Network) (switch : ℕ) (h : HasConfigOf messages over config net switch) → config_lines over config ≡ rule_lines net h.rules
lines_of_rules messages over config net switch h = (λ i. config_lines (h.over_is i) (h.config_is i)) ∙ only_rules net h.rules

pub has_rules : (messages : List ℕ) (over : Network) (config : Config) (net : Network) (switch : ℕ) → HasConfigOf messages over config net switch → HasRules messages (config_lines over config) net switch
has_rules messages over config net switch h = record { rules = h.rules; all = h.all; written = lines_of_rules messages over config net switch h }

pub config_over : (form : UnwireForm) (topology messages : List ℕ) (reply : UnwireReply) → Unwires form topology messages reply → HasConfigOver reply
config_over form topology messages (replies.BadTopology fault) h = tt
config_over form topology messages (replies.UnknownSwitch name) h = tt
config_over form topology messages (replies.NoDigits number) h = tt
config_over form topology messages (replies.BadMessage number at) h = tt
config_over form topology messages (replies.Written over config) h =
    let within = location_within h.net form.switch h.switch h.is_switch.0 in
    subst (λ n. IsConfigOver n config) (sym h.holds.over_is) (subst (IsConfigOver h.net) (sym h.holds.config_is)
    (only_rules_over h.net h.holds.rules (rules_within h.net h.switch messages h.holds.rules [] within h.holds.all)))

-- From what is replied to messages to the reply.
reply_over : (form : UnwireForm) (topology messages : List ℕ) (net : Network) (switch : ℕ) (reply : UnwireReply) → IsTopology topology net → IsSwitchNamed net form.switch switch → Unwired net switch messages reply → Unwires form topology messages reply
reply_over form topology messages net switch (replies.BadTopology fault) is named h = absurd h
reply_over form topology messages net switch (replies.UnknownSwitch name) is named h = absurd h
reply_over form topology messages net switch (replies.NoDigits number) is named h = record { net = net; is_network = is; switch = switch; is_switch = named; holds = h }
reply_over form topology messages net switch (replies.BadMessage number at) is named h = record { net = net; is_network = is; switch = switch; is_switch = named; holds = h }
reply_over form topology messages net switch (replies.Written over config) is named h = record { net = net; is_network = is; switch = switch; is_switch = named; holds = h }

pub IfOk-over : {E : Type 0} (form : UnwireForm) (topology messages : List ℕ) (net : Network) (switch : ℕ) (result : Result UnwireReply E) → IsTopology topology net → IsSwitchNamed net form.switch switch
    → IfOk result (Unwired net switch messages) → IfOk result (Unwires form topology messages)
IfOk-over form topology messages net switch (Ok reply) is named h = reply_over form topology messages net switch reply is named h
IfOk-over form topology messages net switch (Err e) is named h = tt
