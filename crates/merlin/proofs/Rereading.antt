-- Messages are read as one list of rules, and what is replied to them is determined by the files and the word.
use Rattle.std.proofs.Common.{◌≡◌, ◌≢◌, ℕ, Bool, true, false, List, [], ◌∷◌, ◌++◌, Option, None, Result, Ok, Err, refl, sym, ◌∙◌, ap, subst, append_assoc, append-nil, cond}
use Rattle.std.specs.Prelude.{Some}
use Rattle.std.specs.List.{AllByRecursion, AllZip, flat_map}
use Rattle.std.proofs.lemmas.List.Elements.{recursion_from_All}
use Rattle.hex.specs.Hex.{decode_of, decode_pairs, is_hex_digit}
use Rattle.hex.specs.declared.error.FromHexError.{FromHexError}
use Rattle.hex.specs.declared.error.FromHexError.TheVariants.{OddLength}
use Rattle.hex.proofs.HexLemmas.{decode_pairs-ok}
use Rattle.merlin_base.specs.declared.status.Status.TheVariants as status
use Rattle.merlin_base.proofs.Cutting.{Free, lacks, cut_once}
use Rattle.merlin_model.specs.declared.config.Action.{Action}
use Rattle.merlin_model.specs.declared.config.Rule.{Rule}
use Rattle.merlin_model.specs.Networks.{Network, IsNetwork}
use Rattle.config_text.specs.Words.{line}
use Rattle.config_text.specs.Lines.{rule_lines}
use Rattle.openflow_wire.specs.Messages.{message_fault, IsMessage}
use Rattle.topology_rules.specs.Faults.{IsTopology}
use Rattle.merlin.specs.declared.unwire.UnwireReply.{UnwireReply}
use Rattle.merlin.specs.declared.unwire.UnwireReply.TheVariants as unwire
use Rattle.merlin.specs.Inputs.{BearsName}
use Rattle.merlin.specs.Wire.{IsSwitchNamed}
use Rattle.merlin.specs.Unwire.{UnwireForm, IsLineOfRule, BeginsWithMessages, HasNoDigits, HasNoMessage, Unwires, IsUnwireReply, unwire_lines, unwire_status}
use Rattle.merlin.proofs.Compiling.{of_two}
use Rattle.merlin.proofs.OneTrace.{KnownNetworks}
use Rattle.merlin.proofs.Tracing.{one_bearer}
use Rattle.merlin.proofs.Unwiring.{lines_of_rules}

-- Digits have no newline in them.

by_pairs : (text message : List ℕ) (b : Bool) → cond b (Err OddLength) (decode_pairs 0 text) ≡ Ok message → decode_pairs 0 text ≡ Ok message
by_pairs text message true e = cc
by_pairs text message false e = e

all_free : (text : List ℕ) → AllByRecursion (λ c. is_hex_digit c ≡ true) text → Free 10 text
all_free [] all = tt
all_free (c ∷ text) all = (unlike, all_free text all.1)
  where
    unlike : c ≢ 10
    unlike e = let no : ◌≡◌ {A = Bool} false true = ap is_hex_digit (sym e) ∙ all.0 in cc

digits_free : (text message : List ℕ) → decode_of text ≡ Ok message → Free 10 text
digits_free text message e =
    all_free text (recursion_from_All (λ c. is_hex_digit c ≡ true) text (decode_pairs-ok 0 text message (by_pairs text message _ e)).0)

-- One line has one rule.

one_message : (text a b : List ℕ) → decode_of text ≡ Ok a → decode_of text ≡ Ok b → a ≡ b
one_message text a b f g = let same : ◌≡◌ {A = Result (List ℕ) FromHexError} (Ok a) (Ok b) = sym f ∙ g in cc

some_once : (a b : List Action) → ◌≡◌ {A = Option (List Action)} (Some a) (Some b) → a ≡ b
some_once a b e = cc

one_rule : (message : List ℕ) (switch x y : ℕ) (a b : Rule) → IsMessage message switch a x → IsMessage message switch b y → a ≡ b
one_rule message switch x y a b f g = λ i. record {
  loc = (f.place ∙ sym g.place) i;
  priority = (f.priority ∙ sym g.priority) i;
  fits = (f.fits ∙ sym g.fits) i;
  actions = some_once a.actions b.actions (sym f.actions ∙ g.actions) i;
}

one_line_rule : (switch : ℕ) (d e : List ℕ) (a b : Rule) → d ≡ e → IsLineOfRule switch d a → IsLineOfRule switch e b → a ≡ b
one_line_rule switch d e a b same f g =
    let message = one_message d f.message g.message f.stand_for (ap decode_of same ∙ g.stand_for) in
    one_rule f.message switch f.xid g.xid a b f.is_message (subst (λ m. IsMessage m switch b g.xid) (sym message) g.is_message)

-- Of two ways to read a text from the left, that which reads all of it goes on from the other.

pub record GoesOn (switch : ℕ) (rules others : List Rule) (rest : List ℕ) : Type 0 where
  pub digits : List (List ℕ)
  pub further : List Rule
  pub each : AllZip (IsLineOfRule switch) digits further
  pub whole : rest ≡ flat_map line digits
  pub rules_are : rules ≡ others ++ further

goes_on : (switch : ℕ) (ds es : List (List ℕ)) (rules others : List Rule) (rest : List ℕ) → AllZip (IsLineOfRule switch) ds rules → AllZip (IsLineOfRule switch) es others → flat_map line ds ≡ flat_map line es ++ rest → GoesOn switch rules others rest
goes_on switch ds [] rules [] rest f g e = record { digits = ds; further = rules; each = f; whole = sym e; rules_are = refl }
goes_on switch ds [] rules (b ∷ others) rest f g e = absurd g
goes_on switch ds (x ∷ es) rules [] rest f g e = absurd g
goes_on switch [] (x ∷ es) rules (b ∷ others) rest f g e = absurd (no_line x (flat_map line es) rest e)
  where
    no_line : (x y z : List ℕ) → [] ≡ (line x ++ y) ++ z → ⊥
    no_line [] y z e = cc
    no_line (c ∷ x) y z e = cc
goes_on switch (d ∷ ds) (x ∷ es) [] (b ∷ others) rest f g e = absurd f
goes_on switch (d ∷ ds) (x ∷ es) (a ∷ rules) (b ∷ others) rest f g e =
    let cut = cut_once 10 d x (flat_map line ds) (flat_map line es ++ rest) (digits_free d f.0.message f.0.stand_for) (digits_free x g.0.message g.0.stand_for)
    (sym (append_assoc d (10 ∷ []) (flat_map line ds)) ∙ e ∙ append_assoc (line x) (flat_map line es) rest ∙ append_assoc x (10 ∷ []) (flat_map line es ++ rest)) in
    let more = goes_on switch ds es rules others rest f.1 g.1 cut.rest in
    record {
      digits = more.digits;
      further = more.further;
      each = more.each;
      whole = more.whole;
      rules_are = (λ i. one_line_rule switch d x a b cut.front f.0 g.0 i ∷ more.rules_are i);
    }

module _ (switch : ℕ) (text : List ℕ) (rules : List Rule) (all : BeginsWithMessages switch text rules []) where
  pub goes_on_from : (others : List Rule) (rest : List ℕ) → BeginsWithMessages switch text others rest → GoesOn switch rules others rest
  goes_on_from others rest b = goes_on switch all.digits b.digits rules others rest all.each b.each (sym (all.whole ∙ append-nil (flat_map line all.digits)) ∙ b.whole)

  pub all_digits : (number : ℕ) → HasNoDigits switch text number → ⊥
  all_digits number h = by more.digits more.further more.each more.whole
    where
      more : GoesOn switch rules h.rules h.rest
      more = goes_on_from h.rules h.rest h.before

      by : (ds : List (List ℕ)) (rs : List Rule) → AllZip (IsLineOfRule switch) ds rs → h.rest ≡ flat_map line ds → ⊥
      by [] rs each e = h.some e
      by (d ∷ ds) [] each e = each
      by (d ∷ ds) (r ∷ rs) each e = h.none d each.0.message (flat_map line ds) (lacks 10 d (digits_free d each.0.message each.0.stand_for)) (e ∙ append_assoc d (10 ∷ []) (flat_map line ds)) each.0.stand_for

  pub all_messages : (number at : ℕ) → HasNoMessage switch text number at → ⊥
  all_messages number at h = by more.digits more.further more.each more.whole
    where
      more : GoesOn switch rules h.rules (h.digits ++ 10 ∷ h.more)
      more = goes_on_from h.rules (h.digits ++ 10 ∷ h.more) h.before

      none_left : (xs ys : List ℕ) → xs ++ 10 ∷ ys ≡ [] → ⊥
      none_left [] ys e = cc
      none_left (x ∷ xs) ys e = cc

      no_fault : message_fault h.message ≡ None → ⊥
      no_fault e = let same : ◌≡◌ {A = Option ℕ} (Some at) None = sym h.wrong ∙ e in cc

      by : (ds : List (List ℕ)) (rs : List Rule) → AllZip (IsLineOfRule switch) ds rs → h.digits ++ 10 ∷ h.more ≡ flat_map line ds → ⊥
      by [] rs each e = none_left h.digits h.more e
      by (d ∷ ds) [] each e = each
      by (d ∷ ds) (r ∷ rs) each e =
          let cut = cut_once 10 h.digits d h.more (flat_map line ds) (digits_free h.digits h.message h.stand_for) (digits_free d each.0.message each.0.stand_for) (e ∙ append_assoc d (10 ∷ []) (flat_map line ds)) in
          let same = one_message h.digits h.message each.0.message h.stand_for (ap decode_of cut.front ∙ each.0.stand_for) in
          no_fault (ap message_fault same ∙ each.0.is_message.taken)

  pub same_rules : (others : List Rule) → BeginsWithMessages switch text others [] → rules ≡ others
  same_rules others b = by more.digits more.further more.each more.whole more.rules_are
    where
      more : GoesOn switch rules others []
      more = goes_on_from others [] b

      no_line : (x y : List ℕ) → [] ≡ line x ++ y → ⊥
      no_line [] y e = cc
      no_line (c ∷ x) y e = cc

      by : (ds : List (List ℕ)) (rs : List Rule) → AllZip (IsLineOfRule switch) ds rs → [] ≡ flat_map line ds → rules ≡ others ++ rs → rules ≡ others
      by [] [] each e is = is ∙ append-nil others
      by [] (r ∷ rs) each e is = absurd each
      by (d ∷ ds) rs each e is = absurd (no_line d (flat_map line ds) e)

-- What is replied.

module _ (known : KnownNetworks) (lawful : (bytes : List ℕ) (net : Network) → IsTopology bytes net → IsNetwork net) (form : UnwireForm) (topology messages : List ℕ) where
  same_switch : (net other : Network) (switch place : ℕ) → IsTopology topology net → other ≡ net → IsSwitchNamed net form.switch switch → IsSwitchNamed other form.switch place → place ≡ switch
  same_switch net other switch place is nets named bears = one_bearer net form.switch place switch (lawful topology net is) (subst (λ n. BearsName n form.switch place) nets bears.0) named.0

  pub Unwires-read : (net : Network) (switch : ℕ) (rules : List Rule) → IsTopology topology net → IsSwitchNamed net form.switch switch → BeginsWithMessages switch messages rules []
      → (reply : UnwireReply) → Unwires form topology messages reply → (unwire_status reply ≡ status.Done) × (unwire_lines reply ≡ rule_lines net rules)
  Unwires-read net switch rules is named all (unwire.BadTopology fault) h = absurd (h.0 (known.apart topology net fault is h.1))
  Unwires-read net switch rules is named all (unwire.UnknownSwitch name) h =
      let nets : net ≡ h.net = known.one topology net h.net is h.is_network in
      absurd (h.none switch (subst (λ n. IsSwitchNamed n form.switch switch) nets named))
  Unwires-read net switch rules is named all (unwire.NoDigits number) h =
      let nets : h.net ≡ net = known.one topology h.net net h.is_network is in
      let switches = same_switch net h.net switch h.switch is nets named h.is_switch in
      absurd (all_digits switch messages rules all number (subst (λ s. HasNoDigits s messages number) switches h.holds))
  Unwires-read net switch rules is named all (unwire.BadMessage number at) h =
      let nets : h.net ≡ net = known.one topology h.net net h.is_network is in
      let switches = same_switch net h.net switch h.switch is nets named h.is_switch in
      absurd (all_messages switch messages rules all number at (subst (λ s. HasNoMessage s messages number at) switches h.holds))
  Unwires-read net switch rules is named all (unwire.Written over config) h =
      let nets : h.net ≡ net = known.one topology h.net net h.is_network is in
      let switches = same_switch net h.net switch h.switch is nets named h.is_switch in
      let same = same_rules switch messages rules all h.holds.rules (subst (λ s. BeginsWithMessages s messages h.holds.rules []) switches h.holds.all) in
      (refl, lines_of_rules messages over config h.net h.switch h.holds ∙ (λ i. rule_lines (nets i) (sym same i)))

  against_refused : (s : UnwireReply) → unwire_status s ≡ status.Refused → Unwires form topology messages s → (r : UnwireReply) → Unwires form topology messages r → unwire_status s ≡ unwire_status r
  against_refused s e k (unwire.BadTopology fault) h = e
  against_refused s e k (unwire.UnknownSwitch name) h = e
  against_refused s e k (unwire.NoDigits number) h = e
  against_refused s e k (unwire.BadMessage number at) h = e
  against_refused s e k (unwire.Written over config) h = (Unwires-read h.net h.switch h.holds.rules h.is_network h.is_switch h.holds.all s k).0

  Unwires-one : (r s : UnwireReply) → Unwires form topology messages r → Unwires form topology messages s → unwire_status s ≡ unwire_status r
  Unwires-one r (unwire.BadTopology fault) h k = against_refused (unwire.BadTopology fault) refl k r h
  Unwires-one r (unwire.UnknownSwitch name) h k = against_refused (unwire.UnknownSwitch name) refl k r h
  Unwires-one r (unwire.NoDigits number) h k = against_refused (unwire.NoDigits number) refl k r h
  Unwires-one r (unwire.BadMessage number at) h k = against_refused (unwire.BadMessage number at) refl k r h
  Unwires-one r (unwire.Written over config) h k = sym (Unwires-read k.net k.switch k.holds.rules k.is_network k.is_switch k.holds.all r h).0

pub IsUnwireReply-unwires : (form : UnwireForm) (t b : List ℕ) (r : UnwireReply) → IsUnwireReply form (t ∷ b ∷ []) r → Unwires form t b r
IsUnwireReply-unwires form t b r (x, y, e, h) = of_two (λ u v. Unwires form u v r) (t ∷ b ∷ []) t b x y refl e h

pub IsUnwireReply-one : KnownNetworks → ((bytes : List ℕ) (net : Network) → IsTopology bytes net → IsNetwork net) → (form : UnwireForm) (contents : List (List ℕ)) (r s : UnwireReply) → IsUnwireReply form contents r → IsUnwireReply form contents s → unwire_status s ≡ unwire_status r
IsUnwireReply-one known lawful form contents r s (t, b, e, h) (x, y, e', k) =
    Unwires-one known lawful form t b r s h (of_two (λ u v. Unwires form u v s) contents t b x y e e' k)
