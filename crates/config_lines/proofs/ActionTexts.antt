-- The texts of actions are told apart.
use Rattle.std.proofs.Common.{◌≡◌, ℕ, ◌<◌, ◌⊎◌, inl, inr, List, [], ◌∷◌, ◌++◌, map, refl, sym, ◌∙◌, ap, append-nil, arith}
use Rattle.std.proofs.lemmas.List.{append_cancel_left}
use Rattle.std.specs.Prelude.{codes}
use Rattle.std.specs.List.{AllByRecursion}
use Rattle.std.specs.Fmt.{decimal}
use Rattle.merlin_model.specs.declared.config.Out.{Out}
use Rattle.merlin_model.specs.declared.config.Out.TheVariants.{InPort, Port}
use Rattle.merlin_model.specs.declared.config.Action.{Action}
use Rattle.merlin_model.specs.declared.config.Action.TheVariants.{SetVlan, StripVlan, Output, Enqueue}
use Rattle.merlin_base.specs.Lexemes.{Lacks}
use Rattle.merlin_base.specs.Pairs.{IsEmptyOrBegins}
use Rattle.merlin_base.proofs.Cutting.{Free, free, free_append, cut_before_once}
use Rattle.merlin_base.proofs.Decimals.{decimal_free_colon}
use Rattle.config_text.specs.Lines.{out_text, action_text, actions_text}
use Rattle.config_lines.specs.Words.{IsTag, IsQueue}
use Rattle.config_lines.specs.Parts.{IsLineOut, IsTagging, IsSending, AreLineActions}
use Rattle.config_lines.specs.Courses.{IsAction}
use Rattle.config_lines.proofs.Then.{short_free}
use Rattle.config_lines.proofs.Joined.{joined_free}

heads : (a b : ℕ) (x y : List ℕ) → a ∷ x ≡ b ∷ y → a ≡ b
heads a b x y e = cc

seconds : (a b c d : ℕ) (x y : List ℕ) → a ∷ b ∷ x ≡ c ∷ d ∷ y → b ≡ d
seconds a b c d x y e = cc

pub out_free : (byte : ℕ) (out : Out) → byte < 48 → IsLineOut out → Free byte (out_text out)
out_free byte InPort low is = ((λ e. omega arith), ((λ e. omega arith), ((λ e. omega arith), ((λ e. omega arith), ((λ e. omega arith), ((λ e. omega arith), ((λ e. omega arith), tt)))))))
out_free byte (Port n) low is = short_free byte 1 65279 n low (omega arith) is

pub out_free_colon : (out : Out) → IsLineOut out → Free 58 (out_text out)
out_free_colon InPort is = ((λ e. omega arith), ((λ e. omega arith), ((λ e. omega arith), ((λ e. omega arith), ((λ e. omega arith), ((λ e. omega arith), ((λ e. omega arith), tt)))))))
out_free_colon (Port n) is = decimal_free_colon n (let h = is.high in omega arith)

pub action_free : (byte : ℕ) (action : Action) → byte < 48 → IsAction action → Free byte (action_text action)
action_free byte (SetVlan n) low is = front byte low (decimal n) (short_free byte 1 4094 n low (omega arith) is)
  where
    front : (b : ℕ) → b < 48 → (rest : List ℕ) → Free b rest → Free b (codes "set_vlan_vid=" ++ rest)
    front b l rest f = ((λ e. omega arith), ((λ e. omega arith), ((λ e. omega arith), ((λ e. omega arith), ((λ e. omega arith), ((λ e. omega arith), ((λ e. omega arith), ((λ e. omega arith), ((λ e. omega arith), ((λ e. omega arith), ((λ e. omega arith), ((λ e. omega arith), ((λ e. omega arith), f)))))))))))))
action_free byte StripVlan low is = ((λ e. omega arith), ((λ e. omega arith), ((λ e. omega arith), ((λ e. omega arith), ((λ e. omega arith), ((λ e. omega arith), ((λ e. omega arith), ((λ e. omega arith), ((λ e. omega arith), ((λ e. omega arith), tt))))))))))
action_free byte (Output out) low is = ((λ e. omega arith), ((λ e. omega arith), ((λ e. omega arith), ((λ e. omega arith), ((λ e. omega arith), ((λ e. omega arith), ((λ e. omega arith), out_free byte out low is)))))))
action_free byte (Enqueue out queue) low is = (
  (λ e. omega arith),
  (
    (λ e. omega arith),
    (
      (λ e. omega arith),
      (
        (λ e. omega arith),
        (
          (λ e. omega arith),
          (
            (λ e. omega arith),
            (
              (λ e. omega arith),
              (
                (λ e. omega arith),
                free_append byte (out_text out) (58 ∷ decimal queue) (out_free byte out low is.0) ((λ e. omega arith), short_free byte 1 64 queue low (omega arith) is.1),
              ),
            ),
          ),
        ),
      ),
    ),
  ),
)

pub change_is : (a : Action) → IsTagging a → IsAction a
change_is (SetVlan n) is = is
change_is StripVlan is = is
change_is (Output out) is = absurd is
change_is (Enqueue out queue) is = absurd is

pub send_is : (a : Action) → IsSending a → IsAction a
send_is (SetVlan n) is = absurd is
send_is StripVlan is = absurd is
send_is (Output out) is = is
send_is (Enqueue out queue) is = is

pub actions_free : (byte : ℕ) (actions : List Action) → byte < 44 → AreLineActions actions → Free byte (actions_text actions)
actions_free byte actions low are = joined_free byte (codes "drop") (map action_text actions) (λ e. omega arith) ((λ e. omega arith), ((λ e. omega arith), ((λ e. omega arith), ((λ e. omega arith), tt)))) (all actions are)
  where
    all : (list : List Action) → AreLineActions list → AllByRecursion (Free byte) (map action_text list)
    all [] h = tt
    all (a ∷ []) h = (action_free byte a (omega arith) (send_is a h), tt)
    all (a ∷ b ∷ []) h = (action_free byte a (omega arith) (change_is a h.0), (action_free byte b (omega arith) (send_is b h.1), tt))
    all (a ∷ b ∷ c ∷ cs) h = absurd h

-- Where a word is no action.

pub no_tag : (word number : List ℕ) → word ≡ codes "set_vlan_vid=" ++ number → ((n : ℕ) → IsTag n → number ≡ decimal n → ⊥) → (action : Action) → IsAction action → word ≡ action_text action → ⊥
no_tag word number e none (SetVlan n) is h = none n is (append_cancel_left (codes "set_vlan_vid=") number (decimal n) (sym e ∙ h))
no_tag word number e none StripVlan is h = let s = seconds 115 101 115 116 _ _ (sym e ∙ h) in omega arith
no_tag word number e none (Output out) is h = let s = heads 115 111 _ _ (sym e ∙ h) in omega arith
no_tag word number e none (Enqueue out queue) is h = let s = heads 115 101 _ _ (sym e ∙ h) in omega arith

pub no_output : (word port : List ℕ) → word ≡ codes "output=" ++ port → ((out : Out) → IsLineOut out → port ≡ out_text out → ⊥) → (action : Action) → IsAction action → word ≡ action_text action → ⊥
no_output word port e none (SetVlan n) is h = let s = heads 111 115 _ _ (sym e ∙ h) in omega arith
no_output word port e none StripVlan is h = let s = heads 111 115 _ _ (sym e ∙ h) in omega arith
no_output word port e none (Output out) is h = none out is (append_cancel_left (codes "output=") port (out_text out) (sym e ∙ h))
no_output word port e none (Enqueue out queue) is h = let s = heads 111 101 _ _ (sym e ∙ h) in omega arith

pub no_enqueue : (word place : List ℕ) → word ≡ codes "enqueue=" ++ place → ((out : Out) (queue : ℕ) → IsLineOut out → IsQueue queue → place ≡ out_text out ++ 58 ∷ decimal queue → ⊥) → (action : Action) → IsAction action → word ≡ action_text action → ⊥
no_enqueue word place e none (SetVlan n) is h = let s = heads 101 115 _ _ (sym e ∙ h) in omega arith
no_enqueue word place e none StripVlan is h = let s = heads 101 115 _ _ (sym e ∙ h) in omega arith
no_enqueue word place e none (Output out) is h = let s = heads 101 111 _ _ (sym e ∙ h) in omega arith
no_enqueue word place e none (Enqueue out queue) is h = none out queue is.0 is.1 (append_cancel_left (codes "enqueue=") place (out_text out ++ 58 ∷ decimal queue) (sym e ∙ h))

pub no_action : (word : List ℕ) → ((rest : List ℕ) → word ≡ codes "set_vlan_vid=" ++ rest → ⊥) → (word ≡ codes "strip_vlan" → ⊥) → ((rest : List ℕ) → word ≡ codes "output=" ++ rest → ⊥) → ((rest : List ℕ) → word ≡ codes "enqueue=" ++ rest → ⊥) →
    (action : Action) → IsAction action → word ≡ action_text action → ⊥
no_action word set strip output enqueue (SetVlan n) is h = set (decimal n) h
no_action word set strip output enqueue StripVlan is h = strip h
no_action word set strip output enqueue (Output out) is h = output (out_text out) h
no_action word set strip output enqueue (Enqueue out queue) is h = enqueue (out_text out ++ 58 ∷ decimal queue) h

-- Two actions or one, cut at the comma.

-- one action, by which the frame leaves
pub record IsOne (first behind : List ℕ) : Type 0 where
  pub send : Action
  pub sends : IsSending send
  pub front : first ≡ action_text send
  pub rest : behind ≡ []

-- an action that changes the tag, and one by which the frame leaves
pub record IsTwo (first behind : List ℕ) : Type 0 where
  pub change : Action
  pub send : Action
  pub changes : IsTagging change
  pub sends : IsSending send
  pub front : first ≡ action_text change
  pub rest : behind ≡ 44 ∷ action_text send

pub one_or_two : (word first behind : List ℕ) (actions : List Action) → (word ≡ codes "drop" → ⊥) → word ≡ first ++ behind → Lacks 44 first → IsEmptyOrBegins 44 behind → AreLineActions actions → word ≡ actions_text actions → IsOne first behind ⊎ IsTwo first behind
one_or_two word first behind [] differ e l b are h = absurd (differ h)
one_or_two word first behind (a ∷ []) differ e l b are h =
    let cut = cut_before_once 44 first (action_text a) behind [] (free 44 first l) (action_free 44 a (omega arith) (send_is a are)) b tt (sym e ∙ h ∙ sym (append-nil (action_text a))) in
    inl (record { send = a; sends = are; front = cut.front; rest = cut.rest })
one_or_two word first behind (a ∷ s ∷ []) differ e l b are h =
    let cut = cut_before_once 44 first (action_text a) behind (44 ∷ action_text s) (free 44 first l) (action_free 44 a (omega arith) (change_is a are.0)) b refl (sym e ∙ h) in
    inr (record { change = a; send = s; changes = are.0; sends = are.1; front = cut.front; rest = cut.rest })
one_or_two word first behind (a ∷ s ∷ t ∷ ts) differ e l b are h = absurd are

-- no text is both that of an action that sends and that of one that changes the tag
pub never_both : (a b : Action) → IsTagging a → IsSending b → action_text a ≡ action_text b → ⊥
never_both (SetVlan n) (Output out) f g e = let s = heads 115 111 _ _ e in omega arith
never_both (SetVlan n) (Enqueue out queue) f g e = let s = heads 115 101 _ _ e in omega arith
never_both StripVlan (Output out) f g e = let s = heads 115 111 _ _ e in omega arith
never_both StripVlan (Enqueue out queue) f g e = let s = heads 115 101 _ _ e in omega arith
never_both a (SetVlan n) f g e = g
never_both a StripVlan f g e = g
never_both (Output out) (Output out') f g e = f
never_both (Output out) (Enqueue out' queue) f g e = f
never_both (Enqueue out queue) (Output out') f g e = f
never_both (Enqueue out queue) (Enqueue out' queue') f g e = f

comma_no_end : (second : List ℕ) → 44 ∷ second ≡ [] → ⊥
comma_no_end second e = cc

behind_comma : (x y : List ℕ) → 44 ∷ x ≡ 44 ∷ y → x ≡ y
behind_comma x y e = cc

-- the ways in which a word fails

pub no_first : (word first behind : List ℕ) → (word ≡ codes "drop" → ⊥) → word ≡ first ++ behind → Lacks 44 first → IsEmptyOrBegins 44 behind → ((action : Action) → IsAction action → first ≡ action_text action → ⊥) →
    (actions : List Action) → AreLineActions actions → word ≡ actions_text actions → ⊥
no_first word first behind differ e l b none actions are h = by (one_or_two word first behind actions differ e l b are h)
  where
    by : IsOne first behind ⊎ IsTwo first behind → ⊥
    by (inl o) = none o.send (send_is o.send o.sends) o.front
    by (inr o) = none o.change (change_is o.change o.changes) o.front

-- one action that does not send
pub only_change : (word first behind : List ℕ) (action : Action) → (word ≡ codes "drop" → ⊥) → word ≡ first ++ behind → Lacks 44 first → IsEmptyOrBegins 44 behind → first ≡ action_text action → IsTagging action → ((rest : List ℕ) → behind ≡ 44 ∷ rest → ⊥) →
    (actions : List Action) → AreLineActions actions → word ≡ actions_text actions → ⊥
only_change word first behind action differ e l b f changes none actions are h = by (one_or_two word first behind actions differ e l b are h)
  where
    by : IsOne first behind ⊎ IsTwo first behind → ⊥
    by (inl o) = never_both action o.send changes o.sends (sym f ∙ o.front)
    by (inr o) = none (action_text o.send) o.rest

-- something else behind the comma
pub no_second : (word first behind second : List ℕ) → (word ≡ codes "drop" → ⊥) → word ≡ first ++ behind → Lacks 44 first → IsEmptyOrBegins 44 behind → behind ≡ 44 ∷ second → ((action : Action) → IsAction action → second ≡ action_text action → ⊥) →
    (actions : List Action) → AreLineActions actions → word ≡ actions_text actions → ⊥
no_second word first behind second differ e l b f none actions are h = by (one_or_two word first behind actions differ e l b are h)
  where
    by : IsOne first behind ⊎ IsTwo first behind → ⊥
    by (inl o) = comma_no_end second (sym f ∙ o.rest)
    by (inr o) = none o.send (send_is o.send o.sends) (behind_comma second (action_text o.send) (sym f ∙ o.rest))

-- a first action that sends
pub sends_first : (word first behind second : List ℕ) (action : Action) → (word ≡ codes "drop" → ⊥) → word ≡ first ++ behind → Lacks 44 first → IsEmptyOrBegins 44 behind → behind ≡ 44 ∷ second → first ≡ action_text action → IsSending action →
    (actions : List Action) → AreLineActions actions → word ≡ actions_text actions → ⊥
sends_first word first behind second action differ e l b f g sends actions are h = by (one_or_two word first behind actions differ e l b are h)
  where
    by : IsOne first behind ⊎ IsTwo first behind → ⊥
    by (inl o) = comma_no_end second (sym f ∙ o.rest)
    by (inr o) = never_both o.change action o.changes sends (sym o.front ∙ g)

-- a second action that does not send
pub changes_second : (word first behind second : List ℕ) (action : Action) → (word ≡ codes "drop" → ⊥) → word ≡ first ++ behind → Lacks 44 first → IsEmptyOrBegins 44 behind → behind ≡ 44 ∷ second → second ≡ action_text action → IsTagging action →
    (actions : List Action) → AreLineActions actions → word ≡ actions_text actions → ⊥
changes_second word first behind second action differ e l b f g changes actions are h = by (one_or_two word first behind actions differ e l b are h)
  where
    by : IsOne first behind ⊎ IsTwo first behind → ⊥
    by (inl o) = comma_no_end second (sym f ∙ o.rest)
    by (inr o) = never_both action o.send changes o.sends (sym g ∙ behind_comma second (action_text o.send) (sym f ∙ o.rest))

-- What a word is.

pub one_is : (word first behind : List ℕ) (action : Action) → word ≡ first ++ behind → behind ≡ [] → first ≡ action_text action → word ≡ actions_text (action ∷ [])
one_is word first behind action e f g = e ∙ ap (λ b. first ++ b) f ∙ append-nil first ∙ g

pub two_is : (word first behind second : List ℕ) (a b : Action) → word ≡ first ++ behind → behind ≡ 44 ∷ second → first ≡ action_text a → second ≡ action_text b → word ≡ actions_text (a ∷ b ∷ [])
two_is word first behind second a b e f g h = e ∙ ap (λ z. first ++ z) (f ∙ ap (λ z. 44 ∷ z) h) ∙ ap (λ z. z ++ 44 ∷ action_text b) g
