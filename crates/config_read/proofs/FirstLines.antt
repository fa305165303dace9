-- The first line of a result, and what stands behind it.
use Rattle.std.proofs.Common.{◌≡◌, ℕ, ◌+◌, ◌-◌, inr, Bool, true, false, List, [], ◌∷◌, ◌++◌, length, refl, sym, ◌∙◌, ap, subst, append_assoc, append-nil, arith}
use Rattle.std.proofs.lemmas.List.{append_cancel_left}
use Rattle.std.specs.Prelude.{codes}
use Rattle.merlin_model.specs.declared.certificate.Tree.{Tree}
use Rattle.merlin_model.specs.Networks.{Network}
use Rattle.merlin_base.specs.Faults.{IsWholeLines, IsFirstWrongLine, GoesWrong}
use Rattle.merlin_base.specs.NodeTexts.{nodes_text}
use Rattle.merlin_base.proofs.Cutting.{Free, free_append}
use Rattle.merlin_base.proofs.WrongLines.{line_wrong, lift_wrong, whole_wrong}
use Rattle.config_read.specs.declared.result.ResultText.{ResultText}
use Rattle.config_read.specs.Heads.{IsVersion, outcome_word, first_line}
use Rattle.config_read.specs.Tails.{closing_tree}
use Rattle.config_read.specs.Results.{is_feasible, lines_of_head, lines_of, result_text, IsResult}
use Rattle.config_read.proofs.HostKinds.{lacks_byte, tested}

heads : (a b : ℕ) (x y : List ℕ) → a ∷ x ≡ b ∷ y → a ≡ b
heads a b x y e = cc

tails : (a b : ℕ) (x y : List ℕ) → a ∷ x ≡ b ∷ y → x ≡ y
tails a b x y e = cc

outcome_once : (f g : Bool) (x y : List ℕ) → outcome_word f ++ x ≡ outcome_word g ++ y → (f ≡ g) × (x ≡ y)
outcome_once true true x y e = (refl, append_cancel_left (codes "ok\n") x y e)
outcome_once true false x y e = absurd (let a = heads 111 105 _ _ e in omega arith)
outcome_once false true x y e = absurd (let a = heads 105 111 _ _ e in omega arith)
outcome_once false false x y e = (refl, append_cancel_left (codes "infeasible\n") x y e)

pub record IsSameFirst (v w : ℕ) (f g : Bool) (x y : List ℕ) : Type 0 where
  pub version : v ≡ w
  pub feasible : f ≡ g
  pub rest : x ≡ y

-- one text has one first line
pub first_once : (v w : ℕ) (f g : Bool) (x y : List ℕ) → first_line v f ++ x ≡ first_line w g ++ y → IsSameFirst v w f g x y
first_once v w f g x y e =
    let behind : (48 + v) ∷ (32 ∷ (outcome_word f ++ x)) ≡ (48 + w) ∷ (32 ∷ (outcome_word g ++ y)) =
    append_cancel_left (codes "merlin ") ((48 + v) ∷ (32 ∷ (outcome_word f ++ x))) ((48 + w) ∷ (32 ∷ (outcome_word g ++ y))) e in
    let digit = heads (48 + v) (48 + w) _ _ behind in
    let rest = outcome_once f g x y (tails 32 32 _ _ (tails (48 + v) (48 + w) _ _ behind)) in
    record { version = omega arith; feasible = rest.0; rest = rest.1 }

-- the first line without its newline
abbrev outcome_front : Bool → List ℕ
outcome_front true = codes "ok"
outcome_front false = codes "infeasible"

abbrev first_front : ℕ → Bool → List ℕ
first_front version feasible = codes "merlin " ++ (48 + version) ∷ 32 ∷ outcome_front feasible

first_is : (version : ℕ) (feasible : Bool) (more : List ℕ) → first_line version feasible ++ more ≡ first_front version feasible ++ 10 ∷ more
first_is version true more = refl
first_is version false more = refl

first_whole : (version : ℕ) (feasible : Bool) → IsWholeLines (first_line version feasible)
first_whole version true = inr (first_front version true, refl)
first_whole version false = inr (first_front version false, refl)

outcome_free : (feasible : Bool) → Free 10 (outcome_front feasible)
unfolding lacks_byte
outcome_free true = tested 10 (codes "ok") refl
outcome_free false = tested 10 (codes "infeasible") refl

first_free : (version : ℕ) (feasible : Bool) → Free 10 (first_front version feasible)
unfolding lacks_byte
first_free version feasible =
    free_append 10 (codes "merlin ") ((48 + version) ∷ 32 ∷ outcome_front feasible) (tested 10 (codes "merlin ") refl) ((λ e. omega arith), ((λ e. omega arith), outcome_free feasible))

-- a result behind its first line
abbrev pub behind_first : Network → ResultText × Tree → List ℕ
behind_first net r = lines_of_head net r.0.head ++ (lines_of net r.0.config ++ closing_tree r.1)

pub whole_is : (net : Network) (r : ResultText × Tree) → result_text net r ≡ first_line r.0.version (is_feasible r.0.head) ++ behind_first net r
whole_is net r = by (first_line r.0.version (is_feasible r.0.head)) (lines_of_head net r.0.head) (lines_of net r.0.config) (codes "tree\n") (nodes_text r.1)
  where
    by : (a b c d e : List ℕ) → (a ++ (b ++ (c ++ d))) ++ e ≡ a ++ (b ++ (c ++ (d ++ e)))
    by a b c d e = simp append_assoc

-- the results whose first line is this one
pub record IsForm (net : Network) (version : ℕ) (feasible : Bool) (r : ResultText × Tree) : Type 0 where
  pub is : IsResult net r
  pub same_version : r.0.version ≡ version
  pub same_kind : is_feasible r.0.head ≡ feasible

-- Where a text goes wrong behind its first line, so does the whole.
pub behind_wrong : (net : Network) (text rest : List ℕ) (version : ℕ) (feasible : Bool) (left : ℕ) → text ≡ first_line version feasible ++ rest → GoesWrong (behind_first net) (IsForm net version feasible) rest left → GoesWrong (result_text net) (IsResult net) text left
behind_wrong net text rest version feasible left e g =
    lift_wrong (result_text net) (IsResult net) (behind_first net) (IsForm net version feasible) (first_line version feasible) rest text left (first_whole version feasible) e up down g
  where
    up : (r : ResultText × Tree) → IsForm net version feasible r → (s : ResultText × Tree) × IsResult net s × (more : List ℕ) × (result_text net s ≡ first_line version feasible ++ (behind_first net r ++ more))
    up r is = (
      r,
      is.is,
      [],
      whole_is net r ∙ ap (λ k. first_line k (is_feasible r.0.head) ++ behind_first net r) is.same_version ∙ ap (λ k. first_line version k ++ behind_first net r) is.same_kind
          ∙ ap (λ z. first_line version feasible ++ z) (sym (append-nil (behind_first net r))),
    )

    down : (r : ResultText × Tree) (x t : List ℕ) → IsResult net r → result_text net r ++ x ≡ first_line version feasible ++ t → (s : ResultText × Tree) × IsForm net version feasible s × (y : List ℕ) × (behind_first net s ++ y ≡ t)
    down r x t is h =
        let same = first_once r.0.version version (is_feasible r.0.head) feasible (behind_first net r ++ x) t
        (sym (append_assoc (first_line r.0.version (is_feasible r.0.head)) (behind_first net r) x) ∙ ap (λ z. z ++ x) (sym (whole_is net r)) ∙ h) in
        (r, record { is = is; same_version = same.version; same_kind = same.feasible }, x, same.rest)

-- The first line is wrong where no result has it.
pub wrong_first : (net : Network) (text : List ℕ) (some : ResultText × Tree) → IsResult net some → ((version : ℕ) (feasible : Bool) (rest : List ℕ) → IsVersion version → text ≡ first_line version feasible ++ rest → ⊥) →
    IsFirstWrongLine (result_text net) (IsResult net) text 0
wrong_first net text some is none =
    subst (IsFirstWrongLine (result_text net) (IsResult net) text) (nothing (length text))
    (whole_wrong (result_text net) (IsResult net) text (length text)
    (line_wrong (result_text net) (IsResult net) (λ r. first_front r.0.version (is_feasible r.0.head)) (behind_first net) text some is (λ r. whole_is net r ∙ first_is r.0.version (is_feasible r.0.head) (behind_first net r))
    (λ r lawful. first_free r.0.version (is_feasible r.0.head))
    (λ r rest lawful h. none r.0.version (is_feasible r.0.head) rest lawful.version (h ∙ sym (first_is r.0.version (is_feasible r.0.head) rest))))).1
  where
    nothing : (n : ℕ) → n - n ≡ 0
    nothing n = omega arith
