use Rattle.std.proofs.Common.{◌≡◌, ◌+◌, ◌++◌, ◌∷◌, [], IfOk, List, ℕ, map, take, take_all, add-one, sym, ◌∙◌, ap, ap₂, subst}
use Rattle.std.proofs.Math.Seq.{take-suc}
use Rattle.merlin_model.specs.declared.policy.Path.{Path}
use Rattle.path_regex.specs.Normal.{cat_of, alt_of, star_of, not_of, normal_of}
use Rattle.path_regex.proofs.Shapes.{normal_of-Cat, normal_of-Alt, normal_of-Star, normal_of-Not}
use Rattle.path_regex.specs.Shared.{IsFormAt}
use Rattle.path_regex.proofs.Sharing.{kept}
use Rattle.path_regex.proofs.Joined.{AreCollected, one-more-collected}
use Rattle.path_regex.proofs.forms.Forms.+normal.Goals as goal

pub loop-path-preserved : goal.loop-path-preserved
loop-path-preserved t c =
    let items : List Path = c.as_slice-path-items.result.now in
    let i : ℕ = c.loop-path.path-index in
    let more : take (i + 1) items ≡ take i items ++ c.path-item.result ∷ [] =
    ap (λ k. take k items) (add-one i) ∙ take-suc items i c.path-item.result c.loop-path-test.true ∙ ap (λ a. take i items ++ a ∷ []) (sym c.path-item.is) in
    subst (λ (paths : List Path). AreCollected normal_of c.args.self.now c.normal-in-loop-path.new.self paths c.push.new.self) (sym more)
    (subst (λ (forms : List ℕ). AreCollected normal_of c.args.self.now c.normal-in-loop-path.new.self (take i items ++ c.path-item.result ∷ []) forms) (sym c.in_ok-push-in-Alt.ensures.ok)
    (one-more-collected normal_of c.args.self.now c.loop-path.self c.normal-in-loop-path.new.self (take i items) c.loop-path.forms c.path-item.result c.in_ok-normal-in-Alt.field-0
    c.loop-path.invariant c.in_ok-normal-in-Alt.ensures.grows c.in_ok-normal-in-Alt.ensures.value))

pub returns-in_ok-rest-in-Cat-clause-value : goal.returns-in_ok-rest-in-Cat-clause-value
returns-in_ok-rest-in-Cat-clause-value t c =
    subst (λ (a : Path). IfOk c.cat_of.result (λ form. IsFormAt c.cat_of.new.self form a))
    (ap₂ cat_of (kept c.in_ok-rest-in-Cat.ensures.grows c.in_ok-first-in-Cat.first c.in_ok-first-in-Cat.ensures.value.0 ∙ c.in_ok-first-in-Cat.ensures.value.1 ∙ ap normal_of c.get.ensures)
    (c.in_ok-rest-in-Cat.ensures.value.1 ∙ ap normal_of c.get-in-Cat.ensures)
    ∙ sym (ap normal_of c.in-Cat.is ∙ normal_of-Cat _ _))
    c.cat_of.ensures.value

pub returns-after-loop-path-clause-value : goal.returns-after-loop-path-clause-value
returns-after-loop-path-clause-value t c =
    subst (λ (a : Path). IfOk c.alt_of.result (λ form. IsFormAt c.alt_of.new.self form a))
    (ap alt_of (c.loop-path.invariant.same ∙ ap (map normal_of) (take_all c.loop-path.path-index c.as_slice-path-items.result.now c.loop-path-test.false ∙ c.as_slice-path-items.ensures))
    ∙ sym (ap normal_of c.in-Alt.is ∙ normal_of-Alt _))
    c.alt_of.ensures.value

pub returns-in_ok-inner-in-Star-clause-value : goal.returns-in_ok-inner-in-Star-clause-value
returns-in_ok-inner-in-Star-clause-value t c =
    subst (λ (a : Path). IfOk c.star_of.result (λ form. IsFormAt c.star_of.new.self form a))
    (ap star_of (c.in_ok-inner-in-Star.ensures.value.1 ∙ ap normal_of c.get-in-Star.ensures) ∙ sym (ap normal_of c.in-Star.is ∙ normal_of-Star _))
    c.star_of.ensures.value

pub returns-in_ok-inner-in-Not-clause-value : goal.returns-in_ok-inner-in-Not-clause-value
returns-in_ok-inner-in-Not-clause-value t c =
    subst (λ (a : Path). IfOk c.not_of.result (λ form. IsFormAt c.not_of.new.self form a))
    (ap not_of (c.in_ok-inner-in-Not.ensures.value.1 ∙ ap normal_of c.get-in-Not.ensures) ∙ sym (ap normal_of c.in-Not.is ∙ normal_of-Not _))
    c.not_of.ensures.value
