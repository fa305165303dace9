use Rattle.std.proofs.Common.{◌≡◌, ◌+◌, ◌++◌, ◌∷◌, [], List, ℕ, take, add-one, sym, ◌∙◌, ap, subst}
use Rattle.std.proofs.Math.Seq.{take-suc}
use Rattle.merlin_model.specs.declared.policy.Path.{Path}
use Rattle.path_regex.proofs.Joined.{AreCollected, one-more-collected}
use Rattle.path_regex.proofs.forms.Forms.+form_of.Goals as goal

pub loop-path-preserved : goal.loop-path-preserved
loop-path-preserved t c =
    let items : List Path = c.as_slice-path-items.result.now in
    let i : ℕ = c.loop-path.path-index in
    let more : take (i + 1) items ≡ take i items ++ c.path-item.result ∷ [] =
    ap (λ k. take k items) (add-one i) ∙ take-suc items i c.path-item.result c.loop-path-test.true ∙ ap (λ a. take i items ++ a ∷ []) (sym c.path-item.is) in
    subst (λ (paths : List Path). AreCollected (λ a. a) c.args.self.now c.form_of-in-loop-path.new.self paths c.push.new.self) (sym more)
    (subst (λ (forms : List ℕ). AreCollected (λ a. a) c.args.self.now c.form_of-in-loop-path.new.self (take i items ++ c.path-item.result ∷ []) forms) (sym c.in_ok-push-in-Alt.ensures.ok)
    (one-more-collected (λ a. a) c.args.self.now c.loop-path.self c.form_of-in-loop-path.new.self (take i items) c.loop-path.forms c.path-item.result c.in_ok-form_of-in-Alt.field-0
    c.loop-path.invariant c.in_ok-form_of-in-Alt.ensures.grows c.in_ok-form_of-in-Alt.ensures.value))
