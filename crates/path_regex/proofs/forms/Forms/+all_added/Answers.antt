use Rattle.std.proofs.Common.{List, IfOk, sym, ◌∙◌, ap, ap₂, subst, arith}
use Rattle.merlin_model.specs.declared.policy.Path.{Path}
use Rattle.path_regex.specs.Normal.{members, added, added_all}
use Rattle.path_regex.specs.Shared.{form_at, alt_by, IsFormAt}
use Rattle.path_regex.proofs.Sharing.{kept}
use Rattle.path_regex.proofs.Joined.{members-at, parts-Alt, named-chain, named-members, no-members}
use Rattle.path_regex.proofs.forms.Forms.+all_added.Goals as goal

pub added-requires-clause-chain : goal.added-requires-clause-chain
added-requires-clause-chain t c = named-chain c.all_added.new.self c.in_ok-others-in-Alt.others _ c.in_ok-others-in-Alt.ensures.value.1

pub returns-in_ok-others-in-Alt-clause-value : goal.returns-in_ok-others-in-Alt-clause-value
returns-in_ok-others-in-Alt-clause-value t c =
    let parts = parts-Alt _ _ _ c.node.ensures _ _ c.in-Alt.is in
    let first = parts.0 in
    let form = c.requires.form in
    subst (λ (a : Path). IfOk c.added.result (λ all. IsFormAt c.added.new.self all a))
    (ap₂ (λ a l. alt_by (added a l)) (kept c.in_ok-others-in-Alt.ensures.grows c.in-Alt.first (omega arith)) (named-members c.all_added.new.self c.in_ok-others-in-Alt.others _ c.in_ok-others-in-Alt.ensures.value.1)
    ∙ sym (ap (λ (l : List Path). alt_by (added_all l (members (form_at c.args.self.now c.args.others)))) (members-at _ _ _ c.node.ensures _ _ c.in-Alt.is)))
    c.added.ensures.value

pub returns-in-Nothing-clause-value : goal.returns-in-Nothing-clause-value
returns-in-Nothing-clause-value t c = (
  c.requires.others,
  c.requires.chain ∙ sym (ap (λ (l : List Path). alt_by (added_all l (members (form_at c.args.self.now c.args.others)))) (no-members _ _ _ c.node.ensures c.in-Nothing.is)),
)
