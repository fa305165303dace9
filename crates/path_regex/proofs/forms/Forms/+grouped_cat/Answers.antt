use Rattle.std.proofs.Common.{IfOk, sym, ◌∙◌, ap, ap₂, subst, arith}
use Rattle.merlin_model.specs.declared.policy.Path.{Path, Cat}
use Rattle.path_regex.specs.Normal.{grouped_cat}
use Rattle.path_regex.proofs.Shapes.{grouped_cat-Cat}
use Rattle.path_regex.specs.Shared.{form_at, IsFormAt}
use Rattle.path_regex.proofs.Sharing.{kept}
use Rattle.path_regex.proofs.Joined.{is-Cat, parts-Cat}
use Rattle.path_regex.proofs.forms.Forms.+grouped_cat.Goals as goal

pub returns-in_ok-tail-in-Cat-clause-value : goal.returns-in_ok-tail-in-Cat-clause-value
returns-in_ok-tail-in-Cat-clause-value t c =
    let parts = parts-Cat _ _ _ c.node.ensures _ _ c.in-Cat.is in let head = parts.0 in let first = c.requires.first in
    subst (λ (a : Path). IfOk c.put.result (λ form. IsFormAt c.put.new.self form a))
    (ap₂ Cat (kept c.in_ok-tail-in-Cat.ensures.grows c.in-Cat.head (omega arith)) c.in_ok-tail-in-Cat.ensures.value.1
    ∙ sym (ap (λ (a : Path). grouped_cat a (form_at c.args.self.now c.args.rest)) (is-Cat _ _ _ c.node.ensures _ _ c.in-Cat.is) ∙ grouped_cat-Cat _ _ _))
    c.put.ensures.value
