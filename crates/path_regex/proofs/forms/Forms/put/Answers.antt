use Rattle.std.proofs.Common.{◌≡◌, [], length, true, sym, subst, rules}
use Rattle.path_regex.specs.declared.forms.FormNode.{FormNode}
use Rattle.path_regex.specs.Shared.{meaning, meanings, PartsStandBefore, AddsForms, IsFormAt}
use Rattle.path_regex.specs.contracts.forms.FormNodePartialEq.TheImpl.{eq-value}
use Rattle.path_regex.proofs.Sharing.{put-answer, put-names, known-more, steps-more}
use Rattle.path_regex.proofs.forms.Forms.put.Goals as goal

same : (x y : FormNode) → eq-value.it x y ≡ true → x ≡ y
same x y e = search rules

itself : (x : FormNode) → eq-value.it x x ≡ true
itself x = search rules

pub invariant_of-self-2 : goal.invariant_of-self-2
invariant_of-self-2 c =
    let put = put-answer eq-value.it same itself c.self.inside.nodes.keys c.self.invariant.nodes c.args.node (subst (λ forms. PartsStandBefore (length forms) forms c.args.node) (sym c.self.view_is) c.requires)
    c.insert_full.new.self.keys c.insert_full.result c.insert_full.ensures.keys c.insert_full.ensures.err in
    record { nodes = put.nodes; orders = known-more put.grows c.self.inside.orders.entries c.self.invariant.orders; steps = steps-more put.grows c.self.inside.steps.entries c.self.invariant.steps }

pub returns-clause-grows : goal.returns-clause-grows
returns-clause-grows c =
    subst (λ forms. AddsForms forms (meanings [] c.insert_full.new.self.keys)) c.self.view_is
    (put-answer eq-value.it same itself c.self.inside.nodes.keys c.self.invariant.nodes c.args.node (subst (λ forms. PartsStandBefore (length forms) forms c.args.node) (sym c.self.view_is) c.requires)
    c.insert_full.new.self.keys c.insert_full.result c.insert_full.ensures.keys c.insert_full.ensures.err).grows

pub returns-clause-value : goal.returns-clause-value
returns-clause-value c =
    let g : PartsStandBefore (length (meanings [] c.self.inside.nodes.keys)) (meanings [] c.self.inside.nodes.keys) c.args.node = subst (λ forms. PartsStandBefore (length forms) forms c.args.node) (sym c.self.view_is) c.requires in
    subst (λ forms. IsFormAt (meanings [] c.insert_full.new.self.keys) c.in_ok-form.form (meaning forms c.args.node)) c.self.view_is
    (put-names eq-value.it same itself c.self.inside.nodes.keys c.self.invariant.nodes c.args.node g c.insert_full.new.self.keys
    (put-answer eq-value.it same itself c.self.inside.nodes.keys c.self.invariant.nodes c.args.node g c.insert_full.new.self.keys c.insert_full.result c.insert_full.ensures.keys c.insert_full.ensures.err)
    c.in_ok-form.form c.in_ok-form.ensures.stored.0 c.in_ok-form.ensures.stored.1 c.in_ok-form.ensures.stored.2)
