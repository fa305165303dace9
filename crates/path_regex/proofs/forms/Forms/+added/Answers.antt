use Rattle.std.proofs.Common.{◌≡◌, List, [], ◌∷◌, IfOk, sym, ◌∙◌, ap, subst, arith}
use Rattle.merlin_model.specs.declared.policy.Path.{Path, Alt}
use Rattle.path_regex.specs.Normal.{members, added}
use Rattle.path_regex.specs.Shared.{form_at, alt_by, AddsForms, IsFormAt}
use Rattle.path_regex.proofs.Sharing.{kept, within}
use Rattle.path_regex.proofs.Joined.{members-at, parts-Alt, named-chain, added-less, added-equal, added-greater, chain-empty}
use Rattle.path_regex.proofs.forms.Forms.+added.Goals as goal

pub put-requires-in-Greater : goal.put-requires-in-Greater
put-requires-in-Greater t c =
    let parts = parts-Alt _ _ _ c.node.ensures _ _ c.in-Alt.is in
    let other = parts.0 in
    let others = c.requires.others in
    let grows : AddsForms c.args.self.now c.added.new.self = subst (λ (s : List Path). AddsForms s c.added.new.self) c.compare.ensures.same c.in_ok-rest-in-Greater.ensures.grows in
    (within grows c.in-Alt.other (omega arith), c.in_ok-rest-in-Greater.ensures.value.0, named-chain c.added.new.self c.in_ok-rest-in-Greater.rest _ c.in_ok-rest-in-Greater.ensures.value.1)

pub returns-in-Less-clause-value : goal.returns-in-Less-clause-value
returns-in-Less-clause-value t c =
    subst (λ (a : Path). IfOk c.put-in-Less.result (λ all. IsFormAt c.put-in-Less.new.self all a))
    (ap (λ (s : List Path). Alt (form_at s c.args.form ∷ members (form_at s c.args.others))) c.compare.ensures.same
    ∙ added-less _ _ _ _ (members-at _ _ _ c.node.ensures _ _ c.in-Alt.is) (sym c.in_ok-compare.ensures.order ∙ c.in-Less.is))
    c.put-in-Less.ensures.value

pub returns-in-Equal-clause-value : goal.returns-in-Equal-clause-value
returns-in-Equal-clause-value t c =
    subst (λ (s : List Path). IsFormAt s c.args.others (alt_by (added (form_at c.args.self.now c.args.form) (members (form_at c.args.self.now c.args.others))))) (sym c.compare.ensures.same)
    (c.requires.others, c.requires.chain ∙ ap alt_by (added-equal _ _ _ _ (members-at _ _ _ c.node.ensures _ _ c.in-Alt.is) (sym c.in_ok-compare.ensures.order ∙ c.in-Equal.is)))

pub returns-in_ok-rest-in-Greater-clause-value : goal.returns-in_ok-rest-in-Greater-clause-value
returns-in_ok-rest-in-Greater-clause-value t c =
    let parts = parts-Alt _ _ _ c.node.ensures _ _ c.in-Alt.is in
    let other = parts.0 in
    let others = c.requires.others in
    let grows : AddsForms c.args.self.now c.added.new.self = subst (λ (s : List Path). AddsForms s c.added.new.self) c.compare.ensures.same c.in_ok-rest-in-Greater.ensures.grows in
    let rest : form_at c.added.new.self c.in_ok-rest-in-Greater.rest ≡ alt_by (added (form_at c.args.self.now c.args.form) (members (form_at c.args.self.now c.in-Alt.rest))) =
    c.in_ok-rest-in-Greater.ensures.value.1 ∙ ap (λ (s : List Path). alt_by (added (form_at s c.args.form) (members (form_at s c.in-Alt.rest)))) c.compare.ensures.same in
    subst (λ (a : Path). IfOk c.put-in-Greater.result (λ all. IsFormAt c.put-in-Greater.new.self all a))
    (added-greater _ _ _ _ _ _ (members-at _ _ _ c.node.ensures _ _ c.in-Alt.is) (sym c.in_ok-compare.ensures.order ∙ c.in-Greater.is)
    (kept grows c.in-Alt.other (omega arith)) rest)
    c.put-in-Greater.ensures.value

pub returns-in_default : goal.returns-in_default
returns-in_default t c =
    let none : members (form_at c.args.self.now c.args.others) ≡ [] = chain-empty _ _ _ c.node.ensures c.in_default.not-Alt c.requires.chain in
    record {
      grows = c.put.ensures.grows;
      value = subst (λ (a : Path). IfOk c.put.result (λ all. IsFormAt c.put.new.self all a))
          (ap (λ (l : List Path). Alt (form_at c.args.self.now c.args.form ∷ l)) none ∙ sym (ap (λ (l : List Path). alt_by (added (form_at c.args.self.now c.args.form) l)) none))
          c.put.ensures.value;
    }
