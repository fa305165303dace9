use Rattle.std.proofs.Common.{◌≡◌, ◌⊎◌, inl, inr, true, not, ◌&&◌, sym, ◌∙◌, ap}
use Rattle.std.specs.List.{list_any}
use Rattle.std.proofs.lemmas.List.{drop_all}
use Rattle.merlin_model.specs.declared.policy.Path.{Path, Empty, Star}
use Rattle.path_regex.specs.Derivatives.{takes_empty}
use Rattle.path_regex.proofs.Shapes.{takes_empty-Cat, takes_empty-Alt, takes_empty-at, takes_empty-Star, takes_empty-Not}
use Rattle.path_regex.proofs.empty_word.+takes_empty.Goals as goal

pub returns-then-takes_empty : goal.returns-then-takes_empty
returns-then-takes_empty t c =
    c.takes_empty-then-takes_empty.ensures ∙ ap takes_empty c.get-then-takes_empty.ensures
    ∙ sym (ap takes_empty c.in-Cat.is ∙ takes_empty-Cat _ _ ∙ ap (λ b. b && takes_empty c.in-Cat.rest) (sym (c.takes_empty.ensures ∙ ap takes_empty c.get.ensures) ∙ c.if-takes_empty.true))

pub returns-else-takes_empty : goal.returns-else-takes_empty
returns-else-takes_empty t c =
    c.if-takes_empty.false
    ∙ sym (ap takes_empty c.in-Cat.is ∙ takes_empty-Cat _ _ ∙ ap (λ b. b && takes_empty c.in-Cat.rest) (sym (c.takes_empty.ensures ∙ ap takes_empty c.get.ensures) ∙ c.if-takes_empty.false))

pub returns-then-takes_empty-2 : goal.returns-then-takes_empty-2
returns-then-takes_empty-2 t c =
    sym (ap takes_empty c.in-Alt.is ∙ takes_empty-Alt _ ∙ ap (list_any takes_empty) (sym c.as_slice-path-items.ensures) ∙ c.loop-path.invariant
    ∙ takes_empty-at _ _ c.path-item.result c.loop-path-test.true c.path-item.is (sym c.takes_empty-in-loop-path.ensures ∙ c.if-takes_empty-2.true))

pub returns-after-loop-path : goal.returns-after-loop-path
returns-after-loop-path t c =
    sym (ap takes_empty c.in-Alt.is ∙ takes_empty-Alt _ ∙ ap (list_any takes_empty) (sym c.as_slice-path-items.ensures) ∙ c.loop-path.invariant ∙ ap (list_any takes_empty) (drop_all c.loop-path.path-index c.as_slice-path-items.result.now c.loop-path-test.false))

pub returns-in-Not : goal.returns-in-Not
returns-in-Not t c = ap not (c.takes_empty-in-Not.ensures ∙ ap takes_empty c.get-in-Not.ensures) ∙ sym (ap takes_empty c.in-Not.is ∙ takes_empty-Not _)

always : (a : Path) → (a ≡ Empty) ⊎ ((b : Path) × (a ≡ Star b)) → true ≡ takes_empty a
always a (inl e) = sym (ap takes_empty e)
always a (inr e) = sym (ap takes_empty e.1 ∙ takes_empty-Star e.0)

pub returns-in-Empty-2 : goal.returns-in-Empty-2
returns-in-Empty-2 t c = always c.args.path.now c.in-Empty.is
