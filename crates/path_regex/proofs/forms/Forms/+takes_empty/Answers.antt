use Rattle.std.proofs.Common.{◌≡◌, ◌⊎◌, inl, inr, ℕ, List, [], true, false, not, ◌&&◌, ◌||◌, sym, ◌∙◌, ap}
use Rattle.merlin_model.specs.declared.policy.Path.{Path}
use Rattle.path_regex.specs.Derivatives.{takes_empty}
use Rattle.path_regex.proofs.Shapes.{takes_empty-Alt, takes_empty-Cat, takes_empty-Star, takes_empty-Not}
use Rattle.path_regex.specs.declared.forms.FormNode.{FormNode}
use Rattle.path_regex.specs.declared.forms.FormNode.TheVariants.{Nothing as NodeNothing, Empty as NodeEmpty, Dot as NodeDot, Loc as NodeLoc, Fun as NodeFun, NoChoice as NodeNoChoice, Star as NodeStar}
use Rattle.path_regex.specs.Shared.{form_at, meaning, IsNode}
use Rattle.path_regex.proofs.Joined.{is-Cat, is-Star, is-Not, takes-Alt}
use Rattle.path_regex.proofs.forms.Forms.+takes_empty.Goals as goal

always : (forms : List Path) (k : ℕ) (n : FormNode) → IsNode forms k n → (n ≡ NodeEmpty) ⊎ ((a : ℕ) × (n ≡ NodeStar a)) → true ≡ takes_empty (form_at forms k)
always forms k n h (inl e) = sym (ap takes_empty (h.1 ∙ ap (meaning forms) e))
always forms k n h (inr e) = sym (ap takes_empty (is-Star forms k n h e.0 e.1) ∙ takes_empty-Star _)

pub returns-in-Empty : goal.returns-in-Empty
returns-in-Empty t c = always _ _ _ c.node.ensures c.in-Empty.is

pub returns-then-takes_empty : goal.returns-then-takes_empty
returns-then-takes_empty t c =
    c.takes_empty-then-takes_empty.ensures
    ∙ sym (ap takes_empty (is-Cat _ _ _ c.node.ensures _ _ c.in-Cat.is) ∙ takes_empty-Cat _ _ ∙ ap (λ b. b && takes_empty (form_at c.args.self.now c.in-Cat.rest)) (sym c.takes_empty.ensures ∙ c.if-takes_empty.true))

pub returns-else-takes_empty : goal.returns-else-takes_empty
returns-else-takes_empty t c =
    c.if-takes_empty.false
    ∙ sym (ap takes_empty (is-Cat _ _ _ c.node.ensures _ _ c.in-Cat.is) ∙ takes_empty-Cat _ _ ∙ ap (λ b. b && takes_empty (form_at c.args.self.now c.in-Cat.rest)) (sym c.takes_empty.ensures ∙ c.if-takes_empty.false))

pub returns-then-takes_empty-2 : goal.returns-then-takes_empty-2
returns-then-takes_empty-2 t c =
    c.if-takes_empty-2.true
    ∙ sym (takes-Alt _ _ _ c.node.ensures _ _ c.in-Alt.is ∙ ap (λ b. b || takes_empty (form_at c.args.self.now c.in-Alt.rest)) (sym c.takes_empty-in-Alt.ensures ∙ c.if-takes_empty-2.true))

pub returns-else-takes_empty-2 : goal.returns-else-takes_empty-2
returns-else-takes_empty-2 t c =
    c.takes_empty-else-takes_empty-2.ensures
    ∙ sym (takes-Alt _ _ _ c.node.ensures _ _ c.in-Alt.is ∙ ap (λ b. b || takes_empty (form_at c.args.self.now c.in-Alt.rest)) (sym c.takes_empty-in-Alt.ensures ∙ c.if-takes_empty-2.false))

pub returns-in-Not : goal.returns-in-Not
returns-in-Not t c = ap not c.takes_empty-in-Not.ensures ∙ sym (ap takes_empty (is-Not _ _ _ c.node.ensures _ c.in-Not.is) ∙ takes_empty-Not _)

never : (forms : List Path) (k : ℕ) (n : FormNode) → IsNode forms k n → (n ≡ NodeNothing) ⊎ ((n ≡ NodeDot) ⊎ (((l : ℕ) × (n ≡ NodeLoc l)) ⊎ (((f : ℕ) × (n ≡ NodeFun f)) ⊎ (n ≡ NodeNoChoice)))) → false ≡ takes_empty (form_at forms k)
never forms k n h (inl e) = sym (ap takes_empty (h.1 ∙ ap (meaning forms) e))
never forms k n h (inr (inl e)) = sym (ap takes_empty (h.1 ∙ ap (meaning forms) e))
never forms k n h (inr (inr (inl e))) = sym (ap takes_empty (h.1 ∙ ap (meaning forms) e.1))
never forms k n h (inr (inr (inr (inl e)))) = sym (ap takes_empty (h.1 ∙ ap (meaning forms) e.1))
never forms k n h (inr (inr (inr (inr e)))) = sym (ap takes_empty (h.1 ∙ ap (meaning forms) e) ∙ takes_empty-Alt [])

pub returns-in-Nothing : goal.returns-in-Nothing
returns-in-Nothing t c = never _ _ _ c.node.ensures c.in-Nothing.is
