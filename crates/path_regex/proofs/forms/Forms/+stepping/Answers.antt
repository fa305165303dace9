use Rattle.std.proofs.Common.{rules, ◌≡◌, ◌⊎◌, inl, inr, ◌∷◌, [], IfOk, List, ℕ, Option, map, sym, ◌∙◌, ap, ap₂, subst, arith}
use Rattle.std.specs.List.{flat_map}
use Rattle.merlin_model.specs.declared.policy.Path.{Path, Nothing}
use Rattle.merlin_model.specs.declared.policy.Symbol.{Symbol}
use Rattle.path_regex.specs.declared.forms.FormNode.{FormNode}
use Rattle.path_regex.specs.declared.forms.FormNode.TheVariants.{Nothing as NodeNothing, Empty as NodeEmpty, NoChoice as NodeNoChoice}
use Rattle.path_regex.specs.Normal.{members, added_all, in_order_of, one_of, cat_of, alt_of, not_of}
use Rattle.path_regex.specs.Derivatives.{takes_empty, with_next, not_if, has_no_function, derivative_of}
use Rattle.path_regex.proofs.Shapes.{added_all-append, derivative_of-Cat, derivative_of-Alt, derivative_of-Star, derivative_of-Not}
use Rattle.path_regex.specs.Shared.{form_at, alt_by, meaning, IsNode, IsFormAt}
use Rattle.path_regex.proofs.Sharing.{kept, grows-not, grows-twice}
use Rattle.path_regex.proofs.Joined.{is-Cat, is-Alt, is-Star, is-Not, parts-Cat, parts-Alt, members-at, alt-chain, named-chain, named-members, chain-end, chain-empty}
use Rattle.path_regex.proofs.forms.Forms.+stepping.Goals as goal

pub derivative-returns-then-not-takes_empty-clause-value : goal.derivative-returns-then-not-takes_empty-clause-value
derivative-returns-then-not-takes_empty-clause-value t c =
    let parts = parts-Cat _ _ _ c.node.ensures _ _ c.in-Cat.is in
    let head = parts.0 in
    let tail = parts.1 in
    let form = c.requires in
    let g = c.in_ok-after-in-Cat.ensures.grows in
    let last = sym (c.takes_empty.ensures ∙ ap takes_empty (kept (grows-twice g c.in_ok-way-in-Cat.ensures.grows) c.in-Cat.first (omega arith))) ∙ c.if-not-takes_empty.true in (
      c.in_ok-way-in-Cat.ensures.value.0,
      c.in_ok-way-in-Cat.ensures.value.1
          ∙ ap₂ cat_of c.in_ok-after-in-Cat.ensures.value.1 (kept g c.in-Cat.rest (omega arith))
          ∙ sym (ap (λ (a : Path). derivative_of a c.args.symbol) (is-Cat _ _ _ c.node.ensures _ _ c.in-Cat.is) ∙ derivative_of-Cat _ _ _
          ∙ ap (λ b. with_next b (cat_of (derivative_of (form_at c.args.self.now c.in-Cat.first) c.args.symbol) (form_at c.args.self.now c.in-Cat.rest)) (derivative_of (form_at c.args.self.now c.in-Cat.rest) c.args.symbol)) last),
    )

pub derivative-derivatives-requires : goal.derivative-derivatives-requires
derivative-derivatives-requires t c = (search rules, (c.requires, alt-chain _ _ _ c.node.ensures _ _ c.in-Alt.is))

pub derivative-one_of-requires-clause-chain : goal.derivative-one_of-requires-clause-chain
derivative-one_of-requires-clause-chain t c =
    named-chain c.note_step.new.self c.in_ok-all-in-Alt.all _ (ap (λ (forms : List Path). form_at forms c.in_ok-all-in-Alt.all) c.note_step.ensures ∙ c.in_ok-all-in-Alt.ensures.value.1)

pub derivative-returns-in_ok-other-in-Cat-clause-value : goal.derivative-returns-in_ok-other-in-Cat-clause-value
derivative-returns-in_ok-other-in-Cat-clause-value t c =
    let parts = parts-Cat _ _ _ c.node.ensures _ _ c.in-Cat.is in
    let head = parts.0 in
    let tail = parts.1 in
    let form = c.requires in
    let g = c.in_ok-after-in-Cat.ensures.grows in
    let both = grows-twice g c.in_ok-way-in-Cat.ensures.grows in
    let goes_on = sym (c.takes_empty.ensures ∙ ap takes_empty (kept both c.in-Cat.first (omega arith))) ∙ c.if-not-takes_empty.false in
    let way = kept c.in_ok-other-in-Cat.ensures.grows c.in_ok-way-in-Cat.way c.in_ok-way-in-Cat.ensures.value.0 ∙ c.in_ok-way-in-Cat.ensures.value.1
    ∙ ap₂ cat_of c.in_ok-after-in-Cat.ensures.value.1 (kept g c.in-Cat.rest (omega arith)) in
    let next = c.in_ok-other-in-Cat.ensures.value.1 ∙ ap (λ (a : Path). derivative_of a c.args.symbol) (kept both c.in-Cat.rest (omega arith)) in
    subst (λ (a : Path). IfOk c.either.result (λ rest. IsFormAt c.either.new.self rest a))
    (ap₂ (λ (a b : Path). alt_of (a ∷ b ∷ [])) way next
    ∙ sym (ap (λ (a : Path). derivative_of a c.args.symbol) (is-Cat _ _ _ c.node.ensures _ _ c.in-Cat.is) ∙ derivative_of-Cat _ _ _
    ∙ ap (λ b. with_next b (cat_of (derivative_of (form_at c.args.self.now c.in-Cat.first) c.args.symbol) (form_at c.args.self.now c.in-Cat.rest)) (derivative_of (form_at c.args.self.now c.in-Cat.rest) c.args.symbol)) goes_on))
    c.either.ensures.value

pub derivative-returns-in_ok-note_step-in-Alt-clause-value : goal.derivative-returns-in_ok-note_step-in-Alt-clause-value
derivative-returns-in_ok-note_step-in-Alt-clause-value t c = (
  c.one_of.ensures.0,
  c.one_of.ensures.1
      ∙ ap one_of (named-members c.note_step.new.self c.in_ok-all-in-Alt.all _ (ap (λ (forms : List Path). form_at forms c.in_ok-all-in-Alt.all) c.note_step.ensures ∙ c.in_ok-all-in-Alt.ensures.value.1))
      ∙ ap (λ (l : List Path). alt_of (map (λ a. derivative_of a c.args.symbol) l)) (members-at _ _ _ c.node.ensures _ _ c.in-Alt.is)
      ∙ sym (ap (λ (a : Path). derivative_of a c.args.symbol) (is-Alt _ _ _ c.node.ensures _ _ c.in-Alt.is) ∙ derivative_of-Alt _ _),
)

pub derivative-returns-in_ok-after-in-Star-clause-value : goal.derivative-returns-in_ok-after-in-Star-clause-value
derivative-returns-in_ok-after-in-Star-clause-value t c =
    let star = is-Star _ _ _ c.node.ensures _ c.in-Star.is in
    subst (λ (a : Path). IfOk c.cat_of-in-Star.result (λ rest. IsFormAt c.cat_of-in-Star.new.self rest a))
    (ap₂ cat_of c.in_ok-after-in-Star.ensures.value.1 (kept c.in_ok-after-in-Star.ensures.grows c.args.form c.requires ∙ star)
    ∙ sym (ap (λ (a : Path). derivative_of a c.args.symbol) star ∙ derivative_of-Star _ _))
    c.cat_of-in-Star.ensures.value

pub derivative-returns-in_ok-after-in-None-clause-value : goal.derivative-returns-in_ok-after-in-None-clause-value
derivative-returns-in_ok-after-in-None-clause-value t c =
    subst (λ (a : Path). IfOk c.not_of.result (λ rest. IsFormAt c.not_of.new.self rest a))
    (ap not_of c.in_ok-after-in-None.ensures.value.1
    ∙ sym (ap (λ (a : Path). derivative_of a c.args.symbol) (is-Not _ _ _ c.node.ensures _ c.in-Not.is) ∙ derivative_of-Not _ _
    ∙ ap (λ (o : Option ℕ). not_if (has_no_function o) (derivative_of (form_at c.args.self.now c.in-Not.inner) c.args.symbol)) c.in-None.is))
    c.not_of.ensures.value

pub derivative-returns-in-Some-clause-value : goal.derivative-returns-in-Some-clause-value
derivative-returns-in-Some-clause-value t c =
    subst (λ (a : Path). IfOk c.put-in-Some.result (λ rest. IsFormAt c.put-in-Some.new.self rest a))
    (sym (ap (λ (a : Path). derivative_of a c.args.symbol) (is-Not _ _ _ c.node.ensures _ c.in-Not.is) ∙ derivative_of-Not _ _
    ∙ ap (λ (o : Option ℕ). not_if (has_no_function o) (derivative_of (form_at c.args.self.now c.in-Not.inner) c.args.symbol)) c.in-Some.is))
    c.put-in-Some.ensures.value

pub derivatives-all_added-requires-clause-chain : goal.derivatives-all_added-requires-clause-chain
derivatives-all_added-requires-clause-chain t c =
    named-chain c.derivative.new.self c.in_ok-others.others _ (kept c.in_ok-after.ensures.grows c.in_ok-others.others c.in_ok-others.ensures.value.0 ∙ c.in_ok-others.ensures.value.1)

pub derivatives-returns-clause-value : goal.derivatives-returns-clause-value
derivatives-returns-clause-value t c =
    let parts = parts-Alt _ _ _ c.node.ensures _ _ c.in-Alt.is in
    let head = parts.0 in
    let all = c.requires.within in
    let first : Path = form_at c.args.self.now c.in-Alt.first in
    let others : List Path = flat_map members (map (λ a. derivative_of a c.args.symbol) (members (form_at c.args.self.now c.in-Alt.rest))) in
    subst (λ (a : Path). IfOk c.all_added.result (λ rest. IsFormAt c.all_added.new.self rest a))
    (ap₂ (λ (a : Path) (l : List Path). alt_by (added_all (members a) l))
    (c.in_ok-after.ensures.value.1 ∙ ap (λ (a : Path). derivative_of a c.args.symbol) (kept c.in_ok-others.ensures.grows c.in-Alt.first (omega arith)))
    (named-members c.derivative.new.self c.in_ok-others.others _ (kept c.in_ok-after.ensures.grows c.in_ok-others.others c.in_ok-others.ensures.value.0 ∙ c.in_ok-others.ensures.value.1))
    ∙ sym (ap (λ (l : List Path). alt_by (in_order_of (flat_map members (map (λ a. derivative_of a c.args.symbol) l)))) (members-at _ _ _ c.node.ensures _ _ c.in-Alt.is)
    ∙ ap alt_by (added_all-append (members (derivative_of first c.args.symbol)) others [])))
    c.all_added.ensures.value

nothing-follows : (forms : List Path) (k : ℕ) (n : FormNode) (x : Symbol) → IsNode forms k n → (n ≡ NodeNothing) ⊎ ((n ≡ NodeEmpty) ⊎ (n ≡ NodeNoChoice)) → Nothing ≡ derivative_of (form_at forms k) x
nothing-follows forms k n x h (inl e) = sym (ap (λ a. derivative_of a x) (h.1 ∙ ap (meaning forms) e))
nothing-follows forms k n x h (inr (inl e)) = sym (ap (λ a. derivative_of a x) (h.1 ∙ ap (meaning forms) e))
nothing-follows forms k n x h (inr (inr e)) = sym (ap (λ a. derivative_of a x) (h.1 ∙ ap (meaning forms) e) ∙ derivative_of-Alt [] x)

pub derivative-returns-in-Nothing-clause-value : goal.derivative-returns-in-Nothing-clause-value
derivative-returns-in-Nothing-clause-value t c =
    subst (λ (a : Path). IfOk c.put.result (λ rest. IsFormAt c.put.new.self rest a)) (nothing-follows _ _ _ c.args.symbol c.node.ensures c.in-Nothing.is) c.put.ensures.value

pub derivatives-returns-in_default : goal.derivatives-returns-in_default
derivatives-returns-in_default t c = record {
  grows = grows-not c.args.self.now;
  value = (
    c.requires.within,
    chain-end _ _ _ c.node.ensures c.in_default.not-Alt c.requires.chain
        ∙ sym (ap (λ (l : List Path). alt_by (in_order_of (flat_map members (map (λ a. derivative_of a c.args.symbol) l)))) (chain-empty _ _ _ c.node.ensures c.in_default.not-Alt c.requires.chain)),
  );
}
