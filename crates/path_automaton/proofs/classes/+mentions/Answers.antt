use Rattle.std.proofs.Common.{◌≡◌, ◌⊎◌, inl, inr, ◌||◌, sym, ◌∙◌, ap}
use Rattle.std.specs.List.{list_any}
use Rattle.std.proofs.lemmas.List.{drop_all}
use Rattle.merlin_model.specs.declared.policy.Symbol.{Symbol}
use Rattle.merlin_model.specs.declared.policy.Path.{Path, Star, Not}
use Rattle.path_automaton.specs.SeenSymbols.{mentions as mentioned}
use Rattle.path_automaton.proofs.Naming.{mentions-Cat, mentions-Alt, mentions-Star, mentions-Not, any-from}
use Rattle.path_automaton.proofs.classes.+mentions.Goals as goal

pub returns-then-mentions : goal.returns-then-mentions
returns-then-mentions t c =
    c.if-mentions.true
    ∙ sym (ap (λ (a : Path). mentioned a c.args.symbol) c.in-Cat.is ∙ mentions-Cat _ _ _
    ∙ ap (λ b. b || mentioned c.in-Cat.rest c.args.symbol) (sym (c.mentions.ensures ∙ ap (λ (a : Path). mentioned a c.args.symbol) c.get.ensures) ∙ c.if-mentions.true))

pub returns-else-mentions : goal.returns-else-mentions
returns-else-mentions t c =
    c.mentions-else-mentions.ensures ∙ ap (λ (a : Path). mentioned a c.args.symbol) c.get-else-mentions.ensures
    ∙ sym (ap (λ (a : Path). mentioned a c.args.symbol) c.in-Cat.is ∙ mentions-Cat _ _ _
    ∙ ap (λ b. b || mentioned c.in-Cat.rest c.args.symbol) (sym (c.mentions.ensures ∙ ap (λ (a : Path). mentioned a c.args.symbol) c.get.ensures) ∙ c.if-mentions.false))

pub returns-then-mentions-2 : goal.returns-then-mentions-2
returns-then-mentions-2 t c =
    sym (ap (λ (a : Path). mentioned a c.args.symbol) c.in-Alt.is ∙ mentions-Alt _ _ ∙ ap (list_any (λ a. mentioned a c.args.symbol)) (sym c.as_slice-path-items.ensures) ∙ c.loop-path.invariant
    ∙ any-from (λ a. mentioned a c.args.symbol) c.as_slice-path-items.result.now c.loop-path.path-index c.path-item.result c.loop-path-test.true c.path-item.is (sym c.mentions-in-loop-path.ensures ∙ c.if-mentions-2.true))

pub returns-after-loop-path : goal.returns-after-loop-path
returns-after-loop-path t c =
    sym (ap (λ (a : Path). mentioned a c.args.symbol) c.in-Alt.is ∙ mentions-Alt _ _ ∙ ap (list_any (λ a. mentioned a c.args.symbol)) (sym c.as_slice-path-items.ensures) ∙ c.loop-path.invariant
    ∙ ap (list_any (λ a. mentioned a c.args.symbol)) (drop_all c.loop-path.path-index c.as_slice-path-items.result.now c.loop-path-test.false))

inside : (a b : Path) (x : Symbol) → (a ≡ Star b) ⊎ (a ≡ Not b) → mentioned b x ≡ mentioned a x
inside a b x (inl e) = sym (ap (λ p. mentioned p x) e ∙ mentions-Star b x)
inside a b x (inr e) = sym (ap (λ p. mentioned p x) e ∙ mentions-Not b x)

pub returns-in-Star : goal.returns-in-Star
returns-in-Star t c = c.mentions-in-Star.ensures ∙ ap (λ (a : Path). mentioned a c.args.symbol) c.get-in-Star.ensures ∙ inside c.args.path.now c.in-Star.inner c.args.symbol c.in-Star.is
