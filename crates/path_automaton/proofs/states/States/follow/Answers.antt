use Rattle.std.proofs.Common.{◌≡◌, ◌<◌, ℕ, List, map, length, get_or, Some, sym, ◌∙◌, ap, subst, arith}
use Rattle.std.proofs.lemmas.Bool.{eqb-true}
use Rattle.std.proofs.lemmas.List.{length-map}
use Rattle.merlin_model.specs.declared.policy.Symbol.{Symbol}
use Rattle.merlin_model.specs.declared.policy.Path.{Path, Nothing}
use Rattle.path_regex.specs.Derivatives.{derivative_of}
use Rattle.path_automaton.specs.States.{with_new}
use Rattle.path_regex.specs.Shared.{form_at, AreFound}
use Rattle.path_automaton.proofs.Found.{found-kept, forms-kept, at-found, get-found, with_new-found, found-more}
use Rattle.path_automaton.proofs.states.States.follow.Goals as goal

pub invariant_of-self-2 : goal.invariant_of-self-2
invariant_of-self-2 c =
    subst (AreFound c.derivative.new.self) (sym c.in_ok-at.ensures.keys)
    (found-more c.derivative.new.self c.differ.ensures c.in_ok-next.next c.in_ok-next.ensures.value.0 c.self.inside.found.keys (found-kept c.in_ok-next.ensures.grows c.self.inside.found.keys c.self.invariant))

-- the derivative of the state's form is that of the form at the place where it was found
derivative-found : (states forms : List Path) (ks js : List ℕ) (state : ℕ) (x : Symbol) → map (form_at forms) ks ≡ states → state < length states → js ≡ ks → derivative_of (form_at forms (get_or js state 0)) x ≡ derivative_of (get_or states state Nothing) x
derivative-found states forms ks js state x view within same =
    let long = length-map ks (form_at forms) in let size = ap length view in
    let form : get_or states state Nothing ≡ form_at forms (get_or ks state 0) = ap (λ (l : List Path). get_or l state Nothing) (sym view) ∙ at-found forms ks state 0 (omega arith) in
    ap (λ (a : Path). derivative_of a x) (ap (λ (l : List ℕ). form_at forms (get_or l state 0)) same ∙ sym form)

pub returns-clause-with_new : goal.returns-clause-with_new
returns-clause-with_new c =
    let forms : List Path = c.derivative.new.self in
    let ks : List ℕ = c.self.inside.found.keys in
    let derived = derivative-found c.args.self.now c.self.inside.forms ks _ c.args.state c.args.symbol c.self.view_is c.requires c.as_slice.ensures.keys in
    ap (map (form_at forms)) c.in_ok-at.ensures.keys
    ∙ with_new-found forms c.differ.ensures c.in_ok-next.next c.in_ok-next.ensures.value.0 ks (found-kept c.in_ok-next.ensures.grows ks c.self.invariant)
    ∙ ap (λ (l : List Path). with_new l (form_at forms c.in_ok-next.next)) (forms-kept c.in_ok-next.ensures.grows ks c.self.invariant ∙ c.self.view_is)
    ∙ ap (with_new c.args.self.now) (c.in_ok-next.ensures.value.1 ∙ derived)

pub returns-clause-place : goal.returns-clause-place
returns-clause-place c =
    let forms : List Path = c.derivative.new.self in
    let derived = derivative-found c.args.self.now c.self.inside.forms c.self.inside.found.keys _ c.args.state c.args.symbol c.self.view_is c.requires c.as_slice.ensures.keys in
    get-found forms c.insert_full.new.self.keys c.in_ok-at.at c.in_ok-at.ensures.stored.0 c.in_ok-at.ensures.stored.1
    ∙ ap Some (ap (form_at forms) (sym (eqb-true c.in_ok-next.next c.in_ok-at.ensures.stored.0 c.in_ok-at.ensures.stored.2))
    ∙ c.in_ok-next.ensures.value.1 ∙ derived)
