use Rattle.std.proofs.Common.{◌≡◌, ◌<◌, ◌+◌, ℕ, List, [], ◌∷◌, ◌++◌, None, Some, length, take, get_or, arith, refl, sym, ◌∙◌, ap, subst}
use Rattle.merlin_model.specs.declared.policy.Symbol.{Symbol}
use Rattle.merlin_model.specs.declared.policy.Path.{Path, Nothing}
use Rattle.path_regex.specs.Derivatives.{derivative_of}
use Rattle.path_automaton.specs.States.{with_new, with_all_new, followers}
use Rattle.path_automaton.proofs.Classing.{take-next}
use Rattle.path_automaton.proofs.Following.{IsBegun, begun-more, followers-snoc, stays, longer, with_new-length}
use Rattle.path_automaton.proofs.exploring.row.Goals as goal

abbrev none : Symbol
none = record { loc = 0; fun = None }

-- the state keeps its form, so that its follower was put among the states
record IsStep (old states next : List Path) (state : ℕ) (x : Symbol) : Type 0 where
  same : get_or states state Nothing ≡ get_or old state Nothing
  is : next ≡ with_new states (derivative_of (get_or old state Nothing) x)

step : (old states next forms : List Path) (state : ℕ) (x : Symbol) → states ≡ with_all_new old forms → state < length old → next ≡ with_new states (derivative_of (get_or states state Nothing) x) → IsStep old states next state x
step old states next forms state x e within n =
    let same : get_or states state Nothing ≡ get_or old state Nothing = stays old forms states state e within in
    record { same = same; is = n ∙ ap (λ a. with_new states (derivative_of a x)) same }

pub follow-requires : goal.follow-requires
follow-requires c = let long = longer c.args.states.now (followers (take c.loop-symbol.symbol-index c.args.symbols.now) (get_or c.args.states.now c.args.state Nothing)) c.loop-symbol.states c.loop-symbol.invariant.with_new in let within = c.requires.within in omega arith

pub returns-then-len-gt-MAX_STATES : goal.returns-then-len-gt-MAX_STATES
returns-then-len-gt-MAX_STATES c =
    let old : List Path = c.args.states.now in let form : Path = get_or old c.args.state Nothing in
    let i : ℕ = c.loop-symbol.symbol-index in let x : Symbol = get_or c.args.symbols.now i none in
    let s = step old c.loop-symbol.states c.follow.new.self (followers (take i c.args.symbols.now) form) c.args.state x c.loop-symbol.invariant.with_new c.requires.within c.in_ok-place.ensures.with_new in
    let most = with_new-length c.loop-symbol.states (derivative_of form x) in
    let long : length c.follow.new.self ≡ length (with_new c.loop-symbol.states (derivative_of form x)) = ap length s.is in
    let few = c.loop-symbol.invariant.few in
    let len = c.len.ensures in
    let past = c.if-len-gt-MAX_STATES.true in
    (refl, omega arith, (i + 1, s.is ∙ ap (λ l. with_new l (derivative_of form x)) c.loop-symbol.invariant.with_new ∙ sym (ap (λ l. with_all_new old (followers l form)) (take-next c.args.symbols.now i none c.loop-symbol-test.true) ∙ followers-snoc old form (take i c.args.symbols.now) x)))

pub loop-symbol-preserved : goal.loop-symbol-preserved
loop-symbol-preserved c =
    let old : List Path = c.args.states.now in let form : Path = get_or old c.args.state Nothing in
    let i : ℕ = c.loop-symbol.symbol-index in let x : Symbol = get_or c.args.symbols.now i none in
    let s = step old c.loop-symbol.states c.follow.new.self (followers (take i c.args.symbols.now) form) c.args.state x c.loop-symbol.invariant.with_new c.requires.within c.in_ok-place.ensures.with_new in
    let len = c.len.ensures in
    let past = c.if-len-gt-MAX_STATES.false in
    subst (λ (row : List ℕ). IsBegun old form (take (i + 1) c.args.symbols.now) c.follow.new.self row) (sym c.in_ok-push.ensures.ok)
    (subst (λ (l : List Symbol). IsBegun old form l c.follow.new.self (c.loop-symbol.places ++ c.in_ok-place.place ∷ [])) (sym (take-next c.args.symbols.now i none c.loop-symbol-test.true))
    (begun-more old form (take i c.args.symbols.now) c.loop-symbol.states c.loop-symbol.places x c.follow.new.self c.in_ok-place.place c.loop-symbol.invariant s.is (omega arith) (c.in_ok-place.ensures.place ∙ ap (λ a. Some (derivative_of a x)) s.same)))
