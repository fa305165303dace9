use Rattle.std.proofs.Common.{◌≡◌, ℕ, ◌<◌, ◌+◌, ◌==◌, Bool, true, false, ◌∙◌, refl, ap, sym, subst, arith}
use Rattle.config_text.specs.Lines.{function_name}
use Rattle.config_lines.proofs.Then.{alike, unlike}
use Rattle.config_lines.proofs.FunctionTexts.{name_of_declared}
use Rattle.config_lines.proofs.processes.place_of.Goals as goal

pub returns-then-eq-clause-some : goal.returns-then-eq-clause-some
returns-then-eq-clause-some c = (
  c.loop-place-test.true,
  name_of_declared c.args.declared.now c.loop-place.place c.index-declared-place.result c.loop-place-test.true ∙ ap (λ f. f.name) (sym c.index-declared-place.is) ∙ sym c.bytes.ensures
      ∙ alike c.bytes.result.now c.args.name.now c.eq.result c.eq.ensures c.if-eq.true,
)

pub loop-place-preserved : goal.loop-place-preserved
loop-place-preserved c = λ f below e. by f below e (f == c.loop-place.place) refl
  where
    here : function_name c.args.declared.now c.loop-place.place ≡ c.args.name.now → ⊥
    here e = unlike c.bytes.result.now c.args.name.now c.eq.result c.eq.ensures c.if-eq.false
        (c.bytes.ensures ∙ ap (λ f. f.name) c.index-declared-place.is ∙ sym (name_of_declared c.args.declared.now c.loop-place.place c.index-declared-place.result c.loop-place-test.true) ∙ e)

    by : (f : ℕ) → f < c.loop-place.place + 1 → function_name c.args.declared.now f ≡ c.args.name.now → (b : Bool) → (f == c.loop-place.place) ≡ b → ⊥
    by f below e true k = let same : f ≡ c.loop-place.place = grind arith in here (subst (λ g. function_name c.args.declared.now g ≡ c.args.name.now) same e)
    by f below e false k = c.loop-place.invariant f (grind arith) e
