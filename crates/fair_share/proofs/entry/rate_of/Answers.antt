use Rattle.std.proofs.Common.{◌≡◌, List, ℕ, Option, None, Some, IfNone, sym, ◌∙◌, subst}
use Rattle.serde_json.specs.View.{view}
use Rattle.merlin_base.specs.Lexemes.{IsRate}
use Rattle.fair_share.specs.Format.{HasRate}
use Rattle.fair_share.proofs.entry.rate_of.Goals as goal

some_one : {X : Type 0} {o : Option X} {x y : X} → o ≡ Some x → o ≡ Some y → x ≡ y
some_one {X} {o} {x} {y} e f = let g : Some x ≡ Some y = sym e ∙ f in cc

pub returns-clause-none : goal.returns-clause-none
returns-clause-none c = no_rate c.rate_value.result c.rate_value.ensures.none
  where
    no_rate : (o : Option ℕ) → IfNone o ((n : ℕ) → IsRate c.as_bytes.result.now n → ⊥) → IfNone o ((n : ℕ) → HasRate c.args.key.now (view c.args.value.now) n → ⊥)
    no_rate (Some n) h = tt
    no_rate None h = λ n has. h n (subst (λ (t : List ℕ). IsRate t n) (some_one has.stands c.in_ok-text.ensures.some ∙ sym c.as_bytes.ensures.value) has.form)
