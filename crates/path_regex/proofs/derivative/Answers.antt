use Rattle.std.proofs.Common.{◌↔◌, List, ◌∷◌, ◌≡◌, IfOk, ◌∙◌, ap, subst}
use Rattle.merlin_model.specs.declared.policy.Symbol.{Symbol}
use Rattle.merlin_model.specs.declared.policy.Path.{Path}
use Rattle.merlin_model.specs.Paths.{InLanguage}
use Rattle.path_regex.specs.Normal.{IsNormalForm}
use Rattle.path_regex.specs.Derivatives.{derivative_of}
use Rattle.path_regex.specs.Functions.{HasNoFunctionUnderNot}
use Rattle.path_regex.proofs.Results.{if_ok}
use Rattle.path_regex.proofs.Normality.{derivative-own}
use Rattle.path_regex.proofs.Functionless.{derivative-under}
use Rattle.path_regex.proofs.Meanings.{derivative-quotient}
use Rattle.path_regex.proofs.derivative.Goals as goal

pub returns : goal.returns
returns c =
    let path : Path = c.args.path.now in
    let x : Symbol = c.args.symbol in
    let is : IfOk c.path_of.result (λ rest. rest ≡ derivative_of path x) = subst (λ (a : Path). IfOk c.path_of.result (λ rest. rest ≡ a)) (c.in_ok-rest.ensures.value.1 ∙ ap (λ (a : Path). derivative_of a x) c.in_ok-form.ensures.value.1) c.path_of.ensures in
    record {
      is = is;
      own = λ n. if_ok IsNormalForm c.path_of.result (derivative_of path x) is (derivative-own path x n);
      functions = λ n. if_ok HasNoFunctionUnderNot c.path_of.result (derivative_of path x) is (derivative-under path x n);
      quotient = λ n. if_ok (λ rest. (w : List Symbol) → InLanguage rest w ↔ InLanguage path (x ∷ w)) c.path_of.result (derivative_of path x) is (derivative-quotient path n x);
    }
