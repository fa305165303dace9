use Rattle.std.proofs.Common.{◌↔◌, List, ◌≡◌, IfOk, subst}
use Rattle.merlin_model.specs.declared.policy.Symbol.{Symbol}
use Rattle.merlin_model.specs.declared.policy.Path.{Path}
use Rattle.merlin_model.specs.Paths.{InLanguage}
use Rattle.path_regex.specs.Normal.{normal_of, IsNormalForm}
use Rattle.path_regex.specs.Functions.{HasNoFunctionUnderNot}
use Rattle.path_regex.proofs.Results.{if_ok}
use Rattle.path_regex.proofs.Normality.{normal_form}
use Rattle.path_regex.proofs.Functionless.{normal-under}
use Rattle.path_regex.proofs.Meanings.{normal-takes}
use Rattle.path_regex.proofs.normal.Goals as goal

pub returns : goal.returns
returns c =
    let path : Path = c.args.path.now in
    let is : IfOk c.path_of.result (λ form. form ≡ normal_of path) = subst (λ (a : Path). IfOk c.path_of.result (λ form. form ≡ a)) c.in_ok-form.ensures.value.1 c.path_of.ensures in
    record {
      is = is;
      own = if_ok IsNormalForm c.path_of.result (normal_of path) is (normal_form path);
      functions = λ n. if_ok HasNoFunctionUnderNot c.path_of.result (normal_of path) is (normal-under path n);
      language = λ n. if_ok (λ form. (w : List Symbol) → InLanguage form w ↔ InLanguage path w) c.path_of.result (normal_of path) is (normal-takes path n);
    }
