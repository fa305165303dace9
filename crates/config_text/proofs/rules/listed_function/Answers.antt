use Rattle.std.proofs.Common.{◌≡◌, ℕ, ◌<◌, List, [], length, get_or, ap, unwrap_or, option_map, append_assoc, ◌∷◌, ◌∙◌}
use Rattle.std.proofs.lemmas.Option.{slice_get-get_or}
use Rattle.std.proofs.lemmas.Result.{on_ok_weaker}
use Rattle.merlin_model.specs.declared.network.FnDecl.{FnDecl}
use Rattle.config_text.specs.Lines.{function_name}
use Rattle.config_text.proofs.rules.listed_function.Goals as goal

name_of_declared : (declared : List FnDecl) (f : ℕ) (d : FnDecl) → f < length declared → function_name declared f ≡ (get_or declared f d).name
name_of_declared declared f d within = ap (λ o. unwrap_or (option_map (λ g. g.name) o) []) (slice_get-get_or declared f d within)

pub returns : goal.returns
returns c =
    let name = name_of_declared c.args.declared.now c.args.function c.index-declared-function.result c.requires in
    on_ok_weaker c.text.result (λ e. e ∙ rw (c.in_ok-byte.ensures, c.bytes.ensures, name) (append_assoc c.args.line.now (c.args.separator ∷ []) (get_or c.args.declared.now c.args.function c.index-declared-function.result).name)) c.text.ensures
