use Rattle.std.proofs.Common.{◌∙◌, ap}
use Rattle.std.specs.Option.{option_map, option_or}
use Rattle.policy_names.specs.Meanings.{path_to, location_called, function_called}
use Rattle.policy_names.proofs.Tabled.{meanings_are, nothing_held}
use Rattle.policy_names.proofs.names.meanings.Goals as goal

pub returns : goal.returns
returns c = λ name.
    let net = c.args.net.now in
    let empty = nothing_held c.new-names.result c.new-names.ensures.empty name in
    ap (option_map path_to) (c.in_ok-add_functions.ensures name
    ∙ ((λ k. option_or (c.in_ok-add_locations.ensures name k) (function_called (c.functions.ensures k) name))
    ∙ ap (λ o. option_or (option_or o (location_called net.locations name)) (function_called net.functions name)) empty))
    ∙ meanings_are net name
