use Rattle.std.proofs.Common.{◌++◌, ◌∷◌, [], ◌∙◌, ap}
use Rattle.hex.specs.Hex.{encode_lower}
use Rattle.merlin.proofs.Wiring.{message_wraps}
use Rattle.merlin.proofs.handing.line_of_message.Goals as goal

pub returns : goal.returns
returns c =
    c.in_ok-push_str.ensures.bytes ∙ ap (λ d. d ++ 10 ∷ []) (c.in_ok-digits.ensures ∙ ap encode_lower (c.in_ok-message.ensures ∙ message_wraps c.args.rule.now c.args.number))
