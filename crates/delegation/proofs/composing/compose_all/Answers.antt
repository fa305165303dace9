use Rattle.std.proofs.Common.{length, refl, ◌∙◌, ap, arith}
use Rattle.std.proofs.lemmas.List.{length-map}
use Rattle.delegation.specs.NamedJoins.{rated_policy}
use Rattle.delegation.proofs.Backwards.{none-composed}
use Rattle.delegation.proofs.composing.compose_all.Goals as goal

pub places-init : goal.places-init
places-init c = record {
  within = omega arith;
  long = ap length c.requires.own ∙ length-map c.args.nodes.now (λ n. rated_policy n.policy);
  whole = λ all are. c.requires.own ∙ none-composed c.args.nodes.now all are (length c.args.nodes.now) refl;
}
