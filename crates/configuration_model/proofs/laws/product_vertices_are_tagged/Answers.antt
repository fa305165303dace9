use Rattle.configuration_model.proofs.Sinks.{pair-keys}
use Rattle.configuration_model.proofs.laws.product_vertices_are_tagged.Goals as goal

pub returns : goal.returns
returns c = pair-keys
