use Rattle.std.proofs.Common.{◌∙◌, ap}
use Rattle.std.proofs.lemmas.Option.{slice_get-map}
use Rattle.topology.specs.Look.{name_of}
use Rattle.topology.proofs.Lookup.{if_none, at_none}
use Rattle.topology.proofs.net.Topology.find.Goals as goal

pub returns-clause-none : goal.returns-clause-none
returns-clause-none c = if_none _ c.find.result (λ e loc at. at_none _ c.find.result e c.find.ensures.none loc (slice_get-map (λ l. l.name) c.self.inside.shape.named loc ∙ (ap (λ net. name_of net loc) c.self.view_is ∙ at)))
