use Rattle.std.proofs.Common.{subst, ◌<◌, sym, slice_index_or}
use Rattle.std.proofs.lemmas.List.{length-map}
use Rattle.price_bound.proofs.Permitting.{ends-within, no_step}
use Rattle.price_bound.proofs.flow_graph.FlowGraphGraph.edge.Goals as goal

pub returns-clause-from : goal.returns-clause-from
returns-clause-from c =
    subst (λ steps. (slice_index_or steps c.args.number no_step).edge.from < c.args.self.now.vertices) (sym c.as_slice.ensures)
    (ends-within c.args.self.now.vertices c.args.self.now.steps c.args.number c.args.self.now.within (subst (λ n. c.args.number < n) (length-map _ _) c.requires)).0

pub returns-clause-to : goal.returns-clause-to
returns-clause-to c =
    subst (λ steps. (slice_index_or steps c.args.number no_step).edge.to < c.args.self.now.vertices) (sym c.as_slice.ensures)
    (ends-within c.args.self.now.vertices c.args.self.now.steps c.args.number c.args.self.now.within (subst (λ n. c.args.number < n) (length-map _ _) c.requires)).1
