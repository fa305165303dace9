-- Edges of a product as edges of a flow, by the list of links and that of vertices.
use Rattle.std.specs.Prelude.{ℕ, ◌==◌, ◌&&◌, List, length, map, Option, position, slice_get}
use Rattle.std.specs.Option.{option_map_or}
use Rattle.merlin_model.specs.declared.network.DirectedLink.{DirectedLink}
use Rattle.cutoff_program.specs.declared.flow.FlowEdge.{FlowEdge}
use Rattle.product_graph.specs.declared.span.Vertex.{Vertex as ListedVertex}
use Rattle.product_graph.specs.declared.span.Product.{Product as ListedProduct}
use Rattle.policy_flows.specs.declared.flows.SpelledFlow.{SpelledFlow}

-- the place of the link from one location to another, if there is one
abbrev pub link_place : List DirectedLink → ℕ → ℕ → Option ℕ
link_place links u v = position (λ directed. (directed.from == u) && (directed.to == v)) links

abbrev pub loc_in : List ListedVertex → ℕ → ℕ
loc_in vertices k = option_map_or (λ v. v.symbol.loc) (slice_get vertices k) 0

abbrev pub edge_in : List DirectedLink → List ListedVertex → ℕ × ℕ → FlowEdge
edge_in links vertices e = record { from = e.0; to = e.1; crosses = link_place links (loc_in vertices e.0) (loc_in vertices e.1) }

-- the flow of a product with a rate, and the symbols of the vertices
abbrev pub flow_over : List DirectedLink → ListedProduct → ℕ → SpelledFlow
flow_over links product rate = record {
  flow = record { rate = rate; vertices = length product.vertices; edges = map (edge_in links product.vertices) product.edges };
  symbols = map (λ v. v.symbol) product.vertices;
}
