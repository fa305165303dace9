use Rattle.std.proofs.Common.{◌≡◌, ◌<◌, ◌++◌, ◌∷◌, [], ℕ, List, length, map, take, get_or, append_assoc, sym, ◌∙◌, ap}
use Rattle.merlin_model.specs.declared.policy.Symbol.{Symbol}
use Rattle.product_graph.specs.Walks.{departure_by, arrival_by, vertex_symbol_at}
use Rattle.product_graph.proofs.Spelling.{leads-within, all-at, map-take}
use Rattle.product_graph.proofs.span.Product.walk_of.Goals as goal

pub departure-requires : goal.departure-requires
departure-requires c = leads-within c.args.self.now c.args.edges.now c.requires.0 c.requires.2

pub edge-requires : goal.edge-requires
edge-requires c = all-at (λ k. k < length c.args.self.now.edges) c.args.edges.now c.loop-number.number-index 0 c.loop-number-test.true (leads-within c.args.self.now c.args.edges.now c.requires.0 c.requires.2)

pub loop-number-preserved : goal.loop-number-preserved
loop-number-preserved c =
    let product = c.args.self.now in
    let edges : List ℕ = c.args.edges.now in
    let k : ℕ = get_or edges c.loop-number.number-index 0 in
    let symbol : c.symbol.result ≡ arrival_by product k = c.symbol.ensures ∙ ap (λ (e : ℕ × ℕ). vertex_symbol_at product e.1) c.edge.ensures.is in
    c.in_ok-push.ensures.ok
    ∙ ap (λ (x : Symbol). c.loop-number.walk ++ x ∷ []) symbol
    ∙ ap (λ (l : List Symbol). l ++ arrival_by product k ∷ []) c.loop-number.invariant
    ∙ append_assoc (departure_by product edges) (map (arrival_by product) (take c.loop-number.number-index edges)) (arrival_by product k ∷ [])
    ∙ ap (λ (l : List Symbol). departure_by product edges ++ l) (sym (map-take (arrival_by product) edges c.loop-number.number-index 0 c.loop-number-test.true))
