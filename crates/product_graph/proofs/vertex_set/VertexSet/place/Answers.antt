use Rattle.std.proofs.Common.{◌≡◌, ◌==◌, ◌&&◌, Bool, true, false, List, slice_get, Contains, Some, MatchOption, refl, subst}
use Rattle.std.proofs.lemmas.Bool.{eqb-true, eq-eqb}
use Rattle.product_graph.specs.declared.vertex_set.NumberedVertex.{NumberedVertex}
use Rattle.product_graph.proofs.Lists.{false-true}
use Rattle.product_graph.proofs.Placing.{place-of}
use Rattle.product_graph.proofs.vertex_set.VertexSet.place.Goals as goal

vertex-same : (v k : NumberedVertex) → ((v.symbol == k.symbol) && (v.state == k.state)) ≡ true → v ≡ k
vertex-same v k e = by (v.symbol == k.symbol) refl (v.state == k.state) refl e
  where
    by : (b : Bool) → (v.symbol == k.symbol) ≡ b → (c : Bool) → (v.state == k.state) ≡ c → (b && c) ≡ true → v ≡ k
    by true l true f h =
        let symbol : v.symbol ≡ k.symbol = eqb-true v.symbol k.symbol l in
        let state : v.state ≡ k.state = eqb-true v.state k.state f in
        λ i. record { symbol = symbol i; state = state i }
    by true l false f h = absurd (false-true h)
    by false l c f h = absurd (false-true h)

vertex-itself : (v : NumberedVertex) → ((v.symbol == v.symbol) && (v.state == v.state)) ≡ true
vertex-itself v = by (v.symbol == v.symbol) (v.state == v.state) (eq-eqb v.symbol v.symbol refl) (eq-eqb v.state v.state refl)
  where
    by : (b c : Bool) → b ≡ true → c ≡ true → (b && c) ≡ true
    by true true e f = refl
    by true false e f = f
    by false c e f = e

pub returns : goal.returns
returns c =
    subst (λ (keys : List NumberedVertex). MatchOption c.get_index_of.result (¬ Contains keys c.args.vertex) (λ place. slice_get keys place ≡ Some c.args.vertex)) c.self.view_is
    (place-of (λ (k : NumberedVertex). (c.args.vertex.symbol == k.symbol) && (c.args.vertex.state == k.state)) c.self.inside.set.keys c.args.vertex (λ k e. vertex-same c.args.vertex k e) (vertex-itself c.args.vertex) c.get_index_of.result c.get_index_of.ensures.index)
