-- Which vertices stand in a product, and at which places.
use Rattle.std.proofs.Common.{◌≡◌, ◌≢◌, ◌<◌, ◌⊎◌, inl, inr, ℕ, suc, zero, List, [], ◌∷◌, ◌++◌, length, slice_get, Contains, None, Some, append_assoc, refl, sym, ◌∙◌, ap, subst, arith}
use Rattle.merlin_model.specs.Networks.{Network, IsHost}
use Rattle.merlin_model.specs.Words.{at}
use Rattle.merlin_model.proofs.Members.{In, in_from, in_to, in_append, in_append-right}
use Rattle.rules_model.specs.Products.{SymbolAutomaton, Vertex, start_of, IsEdge, IsLast, LeadsToEnd, IsJoined}
use Rattle.rules_model.proofs.Trees.{leads-on}
use Rattle.product_graph.specs.declared.span.Product.{Product}
use Rattle.product_graph.specs.declared.span.Span2.{Span2}
use Rattle.product_graph.specs.declared.span.Span2.TheVariants.{Pair, All}
use Rattle.product_graph.specs.Products.{dest_of, IsSource, vertices_of, StandsIn, IsTrimmed}

pub some-same : {X : Type 0} {a b : X} → Some a ≡ Some b → a ≡ b
some-same e = cc

pub none-some : {X : Type 0} {a : X} → None ≡ Some a → ⊥
none-some e = cc

pub get-below : {X : Type 0} (xs : List X) (k : ℕ) (a : X) → slice_get xs k ≡ Some a → k < length xs
get-below [] k a e = absurd (none-some e)
get-below (x ∷ xs) zero a e = omega arith
get-below (x ∷ xs) (suc k) a e = let lt = get-below xs k a e in omega (arith, lt)

pub below-get : {X : Type 0} (xs : List X) (k : ℕ) → k < length xs → (a : X) × (slice_get xs k ≡ Some a)
below-get [] k lt = absurd (omega (arith, lt))
below-get (x ∷ xs) zero lt = (x, refl)
below-get (x ∷ xs) (suc k) lt = below-get xs k (omega arith)

pub get-in : {X : Type 0} (xs : List X) (k : ℕ) (a : X) → slice_get xs k ≡ Some a → In a xs
get-in [] k a e = absurd (none-some e)
get-in (x ∷ xs) zero a e = inl (sym (some-same e))
get-in (x ∷ xs) (suc k) a e = inr (get-in xs k a e)

pub in-get : {X : Type 0} (xs : List X) (a : X) → In a xs → (k : ℕ) × (slice_get xs k ≡ Some a)
in-get [] a i = absurd i
in-get (x ∷ xs) a (inl e) = (0, ap Some (sym e))
in-get (x ∷ xs) a (inr i) = let rest = in-get xs a i in (suc rest.0, rest.1)

pub get-front : {X : Type 0} (xs ys : List X) (k : ℕ) (a : X) → slice_get xs k ≡ Some a → slice_get (xs ++ ys) k ≡ Some a
get-front [] ys k a e = absurd (none-some e)
get-front (x ∷ xs) ys zero a e = e
get-front (x ∷ xs) ys (suc k) a e = get-front xs ys k a e

pub get-end : {X : Type 0} (xs : List X) (a : X) → slice_get (xs ++ a ∷ []) (length xs) ≡ Some a
get-end [] a = refl
get-end (x ∷ xs) a = get-end xs a

pub source-host : (net : Network) (span : Span2) (h : ℕ) → IsSource net span h → IsHost net h
source-host net (Pair s d) h is = is.0
source-host net (All d) h is = is.0

module _ (net : Network) (a : SymbolAutomaton) (span : Span2) (product : Product) (is : IsTrimmed net a span product) where
  pub in-stands : (v : Vertex) → In v (is.first ++ is.inner) → StandsIn net a span v
  in-stands v i = by (in_append is.first is.inner v i)
    where
      by : In v is.first ⊎ In v is.inner → StandsIn net a span v
      by (inl j) = ((is.first_are v).0 (in_to is.first v j)).1
      by (inr j) = ((is.inner_are v).0 (in_to is.inner v j)).1

  -- an edge leads to another vertex that stands there, where one comes to the end from it
  pub stands-next : (v u : Vertex) (us : List Vertex) → In v (is.first ++ is.inner) → IsEdge net a v u → LeadsToEnd net a (dest_of span) u us → In u (is.first ++ is.inner)
  stands-next v u us i edge leads =
      let s = in-stands v i in
      in_append-right is.first is.inner u (in_from is.inner u ((is.inner_are u).1 (
        edge.inside,
        (
          s.0,
          s.1,
          record {
            before = s.2.before ++ u ∷ [];
            reached = leads-on net a (start_of a s.0) s.2.before v u s.2.reached edge;
            after = us;
            leads = leads;
          },
        ),
      )))

  -- a place before the end is a place of the product
  pub stands-at : (k : ℕ) (v : Vertex) → slice_get (is.first ++ is.inner) k ≡ Some v → slice_get (vertices_of product) k ≡ Some v
  stands-at k v e = ap (λ l. slice_get l k) (is.vertices ∙ sym (append_assoc is.first is.inner (record { symbol = at (dest_of span); state = is.state } ∷ []))) ∙ get-front (is.first ++ is.inner) (record { symbol = at (dest_of span); state = is.state } ∷ []) k v e

  pub end-at : slice_get (vertices_of product) (length (is.first ++ is.inner)) ≡ Some (record { symbol = at (dest_of span); state = is.state })
  end-at = ap (λ l. slice_get l (length (is.first ++ is.inner))) (is.vertices ∙ sym (append_assoc is.first is.inner (record { symbol = at (dest_of span); state = is.state } ∷ []))) ∙ get-end (is.first ++ is.inner) (record { symbol = at (dest_of span); state = is.state })

  pub not-end : (k : ℕ) (v : Vertex) → slice_get (is.first ++ is.inner) k ≡ Some v → k ≢ length (is.first ++ is.inner)
  not-end k v ev same = let lt = get-below (is.first ++ is.inner) k v ev in omega (arith, lt, same)

  -- the edge leads from the vertex on to the end, or to a vertex before it
  pub joined-from : (k j : ℕ) (v : Vertex) → slice_get (is.first ++ is.inner) k ≡ Some v → Contains product.edges (k, j) →
      ((u : Vertex) × (slice_get (is.first ++ is.inner) j ≡ Some u) × IsEdge net a v u) ⊎ ((j ≡ length (is.first ++ is.inner)) × IsLast net a (dest_of span) v)
  joined-from k j v ev edge = by ((is.joined (k, j)).0 edge)
    where
      by : IsJoined net a (dest_of span) (is.first ++ is.inner) (k, j) → ((u : Vertex) × (slice_get (is.first ++ is.inner) j ≡ Some u) × IsEdge net a v u) ⊎ ((j ≡ length (is.first ++ is.inner)) × IsLast net a (dest_of span) v)
      by h = on h.2
        where
          same : h.0 ≡ v
          same = some-same (sym h.1 ∙ ev)

          on : ((u : Vertex) × (slice_get (is.first ++ is.inner) j ≡ Some u) × IsEdge net a h.0 u) ⊎ ((j ≡ length (is.first ++ is.inner)) × IsLast net a (dest_of span) h.0) →
              ((u : Vertex) × (slice_get (is.first ++ is.inner) j ≡ Some u) × IsEdge net a v u) ⊎ ((j ≡ length (is.first ++ is.inner)) × IsLast net a (dest_of span) v)
          on (inl g) = inl (g.0, g.1, subst (λ x. IsEdge net a x g.0) same g.2)
          on (inr g) = inr (g.0, subst (IsLast net a (dest_of span)) same g.1)
