-- What follows in a sink tree of a product is what the tables follow.
use Rattle.std.proofs.Common.{◌≡◌, ◌≢◌, ◌⊎◌, inl, inr, ℕ, List, [], ◌∷◌, ◌++◌, length, Option, Some, slice_get, Contains, ◌↔◌, refl, sym, ◌∙◌, ap, subst}
use Rattle.merlin_model.specs.Networks.{Network, IsHost}
use Rattle.merlin_model.proofs.Members.{In, in_from, in_to, in_append-left, in_append-right}
use Rattle.rules_model.specs.Products.{SymbolAutomaton, Vertex, loc_of, start_of, LeadsToEnd, LeadsTo, IsOnWayBetween, IsInTree, TreeFollows, WrittenWalk, IsVertexIn}
use Rattle.rules_model.proofs.Trees.{tree-way, tree-unique}
use Rattle.product_graph.specs.declared.span.Product.{Product}
use Rattle.product_graph.specs.declared.span.Span2.{Span2}
use Rattle.product_graph.specs.declared.span.Span2.TheVariants.{Pair, All}
use Rattle.product_graph.specs.Products.{StandsIn, IsEmptyOverSpan, IsTrimmed, vertices_of}
use Rattle.product_graph.proofs.Standing.{get-in, in-get, in-stands, stands-at, not-end}
use Rattle.sink_tree.specs.Trees.{NextLeads, IsSinkTree}

module _ (net : Network) (a : SymbolAutomaton) where
  leads-way : (d : ℕ) (v : Vertex) (path : List Vertex) (u : Vertex) (us : List Vertex) → LeadsTo net a v path u → LeadsToEnd net a d u us → (ws : List Vertex) × LeadsToEnd net a d v ws
  leads-way d v [] u us h way = (us, subst (λ x. LeadsToEnd net a d x us) (sym h) way)
  leads-way d v (x ∷ path) u us h way = let rest = leads-way d x path u us h.1 way in (x ∷ rest.0, (h.0, rest.1))

  inside-on : (v : Vertex) (path : List Vertex) (u : Vertex) → LeadsTo net a v path u → ¬ IsHost net (loc_of v) → ¬ IsHost net (loc_of u)
  inside-on v [] u h inside = subst (λ x. ¬ IsHost net (loc_of x)) h inside
  inside-on v (x ∷ path) u h inside = inside-on x path u h.1 h.0.inside

  -- a vertex on the way from a host is the start there, or at no host
  start-or-inside : (s : ℕ) (v : Vertex) (path : List Vertex) → LeadsTo net a (start_of a s) path v → (v ≡ start_of a s) ⊎ (¬ IsHost net (loc_of v))
  start-or-inside s v [] h = inl (sym h)
  start-or-inside s v (x ∷ path) h = inr (inside-on x path v h.1 h.0.inside)

  module _ (span : Span2) (product : Product) (is : IsTrimmed net a span product) where
    pub stands-in : (v : Vertex) → StandsIn net a span v → In v (is.first ++ is.inner)
    stands-in v h = by (start-or-inside h.0 v h.2.before h.2.reached)
      where
        by : (v ≡ start_of a h.0) ⊎ (¬ IsHost net (loc_of v)) → In v (is.first ++ is.inner)
        by (inl start) = in_append-left is.first is.inner v (in_from is.first v ((is.first_are v).1 ((h.0, h.1, start), h)))
        by (inr inside) = in_append-right is.first is.inner v (in_from is.inner v ((is.inner_are v).1 (inside, h)))

module _ (net : Network) (a : SymbolAutomaton) (d : ℕ) (dest : IsHost net d) (product : Product) where
  -- an empty product has nothing that follows
  pub cut-follows : IsEmptyOverSpan net a (All d) product → (v : Vertex) (us : List Vertex) → ¬ TreeFollows net a d v us
  cut-follows cut v us f = let way = leads-way net a d (start_of a f.source) f.path v us f.reached (tree-way net a d v us f.tree) in cut.none f.source way.0 (f.host, f.other) way.1

  module _ (is : IsTrimmed net a (All d) product) (next : ℕ → Option ℕ) (tree : IsSinkTree net a d product next) where
    -- at each place before the end the next vertices are what follows
    pub follows-at : (k : ℕ) (v : Vertex) → slice_get (is.first ++ is.inner) k ≡ Some v → (us : List Vertex) × NextLeads product next k us × TreeFollows net a d v us
    follows-at k v e = (here.0, here.1, record { source = s.0; host = s.1.0; dest_host = dest; other = s.1.1; path = s.2.before; reached = s.2.reached; tree = here.2 })
      where
        s : StandsIn net a (All d) v
        s = in-stands net a (All d) product is v (get-in (is.first ++ is.inner) k v e)

        no-end : product.end ≢ Some k
        no-end same = let place : length (is.first ++ is.inner) ≡ k = cc in not-end net a (All d) product is k v e (sym place)

        here : (us : List Vertex) × NextLeads product next k us × IsInTree net a d v us
        here = tree.each k v (stands-at net a (All d) product is k v e) no-end

    -- and all that follows stands there
    pub at-follows : (v : Vertex) (us : List Vertex) → TreeFollows net a d v us → (k : ℕ) × (slice_get (is.first ++ is.inner) k ≡ Some v) × NextLeads product next k us
    at-follows v us f = (place.0, place.1, subst (NextLeads product next place.0) (tree-unique net a d v own.0 us own.2.tree f.tree) own.1)
      where
        place : (k : ℕ) × (slice_get (is.first ++ is.inner) k ≡ Some v)
        place = in-get (is.first ++ is.inner) v
            (stands-in net a (All d) product is v (f.source, (f.host, f.other), record { before = f.path; reached = f.reached; after = us; leads = tree-way net a d v us f.tree }))

        own : (us : List Vertex) × NextLeads product next place.0 us × TreeFollows net a d v us
        own = follows-at place.0 v place.1

-- the vertices of a guaranteed statement's product before its end are those that tags stand for
pub pair-keys : (net : Network) (a : SymbolAutomaton) (w : WrittenWalk) (product : Product) → IsHost net w.source → (is : IsTrimmed net a (Pair w.source w.dest) product) → (v : Vertex) → Contains (is.first ++ is.inner) v ↔ IsVertexIn net a (Some w) w.dest v
pair-keys net a w product host is v = (
  λ c. let h = in-stands net a (Pair w.source w.dest) product is v (in_from (is.first ++ is.inner) v c) in (refl, subst (λ s. IsOnWayBetween net a s w.dest v) h.1.1 h.2),
  λ h. in_to (is.first ++ is.inner) v (stands-in net a (Pair w.source w.dest) product is v (w.source, (host, refl), h.1)),
)
