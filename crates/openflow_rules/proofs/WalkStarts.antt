-- The places where walks of a product start are the hosts from which walks on the path of its statement lead to its end.
use Rattle.std.proofs.Common.{◌≡◌, ◌≢◌, ◌<◌, ◌==◌, ◌⊎◌, ◌↔◌, inl, inr, ℕ, suc, zero, Bool, true, false, List, [], ◌∷◌, ◌++◌, length, map, slice_get, Contains, Some, refl, sym, ◌∙◌, ap, subst, arith}
use Rattle.std.specs.Prelude.{slice_set, replicate}
use Rattle.std.specs.List.{AllByRecursion, slice_index_or}
use Rattle.merlin_model.specs.declared.policy.Symbol.{Symbol}
use Rattle.merlin_model.specs.Networks.{Network, IsHost}
use Rattle.merlin_model.specs.Words.{at, IsSymbol, IsWalk, GoesOn, WalksFrom}
use Rattle.merlin_model.specs.Policies.{Policy, IsOnPath}
use Rattle.merlin_model.proofs.Members.{in_from, in_to, in_map, map_in}
use Rattle.merlin_model.proofs.WordLaws.{goes_on-walk, walk-goes_on}
use Rattle.rules_model.specs.Products.{SymbolAutomaton, Vertex, loc_of, start_of, ending_state, word_to, LeadsToEnd}
use Rattle.rules_model.proofs.Trees.{host_symbol}
use Rattle.rules_model.proofs.Ways.{way-goes_on, way-accepts, word-way}
use Rattle.product_graph.specs.declared.span.Vertex.{Vertex as ListedVertex}
use Rattle.product_graph.specs.declared.span.Product.{Product}
use Rattle.product_graph.specs.declared.span.Span2.TheVariants.{All}
use Rattle.product_graph.specs.Products.{vertex_of, StandsIn, IsTrimmed, IsProduct}
use Rattle.product_graph.proofs.Lists.{some-same, none-some, false-true, all-at, all-contained, get-below, map-length, contains-left, contains-last, contains-snoc, contains-none}
use Rattle.product_graph.proofs.Standing.{below-get, get-in, in-get, get-front, stands-at}
use Rattle.openflow_rules.specs.Sources.{StartsWalk, AreMarkedAmong, listed_loc, HasStartsWithin}
use Rattle.openflow_rules.proofs.Inner.{within-product}

-- Marks.

get-set-here : (xs : List Bool) (i : ℕ) (x : Bool) → i < length xs → slice_index_or (slice_set xs i x) i false ≡ x
get-set-here [] i x lt = absurd (omega (arith, lt))
get-set-here (y ∷ xs) zero x lt = refl
get-set-here (y ∷ xs) (suc i) x lt = get-set-here xs i x (omega (arith, lt))

get-set-there : (xs : List Bool) (i k : ℕ) (x : Bool) → (i ≡ k → ⊥) → slice_index_or (slice_set xs i x) k false ≡ slice_index_or xs k false
get-set-there [] i k x other = refl
get-set-there (y ∷ xs) zero zero x other = absurd (other refl)
get-set-there (y ∷ xs) zero (suc k) x other = refl
get-set-there (y ∷ xs) (suc i) zero x other = refl
get-set-there (y ∷ xs) (suc i) (suc k) x other = get-set-there xs i k x (λ e. other (ap suc e))

length-set : (xs : List Bool) (i : ℕ) (x : Bool) → length (slice_set xs i x) ≡ length xs
length-set [] i x = refl
length-set (y ∷ xs) zero x = refl
length-set (y ∷ xs) (suc i) x = ap suc (length-set xs i x)

pub marks-none : (n : ℕ) → AreMarkedAmong n [] (replicate n false)
marks-none n = record { size = long n; each = λ loc. (λ e. absurd (false-true (sym (unset n loc) ∙ e)), λ c. absurd (contains-none loc c)) }
  where
    long : (n : ℕ) → length (replicate n false) ≡ n
    long zero = refl
    long (suc n) = ap suc (long n)

    unset : (n k : ℕ) → slice_index_or (replicate n false) k false ≡ false
    unset zero k = refl
    unset (suc n) zero = refl
    unset (suc n) (suc k) = unset n k

pub marks-next : (n : ℕ) (locs : List ℕ) (loc : ℕ) (old new : List Bool) → loc < n → AreMarkedAmong n locs old → new ≡ slice_set old loc true → AreMarkedAmong n (locs ++ loc ∷ []) new
marks-next n locs loc old new lt h is = record { size = ap length is ∙ length-set old loc true ∙ h.size; each = λ l. at-loc l (loc == l) refl }
  where
    at-loc : (l : ℕ) (b : Bool) → (loc == l) ≡ b → (slice_index_or new l false ≡ true) ↔ Contains (locs ++ loc ∷ []) l
    at-loc l true same =
        let one : loc ≡ l = grind arith in
        let size = h.size in (
          λ e. subst (Contains (locs ++ loc ∷ [])) one (contains-last locs loc),
          λ c. ap (λ m. slice_index_or m l false) is ∙ subst (λ k. slice_index_or (slice_set old loc true) k false ≡ true) one (get-set-here old loc true (omega (arith, lt, size))),
        )
    at-loc l false other =
        let apart : loc ≡ l → ⊥ = grind arith in
        let kept : slice_index_or new l false ≡ slice_index_or old l false = ap (λ m. slice_index_or m l false) is ∙ get-set-there old loc l true apart in (
          λ e. contains-left locs (loc ∷ []) l ((h.each l).0 (sym kept ∙ e)),
          λ c. by apart kept (contains-snoc locs loc l c),
        )
      where
        by : (loc ≡ l → ⊥) → slice_index_or new l false ≡ slice_index_or old l false → Contains locs l ⊎ (l ≡ loc) → slice_index_or new l false ≡ true
        by apart kept (inl i) = kept ∙ (h.each l).1 i
        by apart kept (inr e) = absurd (apart (sym e))

-- Products.

vertex-loc : (vs : List ListedVertex) (k : ℕ) (v : Vertex) → slice_get (map vertex_of vs) k ≡ Some v → listed_loc vs k ≡ loc_of v
vertex-loc [] k v e = absurd (none-some e)
vertex-loc (x ∷ vs) zero v e = ap (λ y. y.symbol.loc) (some-same e)
vertex-loc (x ∷ vs) (suc k) v e = vertex-loc vs k v e

module _ (net : Network) (a : SymbolAutomaton) (d : ℕ) (dest : IsHost net d) (product : Product) where
  -- the place of a start
  record StartAt (k : ℕ) : Type 0 where
    source : ℕ
    host : IsHost net source
    apart : source ≢ d
    here : slice_get (map vertex_of product.vertices) k ≡ Some (start_of a source)
    after : List Vertex
    leads : LeadsToEnd net a d (start_of a source) after

  start-at : (is : IsTrimmed net a (All d) product) (k : ℕ) → Contains product.starts k → StartAt k
  start-at is k c =
      let v = below-get is.first k ((is.starts k).0 c) in
      let h = (is.first_are v.0).0 (in_to is.first v.0 (get-in is.first k v.0 v.1)) in
      record {
        source = h.0.0;
        host = h.0.1.0;
        apart = h.0.1.1;
        here = stands-at net a (All d) product is k (start_of a h.0.0) (get-front is.first is.inner k (start_of a h.0.0) (v.1 ∙ ap Some h.0.2));
        after = h.1.2.after;
        leads = subst (λ x. LeadsToEnd net a d x h.1.2.after) h.0.2 h.1.2.leads;
      }

  pub starts-within : IsProduct net a (All d) product → HasStartsWithin (length net.locations) product
  starts-within (inl cut) = subst (AllByRecursion (λ k. (k < length product.vertices) × (listed_loc product.vertices k < length net.locations))) (sym cut.starts) tt
  starts-within (inr is) = all-contained _ product.starts within
    where
      below : (k : ℕ) → Contains product.starts k → k < length product.vertices
      below k c =
          let s = start-at is k c in
          let lt = get-below (map vertex_of product.vertices) k (start_of a s.source) s.here in
          let long = map-length vertex_of product.vertices in omega (arith, lt, long)

      within : (k : ℕ) → Contains product.starts k → (k < length product.vertices) × (listed_loc product.vertices k < length net.locations)
      within k c = (below k c, all-at (λ v. v.symbol.loc < length net.locations) product.vertices k (record { symbol = at 0; state = 0 }) (below k c) (within-product net a (All d) dest product (inr is)))

  module _ (policy : Policy) (i : ℕ) (takes : (w : List Symbol) → AllByRecursion (IsSymbol net) w → (a.accepts (ending_state a 0 w) ≡ true) ↔ IsOnPath policy i w) where
    way-walk : (s : ℕ) → IsHost net s → s ≢ d → (us : List Vertex) → LeadsToEnd net a d (start_of a s) us → StartsWalk net policy i d s
    way-walk s host apart us way =
        let walks : WalksFrom net s d (at s ∷ word_to d us) = (refl, host_symbol net s host, host, dest, way-goes_on net a d (start_of a s) us dest way) in
        let walk : IsWalk net s d (at s ∷ word_to d us) = goes_on-walk net s d (at s ∷ word_to d us) walks in
        record { apart = apart; word = at s ∷ word_to d us; walk = walk; on_path = (takes (at s ∷ word_to d us) walk.symbols).0 (way-accepts net a d (start_of a s) us way) }

    walk-way : (s : ℕ) → StartsWalk net policy i d s → (us : List Vertex) × LeadsToEnd net a d (start_of a s) us
    walk-way s h = by h.word (walk-goes_on net s d h.word h.walk) ((takes h.word h.walk.symbols).1 h.on_path)
      where
        by : (w : List Symbol) → WalksFrom net s d w → a.accepts (ending_state a 0 w) ≡ true → (us : List Vertex) × LeadsToEnd net a d (start_of a s) us
        by [] walks e = absurd walks
        by (x ∷ rest) walks e =
            let goes : GoesOn net d (at s) rest = subst (λ y. GoesOn net d y rest) walks.0 walks.4 in
            let short = word-way net a d (start_of a s) rest goes (ap (λ y. a.accepts (ending_state a (a.step 0 y) rest)) (sym walks.0) ∙ e) in
            (short.way, short.leads)

    abbrev places : List ℕ
    places = map (listed_loc product.vertices) product.starts

    to-walk : IsTrimmed net a (All d) product → (s : ℕ) → Contains places s → StartsWalk net policy i d s
    to-walk is s c =
        let m = in_map (listed_loc product.vertices) product.starts s (in_from places s c) in
        let start = start-at is m.0 (in_to product.starts m.0 m.1) in
        subst (StartsWalk net policy i d) (sym (m.2 ∙ vertex-loc product.vertices m.0 (start_of a start.source) start.here)) (way-walk start.source start.host start.apart start.after start.leads)

    from-walk : IsTrimmed net a (All d) product → (s : ℕ) → StartsWalk net policy i d s → Contains places s
    from-walk is s h =
        let way = walk-way s h in
        let stands : StandsIn net a (All d) (start_of a s) = (s, (h.walk.start, h.apart), record { before = []; reached = refl; after = way.0; leads = way.1 }) in
        let listed = (is.first_are (start_of a s)).1 ((s, (h.walk.start, h.apart), refl), stands) in
        let place = in-get is.first (start_of a s) (in_from is.first (start_of a s) listed) in
        let here = stands-at net a (All d) product is place.0 (start_of a s) (get-front is.first is.inner place.0 (start_of a s) place.1) in
        let there = (is.starts place.0).1 (get-below is.first place.0 (start_of a s) place.1) in
        subst (Contains places) (vertex-loc product.vertices place.0 (start_of a s) here) (in_to places (listed_loc product.vertices place.0) (map_in (listed_loc product.vertices) product.starts place.0 (in_from product.starts place.0 there)))

    -- walks start at the places of the product's starts
    pub walks-start : IsProduct net a (All d) product → (s : ℕ) → Contains places s ↔ StartsWalk net policy i d s
    walks-start (inl cut) s = (
      λ c. absurd (contains-none s (subst (λ l. Contains (map (listed_loc product.vertices) l) s) cut.starts c)),
      λ h. let way = walk-way s h in absurd (cut.none s way.0 (h.walk.start, h.apart) way.1),
    )
    walks-start (inr is) s = (to-walk is s, from-walk is s)
