-- The branch of a product goes as its sink tree does.
use Rattle.std.proofs.Common.{◌≡◌, ◌≢◌, ◌⊎◌, ◌<◌, ◌≤◌, inl, inr, ◌+◌, ◌==◌, ℕ, zero, suc, Bool, true, false, cond, List, [], ◌∷◌, ◌++◌, length, map, take, get_or, slice_get, Contains, Option, None, Some, refl, sym, ◌∙◌, ap, subst, arith}
use Rattle.std.specs.Prelude.{option_map}
use Rattle.merlin_model.specs.Networks.{Network, IsHost, Pairwise}
use Rattle.rules_model.specs.Products.{SymbolAutomaton, Vertex, loc_of, function_place, start_of, LeadsToEnd, TreeFollows, IsBefore}
use Rattle.product_graph.specs.declared.span.Vertex.{Vertex as ListedVertex}
use Rattle.product_graph.specs.declared.span.Product.{Product}
use Rattle.product_graph.specs.declared.span.Span2.TheVariants.{All}
use Rattle.product_graph.specs.Products.{vertex_of, vertices_of, IsTrimmed}
use Rattle.product_graph.proofs.Lists.{some-same, none-some, below_or_at, get-below, get-contains, contains-left, get-more, take-more, map-length, pairwise-append, pairwise-map, length-more}
use Rattle.path_automaton.proofs.Classing.{get-end}
use Rattle.sink_tree.specs.Trees.{NextLeads, IsSinkTree}
use Rattle.rule_tables.specs.declared.branches.Step.{Step}
use Rattle.rule_tables.specs.declared.branches.Branch.{Branch}
use Rattle.rule_tables.specs.Branches.{vertex_in, vertex_at, next_step_at, LeadsOn}
use Rattle.openflow_rules.specs.SinkBranches.{before_end, AreStepsBelow, IsSinkBranch}

pub get-mapped : {X Y : Type 0} (f : X → Y) (xs : List X) (k : ℕ) → slice_get (map f xs) k ≡ option_map f (slice_get xs k)
get-mapped f [] k = refl
get-mapped f (x ∷ xs) zero = refl
get-mapped f (x ∷ xs) (suc k) = get-mapped f xs k

map-snoc : {X Y : Type 0} (f : X → Y) (xs : List X) (x : X) → map f (xs ++ x ∷ []) ≡ map f xs ++ f x ∷ []
map-snoc f [] x = refl
map-snoc f (y ∷ xs) x = ap (λ r. f y ∷ r) (map-snoc f xs x)

get-mapped-or : {X Y : Type 0} (f : X → Y) (xs : List X) (k : ℕ) (d : X) → get_or (map f xs) k (f d) ≡ f (get_or xs k d)
get-mapped-or f [] k d = refl
get-mapped-or f (x ∷ xs) zero d = refl
get-mapped-or f (x ∷ xs) (suc k) d = get-mapped-or f xs k d

take-long : {X : Type 0} (xs : List X) (n : ℕ) → n ≤ length xs → length (take n xs) ≡ n
take-long xs zero le = by xs
  where
    by : {X : Type 0} (xs : List X) → length (take 0 xs) ≡ 0
    by [] = refl
    by (x ∷ xs) = refl
take-long [] (suc n) le = absurd (omega (arith, le))
take-long (x ∷ xs) (suc n) le = ap suc (take-long xs n (omega (arith, le)))

take-front : {X : Type 0} (xs ys : List X) → take (length xs) (xs ++ ys) ≡ xs
take-front [] [] = refl
take-front [] (y ∷ ys) = refl
take-front (x ∷ xs) ys = ap (λ r. x ∷ r) (take-front xs ys)

append-through : {X : Type 0} (xs ys zs : List X) → (xs ++ ys) ++ zs ≡ xs ++ (ys ++ zs)
append-through [] ys zs = refl
append-through (x ∷ xs) ys zs = ap (λ r. x ∷ r) (append-through xs ys zs)

steps-long : (product : Product) (next : ℕ → Option ℕ) (end n : ℕ) (steps : List Step) → n ≤ length product.vertices → AreStepsBelow product next end n steps → length steps ≡ n
steps-long product next end n steps le h =
    sym (map-length vertex_in steps) ∙ ap length h.vertices ∙ take-long (vertices_of product) n (let s = map-length vertex_of product.vertices in omega (arith, le, s))

pub steps-none : (product : Product) (next : ℕ → Option ℕ) (end : ℕ) → AreStepsBelow product next end 0 []
steps-none product next end = record { vertices = by (vertices_of product); follows = λ k lt. absurd (omega (arith, lt)) }
  where
    by : (vs : List Vertex) → [] ≡ take 0 vs
    by [] = refl
    by (v ∷ vs) = refl

pub steps-next : (product : Product) (next : ℕ → Option ℕ) (end n : ℕ) (steps : List Step) (d : ListedVertex) (step : Step) → n < length product.vertices → AreStepsBelow product next end n steps →
    step.vertex ≡ get_or product.vertices n d → step.next ≡ before_end end (next n) → AreStepsBelow product next end (n + 1) (steps ++ step ∷ [])
steps-next product next end n steps d step lt h vertex following = record {
  vertices = map-snoc vertex_in steps step ∙ ap (λ r. r ++ vertex_in step ∷ []) h.vertices
      ∙ ap (λ v. take n (vertices_of product) ++ v ∷ []) (ap vertex_of vertex ∙ sym (get-mapped-or vertex_of product.vertices n d))
      ∙ sym (take-more (vertices_of product) n (vertex_of d) (let s = map-length vertex_of product.vertices in omega (arith, lt, s)));
  follows = λ k below. by k (below-or k below);
}
  where
    long : length steps ≡ n
    long = steps-long product next end n steps (omega (arith, lt)) h

    below-or : (k : ℕ) → k < n + 1 → (k < n) ⊎ (k ≡ n)
    below-or k below = below_or_at n k below

    by : (k : ℕ) → (k < n) ⊎ (k ≡ n) → next_step_at (steps ++ step ∷ []) k ≡ Some (before_end end (next k))
    by k (inl lt_n) = here (slice_get steps k) refl (h.follows k lt_n)
      where
        here : (o : Option Step) → slice_get steps k ≡ o → option_map (λ s. s.next) o ≡ Some (before_end end (next k)) → next_step_at (steps ++ step ∷ []) k ≡ Some (before_end end (next k))
        here None e is = absurd (none-some is)
        here (Some s) e is = ap (option_map (λ x. x.next)) (get-more steps (step ∷ []) k s e) ∙ is
    by k (inr e) =
        ap (next_step_at (steps ++ step ∷ [])) (e ∙ sym long) ∙ ap (option_map (λ x. x.next)) (get-end steps step) ∙ ap Some (following ∙ ap (λ m. before_end end (next m)) (sym e))

-- the places before the end go on as the sink tree does
module _ (net : Network) (a : SymbolAutomaton) (d : ℕ) (product : Product) (next : ℕ → Option ℕ) (is : IsTrimmed net a (All d) product) (tree : IsSinkTree net a d product next) where
  abbrev pub inside : List Vertex
  inside = is.first ++ is.inner

  whole : (e : Vertex) × (vertices_of product ≡ inside ++ e ∷ [])
  whole = (_, is.vertices ∙ sym (append-through is.first is.inner _))

  module _ (steps : List Step) (h : AreStepsBelow product next (length inside) (length inside) steps) where
    steps-are : map vertex_in steps ≡ inside
    steps-are = h.vertices ∙ ap (take (length inside)) whole.1 ∙ take-front inside (whole.0 ∷ [])

    leads-on : (k : ℕ) (us : List Vertex) → k < length inside → NextLeads product next k us → LeadsOn steps k us
    leads-on k [] lt leads =
        let at_end : leads.0 ≡ length inside = some-same (sym leads.2 ∙ is.end) in
        h.follows k lt ∙ ap (λ o. Some (before_end (length inside) o)) (leads.1 ∙ ap Some at_end) ∙ ap Some (itself (length inside))
      where
        itself : (n : ℕ) → before_end n (Some n) ≡ None
        itself n = by (n == n) refl
          where
            by : (b : Bool) → (n == n) ≡ b → cond b None (Some n) ≡ None
            by true e = refl
            by false e = absurd (let no : ⊥ = grind arith in no)
    leads-on k (u ∷ us) lt leads = (j, h.follows k lt ∙ ap (λ o. Some (before_end (length inside) o)) leads.1 ∙ ap Some (other j apart), at_j, leads-on j us below leads.3)
      where
        j : ℕ
        j = leads.0

        some-next : (ws : List Vertex) → NextLeads product next j ws → (m : ℕ) × (next j ≡ Some m)
        some-next [] l = (l.0, l.1)
        some-next (w ∷ ws) l = (l.0, l.1)

        apart : j ≡ length inside → ⊥
        apart e = let m = some-next us leads.3 in none-some (sym (tree.end j (is.end ∙ ap Some (sym e))) ∙ m.1)

        below : j < length inside
        below =
            let lt_all = get-below (vertices_of product) j u leads.2 in
            let size = ap length whole.1 ∙ length-more inside whole.0 in
            by (j == length inside) refl lt_all size
          where
            by : (b : Bool) → (j == length inside) ≡ b → j < length (vertices_of product) → length (vertices_of product) ≡ suc (length inside) → j < length inside
            by true e lt_all size = absurd (apart (let s : j ≡ length inside = grind arith in s))
            by false e lt_all size = let ne : j ≢ length inside = grind arith in omega (arith, ne, lt_all, size)

        other : (j : ℕ) → (j ≡ length inside → ⊥) → before_end (length inside) (Some j) ≡ Some j
        other j ne = by (j == length inside) refl
          where
            by : (b : Bool) → (j == length inside) ≡ b → cond b None (Some j) ≡ Some j
            by true e = absurd (ne (let s : j ≡ length inside = grind arith in s))
            by false e = refl

        at_j : vertex_at steps j ≡ Some u
        at_j = sym (get-mapped vertex_in steps j) ∙ ap (λ l. slice_get l j) steps-are ∙ in-front inside j below (ap (λ l. slice_get l j) (sym whole.1) ∙ leads.2)
          where
            in-front : (xs : List Vertex) (i : ℕ) → i < length xs → slice_get (xs ++ whole.0 ∷ []) i ≡ Some u → slice_get xs i ≡ Some u
            in-front [] i lt e = absurd (omega (arith, lt))
            in-front (x ∷ xs) zero lt e = e
            in-front (x ∷ xs) (suc i) lt e = in-front xs i (omega (arith, lt)) e

    differ : Pairwise (λ u v. u ≢ v) inside
    differ = pairwise-append (λ u v. u ≢ v) is.first is.inner (pairwise-map IsBefore (λ u v. u ≢ v) before-differ is.first is.first_ascend) (pairwise-map IsBefore (λ u v. u ≢ v) before-differ is.inner is.inner_ascend) apart
      where
        before-differ : (u v : Vertex) → IsBefore u v → u ≢ v
        before-differ u v (inl lt) e = let same = ap loc_of e in omega (arith, lt, same)
        before-differ u v (inr (l, inl lt)) e = let same = ap (λ x. function_place x.symbol.fun) e in omega (arith, lt, same)
        before-differ u v (inr (l, inr (f, lt))) e = let same = ap (λ x. x.state) e in omega (arith, lt, same)

        apart : (u v : Vertex) → Contains is.first u → Contains is.inner v → u ≢ v
        apart u v cu cv e =
            let start = ((is.first_are u).0 cu).0 in
            ((is.inner_are v).0 cv).0 (subst (λ x. IsHost net (loc_of x)) e (subst (λ x. IsHost net (loc_of x)) (sym start.2) start.1.0))

    pub trimmed-branch : (at : (k : ℕ) (v : Vertex) → slice_get inside k ≡ Some v → (us : List Vertex) × NextLeads product next k us × TreeFollows net a d v us) →
        (all : (v : Vertex) (us : List Vertex) → TreeFollows net a d v us → (k : ℕ) × (slice_get inside k ≡ Some v) × NextLeads product next k us) →
        (branch : Branch) → branch.dest ≡ d → branch.steps ≡ steps → IsSinkBranch net a d branch
    trimmed-branch at all branch dest same = record {
      dest = dest;
      follow = λ k v e. subst (λ l. (us : List Vertex) × LeadsOn l k us × TreeFollows net a d v us) (sym same) (follow k v (ap (λ l. vertex_at l k) (sym same) ∙ e));
      all = λ v us f. subst (λ l. Contains (map vertex_in l) v) (sym same) (subst (λ l. Contains l v) (sym steps-are) (let p = all v us f in get-contains inside p.0 v p.1));
      differ = subst (λ l. Pairwise (λ u v. u ≢ v) (map vertex_in l)) (sym same) (subst (Pairwise (λ u v. u ≢ v)) (sym steps-are) differ);
      starts = λ s us host other way. subst (λ l. Contains (map vertex_in l) (start_of a s)) (sym same) (subst (λ l. Contains l (start_of a s)) (sym steps-are) (start s us host other way));
    }
      where
        start : (s : ℕ) (us : List Vertex) → IsHost net s → s ≢ d → LeadsToEnd net a d (start_of a s) us → Contains inside (start_of a s)
        start s us host other way =
            contains-left is.first is.inner (start_of a s) ((is.first_are (start_of a s)).1 ((s, (host, other), refl), (s, (host, other), record { before = []; reached = refl; after = us; leads = way })))

        follow : (k : ℕ) (v : Vertex) → vertex_at steps k ≡ Some v → (us : List Vertex) × LeadsOn steps k us × TreeFollows net a d v us
        follow k v e =
            let here : slice_get inside k ≡ Some v = ap (λ l. slice_get l k) (sym steps-are) ∙ get-mapped vertex_in steps k ∙ e in
            let p = at k v here in
            (p.0, leads-on k p.0 (get-below inside k v here) p.1, p.2)

pub empty-branch : (net : Network) (a : SymbolAutomaton) (d : ℕ) → ((v : Vertex) (us : List Vertex) → ¬ TreeFollows net a d v us) → ((s : ℕ) (us : List Vertex) → IsHost net s → s ≢ d → ¬ LeadsToEnd net a d (start_of a s) us) → (branch : Branch) → branch.dest ≡ d → branch.steps ≡ [] → IsSinkBranch net a d branch
empty-branch net a d none cut branch dest same = record {
  dest = dest;
  follow = λ k v e. absurd (none-some (ap (λ l. vertex_at l k) (sym same) ∙ e));
  all = λ v us f. absurd (none v us f);
  differ = subst (λ l. Pairwise (λ u v. u ≢ v) (map vertex_in l)) (sym same) tt;
  starts = λ s us host other way. absurd (cut s us host other way);
}
