-- Words and ways of a product, with what they cross.
use Rattle.std.proofs.Common.{◌≡◌, ◌≢◌, ℕ, ◌+◌, ◌==◌, ◌&&◌, not, ◌⊎◌, inl, inr, Bool, true, false, cond, List, [], ◌∷◌, ◌++◌, refl, sym, ◌∙◌, ap, ap₂, subst, arith}
use Rattle.std.proofs.lemmas.List.Sums.{sum_by-cons}
use Rattle.std.specs.List.{AllByRecursion}
use Rattle.merlin_model.specs.declared.policy.Symbol.{Symbol}
use Rattle.merlin_model.specs.Networks.{Network, IsHost}
use Rattle.merlin_model.specs.Words.{at, MayFollow, GoesOn, neighbours, crosses, crossings, IsSymbol}
use Rattle.rules_model.specs.Products.{SymbolAutomaton, ending_state, Vertex, loc_of, start_of, IsEdge, LeadsToEnd, LeadsTo, IsOnWayBetween, word_to}
use Rattle.rules_model.proofs.Ways.{vertex-same}
use Rattle.cutoff_program.specs.Walks.{vertices_along}

pub crossings-cons : (x y : Symbol) (w : List Symbol) (u t : ℕ) → crossings (x ∷ y ∷ w) u t ≡ (cond (crosses u t (x, y)) 1 0) + crossings (y ∷ w) u t
crossings-cons x y w u t = sum_by-cons (λ p. cond (crosses u t p) 1 0) (x, y) (neighbours (y ∷ w))

-- a stay crosses nothing
stays : (x y : Symbol) (u t : ℕ) → x.loc ≡ y.loc → crosses u t (x, y) ≡ false
stays x y u t e = by (x.loc == u) refl (y.loc == t) refl (u == t) refl
  where
    by : (a : Bool) → (x.loc == u) ≡ a → (b : Bool) → (y.loc == t) ≡ b → (c : Bool) → (u == t) ≡ c → (a && b && not c) ≡ false
    by false f b g c h = refl
    by true f false g c h = refl
    by true f true g true h = refl
    by true f true g false h = let bad : ⊥ = grind arith in absurd bad

module _ (net : Network) (a : SymbolAutomaton) (d : ℕ) where
  -- the way of a word from a vertex: turns at one vertex are left out, and nothing else is crossed
  pub record HasWay (v : Vertex) (w : List Symbol) : Type 0 where
    pub way : List Vertex
    pub leads : LeadsToEnd net a d v way
    pub crossed : (u t : ℕ) → crossings (v.symbol ∷ word_to d way) u t ≡ crossings (v.symbol ∷ w) u t

  pub word-way : (v : Vertex) (w : List Symbol) → GoesOn net d v.symbol w → a.accepts (ending_state a v.state w) ≡ true → HasWay v w
  word-way v [] h e = absurd h
  word-way v (y ∷ []) h e = record {
    way = [];
    leads = record { follows = subst (λ z. MayFollow net (v.symbol, z)) h.2 h.0; accepts = ap (λ z. a.accepts (a.step v.state z)) (sym h.2) ∙ e };
    crossed = λ u t. ap (λ z. crossings (v.symbol ∷ z ∷ []) u t) (sym h.2);
  }
  word-way v (y ∷ z ∷ rest) h e = by (vertex-same net a d v next) (word-way next (z ∷ rest) h.3 e)
    where
      next : Vertex
      next = record { symbol = y; state = a.step v.state y }

      turn : v ≡ next → (u t : ℕ) → (ih : HasWay next (z ∷ rest)) → crossings (v.symbol ∷ word_to d ih.way) u t ≡ crossings (v.symbol ∷ y ∷ z ∷ rest) u t
      turn same u t ih =
          let first : v.symbol ≡ y = ap (λ x. x.symbol) same in
          let none = stays v.symbol y u t (ap (λ x. x.loc) first) in
          ap (λ x. crossings (x ∷ word_to d ih.way) u t) first ∙ ih.crossed u t
          ∙ sym (crossings-cons v.symbol y (z ∷ rest) u t ∙ ap (λ b. (cond b 1 0) + crossings (y ∷ z ∷ rest) u t) none ∙ nothing (crossings (y ∷ z ∷ rest) u t))
        where
          nothing : (n : ℕ) → 0 + n ≡ n
          nothing n = omega arith

      by : (v ≡ next) ⊎ (v ≢ next) → HasWay next (z ∷ rest) → HasWay v (y ∷ z ∷ rest)
      by (inl same) ih = record { way = ih.way; leads = subst (λ x. LeadsToEnd net a d x ih.way) (sym same) ih.leads; crossed = λ u t. turn same u t ih }
      by (inr other) ih = record {
        way = next ∷ ih.way;
        leads = (record { follows = h.0; symbol = h.1; inside = h.2; state = refl; turns = other }, ih.leads);
        crossed = λ u t. crossings-cons v.symbol y (word_to d ih.way) u t ∙ ap (λ n. (cond (crosses u t (v.symbol, y)) 1 0) + n) (ih.crossed u t) ∙ sym (crossings-cons v.symbol y (z ∷ rest) u t);
      }

  -- the vertices along the word of a way
  pub way-vertices : (v : Vertex) (us : List Vertex) → LeadsToEnd net a d v us → (q : ℕ) × (vertices_along a v.state (word_to d us) ≡ us ++ record { symbol = at d; state = q } ∷ [])
  way-vertices v [] h = (a.step v.state (at d), refl)
  way-vertices v (u ∷ us) h =
      let ih = way-vertices u us h.1 in
      (ih.0, ap₂ (λ q w. record { symbol = u.symbol; state = q } ∷ w) (sym h.0.state) (ap (λ q. vertices_along a q (word_to d us)) (sym h.0.state) ∙ ih.1))

  pub way-inside : (v : Vertex) (us : List Vertex) → LeadsToEnd net a d v us → AllByRecursion (λ u. ¬ IsHost net (loc_of u)) us
  way-inside v [] h = tt
  way-inside v (u ∷ us) h = (h.0.inside, way-inside u us h.1)

  way-symbols : (v : Vertex) (us : List Vertex) → LeadsToEnd net a d v us → IsSymbol net (at d) → AllByRecursion (IsSymbol net) (word_to d us)
  way-symbols v [] h s = (s, tt)
  way-symbols v (u ∷ us) h s = (h.0.symbol, way-symbols u us h.1 s)

  leads-more : (v x : Vertex) (us : List Vertex) (u : Vertex) → LeadsTo net a v us x → IsEdge net a x u → LeadsTo net a v (us ++ u ∷ []) u
  leads-more v x [] u h e = (subst (λ y. IsEdge net a y u) (sym h) e, refl)
  leads-more v x (y ∷ us) u h e = (h.0, leads-more y x us u h.1 e)

  -- an edge leads from a vertex of the product to another, if that leads to the end
  pub between-more : (s : ℕ) (v u : Vertex) (us : List Vertex) → IsOnWayBetween net a s d v → IsEdge net a v u → LeadsToEnd net a d u us → IsOnWayBetween net a s d u
  between-more s v u us b e h = record { before = b.before ++ u ∷ []; reached = leads-more (start_of a s) v b.before u b.reached e; after = us; leads = h }
