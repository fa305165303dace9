-- Symbols take some variables, whatever they are.
use Rattle.std.proofs.Common.{◌≡◌, ◌≢◌, ℕ, zero, suc, ◌==◌, ◌⊎◌, inl, inr, Bool, true, false, List, [], ◌∷◌, None, Some, slice_get, refl, sym, ap, subst, arith}
use Rattle.merlin_model.specs.declared.policy.Symbol.{Symbol}
use Rattle.merlin_model.specs.Networks.{Network}
use Rattle.rules_model.specs.Products.{SymbolAutomaton, Vertex}
use Rattle.rules_model.proofs.Ways.{vertex-same}
use Rattle.cutoff_program.specs.declared.flow.Variable.{Variable}
use Rattle.cutoff_program.proofs.Lists.{none_some, some_some}
use Rattle.program_walks.specs.Marks.{symbol_in, LeadsToSymbol, IsNextBy, FollowsTrail}

module _ (net : Network) (a : SymbolAutomaton) where
  stand_at : Symbol → Vertex
  stand_at x = record { symbol = x; state = 0 }

  symbol-same : (x y : Symbol) → (x ≡ y) ⊎ (x ≢ y)
  unfolding stand_at
  symbol-same x y = by (vertex-same net a 0 (stand_at x) (stand_at y))
    where
      by : (stand_at x ≡ stand_at y) ⊎ (stand_at x ≢ stand_at y) → (x ≡ y) ⊎ (x ≢ y)
      by (inl e) = inl (ap (λ v. v.symbol) e)
      by (inr n) = inr (λ e. n (ap stand_at e))

  leads-or-not : (symbols : List Symbol) (n vertex : ℕ) (x : Symbol) (v : Variable) → LeadsToSymbol symbols n vertex x v ⊎ (¬ LeadsToSymbol symbols n vertex x v)
  leads-or-not symbols n vertex x v = by (v.flow == n) refl (v.edge.from == vertex) refl (symbol-same (symbol_in symbols v.edge.to) x)
    where
      by : (b : Bool) → (v.flow == n) ≡ b → (c : Bool) → (v.edge.from == vertex) ≡ c → (symbol_in symbols v.edge.to ≡ x) ⊎ (symbol_in symbols v.edge.to ≢ x) → LeadsToSymbol symbols n vertex x v ⊎ (¬ LeadsToSymbol symbols n vertex x v)
      by true e true f (inl s) = let flow : v.flow ≡ n = grind arith in let from : v.edge.from ≡ vertex = grind arith in inl (flow, from, s)
      by true e true f (inr s) = inr (λ l. s l.2)
      by true e false f s = let other : v.edge.from ≢ vertex = grind arith in inr (λ l. other l.1)
      by false e c f s = let other : v.flow ≢ n = grind arith in inr (λ l. other l.0)

  some-leads : (symbols : List Symbol) (n vertex : ℕ) (x : Symbol) (variables : List Variable) → ((k : ℕ) × ((v : Variable) × (slice_get variables k ≡ Some v) × LeadsToSymbol symbols n vertex x v)) ⊎ IsNextBy variables symbols n vertex x None
  some-leads symbols n vertex x [] = inr (λ k v e l. none_some e)
  some-leads symbols n vertex x (w ∷ variables) = by (leads-or-not symbols n vertex x w) (some-leads symbols n vertex x variables)
    where
      by : LeadsToSymbol symbols n vertex x w ⊎ (¬ LeadsToSymbol symbols n vertex x w) → ((k : ℕ) × ((v : Variable) × (slice_get variables k ≡ Some v) × LeadsToSymbol symbols n vertex x v)) ⊎ IsNextBy variables symbols n vertex x None →
          ((k : ℕ) × ((v : Variable) × (slice_get (w ∷ variables) k ≡ Some v) × LeadsToSymbol symbols n vertex x v)) ⊎ IsNextBy (w ∷ variables) symbols n vertex x None
      by (inl l) r = inl (0, (w, refl, l))
      by (inr n') (inl r) = inl (suc r.0, r.1)
      by (inr n') (inr r) = inr (λ k v e l. at k v e l)
        where
          at : (k : ℕ) (v : Variable) → slice_get (w ∷ variables) k ≡ Some v → LeadsToSymbol symbols n vertex x v → ⊥
          at zero v e l = n' (subst (LeadsToSymbol symbols n vertex x) (sym (some_some e)) l)
          at (suc k) v e l = r k v e l

  pub record HasFollowed (variables : List Variable) (symbols : List Symbol) (n vertex : ℕ) (word : List Symbol) : Type 0 where
    pub trail : List ℕ
    pub to : ℕ
    pub follows : FollowsTrail variables symbols n vertex word trail to

  pub followed : (variables : List Variable) (symbols : List Symbol) (n vertex : ℕ) (word : List Symbol) → HasFollowed variables symbols n vertex word
  followed variables symbols n vertex [] = record { trail = []; to = vertex; follows = (refl, refl) }
  followed variables symbols n vertex (x ∷ word) = by (some-leads symbols n vertex x variables) (λ u. followed variables symbols n u word)
    where
      by : ((k : ℕ) × ((v : Variable) × (slice_get variables k ≡ Some v) × LeadsToSymbol symbols n vertex x v)) ⊎ IsNextBy variables symbols n vertex x None → ((u : ℕ) → HasFollowed variables symbols n u word) → HasFollowed variables symbols n vertex (x ∷ word)
      by (inr none) ih = let r = ih vertex in record { trail = r.trail; to = r.to; follows = inl (none, r.follows) }
      by (inl l) ih =
          let r = ih l.1.0.edge.to in
          record { trail = l.0 ∷ r.trail; to = r.to; follows = inr (l.0, (r.trail, (l.1.0, refl, l.1.1, l.1.2, r.follows))) }
