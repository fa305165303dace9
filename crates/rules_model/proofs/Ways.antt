-- Ways of a product and words: a way spells a walk that the automaton takes, and a walk gives a way that is no longer.
use Rattle.std.proofs.Common.{◌≡◌, ◌≢◌, ℕ, suc, ◌≤◌, ◌==◌, ◌⊎◌, inl, inr, Bool, true, false, List, [], ◌∷◌, length, Option, None, Some, refl, sym, ◌∙◌, ap, subst, arith}
use Rattle.std.proofs.lemmas.Bool.{eqb-true, eq-eqb}
use Rattle.merlin_model.specs.declared.policy.Symbol.{Symbol}
use Rattle.merlin_model.specs.Networks.{Network, IsHost}
use Rattle.merlin_model.specs.Words.{MayFollow}
use Rattle.merlin_model.specs.Words.{GoesOn}
use Rattle.rules_model.specs.Products.{word_to, SymbolAutomaton, ending_state, Vertex, loc_of, LeadsToEnd}
use Rattle.rules_model.proofs.Trees.{host_symbol}

module _ (net : Network) (a : SymbolAutomaton) (d : ℕ) where
  pub way-goes_on : (v : Vertex) (us : List Vertex) → IsHost net d → LeadsToEnd net a d v us → GoesOn net d v.symbol (word_to d us)
  way-goes_on v [] host h = (h.follows, host_symbol net d host, refl)
  way-goes_on v (u ∷ []) host h = (h.0.follows, h.0.symbol, h.0.inside, way-goes_on u [] host h.1)
  way-goes_on v (u ∷ w ∷ us) host h = (h.0.follows, h.0.symbol, h.0.inside, way-goes_on u (w ∷ us) host h.1)

  pub way-accepts : (v : Vertex) (us : List Vertex) → LeadsToEnd net a d v us → a.accepts (ending_state a v.state (word_to d us)) ≡ true
  way-accepts v [] h = h.accepts
  way-accepts v (u ∷ us) h = ap (λ q. a.accepts (ending_state a q (word_to d us))) (sym h.0.state) ∙ way-accepts u us h.1

  option-same : (m n : Option ℕ) → (m ≡ n) ⊎ (m ≢ n)
  option-same None None = inl refl
  option-same None (Some n) = inr (λ e. cc)
  option-same (Some m) None = inr (λ e. cc)
  option-same (Some m) (Some n) = by (m == n) refl
    where
      by : (b : Bool) → (m == n) ≡ b → (Some m ≡ Some n) ⊎ (Some m ≢ Some n)
      by true e = inl (ap Some (eqb-true m n e))
      by false e = inr (λ s. let same : m ≡ n = some_inj m n s in no_way (sym e ∙ eq-eqb m n same))
        where
          some_inj : (i j : ℕ) → Some i ≡ Some j → i ≡ j
          some_inj i j p = cc

          no_way : false ≡ true → ⊥
          no_way x = cc

  pub vertex-same : (u v : Vertex) → (u ≡ v) ⊎ (u ≢ v)
  vertex-same u v = by (loc_of u == loc_of v) refl (option-same u.symbol.fun v.symbol.fun) (u.state == v.state) refl
    where
      no_way : false ≡ true → ⊥
      no_way x = cc

      by : (b : Bool) → (loc_of u == loc_of v) ≡ b → (u.symbol.fun ≡ v.symbol.fun) ⊎ (u.symbol.fun ≢ v.symbol.fun) → (c : Bool) → (u.state == v.state) ≡ c → (u ≡ v) ⊎ (u ≢ v)
      by true e (inl f) true g =
          let loc : loc_of u ≡ loc_of v = eqb-true (loc_of u) (loc_of v) e in
          let state : u.state ≡ v.state = eqb-true u.state v.state g in
          inl (λ i. record { symbol = record { loc = loc i; fun = f i }; state = state i })
      by false e f c g = inr (λ s. no_way (sym e ∙ eq-eqb (loc_of u) (loc_of v) (ap loc_of s)))
      by true e (inr f) c g = inr (λ s. f (ap (λ x. x.symbol.fun) s))
      by true e (inl f) false g = inr (λ s. no_way (sym g ∙ eq-eqb u.state v.state (ap (λ x. x.state) s)))

  -- the way of a word from a vertex: turns at one vertex are left out
  pub record HasShort (v : Vertex) (w : List Symbol) : Type 0 where
    pub way : List Vertex
    pub leads : LeadsToEnd net a d v way
    pub short : suc (length way) ≤ length w

  pub word-way : (v : Vertex) (w : List Symbol) → GoesOn net d v.symbol w → a.accepts (ending_state a v.state w) ≡ true → HasShort v w
  word-way v [] h e = absurd h
  word-way v (y ∷ []) h e = record {
    way = [];
    leads = record { follows = subst (λ z. MayFollow net (v.symbol, z)) h.2 h.0; accepts = ap (λ z. a.accepts (a.step v.state z)) (sym h.2) ∙ e };
    short = omega arith;
  }
  word-way v (y ∷ z ∷ rest) h e = by (vertex-same v (record { symbol = y; state = a.step v.state y })) (word-way (record { symbol = y; state = a.step v.state y }) (z ∷ rest) h.3 e)
    where
      by : (v ≡ record { symbol = y; state = a.step v.state y }) ⊎ (v ≢ record { symbol = y; state = a.step v.state y }) → HasShort (record { symbol = y; state = a.step v.state y }) (z ∷ rest) → HasShort v (y ∷ z ∷ rest)
      by (inl same) ih = record { way = ih.way; leads = subst (λ x. LeadsToEnd net a d x ih.way) (sym same) ih.leads; short = let s = ih.short in omega arith }
      by (inr other) ih = record {
        way = record { symbol = y; state = a.step v.state y } ∷ ih.way;
        leads = (record { follows = h.0; symbol = h.1; inside = h.2; state = refl; turns = other }, ih.leads);
        short = let s = ih.short in omega arith;
      }
