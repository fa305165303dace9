-- The stops of the word that a route of vertices spells.
use Rattle.std.proofs.Common.{◌≡◌, ◌≢◌, ℕ, ◌==◌, Bool, true, false, cond, List, [], ◌∷◌, ◌++◌, append-nil, Option, None, Some, refl, sym, ◌∙◌, ap, arith}
use Rattle.merlin_model.specs.declared.policy.Symbol.{Symbol}
use Rattle.merlin_model.specs.Words.{Stop, functions_of, with_symbol, visits}
use Rattle.merlin_model.specs.Headline.{stop_at}
use Rattle.rules_model.specs.Products.{Vertex, loc_of, word_to}
use Rattle.rules_model.specs.Tables.{functions_here, onward}

-- the stops from the onward vertex on
abbrev pub stops_from : ℕ → Option (Vertex × List Vertex) → List Stop
stops_from d None = stop_at d ∷ []
stops_from d (Some next) = visits (next.0.symbol ∷ word_to d next.1)

record Begins (x : Symbol) (stops : List Stop) : Type 0 where
  functions : List ℕ
  rest : List Stop
  shape : stops ≡ record { loc = x.loc; functions = functions } ∷ rest

with-begins : (x : Symbol) (stops : List Stop) → Begins x (with_symbol x stops)
with-begins x [] = record { functions = functions_of x; rest = []; shape = refl }
with-begins x (stop ∷ stops) = by (x.loc == stop.loc)
  where
    by : (b : Bool) → Begins x (cond b (record { loc = x.loc; functions = functions_of x ++ stop.functions } ∷ stops) (record { loc = x.loc; functions = functions_of x } ∷ stop ∷ stops))
    by true = record { functions = functions_of x ++ stop.functions; rest = stops; shape = refl }
    by false = record { functions = functions_of x; rest = stop ∷ stops; shape = refl }

-- a symbol before a stop at another location is a stop of its own; before one at its own location it joins that
alone : (x : Symbol) (stop : Stop) (stops : List Stop) → x.loc ≢ stop.loc → with_symbol x (stop ∷ stops) ≡ record { loc = x.loc; functions = functions_of x } ∷ stop ∷ stops
alone x stop stops other = by (x.loc == stop.loc) refl
  where
    by : (b : Bool) → (x.loc == stop.loc) ≡ b →
        cond b (record { loc = x.loc; functions = functions_of x ++ stop.functions } ∷ stops) (record { loc = x.loc; functions = functions_of x } ∷ stop ∷ stops)
        ≡ record { loc = x.loc; functions = functions_of x } ∷ stop ∷ stops
    by true e = let same : x.loc ≡ stop.loc = grind arith in absurd (other same)
    by false e = refl

joined : (x : Symbol) (stop : Stop) (stops : List Stop) → x.loc ≡ stop.loc → with_symbol x (stop ∷ stops) ≡ record { loc = x.loc; functions = functions_of x ++ stop.functions } ∷ stops
joined x stop stops same = by (x.loc == stop.loc) refl
  where
    by : (b : Bool) → (x.loc == stop.loc) ≡ b →
        cond b (record { loc = x.loc; functions = functions_of x ++ stop.functions } ∷ stops) (record { loc = x.loc; functions = functions_of x } ∷ stop ∷ stops)
        ≡ record { loc = x.loc; functions = functions_of x ++ stop.functions } ∷ stops
    by true e = refl
    by false e = let other : x.loc ≢ stop.loc = grind arith in absurd (other same)

pub visits-route : (d l : ℕ) (v : Vertex) (us : List Vertex) → loc_of v ≡ l → l ≢ d →
    visits (v.symbol ∷ word_to d us) ≡ record { loc = l; functions = functions_of v.symbol ++ functions_here l us } ∷ stops_from d (onward l us)
visits-route d l v [] here other =
    alone v.symbol (stop_at d) [] (λ e. other (sym here ∙ e))
    ∙ (λ i. record { loc = here i; functions = sym (append-nil (functions_of v.symbol)) i } ∷ stop_at d ∷ [])
visits-route d l v (u ∷ us) here other = by (loc_of u == l) refl (visits-route d l u us)
  where
    by : (b : Bool) → (loc_of u == l) ≡ b →
        (loc_of u ≡ l → l ≢ d → visits (u.symbol ∷ word_to d us) ≡ record { loc = l; functions = functions_of u.symbol ++ functions_here l us } ∷ stops_from d (onward l us)) →
        with_symbol v.symbol (visits (u.symbol ∷ word_to d us))
        ≡ record { loc = l; functions = functions_of v.symbol ++ cond b (functions_of u.symbol ++ functions_here l us) [] } ∷ stops_from d (cond b (onward l us) (Some (u, us)))
    by true e ih =
        let same : loc_of u ≡ l = grind arith in
        ap (with_symbol v.symbol) (ih same other)
        ∙ joined v.symbol (record { loc = l; functions = functions_of u.symbol ++ functions_here l us }) (stops_from d (onward l us)) here
        ∙ (λ i. record { loc = here i; functions = functions_of v.symbol ++ (functions_of u.symbol ++ functions_here l us) } ∷ stops_from d (onward l us))
    by false e ih =
        let differ : loc_of u ≢ l = grind arith in
        let b : Begins u.symbol (visits (u.symbol ∷ word_to d us)) = with-begins u.symbol (visits (word_to d us)) in
        ap (with_symbol v.symbol) b.shape
        ∙ alone v.symbol (record { loc = u.symbol.loc; functions = b.functions }) b.rest (λ s. differ (sym s ∙ here))
        ∙ (λ i. record { loc = here i; functions = sym (append-nil (functions_of v.symbol)) i } ∷ sym b.shape i)
