-- A written walk without a repeated vertex is a way of the product.
use Rattle.std.proofs.Common.{◌≡◌, ◌≢◌, ℕ, true, List, [], ◌∷◌, refl, sym, ◌∙◌, ap, subst}
use Rattle.merlin_model.specs.declared.policy.Symbol.{Symbol}
use Rattle.merlin_model.specs.declared.policy.Ends.{Ends}
use Rattle.merlin_model.specs.Networks.{Network, Pairwise}
use Rattle.merlin_model.specs.Words.{at, MayFollow, GoesOn, WalksFrom, IsWalk}
use Rattle.merlin_model.proofs.WordLaws.{walk-goes_on}
use Rattle.rules_model.specs.Products.{SymbolAutomaton, ending_state, Vertex, start_of, LeadsToEnd, word_to, written_word, IsWrittenWalk}
use Rattle.configuration_model.specs.Groups.{vertices_after, written_walk_of, HasDifferentVertices}

module _ (net : Network) (a : SymbolAutomaton) (d : ℕ) where
  way-of : (v : Vertex) (w : List Symbol) → GoesOn net d v.symbol w → a.accepts (ending_state a v.state w) ≡ true → Pairwise (λ u v. u ≢ v) (v ∷ vertices_after a v.state w) → LeadsToEnd net a d v (vertices_after a v.state w)
  way-of v [] h e different = absurd h
  way-of v (y ∷ []) h e different = record { follows = subst (λ z. MayFollow net (v.symbol, z)) h.2 h.0; accepts = ap (λ z. a.accepts (a.step v.state z)) (sym h.2) ∙ e }
  way-of v (y ∷ z ∷ rest) h e different = (
    record { follows = h.0; symbol = h.1; inside = h.2; state = refl; turns = different.0.0 },
    way-of (record { symbol = y; state = a.step v.state y }) (z ∷ rest) h.3 e different.1,
  )

  word-back : (q : ℕ) (x : Symbol) (w : List Symbol) → GoesOn net d x w → word_to d (vertices_after a q w) ≡ w
  word-back q x [] h = absurd h
  word-back q x (y ∷ []) h = ap (λ s. s ∷ []) (sym h.2)
  word-back q x (y ∷ z ∷ rest) h = ap (λ r. y ∷ r) (word-back (a.step q y) y (z ∷ rest) h.3)

pub written-ok : (net : Network) (a : SymbolAutomaton) (e : Ends) (w : List Symbol) → IsWalk net e.src e.dst w → a.accepts (ending_state a 0 w) ≡ true → HasDifferentVertices a e w → IsWrittenWalk net a (written_walk_of a e w) × (written_word (written_walk_of a e w) ≡ w)
written-ok net a e w walk accepted simple = by w (walk-goes_on net e.src e.dst w walk) accepted simple
  where
    by : (w : List Symbol) → WalksFrom net e.src e.dst w → a.accepts (ending_state a 0 w) ≡ true → HasDifferentVertices a e w → IsWrittenWalk net a (written_walk_of a e w) × (written_word (written_walk_of a e w) ≡ w)
    by [] h accepted simple = absurd h
    by (x ∷ rest) h accepted simple =
        let goes : GoesOn net e.dst (at e.src) rest = subst (λ y. GoesOn net e.dst y rest) h.0 h.4 in
        let here : a.accepts (ending_state a (a.step 0 (at e.src)) rest) ≡ true = ap (λ y. a.accepts (ending_state a (a.step 0 y) rest)) (sym h.0) ∙ accepted in (
          record { source = h.2; dest = h.3; way = way-of net a e.dst (start_of a e.src) rest goes here simple; different = simple },
          ap (λ y. y ∷ word_to e.dst (vertices_after a (a.step 0 (at e.src)) rest)) (sym h.0) ∙ ap (λ r. x ∷ r) (word-back net a e.dst (a.step 0 (at e.src)) (at e.src) rest goes),
        )
