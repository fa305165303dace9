-- Live sources, statement by statement and group by group.
use Rattle.std.proofs.Common.{◌≡◌, ◌≢◌, ◌<◌, ◌≤◌, ◌+◌, ◌==◌, ◌⊎◌, inl, inr, ℕ, zero, suc, Bool, true, false, List, [], ◌∷◌, length, map, slice_get, Some, refl, sym, ◌∙◌, ap, subst, arith}
use Rattle.std.specs.Prelude.{slice_set}
use Rattle.merlin_model.specs.Networks.{Network}
use Rattle.merlin_model.specs.Policies.{Policy}
use Rattle.merlin_model.specs.Rates.{AreLiveSources}
use Rattle.product_graph.proofs.Lists.{some-same, below_or_at, get-below}
use Rattle.path_automaton.proofs.Building.{below-get}
use Rattle.configuration_model.specs.Groups.{AreGrouped}
use Rattle.configuration_model.specs.Tables.{AreSources}
use Rattle.openflow_rules.specs.Sources.{IsDone, AreSourcesUpTo}

-- Lists with one element in another's place.

set-here : {X : Type 0} (xs : List X) (i : ℕ) (x : X) → i < length xs → slice_get (slice_set xs i x) i ≡ Some x
set-here [] i x lt = absurd (omega (arith, lt))
set-here (y ∷ xs) zero x lt = refl
set-here (y ∷ xs) (suc i) x lt = set-here xs i x (omega (arith, lt))

set-there : {X : Type 0} (xs : List X) (i k : ℕ) (x : X) → (i ≡ k → ⊥) → slice_get (slice_set xs i x) k ≡ slice_get xs k
set-there [] i k x other = refl
set-there (y ∷ xs) zero zero x other = absurd (other refl)
set-there (y ∷ xs) zero (suc k) x other = refl
set-there (y ∷ xs) (suc i) zero x other = refl
set-there (y ∷ xs) (suc i) (suc k) x other = set-there xs i k x (λ e. other (ap suc e))

set-long : {X : Type 0} (xs : List X) (i : ℕ) (x : X) → length (slice_set xs i x) ≡ length xs
set-long [] i x = refl
set-long (y ∷ xs) zero x = refl
set-long (y ∷ xs) (suc i) x = ap suc (set-long xs i x)

pub map-set : {X Y : Type 0} (f : X → Y) (xs : List X) (i : ℕ) (x : X) → map f (slice_set xs i x) ≡ slice_set (map f xs) i (f x)
map-set f [] i x = refl
map-set f (y ∷ xs) zero x = refl
map-set f (y ∷ xs) (suc i) x = ap (λ r. f y ∷ r) (map-set f xs i x)

module _ (net : Network) (policy : Policy) (group_of : List ℕ) where
  pub done-none : (sources : List (List ℕ)) → length sources ≡ length group_of → AreSourcesUpTo net policy group_of 0 0 sources
  done-none sources size = record { size = size; each = λ i g hosts at done e. absurd (never i g done) }
    where
      never : (i g : ℕ) → IsDone 0 0 i g → ⊥
      never i g (inl lt) = omega (arith, lt)
      never i g (inr here) = let lt = here.1 in omega (arith, lt)

  -- a statement of another group
  pub done-skip : (group statement g : ℕ) (sources : List (List ℕ)) → slice_get group_of statement ≡ Some g → g ≢ group → AreSourcesUpTo net policy group_of group statement sources → AreSourcesUpTo net policy group_of group (statement + 1) sources
  done-skip group statement g sources stands other h = record { size = h.size; each = λ i k hosts at done e. by i k hosts at e done }
    where
      by : (i k : ℕ) (hosts : List ℕ) → slice_get group_of i ≡ Some k → slice_get sources i ≡ Some hosts → IsDone group (statement + 1) i k → AreLiveSources net policy i hosts
      by i k hosts at e (inl lt) = h.each i k hosts at (inl lt) e
      by i k hosts at e (inr here) = or (below_or_at statement i here.1)
        where
          or : (i < statement) ⊎ (i ≡ statement) → AreLiveSources net policy i hosts
          or (inl lt) = h.each i k hosts at (inr (here.0, lt)) e
          or (inr same) = absurd (other (some-same (sym stands ∙ (ap (slice_get group_of) (sym same) ∙ at)) ∙ here.0))

  -- a statement of the group
  pub done-put : (group statement : ℕ) (old new : List (List ℕ)) (found : List ℕ) → slice_get group_of statement ≡ Some group → AreLiveSources net policy statement found → new ≡ slice_set old statement found → AreSourcesUpTo net policy group_of group statement old →
      AreSourcesUpTo net policy group_of group (statement + 1) new
  done-put group statement old new found stands live is h = record { size = ap length is ∙ (set-long old statement found ∙ h.size); each = λ i k hosts at done e. by i k hosts at done (ap (λ l. slice_get l i) (sym is) ∙ e) (statement == i) refl }
    where
      within : statement < length old
      within = let lt = get-below group_of statement group stands in let size = h.size in omega (arith, lt, size)

      by : (i k : ℕ) (hosts : List ℕ) → slice_get group_of i ≡ Some k → IsDone group (statement + 1) i k → slice_get (slice_set old statement found) i ≡ Some hosts → (b : Bool) → (statement == i) ≡ b → AreLiveSources net policy i hosts
      by i k hosts at done e true same =
          let one : statement ≡ i = grind arith in
          let here : slice_get (slice_set old statement found) i ≡ Some found = subst (λ n. slice_get (slice_set old statement found) n ≡ Some found) one (set-here old statement found within) in
          subst (λ l. AreLiveSources net policy i l) (some-same (sym here ∙ e)) (subst (λ n. AreLiveSources net policy n found) one live)
      by i k hosts at done e false other =
          let apart : statement ≡ i → ⊥ = grind arith in
          h.each i k hosts at (or apart done) (sym (set-there old statement i found apart) ∙ e)
        where
          or : (statement ≡ i → ⊥) → IsDone group (statement + 1) i k → IsDone group statement i k
          or apart (inl lt) = inl lt
          or apart (inr here) = inr (here.0, below (below_or_at statement i here.1))
            where
              below : (i < statement) ⊎ (i ≡ statement) → i < statement
              below (inl lt) = lt
              below (inr same) = absurd (apart (sym same))

  -- all statements of a group
  pub done-group : (group statement : ℕ) (sources : List (List ℕ)) → length group_of ≤ statement → AreSourcesUpTo net policy group_of group statement sources → AreSourcesUpTo net policy group_of (group + 1) 0 sources
  done-group group statement sources past h = record { size = h.size; each = λ i k hosts at done e. h.each i k hosts at (by i k at done) e }
    where
      by : (i k : ℕ) → slice_get group_of i ≡ Some k → IsDone (group + 1) 0 i k → IsDone group statement i k
      by i k at (inl lt) = or (below_or_at group k lt)
        where
          or : (k < group) ⊎ (k ≡ group) → IsDone group statement i k
          or (inl less) = inl less
          or (inr same) = inr (same, (let within = get-below group_of i k at in omega (arith, within, past)))
      by i k at (inr here) = let no = here.1 in absurd (omega (arith, no))

  -- all groups
  pub done-all : (leaders : List ℕ) (group : ℕ) (sources : List (List ℕ)) → AreGrouped policy leaders group_of → length leaders ≤ group → AreSourcesUpTo net policy group_of group 0 sources → AreSources net policy sources
  done-all leaders group sources grouped past h = record {
    size = h.size ∙ grouped.size;
    each = λ i hosts e. (let g = grouped-at i hosts e in h.each i g.0 hosts g.1 (inl (below i g.0 g.1)) e);
  }
    where
      grouped-at : (i : ℕ) (hosts : List ℕ) → slice_get sources i ≡ Some hosts → (g : ℕ) × (slice_get group_of i ≡ Some g)
      grouped-at i hosts e = below-get group_of i (let lt = get-below sources i hosts e in let size = h.size in omega (arith, lt, size))

      below : (i g : ℕ) → slice_get group_of i ≡ Some g → g < group
      below i g at =
          let leader = grouped.each i g at in
          let lt = get-below leaders g leader.0 leader.1 in omega (arith, lt, past)
