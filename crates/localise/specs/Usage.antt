-- Usages that keep to localised rates.
use Rattle.std.specs.Prelude.{ℕ, ◌≤◌, ◌≢◌, ⊤, List, [], filter, not, Option, None, Some, unwrap_or}
use Rattle.std.specs.List.{AllByRecursion}
use Rattle.merlin_model.specs.declared.policy.Term.{Term}
use Rattle.merlin_model.specs.Rates.{is_max, ids_of, share_in}
use Rattle.localise.specs.Localised.{min_for, max_for}

-- the share of an id in a term; one that does not stand in it has none
abbrev pub share_of : Term → List ℕ → ℕ
share_of term id = unwrap_or (share_in id term) 0

-- each term has an id among its parts
abbrev pub HaveIds : List Term → Type 0
HaveIds terms = AllByRecursion (λ term. ids_of term ≢ []) terms

-- the terms of one kind
abbrev pub max_terms : List Term → List Term
max_terms terms = filter (λ term. is_max term.bound) terms

abbrev pub min_terms : List Term → List Term
min_terms terms = filter (λ term. not (is_max term.bound)) terms

-- at most the cap, if there is one
abbrev pub IsWithinCap : Option ℕ → ℕ → Type 0
IsWithinCap None rate = ⊤
IsWithinCap (Some cap) rate = rate ≤ cap

-- each id uses at most its localised maximum
abbrev pub KeepsMaxima : List Term → List (List ℕ) → (List ℕ → ℕ) → Type 0
KeepsMaxima terms ids usage = AllByRecursion (λ id. IsWithinCap (max_for terms id) (usage id)) ids

-- each id uses at least its localised minimum
abbrev pub KeepsMinima : List Term → List (List ℕ) → (List ℕ → ℕ) → Type 0
KeepsMinima terms ids usage = AllByRecursion (λ id. min_for terms id ≤ usage id) ids
