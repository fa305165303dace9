-- What is asked of each node by itself.
use Rattle.std.proofs.Common.{◌≡◌, ℕ, zero, suc, ◌+◌, ◌<◌, ◌≤◌, ◌⊎◌, inl, inr, List, [], ◌∷◌, length, map, get_or, Some, unwrap_or, slice_get, refl, sym, ◌∙◌, ap, subst, arith}
use Rattle.std.specs.List.{AllByRecursion}
use Rattle.std.proofs.lemmas.Bool.{cases_lt}
use Rattle.merlin_model.specs.Networks.{Network}
use Rattle.merlin_model.specs.Policies.{Policy as NumberedPolicy}
use Rattle.rate_formula.specs.Usage.{ids_in}
use Rattle.localise.specs.declared.localising.Rates.{Rates}
use Rattle.localise.specs.Localised.{localised}
use Rattle.policy_expansion.specs.declared.policy.Statement.{Statement}
use Rattle.policy_expansion.specs.declared.policy.Policy.{Policy}
use Rattle.policy_check.specs.Numbered.{numbered_statement, numbered_policy}
use Rattle.policy_check.specs.Rules.{listed_ids}
use Rattle.delegation.specs.declared.node.Node.{Node}

ids-same : (net : Network) (ss : List Statement) → map (λ s. s.id) (map (numbered_statement net) ss) ≡ map (λ s. s.id) ss
ids-same net [] = refl
ids-same net (s ∷ ss) = ap (λ l. s.id ∷ l) (ids-same net ss)

-- the rates of a checked policy are those of the policy as it is written
pub own-rates : (net : Network) (raw : Policy) (policy : NumberedPolicy) (rates : Rates) → policy ≡ numbered_policy net raw → rates ≡ localised policy.terms (ids_in policy) → rates ≡ localised raw.formula.terms (listed_ids raw)
own-rates net raw policy rates e r = r ∙ ap (λ (p : NumberedPolicy). localised p.terms (ids_in p)) e ∙ ap (localised raw.formula.terms) (ids-same net raw.statements)

pub stands-at : {X : Type 0} (xs : List X) (k : ℕ) (x : X) → k < length xs → x ≡ get_or xs k x → slice_get xs k ≡ Some x
stands-at [] k x l e = let no : ⊥ = omega arith in absurd no
stands-at (y ∷ xs) zero x l e = ap Some (sym e)
stands-at (y ∷ xs) (suc k) x l e = stands-at xs k x (omega arith) e

pub all-at : {X : Type 0} (P : X → Type 0) (xs : List X) (k : ℕ) (x : X) → AllByRecursion P xs → slice_get xs k ≡ Some x → P x
all-at P [] k x h e = let no : ⊥ = cc in absurd no
all-at P (y ∷ xs) zero x h e = subst P (ap (λ o. unwrap_or o y) e) h.0
all-at P (y ∷ xs) (suc k) x h e = all-at P xs k x h.1 e

-- what is so of each node before a place, with one more
pub so-more : (Q : ℕ → Node → Type 0) (nodes : List Node) (k : ℕ) (n : Node) → slice_get nodes k ≡ Some n → Q k n →
    ((i : ℕ) (m : Node) → i < k → slice_get nodes i ≡ Some m → Q i m) → (i : ℕ) (m : Node) → i < k + 1 → slice_get nodes i ≡ Some m → Q i m
so-more Q nodes k n e q h i m l f = by (cases_lt i k)
  where
    by : (i < k) ⊎ (k ≤ i) → Q i m
    by (inl lt) = h i m lt f
    by (inr le) = let same : k ≡ i = omega arith in subst (λ j. Q j m) same (subst (Q k) (ap (λ o. unwrap_or o n) (sym e ∙ ap (slice_get nodes) same ∙ f)) q)

-- the same where the answer is the place's alone
pub so-more-at : (Q : ℕ → Type 0) (nodes : List Node) (k : ℕ) → Q k → ((i : ℕ) (m : Node) → i < k → slice_get nodes i ≡ Some m → Q i) → (i : ℕ) (m : Node) → i < k + 1 → slice_get nodes i ≡ Some m → Q i
so-more-at Q nodes k q h i m l f = by (cases_lt i k)
  where
    by : (i < k) ⊎ (k ≤ i) → Q i
    by (inl lt) = h i m lt f
    by (inr le) = let same : k ≡ i = omega arith in subst Q same q

-- what stands at a place of a list
pub there : {X : Type 0} (xs : List X) (k : ℕ) → k < length xs → (x : X) × (slice_get xs k ≡ Some x)
there [] k l = let no : ⊥ = omega arith in absurd no
there (x ∷ xs) zero l = (x, refl)
there (x ∷ xs) (suc k) l = there xs k (omega arith)
