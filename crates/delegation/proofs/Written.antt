-- A policy that is written with rates has them.
use Rattle.std.proofs.Common.{◌≡◌, ℕ, suc, ◌≤◌, nat_lt, Bool, true, false, cond, List, [], ◌∷◌, ◌++◌, map, Option, None, Some, option_map, slice_get, refl, sym, ◌∙◌, ap, ap₂, subst, arith}
use Rattle.std.specs.Option.{option_to_list}
use Rattle.std.specs.List.{flat_map}
use Rattle.std.proofs.lemmas.Option.{slice_get-map}
use Rattle.merlin_model.specs.declared.policy.Path.TheVariants.{Nothing}
use Rattle.merlin_model.specs.Networks.{AreDifferent}
use Rattle.merlin_model.specs.Rates.{least_of, greatest_of, max_shares, min_shares}
use Rattle.localise.specs.Localised.{max_for, min_for}
use Rattle.refinement_model.specs.Localised.{Rated, localised_terms}
use Rattle.refinement_model.proofs.Rates.{max-at, min-at}
use Rattle.delegation.specs.declared.rating.RatedStatement.{RatedStatement}
use Rattle.delegation.specs.declared.rating.RatedPolicy.{RatedPolicy}
use Rattle.delegation.specs.NamedJoins.{rated_statement, rated_policy, rate_terms, written_policy}

-- the same rates on another path: terms name ids alone
abbrev pathless : RatedStatement → Rated
pathless r = record { statement = record { id = r.statement.id; pred = r.statement.pred; path = Nothing }; cap = r.cap; guarantee = r.guarantee }

terms-same : (rs : List RatedStatement) → flat_map rate_terms rs ≡ flat_map localised_terms (map pathless rs)
terms-same [] = refl
terms-same (r ∷ rs) = ap (λ l. rate_terms r ++ l) (terms-same rs)

ids-same : (rs : List RatedStatement) → map (λ r. r.statement.id) (map pathless rs) ≡ map (λ r. r.statement.id) rs
ids-same [] = refl
ids-same (r ∷ rs) = ap (λ l. r.statement.id ∷ l) (ids-same rs)

least-only : (o : Option ℕ) → least_of (option_to_list o) ≡ o
least-only None = refl
least-only (Some n) = refl

greatest-only : (g : ℕ) (b : Bool) → nat_lt 0 g ≡ b → greatest_of (cond b (g ∷ []) []) ≡ g
greatest-only g true e = omega arith
greatest-only g false e = let z : g ≤ 0 = grind arith in omega arith

module _ (rs : List RatedStatement) (different : AreDifferent (map (λ r. r.statement.id) rs)) where
  has-ids : AreDifferent (map (λ r. r.statement.id) (map pathless rs))
  has-ids = subst AreDifferent (sym (ids-same rs)) different

  stands : (k : ℕ) (r : RatedStatement) → slice_get rs k ≡ Some r → slice_get (map pathless rs) k ≡ Some (pathless r)
  stands k r e = slice_get-map pathless rs k ∙ ap (option_map pathless) e

  cap-same : (k : ℕ) (r : RatedStatement) → slice_get rs k ≡ Some r → max_for (flat_map rate_terms rs) r.statement.id ≡ r.cap
  cap-same k r e = ap (λ ts. least_of (max_shares r.statement.id ts)) (terms-same rs) ∙ ap least_of (max-at (map pathless rs) k (pathless r) has-ids (stands k r e)) ∙ least-only r.cap

  guarantee-same : (k : ℕ) (r : RatedStatement) → slice_get rs k ≡ Some r → min_for (flat_map rate_terms rs) r.statement.id ≡ r.guarantee
  guarantee-same k r e =
      ap (λ ts. greatest_of (min_shares r.statement.id ts)) (terms-same rs) ∙ ap greatest_of (min-at (map pathless rs) k (pathless r) has-ids (stands k r e))
      ∙ greatest-only r.guarantee (nat_lt 0 r.guarantee) refl

  statement-same : (k : ℕ) (r : RatedStatement) → slice_get rs k ≡ Some r → rated_statement (flat_map rate_terms rs) r.statement ≡ r
  statement-same k r e = ap₂ (λ cap guarantee. record { statement = r.statement; cap = cap; guarantee = guarantee }) (cap-same k r e) (guarantee-same k r e)

there-and-back : {X Y : Type 0} (f : X → Y) (g : Y → X) (xs : List X) → ((k : ℕ) (x : X) → slice_get xs k ≡ Some x → g (f x) ≡ x) → map g (map f xs) ≡ xs
there-and-back f g [] h = refl
there-and-back f g (x ∷ xs) h = ap₂ (λ y ys. y ∷ ys) (h 0 x refl) (there-and-back f g xs (λ k y e. h (suc k) y e))

pub written-rates : (rated : RatedPolicy) → AreDifferent (map (λ r. r.statement.id) rated.statements) → rated_policy (written_policy rated) ≡ rated
written-rates rated different = ap (λ rs. record { statements = rs; default_path = rated.default_path })
    (there-and-back (λ (r : RatedStatement). r.statement) (rated_statement (flat_map rate_terms rated.statements)) rated.statements (statement-same rated.statements different))
