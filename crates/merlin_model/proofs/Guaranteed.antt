-- Each guaranteed statement has a written walk, on its path.
use Rattle.std.proofs.Common.{◌≡◌, ℕ, suc, inl, inr, List, [], ◌∷◌, map, Some, slice_get, refl, sym, ap, subst}
use Rattle.std.specs.List.{AllZip}
use Rattle.merlin_model.specs.declared.policy.Symbol.{Symbol}
use Rattle.merlin_model.specs.declared.policy.Ends.{Ends}
use Rattle.merlin_model.specs.declared.policy.Objective.{Objective}
use Rattle.merlin_model.specs.declared.policy.Value.{Value}
use Rattle.merlin_model.specs.declared.config.Config.{Config}
use Rattle.merlin_model.specs.declared.certificate.Tree.{Tree}
use Rattle.merlin_model.specs.Networks.{Network}
use Rattle.merlin_model.specs.Words.{IsWalk}
use Rattle.merlin_model.specs.Policies.{Policy, IsOnPath}
use Rattle.merlin_model.specs.Rates.{IsGuaranteed}
use Rattle.merlin_model.specs.Assignments.{AreAllEnds, IsAssignment}
use Rattle.merlin_model.specs.Headline.{HasWalkOnPath}
use Rattle.merlin_model.specs.Results.{Meanings, KeepsPromise}
use Rattle.merlin_model.proofs.Members.{In, in_from, in_map}

-- what stands beside an element of the first list
beside : {A B : Type 0} (R : A → B → Type 0) (xs : List A) (ys : List B) → AllZip R xs ys → (x : A) → In x xs →
    (k : ℕ) × (y : B) × (slice_get xs k ≡ Some x) × (slice_get ys k ≡ Some y) × R x y
beside R [] ys all x h = absurd h
beside R (a ∷ xs) [] all x h = absurd all
beside R (a ∷ xs) (b ∷ ys) all x (inl same) = (0, b, ap Some (sym same), refl, subst (λ z. R z b) (sym same) all.0)
beside R (a ∷ xs) (b ∷ ys) all x (inr h) = let found = beside R xs ys all.1 x h in (suc found.0, found.1, found.2, found.3, found.4)

pub has_walk : (net : Network) (policy : Policy) (ends : List Ends) (walks : List (List Symbol)) (i : ℕ) → AreAllEnds net policy ends → IsAssignment net policy ends walks →
    IsGuaranteed policy i → HasWalkOnPath policy ends walks i
has_walk net policy ends walks i all assigned guaranteed =
    let named : (e : Ends) × In e ends × (i ≡ e.statement) = in_map (λ e. e.statement) ends i (in_from (map (λ e. e.statement) ends) i (all.all i guaranteed)) in
    let found = beside (λ e w. IsWalk net e.src e.dst w × IsOnPath policy e.statement w) ends walks assigned named.0 named.1 in
    (found.1, (found.0, named.0, found.2, sym named.2, found.3), subst (λ j. IsOnPath policy j found.1) (sym named.2) found.4.1)

-- So a promise without ends is one for a policy that guarantees nothing.
pub no_ends : (means : Meanings) (net : Network) (policy : Policy) (objective : Objective) (walks : List (List Symbol)) (value : Value) (config : Config) (tree : Tree) →
    KeepsPromise means net policy [] objective walks value config tree → (i : ℕ) → ¬ IsGuaranteed policy i
no_ends means net policy objective walks value config tree promise i guaranteed =
    in_from [] i (promise.accepted.ends_are.all i guaranteed)
