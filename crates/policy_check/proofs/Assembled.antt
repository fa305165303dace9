-- A policy put together from its lists, and its lists again.
use Rattle.std.proofs.Common.{◌≡◌, ◌⊎◌, inl, inr, ℕ, zero, suc, List, [], ◌∷◌, ◌++◌, length, map, Option, None, Some, slice_get, refl, ◌∙◌, ap, arith}
use Rattle.std.specs.Option.{option_map, option_to_list}
use Rattle.std.proofs.lemmas.List.{map-append}
use Rattle.merlin_model.specs.declared.policy.Path.{Path}
use Rattle.merlin_model.specs.declared.policy.Pred.{Pred}
use Rattle.merlin_model.specs.declared.policy.Term.{Term}
use Rattle.merlin_model.specs.Networks.{Network}
use Rattle.policy_grammar.specs.NumberedPaths.{numbered}
use Rattle.policy_grammar.specs.declared.written.RawPath.{RawPath}
use Rattle.policy_expansion.specs.declared.policy.Statement.{Statement as NamedStatement}
use Rattle.policy_expansion.specs.declared.policy.Policy.{Policy as NamedPolicy}
use Rattle.policy_names.specs.Names.{meaning_of}
use Rattle.policy_check.specs.Numbered.{numbered_statement, numbered_policy}
use Rattle.policy_check.specs.Rules.{listed_ids, listed_preds, numbered_paths_of}
use Rattle.policy_check.specs.Kept.{statements_from}

-- From a policy over names.

statements-are : (net : Network) (ss : List NamedStatement) (more : List Path) → statements_from (map (λ s. s.id) ss) (map (λ s. s.pred) ss) (map (numbered (meaning_of net)) (map (λ s. s.path) ss) ++ more) ≡ map (numbered_statement net) ss
statements-are net [] more = refl
statements-are net (s ∷ ss) more = ap (λ l. numbered_statement net s ∷ l) (statements-are net ss more)

default-behind : (ss : List NamedStatement) (front : List Path) (d : Option Path) → length front ≡ length ss → slice_get (front ++ option_to_list d) (length (map (λ s. s.id) ss)) ≡ d
default-behind [] [] None e = refl
default-behind [] [] (Some p) e = refl
default-behind [] (q ∷ front) d e = cc
default-behind (s ∷ ss) [] d e = cc
default-behind (s ∷ ss) (q ∷ front) d e = default-behind ss front d (let f : length front ≡ length ss = omega (arith, e) in f)

listed-default : (f : RawPath → Path) (d : Option RawPath) → map f (option_to_list d) ≡ option_to_list (option_map f d)
listed-default f None = refl
listed-default f (Some p) = refl

long : (f : RawPath → Path) (ss : List NamedStatement) → length (map f (map (λ s. s.path) ss)) ≡ length ss
long f [] = refl
long f (s ∷ ss) = ap suc (long f ss)

-- the path of each statement over numbers, and that of the default
pub paths-parts : (net : Network) (raw : NamedPolicy) → numbered_paths_of net raw ≡ map (numbered (meaning_of net)) (map (λ s. s.path) raw.statements) ++ option_to_list (option_map (numbered (meaning_of net)) raw.default_path)
paths-parts net raw =
    map-append (numbered (meaning_of net)) (map (λ s. s.path) raw.statements) (option_to_list raw.default_path)
    ∙ ap (λ l. map (numbered (meaning_of net)) (map (λ s. s.path) raw.statements) ++ l) (listed-default (numbered (meaning_of net)) raw.default_path)

pub policy-is : (net : Network) (raw : NamedPolicy) (ids : List (List ℕ)) (preds : List Pred) (paths : List Path) (terms : List Term) → ids ≡ listed_ids raw → preds ≡ listed_preds raw → paths ≡ numbered_paths_of net raw → terms ≡ raw.formula.terms →
    record { statements = statements_from ids preds paths; default_path = slice_get paths (length ids); terms = terms } ≡ numbered_policy net raw
policy-is net raw ids preds paths terms ids-are preds-are paths-are terms-are =
    let f = numbered (meaning_of net) in
    let parts = paths-are ∙ paths-parts net raw in
    let statements : statements_from ids preds paths ≡ map (numbered_statement net) raw.statements =
    (λ k. statements_from (ids-are k) (preds-are k) (parts k)) ∙ statements-are net raw.statements (option_to_list (option_map f raw.default_path)) in
    let default : slice_get paths (length ids) ≡ option_map f raw.default_path =
    (λ k. slice_get (parts k) (length (ids-are k))) ∙ default-behind raw.statements (map f (map (λ s. s.path) raw.statements)) (option_map f raw.default_path) (long f raw.statements) in
    λ k. record { statements = statements k; default_path = default k; terms = terms-are k }

-- Back to the lists.

abbrev pub IsLongFor : List (List ℕ) → List Path → Type 0
IsLongFor ids paths = (length paths ≡ length ids) ⊎ (length paths ≡ suc (length ids))

shorter : (n m : ℕ) → (suc n ≡ suc m) ⊎ (suc n ≡ suc (suc m)) → (n ≡ m) ⊎ (n ≡ suc m)
shorter n m (inl e) = inl (omega (arith, e))
shorter n m (inr e) = inr (omega (arith, e))

never-longer : (n m : ℕ) → (zero ≡ suc n) ⊎ (zero ≡ suc m) → ⊥
never-longer n m (inl e) = omega (arith, e)
never-longer n m (inr e) = omega (arith, e)

two-more : (n : ℕ) → (suc (suc n) ≡ zero) ⊎ (suc (suc n) ≡ suc zero) → ⊥
two-more n (inl e) = omega (arith, e)
two-more n (inr e) = omega (arith, e)

pub ids-back : (ids : List (List ℕ)) (preds : List Pred) (paths : List Path) → length preds ≡ length ids → IsLongFor ids paths → map (λ s. s.id) (statements_from ids preds paths) ≡ ids
ids-back [] preds paths e l = refl
ids-back (i ∷ ids) [] paths e l = cc
ids-back (i ∷ ids) (p ∷ preds) [] e l = absurd (never-longer (length ids) (suc (length ids)) l)
ids-back (i ∷ ids) (p ∷ preds) (a ∷ paths) e l = ap (λ r. i ∷ r) (ids-back ids preds paths (let f : length preds ≡ length ids = omega (arith, e) in f) (shorter (length paths) (length ids) l))

pub preds-back : (ids : List (List ℕ)) (preds : List Pred) (paths : List Path) → length preds ≡ length ids → IsLongFor ids paths → map (λ s. s.pred) (statements_from ids preds paths) ≡ preds
preds-back [] [] paths e l = refl
preds-back [] (p ∷ preds) paths e l = cc
preds-back (i ∷ ids) [] paths e l = cc
preds-back (i ∷ ids) (p ∷ preds) [] e l = absurd (never-longer (length ids) (suc (length ids)) l)
preds-back (i ∷ ids) (p ∷ preds) (a ∷ paths) e l = ap (λ r. p ∷ r) (preds-back ids preds paths (let f : length preds ≡ length ids = omega (arith, e) in f) (shorter (length paths) (length ids) l))

pub paths-back : (ids : List (List ℕ)) (preds : List Pred) (paths : List Path) → length preds ≡ length ids → IsLongFor ids paths → map (λ s. s.path) (statements_from ids preds paths) ++ option_to_list (slice_get paths (length ids)) ≡ paths
paths-back [] preds [] e l = refl
paths-back [] preds (a ∷ []) e l = refl
paths-back [] preds (a ∷ b ∷ paths) e l = absurd (two-more (length paths) l)
paths-back (i ∷ ids) [] paths e l = cc
paths-back (i ∷ ids) (p ∷ preds) [] e l = absurd (never-longer (length ids) (suc (length ids)) l)
paths-back (i ∷ ids) (p ∷ preds) (a ∷ paths) e l = ap (λ r. a ∷ r) (paths-back ids preds paths (let f : length preds ≡ length ids = omega (arith, e) in f) (shorter (length paths) (length ids) l))
