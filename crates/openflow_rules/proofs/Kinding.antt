-- The kinds of statements, one by one.
use Rattle.std.proofs.Common.{◌≡◌, ◌⊎◌, inl, inr, ◌+◌, ℕ, List, [], ◌∷◌, ◌++◌, length, slice_get, Option, None, Some, refl, sym, ◌∙◌, ap, subst, arith}
use Rattle.merlin_model.specs.declared.policy.Path.{Path}
use Rattle.merlin_model.specs.Policies.{Policy, paths_of}
use Rattle.path_regex.specs.Normal.{normal_of}
use Rattle.path_regex.specs.Shared.{form_at, AreDistinct, AddsForms}
use Rattle.path_regex.proofs.Sharing.{named}
use Rattle.path_automaton.proofs.Building.{get-below, below-get}
use Rattle.path_automaton.proofs.Classing.{get-snoc}
use Rattle.configuration_model.specs.Groups.{HaveOneForm}
use Rattle.openflow_rules.specs.Kinds.{IsKindOf, AreKinds}

some-same : {X : Type 0} {a b : X} → Some a ≡ Some b → a ≡ b
some-same e = cc

none-some : {X : Type 0} {a : X} → None ≡ Some a → ⊥
none-some e = cc

-- the kinds of the first so many statements, by the forms that were found
pub record AreKindsBelow (policy : Policy) (forms : List Path) (n : ℕ) (kinds : List (Option ℕ)) : Type 0 where
  pub size : length kinds ≡ n
  pub each : (i : ℕ) (kind : Option ℕ) → slice_get kinds i ≡ Some kind → IsKindOf policy forms i kind

pub kinds-none : (policy : Policy) (forms : List Path) → AreKindsBelow policy forms 0 []
kinds-none policy forms = record { size = refl; each = λ i kind e. absurd (none-some e) }

kind-grows : (policy : Policy) (old new : List Path) → AddsForms old new → (i : ℕ) (kind : Option ℕ) → IsKindOf policy old i kind → IsKindOf policy new i kind
kind-grows policy old new grows i None is = is
kind-grows policy old new grows i (Some k) is = (is.0, λ path e. named grows k (normal_of path) (is.1 path e))

pub kinds-next : (policy : Policy) (old new : List Path) (n : ℕ) (kinds : List (Option ℕ)) (kind : Option ℕ) → AddsForms old new → AreKindsBelow policy old n kinds → IsKindOf policy new n kind → AreKindsBelow policy new (n + 1) (kinds ++ kind ∷ [])
kinds-next policy old new n kinds kind grows s is = record {
  size = longer kinds ∙ ap (λ m. m + 1) s.size;
  each = λ i k e. by i k (get-snoc kinds kind i k e);
}
  where
    longer : (ks : List (Option ℕ)) → length (ks ++ kind ∷ []) ≡ length ks + 1
    longer [] = refl
    longer (x ∷ ks) = let rest = longer ks in omega (arith, rest)

    by : (i : ℕ) (k : Option ℕ) → (slice_get kinds i ≡ Some k) ⊎ ((i ≡ length kinds) × (kind ≡ k)) → IsKindOf policy new i k
    by i k (inl e) = kind-grows policy old new grows i k (s.each i k e)
    by i k (inr h) = subst (λ m. IsKindOf policy new m k) (sym (h.0 ∙ s.size)) (subst (IsKindOf policy new n) h.1 is)

-- with one number for each form, these are the kinds
pub kinds-whole : (policy : Policy) (forms : List Path) (n : ℕ) (kinds : List (Option ℕ)) → AreDistinct forms → n ≡ length (paths_of policy) → AreKindsBelow policy forms n kinds → AreKinds policy kinds
kinds-whole policy forms n kinds distinct all s = record {
  size = s.size ∙ all;
  guaranteed = λ i e. s.each i None e;
  best_effort = λ i a e. (s.each i (Some a) e).0;
  alike = λ i j a b ei ej. (λ same. to i j a b ei ej same, λ h. from i j a b ei ej h);
}
  where
    path-at : (i : ℕ) (kind : Option ℕ) → slice_get kinds i ≡ Some kind → (path : Path) × (slice_get (paths_of policy) i ≡ Some path)
    path-at i kind e = let lt = get-below kinds i kind e in let size = s.size in below-get (paths_of policy) i (omega (arith, lt, size, all))

    to : (i j a b : ℕ) → slice_get kinds i ≡ Some (Some a) → slice_get kinds j ≡ Some (Some b) → a ≡ b → HaveOneForm policy i j
    to i j a b ei ej same =
        let p = path-at i (Some a) ei in
        let q = path-at j (Some b) ej in
        record {
          path = p.0;
          other = q.0;
          has = p.1;
          other_has = q.1;
          form = sym ((s.each i (Some a) ei).1 p.0 p.1).1 ∙ ap (form_at forms) same ∙ ((s.each j (Some b) ej).1 q.0 q.1).1;
        }

    from : (i j a b : ℕ) → slice_get kinds i ≡ Some (Some a) → slice_get kinds j ≡ Some (Some b) → HaveOneForm policy i j → a ≡ b
    from i j a b ei ej h =
        let x = (s.each i (Some a) ei).1 h.path h.has in
        let y = (s.each j (Some b) ej).1 h.other h.other_has in
        distinct a b x.0 y.0 (x.1 ∙ h.form ∙ sym y.1)
