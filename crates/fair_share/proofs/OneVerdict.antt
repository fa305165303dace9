-- A division is sound, or one tenant is the first at fault, and not both.
use Rattle.std.proofs.Common.{◌≡◌, ◌⊎◌, inl, inr, ℕ, zero, suc, ◌<◌, ◌≤◌, List, [], ◌∷◌, slice_get, option_map, Some, ◌∙◌, ap, subst, arith}
use Rattle.std.specs.List.{AllZip}
use Rattle.std.proofs.lemmas.Option.{slice_get-map}
use Rattle.std.proofs.lemmas.Bool.{cases_lt}
use Rattle.fair_share.specs.declared.cap.Tenant.{Tenant}
use Rattle.fair_share.specs.declared.share.Share.{Share}
use Rattle.fair_share.specs.Shares.{Demands, IsRight, IsSound, IsFirstUnsound, share_rates}
use Rattle.fair_share.specs.Filling.{IsFine}
use Rattle.fair_share.proofs.Judging.{fine-sound}

zip-both : {A B : Type 0} (R : A → B → Type 0) (xs : List A) (ys : List B) (i : ℕ) (x : A) (y : B) → AllZip R xs ys → slice_get xs i ≡ Some x → slice_get ys i ≡ Some y → R x y
zip-both R [] ys i x y z e f = let no : ⊥ = cc in absurd no
zip-both R (a ∷ xs) [] i x y z e f = absurd z
zip-both {A} {B} R (a ∷ xs) (b ∷ ys) zero x y z e f =
    let one : a ≡ x = cc in
    let other : b ≡ y = cc in
    subst (λ (u : A). R u y) one (subst (λ (v : B). R a v) other z.0)
zip-both R (a ∷ xs) (b ∷ ys) (suc i) x y z e f = zip-both R xs ys i x y z.1 e f

module _ (d : Demands) (shares : List Share) where
  sound-fine : (i : ℕ) (t : Tenant) (s : Share) → IsSound d shares → slice_get d.tenants i ≡ Some t → slice_get shares i ≡ Some s → IsFine d (share_rates shares) t s
  sound-fine i t s sound e f = record {
    right = zip-both (IsRight d (share_rates shares)) d.tenants shares i t s sound.right e f;
    demand = zip-both (λ tenant share. share ≤ tenant.demand) d.tenants (share_rates shares) i t s.rate sound.feasible.demands e (slice_get-map (λ (x : Share). x.rate) shares i ∙ ap (option_map (λ (x : Share). x.rate)) f);
    caps = λ c cap stands beneath. sound.feasible.caps c cap stands;
  }

  pub sound-apart : (place : ℕ) → IsSound d shares → IsFirstUnsound d shares place → ⊥
  sound-apart place sound first = fine-sound d (share_rates shares) first.tenant first.share (sound-fine place first.tenant first.share sound first.stands first.given) first.unsound

  pub first-one : (place other : ℕ) → IsFirstUnsound d shares place → IsFirstUnsound d shares other → other ≡ place
  first-one place other p q = by (cases_lt place other) (cases_lt other place)
    where
      by : (place < other) ⊎ (other ≤ place) → (other < place) ⊎ (place ≤ other) → other ≡ place
      by (inl lt) k = absurd (q.before place p.tenant p.share lt p.stands p.given p.unsound)
      by (inr le) (inl lt) = absurd (p.before other q.tenant q.share lt q.stands q.given q.unsound)
      by (inr le) (inr ge) = omega arith
