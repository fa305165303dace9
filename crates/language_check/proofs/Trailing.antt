-- The order of trails.
use Rattle.std.proofs.Common.{◌≡◌, ◌<◌, ◌⊎◌, inl, inr, ℕ, List, [], ◌∷◌, sym, ◌∙◌, ap, subst, arith}
use Rattle.language_check.specs.Trails.{IsLessTrail, IsNoMoreTrail}

pub less-longer : (x : ℕ) (u : List ℕ) → IsLessTrail u (x ∷ u)
less-longer x [] = tt
less-longer x (y ∷ u) = inl (less-longer y u)

pub less-trans : (u v w : List ℕ) → IsLessTrail u v → IsLessTrail v w → IsLessTrail u w
less-trans [] [] w h g = absurd h
less-trans [] (y ∷ v) [] h g = absurd g
less-trans [] (y ∷ v) (z ∷ w) h g = tt
less-trans (x ∷ u) [] w h g = absurd h
less-trans (x ∷ u) (y ∷ v) [] h g = absurd g
less-trans (x ∷ u) (y ∷ v) (z ∷ w) h g = by h g (less-trans u v w)
  where
    by : IsLessTrail u v ⊎ ((u ≡ v) × (x < y)) → IsLessTrail v w ⊎ ((v ≡ w) × (y < z)) → (IsLessTrail u v → IsLessTrail v w → IsLessTrail u w) → IsLessTrail u w ⊎ ((u ≡ w) × (x < z))
    by (inl a) (inl b) ih = inl (ih a b)
    by (inl a) (inr b) ih = inl (subst (IsLessTrail u) b.0 a)
    by (inr a) (inl b) ih = inl (subst (λ t. IsLessTrail t w) (sym a.0) b)
    by (inr a) (inr b) ih = let xy : x < y = a.1 in let yz : y < z = b.1 in inr (a.0 ∙ b.0, omega arith)

pub no_more-trans : (u v w : List ℕ) → IsNoMoreTrail u v → IsNoMoreTrail v w → IsNoMoreTrail u w
no_more-trans u v w (inl e) g = subst (λ t. IsNoMoreTrail t w) (sym e) g
no_more-trans u v w (inr h) (inl e) = inr (subst (IsLessTrail u) e h)
no_more-trans u v w (inr h) (inr g) = inr (less-trans u v w h g)

-- the same number may be put behind both
pub no_more-cons : (k : ℕ) (u v : List ℕ) → IsNoMoreTrail u v → IsNoMoreTrail (k ∷ u) (k ∷ v)
no_more-cons k u v (inl e) = inl (ap (λ t. k ∷ t) e)
no_more-cons k u v (inr h) = inr (inl h)

pub no_more-longer : (k : ℕ) (u v : List ℕ) → IsNoMoreTrail u v → IsNoMoreTrail u (k ∷ v)
no_more-longer k u v h = no_more-trans u v (k ∷ v) h (inr (less-longer k v))
