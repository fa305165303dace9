-- Paths put in order: they ascend strictly, and they are the same paths.
use Rattle.std.proofs.Common.{◌≡◌, ◌↔◌, ◌⊎◌, inl, inr, List, [], ◌∷◌, Contains, ◌∙◌, refl, subst}
use Rattle.std.specs.Ordering.{match_ordering, ordering_reverse}
use Rattle.std.specs.Cmp.Lexicographic.{nat_list_cmp_total}
use Rattle.std.specs.declared.cmp.Ordering.{Ordering}
use Rattle.std.specs.declared.cmp.Ordering.TheVariants.{Less, Equal, Greater}
use Rattle.merlin_model.specs.declared.policy.Path.{Path, Alt}
use Rattle.merlin_model.proofs.Members.{In, in_from, in_to}
use Rattle.path_regex.specs.Order.{spelled, order, AscendStrictly}
use Rattle.path_regex.specs.Normal.{added, in_order_of, normal_of}
use Rattle.path_regex.proofs.Ordered.{same}
use Rattle.path_regex.proofs.Normality.{IsNormal, added_all-ascending, normal-normal, members-ascend}

pub equal-same : (a b : Path) → (order a b ≡ Equal) ↔ (a ≡ b)
equal-same a b = (same a b, λ e. subst (λ c. order a c ≡ Equal) e (itself (order a a) (nat_list_cmp_total.antisymm (spelled a) (spelled a))))
  where
    itself : (o : Ordering) → o ≡ ordering_reverse o → o ≡ Equal
    itself Less e = cc
    itself Equal e = refl
    itself Greater e = cc

-- a path put in its place stands there, with the others
added-in : (a : Path) (paths : List Path) (x : Path) → In x (added a paths) ↔ ((x ≡ a) ⊎ In x paths)
added-in a [] x = (λ i. i, λ i. i)
added-in a (b ∷ rest) x = by (order a b) refl (added-in a rest x)
  where
    by : (o : Ordering) → order a b ≡ o → In x (added a rest) ↔ ((x ≡ a) ⊎ In x rest) →
        In x (match_ordering o (a ∷ b ∷ rest) (b ∷ rest) (b ∷ added a rest)) ↔ ((x ≡ a) ⊎ In x (b ∷ rest))
    by Less e ih = (λ i. i, λ i. i)
    by Equal e ih = (inr, back)
      where
        back : (x ≡ a) ⊎ In x (b ∷ rest) → In x (b ∷ rest)
        back (inl f) = inl (f ∙ same a b e)
        back (inr i) = i
    by Greater e ih = (there, back)
      where
        there : In x (b ∷ added a rest) → (x ≡ a) ⊎ In x (b ∷ rest)
        there (inl f) = inr (inl f)
        there (inr i) = on (ih.0 i)
          where
            on : (x ≡ a) ⊎ In x rest → (x ≡ a) ⊎ In x (b ∷ rest)
            on (inl f) = inl f
            on (inr j) = inr (inr j)

        back : (x ≡ a) ⊎ In x (b ∷ rest) → In x (b ∷ added a rest)
        back (inl f) = inr (ih.1 (inl f))
        back (inr (inl f)) = inl f
        back (inr (inr i)) = inr (ih.1 (inr i))

ascending-more : (a : Path) (rest : List Path) (x : Path) → In x (in_order_of rest) ↔ In x rest → In x (added a (in_order_of rest)) ↔ In x (a ∷ rest)
ascending-more a rest x ih = (λ i. there ((added-in a (in_order_of rest) x).0 i), λ i. (added-in a (in_order_of rest) x).1 (back i))
  where
    there : (x ≡ a) ⊎ In x (in_order_of rest) → In x (a ∷ rest)
    there (inl e) = inl e
    there (inr j) = inr (ih.0 j)

    back : In x (a ∷ rest) → (x ≡ a) ⊎ In x (in_order_of rest)
    back (inl e) = inl e
    back (inr j) = inr (ih.1 j)

ascending-in : (paths : List Path) (x : Path) → In x (in_order_of paths) ↔ In x paths
ascending-in [] x = (λ i. i, λ i. i)
ascending-in (a ∷ rest) x = ascending-more a rest x (ascending-in rest x)

pub ascending-are : (paths : List Path) (a : Path) → Contains (in_order_of paths) a ↔ Contains paths a
ascending-are paths a =
    (λ i. in_to paths a ((ascending-in paths a).0 (in_from (in_order_of paths) a i)), λ i. in_to (in_order_of paths) a ((ascending-in paths a).1 (in_from paths a i)))

pub ascending-ascend : (paths : List Path) → AscendStrictly (in_order_of paths)
ascending-ascend paths = added_all-ascending paths [] tt

pub normal-ascends : (path : Path) (members : List Path) → normal_of path ≡ Alt members → AscendStrictly members
normal-ascends path members e = members-ascend members (subst IsNormal e (normal-normal path))
