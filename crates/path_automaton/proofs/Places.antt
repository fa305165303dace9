-- Paths of equal order are the same.
use Rattle.std.proofs.Common.{◌≡◌, Bool, true, false, refl, ◌∙◌, ap}
use Rattle.std.specs.Ordering.{is_eq, ordering_reverse}
use Rattle.std.specs.Cmp.Lexicographic.{nat_list_cmp_total}
use Rattle.std.specs.declared.cmp.Ordering.{Ordering}
use Rattle.std.specs.declared.cmp.Ordering.TheVariants.{Less, Equal, Greater}
use Rattle.merlin_model.specs.declared.policy.Path.{Path}
use Rattle.path_regex.specs.Order.{spelled, order}
use Rattle.path_regex.proofs.Ordered.{same}

abbrev pub is : Path → Path → Bool
is a b = is_eq (order a b)

pub false-true : false ≡ true → ⊥
false-true e = cc

pub is-same : (a b : Path) → is a b ≡ true → a ≡ b
is-same a b e = same a b (by (order a b) e)
  where
    by : (o : Ordering) → is_eq o ≡ true → o ≡ Equal
    by Less e = absurd (false-true e)
    by Equal e = refl
    by Greater e = absurd (false-true e)

pub is-turned : (a b : Path) → is a b ≡ is b a
is-turned a b = ap is_eq (nat_list_cmp_total.antisymm (spelled a) (spelled b)) ∙ by (order b a)
  where
    by : (o : Ordering) → is_eq (ordering_reverse o) ≡ is_eq o
    by Less = refl
    by Equal = refl
    by Greater = refl

pub is-itself : (a : Path) → is a a ≡ true
is-itself a = by (order a a) (nat_list_cmp_total.antisymm (spelled a) (spelled a))
  where
    by : (o : Ordering) → o ≡ ordering_reverse o → is_eq o ≡ true
    by Less e = cc
    by Equal e = refl
    by Greater e = cc
