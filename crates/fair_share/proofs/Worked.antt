-- The worked example.
use Rattle.std.proofs.Common.{◌≡◌, ℕ, zero, suc, ◌+◌, ◌≤◌, ◌<◌, [], ◌∷◌, sum, None, Some, unwrap_or, slice_get, refl, ◌∙◌, ap, arith}
use Rattle.std.proofs.lemmas.List.Elements.{All-from_recursion, All-head}
use Rattle.fair_share.specs.declared.cap.Cap.{Cap}
use Rattle.fair_share.specs.declared.cap.Tenant.{Tenant}
use Rattle.fair_share.specs.Shares.{AreNested, shares_beneath, IsFeasible, IsBoundBy, AreRight, share_rates, IsBestDivision}
use Rattle.fair_share.specs.Examples.{campus, campus_shares}
use Rattle.fair_share.proofs.Levels.{best}

Some-same : {X : Type 0} {a b : X} → Some a ≡ Some b → a ≡ b
Some-same {X} {a} {b} e = ap (λ o. unwrap_or o a) e

pub feasible : IsFeasible campus (share_rates (campus_shares 10 10 25))
feasible = record { demands = (omega arith, (omega arith, (omega arith, (omega arith, tt)))); caps = within }
  where
    within : (c : ℕ) (cap : Cap) → slice_get campus.caps c ≡ Some cap → sum (shares_beneath campus c (share_rates (campus_shares 10 10 25))) ≤ cap.rate
    within zero cap e = let r : 50 ≡ cap.rate = ap (λ c. c.rate) (Some-same e) in omega arith
    within (suc zero) cap e = let r : 20 ≡ cap.rate = ap (λ c. c.rate) (Some-same e) in omega arith
    within (suc (suc c)) cap e = let no : ⊥ = cc in absurd no

lab : (t : Tenant) → IsBoundBy campus (share_rates (campus_shares 10 10 25)) (record { name = t.name; demand = t.demand; under = Some 1 }) 10 1
lab t = record { cap = record { name = _; rate = 20; under = Some 0 }; stands = refl; beneath = refl; full = refl; even = All-from_recursion (λ o. o ≤ 10 + 1) (10 ∷ 10 ∷ []) (omega arith, (omega arith, tt)) }

pub right : AreRight campus (campus_shares 10 10 25)
right = (
  lab (record { name = _; demand = 30; under = Some 1 }),
  (
    lab (record { name = _; demand = 30; under = Some 1 }),
    (
      record { cap = record { name = _; rate = 50; under = None }; stands = refl; beneath = refl; full = refl; even = All-from_recursion (λ o. o ≤ 25 + 1) (10 ∷ 10 ∷ 25 ∷ 5 ∷ []) (omega arith, (omega arith, (omega arith, (omega arith, tt)))) },
      (refl, tt),
    ),
  ),
)

is_demands : AreNested campus
is_demands = record { caps = caps; tenants = tenants }
  where
    caps : (c u : ℕ) (cap : Cap) → slice_get campus.caps c ≡ Some cap → cap.under ≡ Some u → u < c
    caps zero u cap e f = let no : None ≡ Some u = ap (λ c. c.under) (Some-same e) ∙ f in let n : ⊥ = cc in absurd n
    caps (suc zero) u cap e f = let s : 0 ≡ u = Some-same (ap (λ c. c.under) (Some-same e) ∙ f) in omega arith
    caps (suc (suc c)) u cap e f = let no : ⊥ = cc in absurd no

    tenants : (i u : ℕ) (tenant : Tenant) → slice_get campus.tenants i ≡ Some tenant → tenant.under ≡ Some u → u < 2
    tenants zero u t e f = let s : 1 ≡ u = Some-same (ap (λ t. t.under) (Some-same e) ∙ f) in omega arith
    tenants (suc zero) u t e f = let s : 1 ≡ u = Some-same (ap (λ t. t.under) (Some-same e) ∙ f) in omega arith
    tenants (suc (suc zero)) u t e f = let s : 0 ≡ u = Some-same (ap (λ t. t.under) (Some-same e) ∙ f) in omega arith
    tenants (suc (suc (suc zero))) u t e f = let s : 0 ≡ u = Some-same (ap (λ t. t.under) (Some-same e) ∙ f) in omega arith
    tenants (suc (suc (suc (suc i)))) u t e f = let no : ⊥ = cc in absurd no

pub is_best : IsBestDivision campus (share_rates (campus_shares 10 10 25))
is_best = best campus (campus_shares 10 10 25) is_demands feasible right

pub not_full : ¬ AreRight campus (campus_shares 10 10 24)
not_full h = let b : IsBoundBy campus (share_rates (campus_shares 10 10 24)) _ 24 0 = h.1.1.0 in let r : 50 ≡ b.cap.rate = ap (λ c. c.rate) (Some-same b.stands) in let f : 49 ≡ b.cap.rate = b.full in omega arith

pub uneven : ¬ AreRight campus (campus_shares 12 8 25)
uneven h = let b : IsBoundBy campus (share_rates (campus_shares 12 8 25)) _ 8 1 = h.1.0 in let e : 12 ≤ 8 + 1 = All-head (λ o. o ≤ 8 + 1) 12 (8 ∷ []) b.even in omega arith

pub passed : ¬ IsFeasible campus (share_rates (campus_shares 10 10 26))
passed h = let le : 51 ≤ 50 = h.caps 0 _ refl in omega arith
