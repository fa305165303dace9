-- Divisions of capacities among tenants, and which of them is best.
use Rattle.std.specs.Prelude.{ℕ, zero, suc, ◌≡◌, ◌≤◌, ◌<◌, ◌+◌, ◌==◌, ◌||◌, ◌⊎◌, ⊤, Bool, true, false, List, [], ◌∷◌, ◌++◌, length, map, filter, sum, Option, None, Some, MatchOption, slice_get}
use Rattle.std.specs.Option.{option_map_or}
use Rattle.std.specs.List.{All, AllByRecursion, AllZip, zip}
use Rattle.std.specs.List.Sorted.{IsPermutation, IsNonDecreasing}
use Rattle.merlin_base.specs.Lexemes.{IsName}
use Rattle.merlin_model.specs.Networks.{AreDifferent}
use Rattle.merlin_model.specs.declared.limits.TheConstants.{MAX_RATE}
use Rattle.fair_share.specs.declared.limits.TheConstants.{MAX_CAPS, MAX_TENANTS}
use Rattle.fair_share.specs.declared.cap.Cap.{Cap}
use Rattle.fair_share.specs.declared.cap.Tenant.{Tenant}
use Rattle.fair_share.specs.declared.share.Share.{Share}

-- Caps and tenants go by their place.
pub record Demands : Type 0 where
  pub caps : List Cap
  pub tenants : List Tenant

-- each cap is under an earlier one, or under none
abbrev pub IsForest : List Cap → Type 0
IsForest caps = (c u : ℕ) (cap : Cap) → slice_get caps c ≡ Some cap → cap.under ≡ Some u → u < c

-- each tenant is under a cap that is there, or under none
abbrev pub HavePlaces : List Cap → List Tenant → Type 0
HavePlaces caps tenants =
    (i u : ℕ) (tenant : Tenant) → slice_get tenants i ≡ Some tenant → tenant.under ≡ Some u → u < length caps

pub record AreNested (d : Demands) : Type 0 where
  pub caps : IsForest d.caps
  pub tenants : HavePlaces d.caps d.tenants

-- the names of the caps, then those of the tenants
abbrev pub demand_names : Demands → List (List ℕ)
demand_names d = map (λ cap. cap.name) d.caps ++ map (λ tenant. tenant.name) d.tenants

-- What all demands keep that are read: names of which no two are alike, and numbers within their limits.
pub record IsDemands (d : Demands) : Type 0 where
  pub nested : AreNested d
  pub names : AllByRecursion IsName (demand_names d)
  pub differ : AreDifferent (demand_names d)
  pub few_caps : length d.caps ≤ MAX_CAPS
  pub few_tenants : length d.tenants ≤ MAX_TENANTS
  pub rates : AllByRecursion (λ cap. cap.rate ≤ MAX_RATE) d.caps
  pub demands : AllByRecursion (λ tenant. tenant.demand ≤ MAX_RATE) d.tenants

-- the cap that a cap is under, if any
abbrev pub cap_above : List Cap → ℕ → Option ℕ
cap_above caps c = option_map_or (λ cap. cap.under) (slice_get caps c) None

-- whether cap c is met on the way up, in at most n caps: the cap that one is under, the one that this is under, and so on
abbrev pub is_on_way : List Cap → ℕ → Option ℕ → ℕ → Bool
is_on_way caps zero at c = false
is_on_way caps (suc n) None c = false
is_on_way caps (suc n) (Some k) c = (k == c) || is_on_way caps n (cap_above caps k) c

-- whether a tenant is beneath a cap. A cap is under an earlier one, so no way up has more caps than there are.
abbrev pub is_beneath : Demands → ℕ → Tenant → Bool
is_beneath d c tenant = is_on_way d.caps (length d.caps) tenant.under c

-- what the tenants are given of whom something is true
abbrev pub given_to : (Tenant → Bool) → List Tenant → List ℕ → List ℕ
given_to is_one tenants shares = map (λ p. p.1) (filter (λ p. is_one p.0) (zip tenants shares))

-- what the tenants beneath a cap are given
abbrev pub shares_beneath : Demands → ℕ → List ℕ → List ℕ
shares_beneath d c shares = given_to (is_beneath d c) d.tenants shares

-- A division gives each tenant a rate. It is feasible when none has more than it asks for, and what is given beneath
-- a cap is within the cap.
pub record IsFeasible (d : Demands) (shares : List ℕ) : Type 0 where
  pub demands : AllZip (λ tenant share. share ≤ tenant.demand) d.tenants shares
  pub caps : (c : ℕ) (cap : Cap) → slice_get d.caps c ≡ Some cap → sum (shares_beneath d c shares) ≤ cap.rate

-- the same numbers in ascending order
pub record IsAscendingForm (xs ys : List ℕ) : Type 0 where
  pub same : IsPermutation xs ys
  pub ascending : IsNonDecreasing ys

-- a list of numbers is greater than another where they first differ
abbrev pub IsGreater : List ℕ → List ℕ → Type 0
IsGreater [] ys = ⊥
IsGreater (x ∷ xs) [] = ⊤
IsGreater (x ∷ xs) (y ∷ ys) = (y < x) ⊎ ((x ≡ y) × IsGreater xs ys)

-- A feasible division is best when no feasible one is greater, both in ascending order: the least share can't be raised,
-- and with it as it is the next can't, and so on.
pub record IsBestDivision (d : Demands) (shares : List ℕ) : Type 0 where
  pub feasible : IsFeasible d shares
  pub greatest : (other ordered other_ordered : List ℕ) → IsFeasible d other → IsAscendingForm shares ordered → IsAscendingForm other other_ordered →
      ¬ IsGreater other_ordered ordered

-- Cap c is why a share isn't more: what is given beneath it fills it, and none of that is greater by more than 1.
pub record IsBoundBy (d : Demands) (shares : List ℕ) (tenant : Tenant) (share c : ℕ) : Type 0 where
  pub cap : Cap
  pub stands : slice_get d.caps c ≡ Some cap
  pub beneath : is_beneath d c tenant ≡ true
  pub full : sum (shares_beneath d c shares) ≡ cap.rate
  pub even : All (λ other. other ≤ share + 1) (shares_beneath d c shares)

-- A line names the cap that bounds the share, or the demand where the share is what the tenant asks for.
abbrev pub IsRight : Demands → List ℕ → Tenant → Share → Type 0
IsRight d shares tenant share = MatchOption share.cap (share.rate ≡ tenant.demand) (IsBoundBy d shares tenant share.rate)

abbrev pub share_rates : List Share → List ℕ
share_rates shares = map (λ s. s.rate) shares

abbrev pub AreRight : Demands → List Share → Type 0
AreRight d shares = AllZip (IsRight d (share_rates shares)) d.tenants shares

-- The division is feasible, and each line is right.
pub record IsSound (d : Demands) (shares : List Share) : Type 0 where
  pub feasible : IsFeasible d (share_rates shares)
  pub right : AreRight d shares

-- a cap that a tenant is beneath is given away beyond its rate
pub record IsBeneathExcess (d : Demands) (shares : List ℕ) (tenant : Tenant) : Type 0 where
  pub place : ℕ
  pub cap : Cap
  pub stands : slice_get d.caps place ≡ Some cap
  pub beneath : is_beneath d place tenant ≡ true
  pub excess : cap.rate < sum (shares_beneath d place shares)

-- The line isn't right, or the tenant is given more than it asks for, or it is beneath a cap that is passed.
abbrev pub IsUnsound : Demands → List ℕ → Tenant → Share → Type 0
IsUnsound d shares tenant share =
    (¬ IsRight d shares tenant share) ⊎ ((tenant.demand < share.rate) ⊎ IsBeneathExcess d shares tenant)

-- the first tenant at fault
pub record IsFirstUnsound (d : Demands) (shares : List Share) (place : ℕ) : Type 0 where
  pub tenant : Tenant
  pub stands : slice_get d.tenants place ≡ Some tenant
  pub share : Share
  pub given : slice_get shares place ≡ Some share
  pub unsound : IsUnsound d (share_rates shares) tenant share
  pub before : (i : ℕ) (t : Tenant) (s : Share) → i < place → slice_get d.tenants i ≡ Some t →
      slice_get shares i ≡ Some s → ¬ IsUnsound d (share_rates shares) t s
