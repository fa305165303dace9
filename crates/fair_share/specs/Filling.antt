-- What a division keeps while it is filled.
use Rattle.std.specs.Prelude.{ℕ, ◌≡◌, ◌≢◌, ◌≤◌, ◌<◌, ◌+◌, ◌^◌, ◌==◌, ◌⊎◌, ◌↔◌, ⊤, Bool, true, false, min, List, length, sum, Option, Some, MatchOption, slice_get, slice_index, slice_index_or, All, if◌then◌else◌}
use Rattle.std.specs.Option.{option_map_or}
use Rattle.fair_share.specs.declared.cap.Cap.{Cap}
use Rattle.fair_share.specs.declared.cap.Tenant.{Tenant}
use Rattle.fair_share.specs.declared.share.Share.{Share}
use Rattle.fair_share.specs.Shares.{Demands, is_on_way, is_beneath, shares_beneath, given_to, IsFeasible, IsBoundBy, IsRight}

abbrev pub demands : List Cap → List Tenant → Demands
demands caps tenants = record { caps = caps; tenants = tenants }

-- a place among the caps, or none
abbrev pub IsCapPlace : List Cap → Option ℕ → Type 0
IsCapPlace caps at = MatchOption at ⊤ (λ c. c < length caps)

-- each cap from a place up has room for an amount beside what is used
abbrev pub HaveRoomAbove : List Cap → Option ℕ → List ℕ → ℕ → Type 0
HaveRoomAbove caps at used amount = (c : ℕ) (cap : Cap) → slice_get caps c ≡ Some cap → is_on_way caps (length caps) at c ≡ true → slice_index used c + amount ≤ cap.rate

-- what is given beneath each cap
pub record AreUsed (d : Demands) (shares used : List ℕ) : Type 0 where
  pub as_many : length used ≡ length d.caps
  pub each : (c : ℕ) → c < length d.caps → slice_index used c ≡ sum (shares_beneath d c shares)

-- whether a tenant is directly under a cap
abbrev pub is_under : ℕ → Tenant → Bool
is_under c tenant = option_map_or (λ k. k == c) tenant.under false

-- what is given directly under each cap
pub record AreDirect (caps : List Cap) (tenants : List Tenant) (shares sums : List ℕ) : Type 0 where
  pub as_many : length sums ≡ length caps
  pub each : (c : ℕ) → c < length caps → slice_index sums c ≡ sum (given_to (is_under c) tenants shares)

-- the same for some tenants, who are given less than 2^128 together
pub record AreSomeDirect (caps : List Cap) (sums : List ℕ) : Type 0 where
  pub tenants : List Tenant
  pub shares : List ℕ
  pub direct : AreDirect caps tenants shares sums
  pub small : sum shares < 2 ^ 128

-- the tenant has what it asks for, or a cap bounds its share
abbrev pub IsFinalShare : Demands → List ℕ → Tenant → ℕ → Type 0
IsFinalShare d shares tenant share = (share ≡ tenant.demand) ⊎ ((c : ℕ) × IsBoundBy d shares tenant share c)

-- a cap from a place up has no room for an amount beside what is used
pub record IsBlocked (caps : List Cap) (at : Option ℕ) (used : List ℕ) (amount : ℕ) : Type 0 where
  pub place : ℕ
  pub cap : Cap
  pub stands : slice_get caps place ≡ Some cap
  pub met : is_on_way caps (length caps) at place ≡ true
  pub short : cap.rate < slice_index used place + amount

-- The shares at a level: those that still rise have it, or all that they ask for; none has more; the others are settled.
pub record IsFilled (d : Demands) (shares : List ℕ) (rising : List Bool) (used : List ℕ) (level : ℕ) : Type 0 where
  pub feasible : IsFeasible d shares
  pub taken : AreUsed d shares used
  pub as_many : length rising ≡ length d.tenants
  pub settled : (i : ℕ) (tenant : Tenant) → slice_get d.tenants i ≡ Some tenant → slice_index_or rising i false ≡ false → IsFinalShare d shares tenant (slice_index shares i)
  pub most : (i : ℕ) → i < length d.tenants → slice_index shares i ≤ level
  pub risen : (i : ℕ) (tenant : Tenant) → slice_get d.tenants i ≡ Some tenant → slice_index_or rising i false ≡ true → slice_index shares i ≡ min level tenant.demand

-- what a share becomes at a level
abbrev pub share_at : Bool → ℕ → ℕ → ℕ → ℕ
share_at rises share demand level = if rises then min level demand else share

-- A feasible division in which those that rise have a level, or all that they ask for, and the others what they had.
pub record IsRaised (d : Demands) (old : List ℕ) (rising : List Bool) (level : ℕ) (shares used : List ℕ) : Type 0 where
  pub feasible : IsFeasible d shares
  pub taken : AreUsed d shares used
  pub each : (i : ℕ) (tenant : Tenant) → slice_get d.tenants i ≡ Some tenant →
      slice_index shares i ≡ share_at (slice_index_or rising i false) (slice_index old i) tenant.demand level

abbrev pub IsEither : ℕ → ℕ → ℕ → Type 0
IsEither n a b = (n ≡ a) ⊎ (n ≡ b)

-- Between a level and the next: the first n tenants have gone on, and of the others some have.
pub record IsBetweenLevels (d : Demands) (shares : List ℕ) (rising : List Bool) (used : List ℕ) (level n : ℕ) : Type 0 where
  pub feasible : IsFeasible d shares
  pub taken : AreUsed d shares used
  pub as_many : length rising ≡ length d.tenants
  pub settled : (i : ℕ) (tenant : Tenant) → slice_get d.tenants i ≡ Some tenant → slice_index_or rising i false ≡ false → IsFinalShare d shares tenant (slice_index shares i)
  pub most : (i : ℕ) → i < length d.tenants → slice_index shares i ≤ level + 1
  pub gone : (i : ℕ) (tenant : Tenant) → i < n → slice_get d.tenants i ≡ Some tenant → slice_index_or rising i false ≡ true → slice_index shares i ≡ min (level + 1) tenant.demand
  pub left : (i : ℕ) (tenant : Tenant) → n ≤ i → slice_get d.tenants i ≡ Some tenant →
      slice_index_or rising i false ≡ true → IsEither (slice_index shares i) (min level tenant.demand) (min (level + 1) tenant.demand)

-- the greatest share beneath each cap, by the numbers that it is within
pub record AreTops (d : Demands) (shares tops : List ℕ) : Type 0 where
  pub as_many : length tops ≡ length d.caps
  pub each : (c m : ℕ) → c < length d.caps → (slice_index tops c ≤ m) ↔ All (λ x. x ≤ m) (shares_beneath d c shares)

-- a cap from a place up is full, and holds no share above one by more than 1
pub record IsFullAt (caps : List Cap) (at : Option ℕ) (used tops : List ℕ) (share c : ℕ) : Type 0 where
  pub cap : Cap
  pub stands : slice_get caps c ≡ Some cap
  pub met : is_on_way caps (length caps) at c ≡ true
  pub full : slice_index used c ≡ cap.rate
  pub even : slice_index tops c ≤ share + 1

-- the innermost such cap: a cap is under an earlier one, so it is the last
pub record IsInnermost (caps : List Cap) (at : Option ℕ) (used tops : List ℕ) (share c : ℕ) : Type 0 where
  pub bounds : IsFullAt caps at used tops share c
  pub last : (other : ℕ) → IsFullAt caps at used tops share other → other ≤ c

-- A line names the demand where the share is what the tenant asks for, or else the innermost cap that bounds it.
pub record IsNamedBy (d : Demands) (shares : List ℕ) (tenant : Tenant) (share c : ℕ) : Type 0 where
  pub bounds : IsBoundBy d shares tenant share c
  pub last : (other : ℕ) → IsBoundBy d shares tenant share other → other ≤ c
  pub asks_more : share ≢ tenant.demand

abbrev pub IsNamed : Demands → List ℕ → Tenant → Share → Type 0
IsNamed d shares tenant line = MatchOption line.cap (line.rate ≡ tenant.demand) (IsNamedBy d shares tenant line.rate)

-- By the sums and the greatest shares, the line names the demand where the share is that, or else a cap above the tenant that bounds it.
abbrev pub IsRightBy : List Cap → List ℕ → List ℕ → Tenant → Share → Type 0
IsRightBy caps used tops tenant share =
    MatchOption share.cap (share.rate ≡ tenant.demand) (IsFullAt caps tenant.under used tops share.rate)

-- The line is right, the share is within the demand, and no cap above the tenant is passed.
pub record IsFine (d : Demands) (shares : List ℕ) (tenant : Tenant) (share : Share) : Type 0 where
  pub right : IsRight d shares tenant share
  pub demand : share.rate ≤ tenant.demand
  pub caps : (c : ℕ) (cap : Cap) → slice_get d.caps c ≡ Some cap → is_beneath d c tenant ≡ true → sum (shares_beneath d c shares) ≤ cap.rate
