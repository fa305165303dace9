-- Which bytes stand for which demands, and why others are refused.
use Rattle.std.specs.Prelude.{◌≡◌, ◌<◌, ◌≤◌, ◌+◌, ◌⊎◌, ⊤, ℕ, List, map, ◌++◌, length, take, codes, Option, None, Some, slice_get}
use Rattle.serde_json.specs.Data.{Data}
use Rattle.merlin_model.specs.Networks.{AreDifferent}
use Rattle.fair_share.specs.declared.limits.TheConstants.{MAX_CAPS, MAX_TENANTS}
use Rattle.fair_share.specs.declared.cap.Cap.{Cap}
use Rattle.fair_share.specs.declared.cap.Tenant.{Tenant}
use Rattle.fair_share.specs.declared.entry.NamedRate.{NamedRate}
use Rattle.fair_share.specs.declared.entry.NamedRates.{NamedRates}
use Rattle.fair_share.specs.declared.fault.DemandFault.{DemandFault}
use Rattle.fair_share.specs.declared.fault.DemandFault.TheVariants.{Json, Shape, TooLarge, DuplicateName, UnknownCap, OutOfMemory}
use Rattle.topology_shape.specs.Json.{IsJson}
use Rattle.fair_share.specs.Format.{AreEntriesOf}
use Rattle.fair_share.specs.Shape.{AreMisshapenDemands}
use Rattle.fair_share.specs.Shares.{Demands}

abbrev pub names_written : List NamedRate → List (List ℕ)
names_written entries = map (λ entry. entry.name) entries

-- the names of the caps, then those of the tenants
abbrev pub all_names : NamedRates → List (List ℕ)
all_names entries = names_written entries.caps.items ++ names_written entries.tenants.items

abbrev pub AreFew : NamedRates → Type 0
AreFew entries = (length entries.caps.items ≤ MAX_CAPS) × (length entries.tenants.items ≤ MAX_TENANTS)

-- the place of the name among these names; where nothing is named, none
abbrev pub IsPlaceOfCap : List (List ℕ) → Option (List ℕ) → Option ℕ → Type 0
IsPlaceOfCap names None under = under ≡ None
IsPlaceOfCap names (Some name) under = (k : ℕ) × (under ≡ Some k) × (slice_get names k ≡ Some name)

pub record IsCapOf (names : List (List ℕ)) (entry : NamedRate) (cap : Cap) : Type 0 where
  pub name : cap.name ≡ entry.name
  pub rate : cap.rate ≡ entry.rate
  pub under : IsPlaceOfCap names entry.under cap.under

pub record IsTenantOf (names : List (List ℕ)) (entry : NamedRate) (tenant : Tenant) : Type 0 where
  pub name : tenant.name ≡ entry.name
  pub demand : tenant.demand ≡ entry.rate
  pub under : IsPlaceOfCap names entry.under tenant.under

-- Each cap is under one of those before it.
pub record AreCapsOf (entries : List NamedRate) (caps : List Cap) : Type 0 where
  pub as_many : length caps ≡ length entries
  pub each : (c : ℕ) (entry : NamedRate) (cap : Cap) → slice_get entries c ≡ Some entry → slice_get caps c ≡ Some cap →
      IsCapOf (take c (names_written entries)) entry cap

-- Each tenant is under one of the caps.
pub record AreTenantsOf (names : List (List ℕ)) (entries : List NamedRate) (tenants : List Tenant) : Type 0 where
  pub as_many : length tenants ≡ length entries
  pub each : (i : ℕ) (entry : NamedRate) (tenant : Tenant) → slice_get entries i ≡ Some entry →
      slice_get tenants i ≡ Some tenant → IsTenantOf names entry tenant

-- NamedRates are demands where they are few, no two have one name, and each is under a cap that it may be under.
pub record AreDemandsOf (entries : NamedRates) (d : Demands) : Type 0 where
  pub few : AreFew entries
  pub differ : AreDifferent (all_names entries)
  pub caps : AreCapsOf entries.caps.items d.caps
  pub tenants : AreTenantsOf (names_written entries.caps.items) entries.tenants.items d.tenants

-- the bytes are a JSON text that describes these entries
abbrev pub AreWritten : List ℕ → NamedRates → Type 0
AreWritten bytes entries = (value : Data) × IsJson bytes value × AreEntriesOf value entries

-- the bytes stand for these demands
abbrev pub IsDemandsText : List ℕ → Demands → Type 0
IsDemandsText bytes d = (entries : NamedRates) × AreWritten bytes entries × AreDemandsOf entries d

-- Why entries are no demands.

-- caps are counted before tenants, and either only to one past its limit
abbrev pub IsTooLarge : NamedRates → List ℕ → ℕ → Type 0
IsTooLarge entries what count =
    ((MAX_CAPS < length entries.caps.items) × (what ≡ codes "caps") × (count ≡ MAX_CAPS + 1))
    ⊎ ((length entries.caps.items ≤ MAX_CAPS) × (MAX_TENANTS < length entries.tenants.items)
    × (what ≡ codes "tenants") × (count ≡ MAX_TENANTS + 1))

-- the first name that stands before it too
pub record IsFirstRepeatedName (names : List (List ℕ)) (name : List ℕ) : Type 0 where
  pub place : ℕ
  pub stands : slice_get names place ≡ Some name
  pub earlier : ℕ
  pub before : earlier < place
  pub same : slice_get names earlier ≡ Some name
  pub apart : AreDifferent (take place names)

-- an entry is under nothing, or under one of these names
abbrev pub IsKnown : List (List ℕ) → NamedRate → Type 0
IsKnown names entry = (under : Option ℕ) × IsPlaceOfCap names entry.under under

-- The name that the first entry is under that is none of those which it may be under: names_for gives these, by the place of the entry.
pub record IsFirstUnknown (names_for : ℕ → List (List ℕ)) (entries : List NamedRate) (name : List ℕ) : Type 0 where
  pub place : ℕ
  pub entry : NamedRate
  pub stands : slice_get entries place ≡ Some entry
  pub under : entry.under ≡ Some name
  pub unknown : ¬ IsKnown (names_for place) entry
  pub before : (i : ℕ) (e : NamedRate) → i < place → slice_get entries i ≡ Some e → IsKnown (names_for i) e

-- all entries are under names that they may be under
abbrev pub AreKnown : (ℕ → List (List ℕ)) → List NamedRate → Type 0
AreKnown names_for entries = (i : ℕ) (e : NamedRate) → slice_get entries i ≡ Some e → IsKnown (names_for i) e

-- the names before a cap, and those of all caps
abbrev pub names_before : List NamedRate → ℕ → List (List ℕ)
names_before caps c = take c (names_written caps)

abbrev pub all_names_of : List NamedRate → ℕ → List (List ℕ)
all_names_of caps i = names_written caps

-- the first cap, or else the first tenant, that is under no cap that it may be under
abbrev pub IsUnknown : NamedRates → List ℕ → Type 0
IsUnknown entries name =
    IsFirstUnknown (names_before entries.caps.items) entries.caps.items name
    ⊎ (AreKnown (names_before entries.caps.items) entries.caps.items
    × IsFirstUnknown (all_names_of entries.caps.items) entries.tenants.items name)

-- Why entries are refused, each rule only where those before it are kept.
abbrev pub AreRefused : NamedRates → DemandFault → Type 0
AreRefused entries Json = ⊥
AreRefused entries (Shape what) = ⊥
AreRefused entries (TooLarge what count) = IsTooLarge entries what count
AreRefused entries (DuplicateName name) = AreFew entries × IsFirstRepeatedName (all_names entries) name
AreRefused entries (UnknownCap name) = AreFew entries × AreDifferent (all_names entries) × IsUnknown entries name
AreRefused entries OutOfMemory = ⊤

abbrev pub HasRefused : List ℕ → DemandFault → Type 0
HasRefused bytes fault = (entries : NamedRates) × AreWritten bytes entries × AreRefused entries fault

-- Why bytes are refused. Want of memory has no cause.
abbrev pub RefusesDemands : List ℕ → DemandFault → Type 0
RefusesDemands bytes Json = (value : Data) → ¬ IsJson bytes value
RefusesDemands bytes (Shape what) = (value : Data) × IsJson bytes value × AreMisshapenDemands value what
RefusesDemands bytes (TooLarge what count) = HasRefused bytes (TooLarge what count)
RefusesDemands bytes (DuplicateName name) = HasRefused bytes (DuplicateName name)
RefusesDemands bytes (UnknownCap name) = HasRefused bytes (UnknownCap name)
RefusesDemands bytes OutOfMemory = ⊤
