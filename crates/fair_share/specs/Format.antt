-- Which JSON value describes which caps and tenants, by name.
use Rattle.std.specs.Prelude.{◌≡◌, ℕ, List, codes, Option, None, Some}
use Rattle.std.specs.List.{AllZip}
use Rattle.serde_json.specs.Data.{Data}
use Rattle.serde_json.specs.Find.{get}
use Rattle.merlin_base.specs.Lexemes.{IsRate}
use Rattle.fair_share.specs.declared.entry.NamedRate.{NamedRate}
use Rattle.fair_share.specs.declared.entry.NamedRates.{NamedRates}
use Rattle.topology_shape.specs.Format.{HasName}
use Rattle.topology_shape.specs.Json.{IsObject, HasText, HasItems}

-- the member of this name is a text of a rate
pub record HasRate (key : List ℕ) (d : Data) (rate : ℕ) : Type 0 where
  pub text : List ℕ
  pub stands : HasText key d text
  pub form : IsRate text rate

-- the text of the member `under`, or none where there is no such member
abbrev pub HasUnder : Data → Option (List ℕ) → Type 0
HasUnder d None = get (codes "under") d ≡ None
HasUnder d (Some text) = HasText (codes "under") d text

-- An object describes a cap or a tenant, whose rate is the member of this name.
pub record IsEntryOf (key : List ℕ) (d : Data) (entry : NamedRate) : Type 0 where
  pub object : IsObject d
  pub name : HasName d entry.name
  pub rate : HasRate key d entry.rate
  pub under : HasUnder d entry.under

-- the member of the first name is an array, whose values describe these entries, place by place
abbrev pub HasEntries : List ℕ → List ℕ → Data → List NamedRate → Type 0
HasEntries key rate_key d entries =
    (items : List Data) × HasItems key d items × AllZip (IsEntryOf rate_key) items entries

-- The value has these caps and tenants in the order of its arrays.
pub record AreEntriesOf (d : Data) (entries : NamedRates) : Type 0 where
  pub object : IsObject d
  pub caps : HasEntries (codes "caps") (codes "rate") d entries.caps.items
  pub tenants : HasEntries (codes "tenants") (codes "demand") d entries.tenants.items
