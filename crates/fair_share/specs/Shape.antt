-- Which member is the first that is missing or wrong.
use Rattle.std.specs.Prelude.{◌≡◌, ◌<◌, ◌⊎◌, ℕ, List, [], ◌++◌, codes, Option, Some, slice_get}
use Rattle.std.specs.Fmt.{decimal}
use Rattle.serde_json.specs.Data.{Data}
use Rattle.fair_share.specs.declared.entry.NamedRate.{NamedRate}
use Rattle.fair_share.specs.declared.entry.ElementPart.{ElementPart}
use Rattle.fair_share.specs.declared.entry.ElementPart.TheVariants.{Itself, Name, Rate, Under}
use Rattle.topology_shape.specs.Json.{IsObject, HasItems}
use Rattle.topology_shape.specs.Format.{HasName}
use Rattle.fair_share.specs.Format.{HasRate, HasUnder, IsEntryOf, HasEntries}

-- This part of an element is missing or wrong, and those before it are right.
abbrev pub IsWrongPart : List ℕ → Data → ElementPart → Type 0
IsWrongPart key d Itself = ¬ IsObject d
IsWrongPart key d Name = IsObject d × ((name : List ℕ) → ¬ HasName d name)
IsWrongPart key d Rate = IsObject d × ((name : List ℕ) × HasName d name) × ((rate : ℕ) → ¬ HasRate key d rate)
IsWrongPart key d Under =
    IsObject d × ((name : List ℕ) × HasName d name) × ((rate : ℕ) × HasRate key d rate)
    × ((under : Option (List ℕ)) → ¬ HasUnder d under)

-- the words for a part, behind those for its element
abbrev pub part_words : List ℕ → ElementPart → List ℕ
part_words key Itself = []
part_words key Name = codes ".name"
part_words key Rate = codes "." ++ key
part_words key Under = codes ".under"

-- the words for an element of an array, as tenants[2], or a part of it, as tenants[2].name
abbrev pub entry_words : List ℕ → List ℕ → ℕ → ElementPart → List ℕ
entry_words key rate_key place part =
    key ++ (codes "[" ++ (decimal place ++ (codes "]" ++ part_words rate_key part)))

-- The first element that is wrong gives the words.
pub record HasWrongElement (key rate_key : List ℕ) (items : List Data) (what : List ℕ) : Type 0 where
  pub place : ℕ
  pub item : Data
  pub stands : slice_get items place ≡ Some item
  pub part : ElementPart
  pub wrong : IsWrongPart rate_key item part
  pub before : (i : ℕ) (d : Data) → i < place → slice_get items i ≡ Some d → (entry : NamedRate) × IsEntryOf rate_key d entry
  pub words : what ≡ entry_words key rate_key place part

-- the member of this name is no array, or has a wrong element
abbrev pub IsWrongEntryArray : List ℕ → List ℕ → Data → List ℕ → Type 0
IsWrongEntryArray key rate_key d what =
    ((what ≡ key) × ((items : List Data) → ¬ HasItems key d items))
    ⊎ ((items : List Data) × HasItems key d items × HasWrongElement key rate_key items what)

-- the caps are wrong, or they are right and the tenants are wrong
abbrev pub IsWrongMember : Data → List ℕ → Type 0
IsWrongMember d what =
    IsWrongEntryArray (codes "caps") (codes "rate") d what
    ⊎ (((caps : List NamedRate) × HasEntries (codes "caps") (codes "rate") d caps)
    × IsWrongEntryArray (codes "tenants") (codes "demand") d what)

-- These are the words for the first part of the value that is missing or wrong.
abbrev pub AreMisshapenDemands : Data → List ℕ → Type 0
AreMisshapenDemands d what = ((what ≡ codes "top") × ¬ IsObject d) ⊎ (IsObject d × IsWrongMember d what)
