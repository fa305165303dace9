-- Which part of a topology is the first that is missing or wrong.
use Rattle.std.specs.Prelude.{◌≡◌, ◌≢◌, ◌⊎◌, ℕ, List, [], ◌∷◌, ◌++◌, codes, take, Some, None, slice_get}
use Rattle.std.specs.Fmt.{decimal}
use Rattle.std.specs.List.{AllZip}
use Rattle.serde_json.specs.Data.{Data}
use Rattle.serde_json.specs.Find.{get}
use Rattle.merlin_base.specs.Lexemes.{IsMac, IsIp}
use Rattle.merlin_model.specs.declared.network.Location.{Location}
use Rattle.merlin_model.specs.declared.network.Link.{Link}
use Rattle.merlin_model.specs.declared.policy.Field.{Field}
use Rattle.topology_shape.specs.Json.{IsObject, HasText, HasItems, HasElements}
use Rattle.topology_shape.specs.Format.{HasLexeme, HasName, IsLocationOf, HasEnd, HasOtherEnd, HasPort, HasCapacity, HasBack, HasWeight, IsLinkOf, IsPlaceOf, HasSet, IsFunctionOf, location_names}

-- What is asked of a part, and the words for it.
pub record Demand : Type 1 where
  pub what : List ℕ
  pub holds : Type 0

-- These words are those of the first demand that is not met.
abbrev pub IsFirstUnmet : List Demand → List ℕ → Type 0
IsFirstUnmet [] what = ⊥
IsFirstUnmet (demand ∷ demands) what =
    ((what ≡ demand.what) × ¬ demand.holds) ⊎ (demand.holds × IsFirstUnmet demands what)

-- What is asked of an element: of itself, then of its members in their order.

abbrev pub IsHostThere : Data → Type 0
IsHostThere d = HasText (codes "kind") d (codes "host")

-- one of the three kinds
abbrev pub HasKindWord : Data → Type 0
HasKindWord d =
    IsHostThere d ⊎ (HasText (codes "kind") d (codes "switch") ⊎ HasText (codes "kind") d (codes "middlebox"))

-- a host has addresses too
abbrev pub kind_demands : Data → List Demand
kind_demands d =
    record { what = codes ".kind"; holds = HasKindWord d }
    ∷ record { what = codes ".eth"; holds = IsHostThere d → (eth : ℕ) × HasLexeme IsMac (codes "eth") d eth }
    ∷ record { what = codes ".ip"; holds = IsHostThere d → (ip : ℕ) × HasLexeme IsIp (codes "ip") d ip }
    ∷ []

abbrev pub location_demands : Data → List Demand
location_demands d =
    record { what = []; holds = IsObject d }
    ∷ record { what = codes ".name"; holds = (name : List ℕ) × HasName d name }
    ∷ kind_demands d

abbrev pub link_demands : List (List ℕ) → Data → List Demand
link_demands names d =
    record { what = []; holds = IsObject d }
    ∷ record { what = codes ".a"; holds = (a : ℕ) × HasEnd names (codes "a") d a }
    ∷ record { what = codes ".aport"; holds = (port : ℕ) × HasPort (codes "aport") d port }
    ∷ record { what = codes ".b"; holds = (b : ℕ) × HasOtherEnd names d b }
    ∷ record { what = codes ".bport"; holds = (port : ℕ) × HasPort (codes "bport") d port }
    ∷ record { what = codes ".capacity"; holds = (capacity : ℕ) × HasCapacity (codes "capacity") d capacity }
    ∷ record { what = codes ".back"; holds = (capacity back : ℕ) × HasBack d capacity back }
    ∷ record { what = codes ".weight"; holds = (weight : ℕ) × HasWeight d weight }
    ∷ []

abbrev pub function_demands : List (List ℕ) → Data → List Demand
function_demands names d =
    record { what = []; holds = IsObject d }
    ∷ record { what = codes ".name"; holds = (name : List ℕ) × HasName d name }
    ∷ record { what = codes ".places"; holds = (places : List ℕ) × HasElements (IsPlaceOf names) (codes "places") d places }
    ∷ record { what = codes ".set"; holds = (set : List (Field × ℕ)) × HasSet d set }
    ∷ []

-- the first part of an element that is missing or wrong

abbrev pub IsWrongLocation : Data → List ℕ → Type 0
IsWrongLocation d what = IsFirstUnmet (location_demands d) what

abbrev pub IsWrongLink : List (List ℕ) → Data → List ℕ → Type 0
IsWrongLink names d what = IsFirstUnmet (link_demands names d) what

abbrev pub IsWrongFunction : List (List ℕ) → Data → List ℕ → Type 0
IsWrongFunction names d what = IsFirstUnmet (function_demands names d) what

-- an element of an array, or a member of it, as links[2] and links[2].b
abbrev pub element_words : List ℕ → ℕ → List ℕ → List ℕ
element_words key place what = key ++ (codes "[" ++ (decimal place ++ (codes "]" ++ what)))

-- An element is wrong after others that are right. Its place and what is wrong of it give the words.
pub record HasWrongItem {X : Type 0} (IsRight : Data → X → Type 0) (IsWrong : Data → List ℕ → Type 0)
    (key : List ℕ) (items : List Data) (what : List ℕ) : Type 0 where
  pub place : ℕ
  pub item : Data
  pub stands : slice_get items place ≡ Some item
  pub member : List ℕ
  pub wrong : IsWrong item member
  pub right : List X
  pub before : AllZip IsRight (take place items) right
  pub words : what ≡ element_words key place member

-- the array under a name is missing or no array, or has a wrong element
abbrev pub IsWrongArray : {X : Type 0} → (Data → X → Type 0) → (Data → List ℕ → Type 0) → List ℕ → Data → List ℕ → Type 0
IsWrongArray IsRight IsWrong key d what =
    ((what ≡ key) × ((items : List Data) → ¬ HasItems key d items))
    ⊎ ((items : List Data) × HasItems key d items × HasWrongItem IsRight IsWrong key items what)

-- the first wrong part of each array

abbrev pub AreWrongLocations : Data → List ℕ → Type 0
AreWrongLocations d what = IsWrongArray IsLocationOf IsWrongLocation (codes "locations") d what

abbrev pub AreWrongLinks : List (List ℕ) → Data → List ℕ → Type 0
AreWrongLinks names d what = IsWrongArray (IsLinkOf names) (IsWrongLink names) (codes "links") d what

-- the functions may be missing
abbrev pub AreWrongFunctions : List (List ℕ) → Data → List ℕ → Type 0
AreWrongFunctions names d what =
    (get (codes "functions") d ≢ None)
    × IsWrongArray (IsFunctionOf names) (IsWrongFunction names) (codes "functions") d what

-- the first part that is wrong where the locations, of these names, are right
abbrev pub IsWrongAfterLocations : List (List ℕ) → Data → List ℕ → Type 0
IsWrongAfterLocations names d what =
    AreWrongLinks names d what
    ⊎ ((links : List Link) × HasElements (IsLinkOf names) (codes "links") d links × AreWrongFunctions names d what)

-- This is the first part of the value that is missing or wrong, in the order of locations, links and functions.
abbrev pub IsMisshapen : Data → List ℕ → Type 0
IsMisshapen d what =
    ((what ≡ codes "top") × ¬ IsObject d)
    ⊎ (IsObject d × (AreWrongLocations d what
    ⊎ ((locations : List Location) × HasElements IsLocationOf (codes "locations") d locations
    × IsWrongAfterLocations (location_names locations) d what)))
