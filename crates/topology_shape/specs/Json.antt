-- JSON texts, and the members of an object.
use Rattle.std.specs.Prelude.{◌≡◌, ℕ, List, [], ◌∷◌, Some, IsSome, option_and_then}
use Rattle.std.specs.List.{AllZip}
use Rattle.std.specs.Str.{IsUtf8}
use Rattle.serde_json.specs.Data.{Data, Members, no_members, member}
use Rattle.serde_json.specs.View.{items_of}
use Rattle.serde_json.specs.Read.{read}
use Rattle.serde_json.specs.Find.{get, as_str, as_number, as_u64, as_array, as_object}

-- the bytes are a JSON text of this value
abbrev pub IsJson : List ℕ → Data → Type 0
IsJson bytes d = IsUtf8 bytes × (read bytes ≡ Some d)

abbrev pub IsObject : Data → Type 0
IsObject d = IsSome (as_object d)

-- the names of an object's members
abbrev pub keys_of_members : Members → List (List ℕ)
keys_of_members no_members = []
keys_of_members (member key d members) = key ∷ keys_of_members members

-- the member of this name is this text
abbrev pub HasText : List ℕ → Data → List ℕ → Type 0
HasText key d text = option_and_then as_str (get key d) ≡ Some text

-- the member of this name is this whole number of 64 bits
abbrev pub HasNumber : List ℕ → Data → ℕ → Type 0
HasNumber key d n = option_and_then as_u64 (option_and_then as_number (get key d)) ≡ Some n

-- the member of this name is an array of these values
abbrev pub HasItems : List ℕ → Data → List Data → Type 0
HasItems key d items = option_and_then as_array (get key d) ≡ Some (items_of items)

-- the member of this name is an array, whose values describe these elements, place by place
abbrev pub HasElements : {X : Type 0} → (Data → X → Type 0) → List ℕ → Data → List X → Type 0
HasElements R key d xs = (items : List Data) × HasItems key d items × AllZip R items xs
