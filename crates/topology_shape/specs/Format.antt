-- The shape of a topology: which JSON value describes which locations, links and functions. Whether they are a network is
-- asked afterwards.
use Rattle.std.specs.Prelude.{◌≡◌, ◌≤◌, ◌⊎◌, ℕ, List, [], ◌++◌, map, codes, length, Option, None, Some, Contains, slice_get, option_to_list, All}
use Rattle.serde_json.specs.Data.{Data, Members}
use Rattle.serde_json.specs.Find.{get, as_str, as_object}
use Rattle.merlin_base.specs.Lexemes.{IsName, IsMac, IsIp, IsRate}
use Rattle.merlin_model.specs.declared.network.LocationKind.{LocationKind}
use Rattle.merlin_model.specs.declared.network.LocationKind.TheVariants.{Host, Switch, Middlebox}
use Rattle.merlin_model.specs.declared.network.Location.{Location}
use Rattle.merlin_model.specs.declared.network.Link.{Link}
use Rattle.merlin_model.specs.declared.network.FnDecl.{FnDecl}
use Rattle.merlin_model.specs.declared.policy.Field.{Field}
use Rattle.merlin_model.specs.declared.policy.Field.TheVariants.{EthSrc, IpSrc, IpDst, Sport, Dport}
use Rattle.merlin_model.specs.Networks.{Network}
use Rattle.topology_shape.specs.declared.settings.Settings.{Settings}
use Rattle.topology_shape.specs.declared.limits.TheConstants.{MAX_PORT, MAX_LINK_WEIGHT, MAX_SET_PORT}
use Rattle.topology_shape.specs.Json.{keys_of_members, HasText, HasNumber, HasElements}

-- Members of one object.

-- the member of this name is a text of this form, which stands for n
abbrev pub HasLexeme : (List ℕ → ℕ → Type 0) → List ℕ → Data → ℕ → Type 0
HasLexeme form key d n = (text : List ℕ) × HasText key d text × form text n

-- the member of this name is a number up to a limit
abbrev pub HasNumberUpTo : ℕ → List ℕ → Data → ℕ → Type 0
HasNumberUpTo limit key d n = HasNumber key d n × (n ≤ limit)

-- the member `name` is a name
abbrev pub HasName : Data → List ℕ → Type 0
HasName d name = HasText (codes "name") d name × IsName name

-- Locations.

-- what stands there; a host has its two addresses
abbrev pub HasKind : Data → LocationKind → Type 0
HasKind d (Host address) =
    HasText (codes "kind") d (codes "host")
    × HasLexeme IsMac (codes "eth") d address.eth × HasLexeme IsIp (codes "ip") d address.ip
HasKind d Switch = HasText (codes "kind") d (codes "switch")
HasKind d Middlebox = HasText (codes "kind") d (codes "middlebox")

-- an object describes a location
pub record IsLocationOf (d : Data) (location : Location) : Type 0 where
  pub name : HasName d location.name
  pub kind : HasKind d location.kind

abbrev pub location_names : List Location → List (List ℕ)
location_names locations = map (λ l. l.name) locations

-- Links between locations of these names.

-- this number is that of a location of this name
abbrev pub IsNumberOf : List (List ℕ) → List ℕ → ℕ → Type 0
IsNumberOf names name loc = slice_get names loc ≡ Some name

-- the member of this name is the name of a location, and this its number
abbrev pub HasEnd : List (List ℕ) → List ℕ → Data → ℕ → Type 0
HasEnd names key d loc = (name : List ℕ) × HasText key d name × IsNumberOf names name loc

-- the member `b` is the name of a location, other than what `a` names, and this its number
pub record HasOtherEnd (names : List (List ℕ)) (d : Data) (loc : ℕ) : Type 0 where
  pub name : List ℕ
  pub stands : HasText (codes "b") d name
  pub other : ¬ HasText (codes "a") d name
  pub number : IsNumberOf names name loc

abbrev pub HasPort : List ℕ → Data → ℕ → Type 0
HasPort key d port = HasNumberUpTo MAX_PORT key d port × (1 ≤ port)

-- the member of this name is a text of a rate of at least 1 kbit/s
abbrev pub HasCapacity : List ℕ → Data → ℕ → Type 0
HasCapacity key d capacity = HasLexeme IsRate key d capacity × (1 ≤ capacity)

-- What a link carries from b to a: its own member, or the capacity where there is no such member.
abbrev pub HasBack : Data → ℕ → ℕ → Type 0
HasBack d capacity back =
    ((get (codes "back") d ≡ None) × (back ≡ capacity)) ⊎ HasCapacity (codes "back") d back

-- a weight from 1 on, within the limit, which is 1 where there is no such member
abbrev pub HasWeight : Data → ℕ → Type 0
HasWeight d weight =
    ((get (codes "weight") d ≡ None) × (weight ≡ 1))
    ⊎ (HasNumberUpTo MAX_LINK_WEIGHT (codes "weight") d weight × (1 ≤ weight))

-- an object describes a link between two of the locations of these names
pub record IsLinkOf (names : List (List ℕ)) (d : Data) (link : Link) : Type 0 where
  pub a : HasEnd names (codes "a") d link.a
  pub aport : HasPort (codes "aport") d link.aport
  pub b : HasOtherEnd names d link.b
  pub bport : HasPort (codes "bport") d link.bport
  pub capacity : HasCapacity (codes "capacity") d link.capacity
  pub back : HasBack d link.capacity link.back
  pub weight : HasWeight d link.weight

-- Functions.

-- A text, and the number of a location of this name. A name that no location has gets the number after all locations.
abbrev pub IsPlaceOf : List (List ℕ) → Data → ℕ → Type 0
IsPlaceOf names d loc =
    (name : List ℕ) × (as_str d ≡ Some name)
    × (IsNumberOf names name loc ⊎ (¬ Contains names name × (loc ≡ length names)))

-- what a member of `set` sets, if it is there
abbrev pub MaySet : (List ℕ → Data → ℕ → Type 0) → List ℕ → Data → Option ℕ → Type 0
MaySet form key d None = get key d ≡ None
MaySet form key d (Some n) = form key d n

-- the members that `set` may have
abbrev pub IsSetKey : List ℕ → Type 0
IsSetKey key =
    (key ≡ codes "eth.src")
    ⊎ ((key ≡ codes "ip.src") ⊎ ((key ≡ codes "ip.dst") ⊎ ((key ≡ codes "sport") ⊎ (key ≡ codes "dport"))))

-- an object, none of whose members has another name
abbrev pub HasOnlySetKeys : Data → Type 0
HasOnlySetKeys d =
    (members : Members) × (as_object d ≡ Some members) × All IsSetKey (keys_of_members members)

-- An object sets these values, each where its member is there, and has no other member.
pub record AreSettingsOf (d : Data) (s : Settings) : Type 0 where
  pub nothing_else : HasOnlySetKeys d
  pub eth_src : MaySet (HasLexeme IsMac) (codes "eth.src") d s.eth_src
  pub ip_src : MaySet (HasLexeme IsIp) (codes "ip.src") d s.ip_src
  pub ip_dst : MaySet (HasLexeme IsIp) (codes "ip.dst") d s.ip_dst
  pub sport : MaySet (HasNumberUpTo MAX_SET_PORT) (codes "sport") d s.sport
  pub dport : MaySet (HasNumberUpTo MAX_SET_PORT) (codes "dport") d s.dport

-- what is set of a field, if anything is
abbrev pub setting : Field → Option ℕ → List (Field × ℕ)
setting field value = map (λ n. (field, n)) (option_to_list value)

-- the settings in the order of the fields of a packet
abbrev pub settings_list : Settings → List (Field × ℕ)
settings_list s =
    (((setting EthSrc s.eth_src ++ setting IpSrc s.ip_src) ++ setting IpDst s.ip_dst) ++ setting Sport s.sport)
    ++ setting Dport s.dport

abbrev pub IsSetOf : Data → List (Field × ℕ) → Type 0
IsSetOf d set = (s : Settings) × AreSettingsOf d s × (set ≡ settings_list s)

-- what a function sets: nothing where there is no such member
abbrev pub HasSet : Data → List (Field × ℕ) → Type 0
HasSet d set =
    ((get (codes "set") d ≡ None) × (set ≡ []))
    ⊎ ((object : Data) × (get (codes "set") d ≡ Some object) × IsSetOf object set)

-- an object declares a function
pub record IsFunctionOf (names : List (List ℕ)) (d : Data) (function : FnDecl) : Type 0 where
  pub name : HasName d function.name
  pub places : HasElements (IsPlaceOf names) (codes "places") d function.places
  pub set : HasSet d function.set

-- the functions: none where there is no such member
abbrev pub HasFunctions : List (List ℕ) → Data → List FnDecl → Type 0
HasFunctions names d functions =
    ((get (codes "functions") d ≡ None) × (functions ≡ []))
    ⊎ HasElements (IsFunctionOf names) (codes "functions") d functions

-- The value has the shape of a topology, and describes these locations, links and functions in the order of its arrays.
pub record IsShapeOf (d : Data) (net : Network) : Type 0 where
  pub locations : HasElements IsLocationOf (codes "locations") d net.locations
  pub links : HasElements (IsLinkOf (location_names net.locations)) (codes "links") d net.links
  pub functions : HasFunctions (location_names net.locations) d net.functions
