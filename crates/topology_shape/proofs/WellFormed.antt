-- What described locations, links and functions keep.
use Rattle.std.proofs.Common.{◌≡◌, ◌≢◌, ◌<◌, ◌≤◌, ◌^◌, inl, inr, ℕ, zero, suc, List, [], ◌∷◌, ◌++◌, length, codes, Option, None, Some, slice_get, option_map, refl, sym, ◌∙◌, ap, subst, arith}
use Rattle.std.specs.List.{AllByRecursion, AllZip}
use Rattle.std.proofs.lemmas.List.{length-map}
use Rattle.std.proofs.lemmas.Option.{slice_get_within}
use Rattle.serde_json.specs.Data.{Data}
use Rattle.merlin_base.specs.Lexemes.{IsName, IsMac, IsIp, IsRate}
use Rattle.merlin_model.specs.declared.network.HostAddress.{HostAddress}
use Rattle.merlin_model.specs.declared.network.LocationKind.{LocationKind}
use Rattle.merlin_model.specs.declared.network.LocationKind.TheVariants.{Host, Switch, Middlebox}
use Rattle.merlin_model.specs.declared.network.Location.{Location}
use Rattle.merlin_model.specs.declared.network.Link.{Link}
use Rattle.merlin_model.specs.declared.network.DirectedLink.{DirectedLink}
use Rattle.merlin_model.specs.declared.network.FnDecl.{FnDecl}
use Rattle.merlin_model.specs.declared.policy.Field.{Field}
use Rattle.merlin_model.specs.declared.policy.Field.TheVariants.{EthSrc, IpSrc, IpDst, Sport, Dport}
use Rattle.merlin_model.specs.Networks.{Network, address_at, from_a, from_b, directed_links_of}
use Rattle.topology_shape.specs.Json.{HasText}
use Rattle.topology_shape.specs.Format.{HasLexeme, HasNumberUpTo, MaySet, HasKind, IsLocationOf, HasBack, HasWeight, IsLinkOf, HasSet, setting, IsFunctionOf, HasFunctions, IsShapeOf, location_names}
use Rattle.topology_shape.specs.Forms.{IsSettingOf, IsFunction, AreWellFormed}
use Rattle.merlin_model.specs.declared.limits.TheConstants.{MAX_RATE}
use Rattle.topology_shape.specs.declared.limits.TheConstants.{MAX_PORT, MAX_LINK_WEIGHT, MAX_SET_PORT}
use Rattle.topology_shape.proofs.Bounds.{mac_below, ip_below}

-- Locations.

locations_at : (ds : List Data) (ls : List Location) (h : ℕ) (l : Location) → AllZip IsLocationOf ds ls → slice_get ls h ≡ Some l → (d : Data) × IsLocationOf d l
locations_at [] [] h l z e = absurd (never l e)
  where
    never : (l : Location) → None ≡ Some l → ⊥
    never l e = cc
locations_at [] (k ∷ ls) h l z e = absurd z
locations_at (d ∷ ds) [] h l z e = absurd z
locations_at (d ∷ ds) (k ∷ ls) zero l z e = let same : k ≡ l = cc in (d, subst (λ (x : Location). IsLocationOf d x) same z.0)
locations_at (d ∷ ds) (k ∷ ls) (suc h) l z e = locations_at ds ls h l z.1 e

all_names : (ds : List Data) (ls : List Location) → AllZip IsLocationOf ds ls → AllByRecursion (λ l. IsName l.name) ls
all_names [] [] z = tt
all_names [] (l ∷ ls) z = absurd z
all_names (d ∷ ds) [] z = absurd z
all_names (d ∷ ds) (l ∷ ls) z = (z.0.name.1, all_names ds ls z.1)

host_kind : (o : Option Location) (address : HostAddress) → address_at (option_map (λ l. l.kind) o) ≡ Some address → (l : Location) × (o ≡ Some l) × (l.kind ≡ Host address)
host_kind None address e = absurd (never address e)
  where
    never : (a : HostAddress) → None ≡ Some a → ⊥
    never a e = cc
host_kind (Some l) address e = (l, refl, by l.kind e)
  where
    by : (kind : LocationKind) → address_at (Some kind) ≡ Some address → kind ≡ Host address
    by (Host a) e = let same : a ≡ address = cc in ap Host same
    by Switch e = cc
    by Middlebox e = cc

bounds : (d : Data) (kind : LocationKind) (address : HostAddress) → HasKind d kind → kind ≡ Host address → (address.eth < 2 ^ 48) × (address.ip < 2 ^ 32)
bounds d (Host a) address (is, (e, he, eth), (i, hi, ip)) same =
    let one : a ≡ address = cc in
    subst (λ (x : HostAddress). (x.eth < 2 ^ 48) × (x.ip < 2 ^ 32)) one (mac_below e a.eth eth, ip_below i a.ip ip)
bounds d Switch address is same = absurd (never same)
  where
    never : Switch ≡ Host address → ⊥
    never e = cc
bounds d Middlebox address is same = absurd (never same)
  where
    never : Middlebox ≡ Host address → ⊥
    never e = cc

-- Links.

all_directed_links : (P : DirectedLink → Type 0) (names : List (List ℕ)) → ((d : Data) (link : Link) → IsLinkOf names d link → P (from_a link) × P (from_b link)) → (ds : List Data) (links : List Link) → AllZip (IsLinkOf names) ds links → AllByRecursion P (directed_links_of links)
all_directed_links P names each [] [] z = tt
all_directed_links P names each [] (link ∷ links) z = absurd z
all_directed_links P names each (d ∷ ds) [] z = absurd z
all_directed_links P names each (d ∷ ds) (link ∷ links) z = let both = each d link z.0 in (both.0, (both.1, all_directed_links P names each ds links z.1))

-- the ends have different names, so they differ
ends_differ : (names : List (List ℕ)) (d : Data) (link : Link) → IsLinkOf names d link → link.a ≢ link.b
ends_differ names d link is same =
    let both : Some is.a.0 ≡ Some is.b.name = sym is.a.2 ∙ (ap (slice_get names) same ∙ is.b.number) in
    let one : is.a.0 ≡ is.b.name = cc in
    is.b.other (subst (λ (t : List ℕ). HasText (codes "a") d t) one is.a.1)

turned : (a b : ℕ) → a ≢ b → b ≢ a
turned a b ne e = ne (sym e)

rate_few : (key : List ℕ) (d : Data) (n : ℕ) → HasLexeme IsRate key d n → n ≤ MAX_RATE
rate_few key d n (text, has, is) = is.few

-- what is carried back is as much as any capacity is
back_within : (d : Data) (capacity back : ℕ) → (1 ≤ capacity) × (capacity ≤ MAX_RATE) → HasBack d capacity back → (1 ≤ back) × (back ≤ MAX_RATE)
back_within d capacity back within (inl (missing, same)) = subst (λ (x : ℕ). (1 ≤ x) × (x ≤ MAX_RATE)) (sym same) within
back_within d capacity back within (inr (has, some)) = (some, rate_few (codes "back") d back has)

weight_within : (d : Data) (weight : ℕ) → HasWeight d weight → (0 < weight) × (weight ≤ MAX_LINK_WEIGHT)
weight_within d weight (inl (missing, same)) = (omega (arith, same), omega (arith, same))
weight_within d weight (inr ((has, few), some)) = (omega (arith, some), few)

module _ (names : List (List ℕ)) (ds : List Data) (links : List Link) (z : AllZip (IsLinkOf names) ds links) where
  links_end : AllByRecursion (λ directed. (directed.from < length names) × (directed.from ≢ directed.to) × (0 < directed.out_port) × (0 < directed.capacity) × (0 < directed.weight)) (directed_links_of links)
  links_end = all_directed_links _ names (λ d link is.
      let weight = (weight_within d link.weight is.weight).0 in
      let back = (back_within d link.capacity link.back (is.capacity.1, rate_few (codes "capacity") d link.capacity is.capacity.0) is.back).0 in
      let differ = ends_differ names d link is in (
        (slice_get_within names link.a is.a.0 is.a.2, differ, omega (arith, is.aport.1), omega (arith, is.capacity.1), weight),
        (slice_get_within names link.b is.b.name is.b.number, turned link.a link.b differ, omega (arith, is.bport.1), omega (arith, back), weight),
      )) ds links z

  links_ports : AllByRecursion (λ directed. directed.out_port ≤ MAX_PORT) (directed_links_of links)
  links_ports = all_directed_links _ names (λ d link is. (is.aport.0.1, is.bport.0.1)) ds links z

  links_capacities : AllByRecursion (λ directed. directed.capacity ≤ MAX_RATE) (directed_links_of links)
  links_capacities = all_directed_links _ names (λ d link is.
      let few = rate_few (codes "capacity") d link.capacity is.capacity.0 in
      (few, (back_within d link.capacity link.back (is.capacity.1, few) is.back).1)) ds links z

  links_weights : AllByRecursion (λ directed. directed.weight ≤ MAX_LINK_WEIGHT) (directed_links_of links)
  links_weights = all_directed_links _ names (λ d link is. let few = (weight_within d link.weight is.weight).1 in (few, few)) ds links z

-- Functions.

all_append : {X : Type 0} (P : X → Type 0) (xs ys : List X) → AllByRecursion P xs → AllByRecursion P ys → AllByRecursion P (xs ++ ys)
all_append P [] ys p q = q
all_append P (x ∷ xs) ys p q = (p.0, all_append P xs ys p.1 q)

setting_kept : (form : List ℕ → Data → ℕ → Type 0) (key : List ℕ) (d : Data) (field : Field) → ((n : ℕ) → form key d n → IsSettingOf field n) → (o : Option ℕ) → MaySet form key d o → AllByRecursion (λ s. IsSettingOf s.0 s.1) (setting field o)
setting_kept form key d field keeps None may = tt
setting_kept form key d field keeps (Some n) may = (keeps n may, tt)

set_kept : (d : Data) (set : List (Field × ℕ)) → HasSet d set → AllByRecursion (λ s. IsSettingOf s.0 s.1) set
set_kept d set (inl (missing, e)) = subst (λ (x : List (Field × ℕ)). AllByRecursion (λ s. IsSettingOf s.0 s.1) x) (sym e) tt
set_kept d set (inr (it, has, (s, are, e))) =
    subst (λ (x : List (Field × ℕ)). AllByRecursion (λ s. IsSettingOf s.0 s.1) x) (sym e)
    (all_append _ _ _ (all_append _ _ _ (all_append _ _ _ (all_append _ _ _
    (setting_kept (HasLexeme IsMac) (codes "eth.src") it EthSrc (λ n lexeme. mac_below lexeme.0 n lexeme.2) s.eth_src are.eth_src)
    (setting_kept (HasLexeme IsIp) (codes "ip.src") it IpSrc (λ n lexeme. ip_below lexeme.0 n lexeme.2) s.ip_src are.ip_src))
    (setting_kept (HasLexeme IsIp) (codes "ip.dst") it IpDst (λ n lexeme. ip_below lexeme.0 n lexeme.2) s.ip_dst are.ip_dst))
    (setting_kept (HasNumberUpTo MAX_SET_PORT) (codes "sport") it Sport (λ n number. number.1) s.sport are.sport))
    (setting_kept (HasNumberUpTo MAX_SET_PORT) (codes "dport") it Dport (λ n number. number.1) s.dport are.dport))

all_functions : (names : List (List ℕ)) (ds : List Data) (fs : List FnDecl) → AllZip (IsFunctionOf names) ds fs → AllByRecursion IsFunction fs
all_functions names [] [] z = tt
all_functions names [] (f ∷ fs) z = absurd z
all_functions names (d ∷ ds) [] z = absurd z
all_functions names (d ∷ ds) (f ∷ fs) z = (record { name = z.0.name.1; settings = set_kept d f.set z.0.set }, all_functions names ds fs z.1)

functions_kept : (names : List (List ℕ)) (d : Data) (fs : List FnDecl) → HasFunctions names d fs → AllByRecursion IsFunction fs
functions_kept names d fs (inl (missing, e)) = subst (AllByRecursion IsFunction) (sym e) tt
functions_kept names d fs (inr has) = all_functions names has.0 fs has.2

pub well_formed : (d : Data) (net : Network) → IsShapeOf d net → AreWellFormed net
well_formed d net is =
    let names = location_names net.locations in
    let ks = is.links in
    record {
      names = all_names is.locations.0 net.locations is.locations.2;
      addresses = λ h address e.
          let found = host_kind (slice_get net.locations h) address e in
          let described = locations_at is.locations.0 net.locations h found.0 is.locations.2 found.1 in
          bounds described.0 found.0.kind address described.1.kind found.2;
      ends = subst (λ (n : ℕ). AllByRecursion (λ directed. (directed.from < n) × (directed.from ≢ directed.to) × (0 < directed.out_port) × (0 < directed.capacity) × (0 < directed.weight)) (directed_links_of net.links)) (length-map net.locations (λ l. l.name)) (links_end names ks.0 net.links ks.2);
      ports = links_ports names ks.0 net.links ks.2;
      capacities = links_capacities names ks.0 net.links ks.2;
      weights = links_weights names ks.0 net.links ks.2;
      functions = functions_kept names d net.functions is.functions;
    }
