-- What describes something is not wrong.
use Rattle.std.proofs.Common.{◌≡◌, inl, inr, ℕ, List, [], ◌∷◌, length, codes, Option, None, Some, option_and_then, ap, subst, arith, refl}
use Rattle.std.specs.Prelude.{⊤}
use Rattle.serde_json.specs.Data.{Data, null, boolean, number, string, array, object}
use Rattle.serde_json.specs.Find.{get}
use Rattle.merlin_model.specs.declared.network.LocationKind.{LocationKind}
use Rattle.merlin_model.specs.declared.network.LocationKind.TheVariants.{Host, Switch, Middlebox}
use Rattle.merlin_model.specs.declared.network.Location.{Location}
use Rattle.merlin_model.specs.declared.network.Link.{Link}
use Rattle.merlin_model.specs.declared.network.FnDecl.{FnDecl}
use Rattle.merlin_model.specs.Networks.{Network}
use Rattle.topology_shape.specs.Json.{IsObject, HasText, HasElements}
use Rattle.topology_shape.specs.Format.{HasKind, IsLocationOf, IsLinkOf, IsFunctionOf, IsShapeOf, HasFunctions, location_names}
use Rattle.topology_shape.specs.Wrong.{Demand, IsFirstUnmet, kind_demands, location_demands, link_demands, function_demands, IsHostThere, IsWrongArray, IsWrongLocation, IsWrongLink, IsWrongFunction, IsWrongAfterLocations, AreWrongFunctions, IsMisshapen}
use Rattle.topology_shape.proofs.Told.{one_text}
use Rattle.topology_shape.proofs.Elements.{elements_at}
use Rattle.topology_shape.proofs.Once.{locations_one}

never : {X : Type 0} {x : X} → None ≡ Some x → ⊥
never e = cc

-- what has a member is an object
object_from : {X : Type 0} (f : Data → Option X) (key : List ℕ) (d : Data) (x : X) → option_and_then f (get key d) ≡ Some x → IsObject d
object_from f key null x e = absurd (never e)
object_from f key (boolean b) x e = absurd (never e)
object_from f key (number n) x e = absurd (never e)
object_from f key (string s) x e = absurd (never e)
object_from f key (array ds) x e = absurd (never e)
object_from f key (object ms) x e = refl

AllMet : List Demand → Type 0
AllMet [] = ⊤
AllMet (demand ∷ demands) = demand.holds × AllMet demands

all_met : (demands : List Demand) (what : List ℕ) → AllMet demands → IsFirstUnmet demands what → ⊥
unfolding AllMet
all_met [] what met unmet = unmet
all_met (demand ∷ demands) what met (inl (e, not)) = not met.0
all_met (demand ∷ demands) what met (inr (holds, unmet)) = all_met demands what met.1 unmet

no_host : (d : Data) (word : List ℕ) → HasText (codes "kind") d word → (length word ≡ 4 → ⊥) → IsHostThere d → ⊥
no_host d word has other host = other (ap length (one_text (codes "kind") d word (codes "host") has host))

kind_met : (d : Data) (kind : LocationKind) → HasKind d kind → AllMet (kind_demands d)
unfolding AllMet
kind_met d (Host address) (word, eth, ip) = (inl word, ((λ _. (address.eth, eth)), ((λ _. (address.ip, ip)), tt)))
kind_met d Switch word = let no = no_host d (codes "switch") word (λ e. omega (arith, e)) in (inr (inl word), ((λ host. absurd (no host)), ((λ host. absurd (no host)), tt)))
kind_met d Middlebox word = let no = no_host d (codes "middlebox") word (λ e. omega (arith, e)) in (inr (inr word), ((λ host. absurd (no host)), ((λ host. absurd (no host)), tt)))

right_location : (d : Data) (l : Location) (what : List ℕ) → IsLocationOf d l → IsWrongLocation d what → ⊥
unfolding AllMet
right_location d l what is wrong =
    all_met (location_demands d) what (object_from _ (codes "name") d l.name is.name.0, ((l.name, is.name), kind_met d l.kind is.kind)) wrong

right_link : (names : List (List ℕ)) (d : Data) (k : Link) (what : List ℕ) → IsLinkOf names d k → IsWrongLink names d what → ⊥
unfolding AllMet
right_link names d k what is wrong =
    all_met (link_demands names d) what
    (object_from _ (codes "a") d is.a.0 is.a.1, ((k.a, is.a), ((k.aport, is.aport), ((k.b, is.b), ((k.bport, is.bport), ((k.capacity, is.capacity), ((k.capacity, k.back, is.back), ((k.weight, is.weight), tt)))))))) wrong

right_function : (names : List (List ℕ)) (d : Data) (f : FnDecl) (what : List ℕ) → IsFunctionOf names d f → IsWrongFunction names d what → ⊥
unfolding AllMet
right_function names d f what is wrong =
    all_met (function_demands names d) what (object_from _ (codes "name") d f.name is.name.0, ((f.name, is.name), ((f.places, is.places), ((f.set, is.set), tt)))) wrong

right_array : {X : Type 0} (IsRight : Data → X → Type 0) (IsWrong : Data → List ℕ → Type 0) → ((d : Data) (x : X) (what : List ℕ) → IsRight d x → IsWrong d what → ⊥) → (key : List ℕ) (d : Data) (xs : List X) (what : List ℕ) → HasElements IsRight key d xs → IsWrongArray IsRight IsWrong key d what → ⊥
right_array IsRight IsWrong apart key d xs what has (inl (e, none)) = none has.0 has.1
right_array IsRight IsWrong apart key d xs what has (inr (items, is, wrong)) =
    let there = elements_at IsRight key d items is wrong.place wrong.item wrong.stands xs has in
    apart wrong.item there.0 wrong.member there.1 wrong.wrong

right_functions : (names : List (List ℕ)) (d : Data) (fs : List FnDecl) (what : List ℕ) → HasFunctions names d fs → AreWrongFunctions names d what → ⊥
right_functions names d fs what (inl (missing, e)) (is, wrong) = is missing
right_functions names d fs what (inr has) (is, wrong) = right_array (IsFunctionOf names) (IsWrongFunction names) (right_function names) (codes "functions") d fs what has wrong

pub right_shape : (d : Data) (net : Network) (what : List ℕ) → IsShapeOf d net → IsMisshapen d what → ⊥
right_shape d net what is (inl (e, none)) = none (object_from _ (codes "locations") d _ is.locations.1)
right_shape d net what is (inr (ob, inl wrong)) = right_array IsLocationOf IsWrongLocation right_location (codes "locations") d net.locations what is.locations wrong
right_shape d net what is (inr (ob, inr (ls, has, after))) = by (subst (λ (xs : List Location). IsWrongAfterLocations (location_names xs) d what) (locations_one d ls net.locations has is.locations) after)
  where
    names : List (List ℕ)
    names = location_names net.locations

    by : IsWrongAfterLocations names d what → ⊥
    by (inl wrong) = right_array (IsLinkOf names) (IsWrongLink names) (right_link names) (codes "links") d net.links what is.links wrong
    by (inr (links, has', wrong)) = right_functions names d net.functions what is.functions wrong
