-- Which refusal a broken rule gives.
use Rattle.std.proofs.Common.{◌≡◌, ◌<◌, ◌+◌, ℕ, List, get_or, slice_get, map, Some, Bor, Result, Ok, Err, IfErr, OnOk, sym, ◌∙◌, ap, subst}
use Rattle.std.proofs.lemmas.Option.{slice_get_within, slice_get-get_or, slice_get-map}
use Rattle.merlin_model.specs.declared.network.DirectedLink.{DirectedLink}
use Rattle.merlin_model.specs.declared.network.Location.{Location}
use Rattle.topology_shape.specs.Format.{location_names}
use Rattle.merlin_model.specs.declared.network.FnDecl.{FnDecl}
use Rattle.merlin_model.specs.Networks.{Network, names_of, directed_links}
use Rattle.topology_rules.specs.declared.fault.NetFault.{NetFault}
use Rattle.topology_rules.specs.declared.fault.NetFault.TheVariants.{Json, Shape, TooLarge, DuplicateName, DuplicateAddress, DuplicatePort, ParallelLink, HostLink, Placement, OutOfMemory}
use Rattle.topology_rules.specs.Counts.{counts, IsFirstExcess}
use Rattle.topology_rules.specs.Clashes.{IsFirstClash, IsFirstFailure}
use Rattle.topology_rules.specs.Rules.{AreOne, SharePort, IsPlacedAmong, IsSmall, HasAddresses, HasHosts}
use Rattle.topology_rules.proofs.KeyClashes.{map_some}
use Rattle.topology_rules.specs.Faults.{Breaks, IsExcess, IsNameAt}

of_some : {X : Type 0} (x y : X) → Some x ≡ Some y → x ≡ y
of_some {X} x y e = cc

-- the element that stands there is what was taken
taken : {X : Type 0} (xs : List X) (i : ℕ) (x d : X) → slice_get xs i ≡ Some x → get_or xs i d ≡ x
taken xs i x d at = of_some (get_or xs i d) x (sym (slice_get-get_or xs i d (slice_get_within xs i x at)) ∙ at)

pub excess_breaks : (net : Network) (what : List ℕ) (count limit : ℕ) → ((w : List ℕ) (n : ℕ) → limit < count → w ≡ what → n ≡ limit + 1 → IsFirstExcess (counts net) w n) → (fault : NetFault) → IsExcess what count limit fault → Breaks net fault
excess_breaks net what count limit f Json x = x
excess_breaks net what count limit f (Shape w) x = x
excess_breaks net what count limit f (TooLarge w n) x = f w n x.0 x.1 x.2
excess_breaks net what count limit f (DuplicateName w) x = absurd x
excess_breaks net what count limit f (DuplicateAddress w) x = absurd x
excess_breaks net what count limit f (DuplicatePort w n) x = absurd x
excess_breaks net what count limit f (ParallelLink n) x = absurd x
excess_breaks net what count limit f (HostLink w) x = absurd x
excess_breaks net what count limit f (Placement w) x = absurd x
excess_breaks net what count limit f OutOfMemory x = tt

pub if_err : {X : Type 0} {P Q : NetFault → Type 0} → ((fault : NetFault) → P fault → Q fault) → (r : Result X NetFault) → IfErr r P → IfErr r Q
if_err f (Ok x) h = tt
if_err f (Err fault) h = f fault h

pub on_ok : {X A B : Type 0} → (A → B) → (r : Result X NetFault) → OnOk r A → OnOk r B
on_ok f (Ok x) h = f h
on_ok f (Err fault) h = tt

pub broken_name : (net : Network) (names : List (Bor (List ℕ))) (place : ℕ) (n : Bor (List ℕ)) (name : List ℕ) → map (λ (x : Bor (List ℕ)). x.now) names ≡ names_of net → IsSmall net → IsFirstClash AreOne (map (λ (x : Bor (List ℕ)). x.now) names) place → n ≡ get_or names place n → name ≡ n.now → Breaks net (DuplicateName name)
broken_name net names place n name same small clash is e =
    let found = map_some (λ (x : Bor (List ℕ)). x.now) (slice_get names place) clash.second (sym (slice_get-map (λ (x : Bor (List ℕ)). x.now) names place) ∙ clash.stands) in
    let one : n ≡ found.0 = is ∙ taken names place found.0 n found.1 in
    let this : name ≡ clash.second = e ∙ (ap (λ x. x.now) one ∙ found.2) in
    let there : IsFirstClash AreOne (names_of net) place = subst (λ (xs : List (List ℕ)). IsFirstClash AreOne xs place) same clash in
    (small, place, there, of_some name there.second (ap Some this ∙ (sym clash.stands ∙ (ap (λ (xs : List (List ℕ)). slice_get xs place) same ∙ there.stands))))

pub broken_port : (net : Network) (ws : List DirectedLink) (place : ℕ) (d : DirectedLink) (name : List ℕ) → ws ≡ directed_links net → HasAddresses net → IsFirstClash SharePort ws place → IsNameAt net (get_or ws place d).from name → Breaks net (DuplicatePort name (get_or ws place d).out_port)
broken_port net ws place d name same earlier clash named =
    let there : IsFirstClash SharePort (directed_links net) place = subst (λ (xs : List DirectedLink). IsFirstClash SharePort xs place) same clash in
    let one : get_or ws place d ≡ there.second = ap (λ (xs : List DirectedLink). get_or xs place d) same ∙ taken (directed_links net) place there.second d there.stands in
    (earlier, place, there, subst (λ (v : DirectedLink). IsNameAt net v.from name) one named, ap (λ v. v.out_port) one)

pub broken_placement : (net : Network) (place : ℕ) (f : FnDecl) (name : List ℕ) → HasHosts net → IsFirstFailure (IsPlacedAmong net.locations) net.functions place → f ≡ get_or net.functions place f → name ≡ f.name → Breaks net (Placement name)
broken_placement net place f name earlier failure is e =
    (earlier, place, failure, e ∙ ap (λ g. g.name) (is ∙ taken net.functions place failure.element f failure.stands))

pub name_there : (ls read : List Location) (loc : ℕ) (name : List ℕ) → read ≡ ls → slice_get (location_names read) loc ≡ Some name → slice_get (location_names ls) loc ≡ Some name
name_there ls read loc name same at = subst (λ (xs : List Location). slice_get (location_names xs) loc ≡ Some name) same at
