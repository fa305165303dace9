-- A well formed network that keeps the rules is lawful, and breaks none.
use Rattle.std.proofs.Common.{◌≡◌, ◌≢◌, ◌⊎◌, inl, inr, ◌<◌, ℕ, zero, suc, List, [], ◌∷◌, ◌++◌, map, take, Option, None, Some, slice_get, option_map, IsSome, refl, sym, ◌∙◌, ap, subst, arith}
use Rattle.std.specs.List.{AllByRecursion}
use Rattle.std.proofs.lemmas.Option.{slice_get_within}
use Rattle.merlin_model.specs.declared.network.HostAddress.{HostAddress}
use Rattle.merlin_model.specs.declared.network.LocationKind.{LocationKind}
use Rattle.merlin_model.specs.declared.network.LocationKind.TheVariants.{Host, Switch, Middlebox}
use Rattle.merlin_model.specs.declared.network.Location.{Location}
use Rattle.merlin_model.specs.declared.network.Link.{Link}
use Rattle.merlin_model.specs.declared.network.DirectedLink.{DirectedLink}
use Rattle.merlin_model.specs.Networks.{Network, IsNetwork, Pairwise, AreDifferent, address_at, address_of, from_a, from_b, directed_links, directed_links_of, names_of}
use Rattle.merlin_model.proofs.Members.{In, in_from}
use Rattle.topology_shape.specs.Forms.{AreWellFormed}
use Rattle.topology_shape.specs.Format.{location_names}
use Rattle.topology_rules.specs.Counts.{Count, counts, AreWithinLimits, IsFirstExcess}
use Rattle.topology_rules.specs.Clashes.{HasNoClash, IsFirstClash, IsFirstFailure}
use Rattle.topology_rules.specs.Rules.{ShareAddress, SharePort, AreParallel, KeepsRules, IsPlacedAmong}
use Rattle.topology_rules.specs.Faults.{Breaks}
use Rattle.topology_rules.specs.declared.fault.NetFault.{NetFault}
use Rattle.topology_rules.specs.declared.fault.NetFault.TheVariants.{Json, Shape, TooLarge, DuplicateName, DuplicateAddress, DuplicatePort, ParallelLink, HostLink, Placement, OutOfMemory}
use Rattle.topology_rules.proofs.Distinct.{all_at, all_weaken, pairwise_weaken, pairwise_both}

-- No network that keeps a rule breaks it.

no_first_clash : {X : Type 0} (Clash : X → X → Type 0) (xs : List X) (place : ℕ) (first second : X) → HasNoClash Clash xs → slice_get xs place ≡ Some second → In first (take place xs) → Clash first second → ⊥
no_first_clash Clash [] place first second p at i clash = absurd (never second at)
  where
    never : {X : Type 0} (x : X) → None ≡ Some x → ⊥
    never x e = cc
no_first_clash Clash (x ∷ xs) zero first second p at i clash = absurd i
no_first_clash {X} Clash (x ∷ xs) (suc place) first second p at (inl e) clash = all_at (λ y. Clash x y → ⊥) xs place second p.0 at (subst (λ (z : X). Clash z second) e clash)
no_first_clash Clash (x ∷ xs) (suc place) first second p at (inr i) clash = no_first_clash Clash xs place first second p.1 at i clash

pub no_clash : {X : Type 0} (Clash : X → X → Type 0) (xs : List X) (place : ℕ) → HasNoClash Clash xs → IsFirstClash Clash xs place → ⊥
no_clash Clash xs place p f = no_first_clash Clash xs place f.first f.second p f.stands (in_from (take place xs) f.first f.earlier) f.clash

no_excess : (cs : List Count) (what : List ℕ) (count : ℕ) → AreWithinLimits cs → IsFirstExcess cs what count → ⊥
no_excess [] what count small x = x
no_excess (c ∷ cs) what count small (inl x) = omega (arith, x.0, small.0)
no_excess (c ∷ cs) what count small (inr x) = no_excess cs what count small.1 x.1

no_failure : {X : Type 0} (Holds : X → Type 0) (xs : List X) (place : ℕ) → AllByRecursion Holds xs → IsFirstFailure Holds xs place → ⊥
no_failure Holds xs place all f = f.fails (all_at Holds xs place f.element all f.stands)

pub breaks_none : (net : Network) (cause : NetFault) → KeepsRules net → Breaks net cause → cause ≡ OutOfMemory
breaks_none net Json keeps breaks = absurd breaks
breaks_none net (Shape what) keeps breaks = absurd breaks
breaks_none net (TooLarge what count) keeps breaks = absurd (no_excess (counts net) what count keeps.earlier.earlier.earlier.earlier.earlier.small breaks)
breaks_none net (DuplicateName name) keeps (small, place, clash, e) = absurd (no_clash _ (names_of net) place keeps.earlier.earlier.earlier.earlier.earlier.names clash)
breaks_none net (DuplicateAddress name) keeps (names, loc, clash, e) = absurd (no_clash ShareAddress net.locations loc keeps.earlier.earlier.earlier.earlier.addresses clash)
breaks_none net (DuplicatePort name port) keeps (addresses, place, clash, e, f) = absurd (no_clash SharePort (directed_links net) place keeps.earlier.earlier.earlier.ports clash)
breaks_none net (ParallelLink link) keeps (ports, clash) = absurd (no_clash AreParallel net.links link keeps.earlier.earlier.links clash)
breaks_none net (HostLink name) keeps (links, loc, first, e) = absurd (first.unlinked (keeps.earlier.hosts loc first.within))
breaks_none net (Placement name) keeps (hosts, function, failure, e) = absurd (no_failure (IsPlacedAmong net.locations) net.functions function keeps.placed failure)
breaks_none net OutOfMemory keeps breaks = refl

-- What two directed links that leave one location keep.

all_directed : (P : DirectedLink → Type 0) (ks : List Link) → AllByRecursion (λ k. P (from_a k) × P (from_b k)) ks → AllByRecursion P (directed_links_of ks)
all_directed P [] all = tt
all_directed P (k ∷ ks) all = (all.0.0, (all.0.1, all_directed P ks all.1))

FarApart : DirectedLink → DirectedLink → Type 0
FarApart v w = v.from ≡ w.from → v.to ≢ w.to

ends_of_links : (ks : List Link) → AllByRecursion (λ w. w.from ≢ w.to) (directed_links_of ks) → AllByRecursion (λ k. k.a ≢ k.b) ks
ends_of_links [] all = tt
ends_of_links (k ∷ ks) all = (all.0, ends_of_links ks all.1.1)

far_apart : (ks : List Link) → AllByRecursion (λ k. k.a ≢ k.b) ks → HasNoClash AreParallel ks → Pairwise FarApart (directed_links_of ks)
unfolding FarApart
far_apart [] ends p = tt
far_apart (k ∷ ks) ends p =
    let a = all_directed (FarApart (from_a k)) ks (all_weaken (λ l no. ((λ e f. no (inl (e, f))), (λ e f. no (inr (e, f))))) ks p.0) in
    let b = all_directed (FarApart (from_b k)) ks (all_weaken (λ l no. ((λ e f. no (inr (f, e))), (λ e f. no (inl (f, e))))) ks p.0) in
    (((λ e f. ends.0 e), a), (b, far_apart ks ends.1 p.1))

-- Elements at different places.

apart_at : {X : Type 0} (R : X → X → Type 0) (xs : List X) (h k : ℕ) (x y : X) → h < k → Pairwise R xs → slice_get xs h ≡ Some x → slice_get xs k ≡ Some y → R x y
apart_at R [] h k x y less p e f = absurd (never x e)
  where
    never : {X : Type 0} (x : X) → None ≡ Some x → ⊥
    never x e = cc
apart_at R (z ∷ xs) h zero x y less p e f = absurd (omega arith)
apart_at {X} R (z ∷ xs) zero (suc k) x y less p e f = let same : z ≡ x = cc in subst (λ (u : X). R u y) same (all_at (R z) xs k y p.0 f)
apart_at R (z ∷ xs) (suc h) (suc k) x y less p e f = apart_at R xs h k x y (omega arith) p.1 e f

host_kind : (o : Option Location) (address : HostAddress) → address_at (option_map (λ l. l.kind) o) ≡ Some address → (l : Location) × (o ≡ Some l) × (l.kind ≡ Host address)
host_kind None address e = absurd (never address e)
  where
    never : (a : HostAddress) → None ≡ Some a → ⊥
    never a e = cc
host_kind (Some l) address e = (l, refl, by l.kind e)
  where
    by : (kind : LocationKind) → address_at (Some kind) ≡ Some address → kind ≡ Host address
    by (Host a) e = let same : a ≡ address = cc in ap Host same
    by Switch e = cc
    by Middlebox e = cc

turned : (a b : HostAddress) → (a.eth ≡ b.eth) ⊎ (a.ip ≡ b.ip) → (b.eth ≡ a.eth) ⊎ (b.ip ≡ a.ip)
turned a b (inl e) = inl (sym e)
turned a b (inr e) = inr (sym e)

one_host : (net : Network) → HasNoClash ShareAddress net.locations → (h k : ℕ) (a b : HostAddress) → address_of net h ≡ Some a → address_of net k ≡ Some b → (a.eth ≡ b.eth) ⊎ (a.ip ≡ b.ip) → h ≡ k
one_host net p h k a b e f shared =
    let x = host_kind (slice_get net.locations h) a e in
    let y = host_kind (slice_get net.locations k) b f in
    let left : h < k → ⊥ = λ less. apart_at (λ u v. ShareAddress u v → ⊥) net.locations h k x.0 y.0 less p x.1 y.1 (record { one = a; other = b; is_host = x.2; is_host_too = y.2; shared = shared }) in
    let right : k < h → ⊥ = λ less. apart_at (λ u v. ShareAddress u v → ⊥) net.locations k h y.0 x.0 less p y.1 x.1 (record { one = b; other = a; is_host = y.2; is_host_too = x.2; shared = turned a b shared }) in
    neither h k left right
  where
    neither : (h k : ℕ) → (h < k → ⊥) → (k < h → ⊥) → h ≡ k
    neither h k left right = by (dec h k)
      where
        dec : (h k : ℕ) → (h < k) ⊎ ((k < h) ⊎ (h ≡ k))
        dec zero zero = inr (inr refl)
        dec zero (suc k) = inl (omega arith)
        dec (suc h) zero = inr (inl (omega arith))
        dec (suc h) (suc k) = up (dec h k)
          where
            up : (h < k) ⊎ ((k < h) ⊎ (h ≡ k)) → (suc h < suc k) ⊎ ((suc k < suc h) ⊎ (suc h ≡ suc k))
            up (inl l) = inl (omega (arith, l))
            up (inr (inl l)) = inr (inl (omega (arith, l)))
            up (inr (inr e)) = inr (inr (ap suc e))

        by : (h < k) ⊎ ((k < h) ⊎ (h ≡ k)) → h ≡ k
        by (inl l) = absurd (left l)
        by (inr (inl l)) = absurd (right l)
        by (inr (inr e)) = e

its_address : (o : Option HostAddress) → IsSome o → (a : HostAddress) × (o ≡ Some a)
its_address None e = absurd (no e)
  where
    no : IsSome {T = HostAddress} None → ⊥
    no e = cc
its_address (Some a) e = (a, refl)

pub keeps_lawful : (net : Network) → AreWellFormed net → KeepsRules net → IsNetwork net
unfolding FarApart
keeps_lawful net forms keeps =
    let links = keeps.earlier.earlier in
    let ends = ends_of_links net.links (all_weaken (λ w joins. joins.1) (directed_links net) forms.ends) in
    record {
      ends = forms.ends;
      ports = pairwise_weaken (λ v w both same. (both.0 same, both.1 same)) (directed_links net)
          (pairwise_both (λ v w. v.from ≡ w.from → v.out_port ≢ w.out_port) FarApart (directed_links net)
          (pairwise_weaken (λ v w no from port. no (from, port)) (directed_links net) links.earlier.ports)
          (far_apart net.links ends links.links));
      addresses = one_host net links.earlier.earlier.addresses;
      host_link = λ h host.
          let address = its_address (address_of net h) host in
          let found = host_kind (slice_get net.locations h) address.0 address.1 in
          keeps.earlier.hosts h (slice_get_within net.locations h found.0 found.1) address.0 (ap (option_map (λ l. l.kind)) found.1 ∙ ap Some found.2);
      placed = keeps.placed;
      names = links.earlier.earlier.earlier.names;
    }

front_differ : {X : Type 0} (R : X → X → Type 0) (xs ys : List X) → Pairwise R (xs ++ ys) → Pairwise R xs
front_differ R [] ys p = tt
front_differ {X} R (x ∷ xs) ys p = (front_all xs p.0, front_differ R xs ys p.1)
  where
    front_all : (zs : List X) → AllByRecursion (R x) (zs ++ ys) → AllByRecursion (R x) zs
    front_all [] q = tt
    front_all (z ∷ zs) q = (q.0, front_all zs q.1)

pub names_differ : (net : Network) → KeepsRules net → AreDifferent (location_names net.locations)
names_differ net keeps = front_differ (λ u v. u ≢ v) (location_names net.locations) (map (λ f. f.name) net.functions) keeps.earlier.earlier.earlier.earlier.earlier.names
