-- A value describes one list of locations, and one network where these differ in name.
use Rattle.std.proofs.Common.{◌≡◌, ◌⊎◌, inl, inr, ℕ, zero, suc, List, [], ◌∷◌, ◌++◌, length, codes, Contains, Option, None, Some, slice_get, refl, sym, ◌∙◌, ap, subst, arith}
use Rattle.serde_json.specs.Data.{Data}
use Rattle.serde_json.specs.Find.{get}
use Rattle.merlin_base.specs.Lexemes.{IsMac, IsIp, IsRate}
use Rattle.merlin_model.specs.declared.network.LocationKind.{LocationKind}
use Rattle.merlin_model.specs.declared.network.LocationKind.TheVariants.{Host, Switch, Middlebox}
use Rattle.merlin_model.specs.declared.network.Location.{Location}
use Rattle.merlin_model.specs.declared.network.Link.{Link}
use Rattle.merlin_model.specs.declared.network.FnDecl.{FnDecl}
use Rattle.merlin_model.specs.declared.policy.Field.{Field}
use Rattle.merlin_model.specs.declared.policy.Field.TheVariants.{EthSrc, IpSrc, IpDst, Sport, Dport}
use Rattle.merlin_model.specs.Networks.{Network, AreDifferent}
use Rattle.merlin_model.proofs.Members.{In, in_to, all_in}
use Rattle.topology_shape.specs.Json.{HasNumber, HasElements}
use Rattle.topology_shape.specs.Format.{HasLexeme, HasKind, IsLocationOf, HasEnd, HasOtherEnd, HasBack, HasWeight, IsLinkOf, IsPlaceOf, HasNumberUpTo, MaySet, setting, IsSetOf, HasSet, IsFunctionOf, HasFunctions, IsShapeOf, location_names}
use Rattle.topology_shape.proofs.Told.{some_one, one_text}
use Rattle.topology_shape.proofs.Lexemes.{mac_one, ip_one, rate_one}
use Rattle.topology_shape.proofs.Elements.{elements_one}

pub lexeme_one : (form : List ℕ → ℕ → Type 0) → ((t : List ℕ) (n m : ℕ) → form t n → form t m → n ≡ m) → (key : List ℕ) (d : Data) (n m : ℕ) → HasLexeme form key d n → HasLexeme form key d m → n ≡ m
lexeme_one form one key d n m (s, has, is) (t, has', is') = one s n m is (subst (λ (x : List ℕ). form x m) (one_text key d t s has' has) is')

kind_one : (d : Data) (k l : LocationKind) → HasKind d k → HasKind d l → k ≡ l
kind_one d (Host a) (Host b) (p, pe, pi) (q, qe, qi) =
    let eth : a.eth ≡ b.eth = lexeme_one IsMac mac_one (codes "eth") d a.eth b.eth pe qe in
    let ip : a.ip ≡ b.ip = lexeme_one IsIp ip_one (codes "ip") d a.ip b.ip pi qi in
    ap (λ (e : ℕ). Host (record { eth = e; ip = a.ip })) eth ∙ ap (λ (i : ℕ). Host (record { eth = b.eth; ip = i })) ip
kind_one d (Host a) Switch (p, pe, pi) q = absurd (omega (arith, ap length (one_text (codes "kind") d (codes "host") (codes "switch") p q)))
kind_one d (Host a) Middlebox (p, pe, pi) q = absurd (omega (arith, ap length (one_text (codes "kind") d (codes "host") (codes "middlebox") p q)))
kind_one d Switch (Host b) p (q, qe, qi) = absurd (omega (arith, ap length (one_text (codes "kind") d (codes "switch") (codes "host") p q)))
kind_one d Switch Switch p q = refl
kind_one d Switch Middlebox p q = absurd (omega (arith, ap length (one_text (codes "kind") d (codes "switch") (codes "middlebox") p q)))
kind_one d Middlebox (Host b) p (q, qe, qi) = absurd (omega (arith, ap length (one_text (codes "kind") d (codes "middlebox") (codes "host") p q)))
kind_one d Middlebox Switch p q = absurd (omega (arith, ap length (one_text (codes "kind") d (codes "middlebox") (codes "switch") p q)))
kind_one d Middlebox Middlebox p q = refl

location_one : (d : Data) (k l : Location) → IsLocationOf d k → IsLocationOf d l → k ≡ l
location_one d k l p q =
    ap (λ (n : List ℕ). record { name = n; kind = k.kind }) (one_text (codes "name") d k.name l.name p.name.0 q.name.0)
    ∙ ap (λ (x : LocationKind). record { name = l.name; kind = x }) (kind_one d k.kind l.kind p.kind q.kind)

pub locations_one : (d : Data) (ks ls : List Location) → HasElements IsLocationOf (codes "locations") d ks → HasElements IsLocationOf (codes "locations") d ls → ks ≡ ls
locations_one d ks ls p q = elements_one IsLocationOf location_one (codes "locations") d ks ls p q

-- a member that is missing is no text, no number and no array
pub no_lexeme_of_none : (form : List ℕ → ℕ → Type 0) (key : List ℕ) (d : Data) (n : ℕ) → get key d ≡ None → HasLexeme form key d n → ⊥
no_lexeme_of_none form key d n missing (text, has, is) = cc

pub no_number_of_none : (key : List ℕ) (d : Data) (n : ℕ) → get key d ≡ None → HasNumber key d n → ⊥
no_number_of_none key d n missing has = cc

pub no_elements_of_none : {X : Type 0} (R : Data → X → Type 0) (key : List ℕ) (d : Data) (xs : List X) → get key d ≡ None → HasElements R key d xs → ⊥
no_elements_of_none R key d xs missing (items, has, z) = cc

back_one : (d : Data) (c c' n m : ℕ) → c ≡ c' → HasBack d c n → HasBack d c' m → n ≡ m
back_one d c c' n m same (inl (missing, e)) (inl (missing', f)) = e ∙ (same ∙ sym f)
back_one d c c' n m same (inl (missing, e)) (inr (has, some)) = absurd (no_lexeme_of_none IsRate (codes "back") d m missing has)
back_one d c c' n m same (inr (has, some)) (inl (missing, e)) = absurd (no_lexeme_of_none IsRate (codes "back") d n missing has)
back_one d c c' n m same (inr (has, some)) (inr (has', some')) = lexeme_one IsRate rate_one (codes "back") d n m has has'

weight_one : (d : Data) (n m : ℕ) → HasWeight d n → HasWeight d m → n ≡ m
weight_one d n m (inl (missing, e)) (inl (missing', f)) = e ∙ sym f
weight_one d n m (inl (missing, e)) (inr ((has, few), some)) = absurd (no_number_of_none (codes "weight") d m missing has)
weight_one d n m (inr ((has, few), some)) (inl (missing, e)) = absurd (no_number_of_none (codes "weight") d n missing has)
weight_one d n m (inr ((has, few), some)) (inr ((has', few'), some')) = some_one has has'

at_in : {X : Type 0} (xs : List X) (i : ℕ) (x : X) → slice_get xs i ≡ Some x → In x xs
at_in [] i x e = absurd (never x e)
  where
    never : {X : Type 0} (x : X) → None ≡ Some x → ⊥
    never x e = cc
at_in (y ∷ xs) zero x e = inl cc
at_in (y ∷ xs) (suc i) x e = inr (at_in xs i x e)

-- different elements stand at different places
same_place : {X : Type 0} (xs : List X) → AreDifferent xs → (i j : ℕ) (x : X) → slice_get xs i ≡ Some x → slice_get xs j ≡ Some x → i ≡ j
same_place [] differ i j x e f = absurd (never x e)
  where
    never : {X : Type 0} (x : X) → None ≡ Some x → ⊥
    never x e = cc
same_place (y ∷ xs) differ zero zero x e f = refl
same_place {X} (y ∷ xs) differ zero (suc j) x e f = let same : y ≡ x = cc in absurd (all_in (λ z. y ≡ z → ⊥) xs x differ.0 (at_in xs j x f) same)
same_place {X} (y ∷ xs) differ (suc i) zero x e f = let same : y ≡ x = cc in absurd (all_in (λ z. y ≡ z → ⊥) xs x differ.0 (at_in xs i x e) same)
same_place (y ∷ xs) differ (suc i) (suc j) x e f = ap suc (same_place xs differ.1 i j x e f)

may_one : (form : List ℕ → Data → ℕ → Type 0) (key : List ℕ) (d : Data) → ((n : ℕ) → get key d ≡ None → form key d n → ⊥) → ((n m : ℕ) → form key d n → form key d m → n ≡ m) → (o p : Option ℕ) → MaySet form key d o → MaySet form key d p → o ≡ p
may_one form key d none one None None x y = refl
may_one form key d none one None (Some m) x y = absurd (none m x y)
may_one form key d none one (Some n) None x y = absurd (none n y x)
may_one form key d none one (Some n) (Some m) x y = ap Some (one n m x y)

lexeme_may_one : (form : List ℕ → ℕ → Type 0) → ((t : List ℕ) (n m : ℕ) → form t n → form t m → n ≡ m) → (key : List ℕ) (d : Data) (o p : Option ℕ) → MaySet (HasLexeme form) key d o → MaySet (HasLexeme form) key d p → o ≡ p
lexeme_may_one form one key d o p x y = may_one (HasLexeme form) key d (λ n missing has. no_lexeme_of_none form key d n missing has) (λ n m h k. lexeme_one form one key d n m h k) o p x y

number_may_one : (limit : ℕ) (key : List ℕ) (d : Data) (o p : Option ℕ) → MaySet (HasNumberUpTo limit) key d o → MaySet (HasNumberUpTo limit) key d p → o ≡ p
number_may_one limit key d o p x y = may_one (HasNumberUpTo limit) key d (λ n missing has. no_number_of_none key d n missing has.0) (λ n m h k. some_one h.0 k.0) o p x y

set_of_one : (d : Data) (x y : List (Field × ℕ)) → IsSetOf d x → IsSetOf d y → x ≡ y
set_of_one d x y (s, p, e) (t, q, f) =
    let eth : s.eth_src ≡ t.eth_src = lexeme_may_one IsMac mac_one (codes "eth.src") d s.eth_src t.eth_src p.eth_src q.eth_src in
    let src : s.ip_src ≡ t.ip_src = lexeme_may_one IsIp ip_one (codes "ip.src") d s.ip_src t.ip_src p.ip_src q.ip_src in
    let dst : s.ip_dst ≡ t.ip_dst = lexeme_may_one IsIp ip_one (codes "ip.dst") d s.ip_dst t.ip_dst p.ip_dst q.ip_dst in
    let sport : s.sport ≡ t.sport = number_may_one _ (codes "sport") d s.sport t.sport p.sport q.sport in
    let dport : s.dport ≡ t.dport = number_may_one _ (codes "dport") d s.dport t.dport p.dport q.dport in
    e
    ∙ (ap (λ (o : Option ℕ). (((setting EthSrc o ++ setting IpSrc s.ip_src) ++ setting IpDst s.ip_dst) ++ setting Sport s.sport) ++ setting Dport s.dport) eth
    ∙ (ap (λ (o : Option ℕ). (((setting EthSrc t.eth_src ++ setting IpSrc o) ++ setting IpDst s.ip_dst) ++ setting Sport s.sport) ++ setting Dport s.dport) src
    ∙ (ap (λ (o : Option ℕ). (((setting EthSrc t.eth_src ++ setting IpSrc t.ip_src) ++ setting IpDst o) ++ setting Sport s.sport) ++ setting Dport s.dport) dst
    ∙ (ap (λ (o : Option ℕ). (((setting EthSrc t.eth_src ++ setting IpSrc t.ip_src) ++ setting IpDst t.ip_dst) ++ setting Sport o) ++ setting Dport s.dport) sport
    ∙ (ap (λ (o : Option ℕ). (((setting EthSrc t.eth_src ++ setting IpSrc t.ip_src) ++ setting IpDst t.ip_dst) ++ setting Sport t.sport) ++ setting Dport o) dport
    ∙ sym f)))))

set_one : (d : Data) (x y : List (Field × ℕ)) → HasSet d x → HasSet d y → x ≡ y
set_one d x y (inl (missing, e)) (inl (missing', f)) = e ∙ sym f
set_one d x y (inl (missing, e)) (inr (it, has, is)) = absurd cc
set_one d x y (inr (it, has, is)) (inl (missing, e)) = absurd cc
set_one d x y (inr (it, has, is)) (inr (other, has', is')) = set_of_one it x y is (subst (λ (o : Data). IsSetOf o y) (some_one has' has) is')

module _ (names : List (List ℕ)) (differ : AreDifferent names) where
  end_one : (key : List ℕ) (d : Data) (i j : ℕ) → HasEnd names key d i → HasEnd names key d j → i ≡ j
  end_one key d i j (s, has, at) (t, has', at') = same_place names differ i j s at (at' ∙ ap Some (one_text key d t s has' has))

  other_end_one : (d : Data) (i j : ℕ) → HasOtherEnd names d i → HasOtherEnd names d j → i ≡ j
  other_end_one d i j p q = same_place names differ i j p.name p.number (q.number ∙ ap Some (one_text (codes "b") d q.name p.name q.stands p.stands))

  link_one : (d : Data) (k l : Link) → IsLinkOf names d k → IsLinkOf names d l → k ≡ l
  link_one d k l p q =
      let a : k.a ≡ l.a = end_one (codes "a") d k.a l.a p.a q.a in
      let aport : k.aport ≡ l.aport = some_one p.aport.0.0 q.aport.0.0 in
      let b : k.b ≡ l.b = other_end_one d k.b l.b p.b q.b in
      let bport : k.bport ≡ l.bport = some_one p.bport.0.0 q.bport.0.0 in
      let capacity : k.capacity ≡ l.capacity = lexeme_one IsRate rate_one (codes "capacity") d k.capacity l.capacity p.capacity.0 q.capacity.0 in
      let back : k.back ≡ l.back = back_one d k.capacity l.capacity k.back l.back capacity p.back q.back in
      let weight : k.weight ≡ l.weight = weight_one d k.weight l.weight p.weight q.weight in
      ap (λ (x : ℕ). record { a = x; aport = k.aport; b = k.b; bport = k.bport; capacity = k.capacity; back = k.back; weight = k.weight }) a
      ∙ (ap (λ (x : ℕ). record { a = l.a; aport = x; b = k.b; bport = k.bport; capacity = k.capacity; back = k.back; weight = k.weight }) aport
      ∙ (ap (λ (x : ℕ). record { a = l.a; aport = l.aport; b = x; bport = k.bport; capacity = k.capacity; back = k.back; weight = k.weight }) b
      ∙ (ap (λ (x : ℕ). record { a = l.a; aport = l.aport; b = l.b; bport = x; capacity = k.capacity; back = k.back; weight = k.weight }) bport
      ∙ (ap (λ (x : ℕ). record { a = l.a; aport = l.aport; b = l.b; bport = l.bport; capacity = x; back = k.back; weight = k.weight }) capacity
      ∙ (ap (λ (x : ℕ). record { a = l.a; aport = l.aport; b = l.b; bport = l.bport; capacity = l.capacity; back = x; weight = k.weight }) back
      ∙ ap (λ (x : ℕ). record { a = l.a; aport = l.aport; b = l.b; bport = l.bport; capacity = l.capacity; back = l.back; weight = x }) weight)))))

  place_one : (d : Data) (i j : ℕ) → IsPlaceOf names d i → IsPlaceOf names d j → i ≡ j
  place_one d i j (s, has, at) (t, has', at') = by at at'
    where
      same : s ≡ t
      same = some_one has has'

      by : (slice_get names i ≡ Some s) ⊎ ((Contains names s → ⊥) × (i ≡ length names)) → (slice_get names j ≡ Some t) ⊎ ((Contains names t → ⊥) × (j ≡ length names)) → i ≡ j
      by (inl e) (inl f) = same_place names differ i j s e (f ∙ ap Some (sym same))
      by (inl e) (inr (none, f)) = absurd (none (subst (Contains names) same (in_to names s (at_in names i s e))))
      by (inr (none, e)) (inl f) = absurd (none (subst (Contains names) (sym same) (in_to names t (at_in names j t f))))
      by (inr (none, e)) (inr (none', f)) = e ∙ sym f

  function_one : (d : Data) (f g : FnDecl) → IsFunctionOf names d f → IsFunctionOf names d g → f ≡ g
  function_one d f g p q =
      let name : f.name ≡ g.name = one_text (codes "name") d f.name g.name p.name.0 q.name.0 in
      let places : f.places ≡ g.places = elements_one (IsPlaceOf names) place_one (codes "places") d f.places g.places p.places q.places in
      let set : f.set ≡ g.set = set_one d f.set g.set p.set q.set in
      ap (λ (x : List ℕ). record { name = x; places = f.places; set = f.set }) name
      ∙ (ap (λ (x : List ℕ). record { name = g.name; places = x; set = f.set }) places
      ∙ ap (λ (x : List (Field × ℕ)). record { name = g.name; places = g.places; set = x }) set)

  functions_one : (d : Data) (fs gs : List FnDecl) → HasFunctions names d fs → HasFunctions names d gs → fs ≡ gs
  functions_one d fs gs (inl (missing, e)) (inl (missing', f)) = e ∙ sym f
  functions_one d fs gs (inl (missing, e)) (inr has) = absurd (no_elements_of_none (IsFunctionOf names) (codes "functions") d gs missing has)
  functions_one d fs gs (inr has) (inl (missing, e)) = absurd (no_elements_of_none (IsFunctionOf names) (codes "functions") d fs missing has)
  functions_one d fs gs (inr has) (inr has') = elements_one (IsFunctionOf names) function_one (codes "functions") d fs gs has has'

pub network_one : (d : Data) (net other : Network) → IsShapeOf d net → IsShapeOf d other → AreDifferent (location_names other.locations) → net ≡ other
network_one d net other is also differ =
    let locations : net.locations ≡ other.locations = locations_one d net.locations other.locations is.locations also.locations in
    let names = location_names other.locations in
    let joined : HasElements (IsLinkOf names) (codes "links") d net.links = subst (λ (ls : List Location). HasElements (IsLinkOf (location_names ls)) (codes "links") d net.links) locations is.links in
    let declared : HasFunctions names d net.functions = subst (λ (ls : List Location). HasFunctions (location_names ls) d net.functions) locations is.functions in
    let links : net.links ≡ other.links = elements_one (IsLinkOf names) (link_one names differ) (codes "links") d net.links other.links joined also.links in
    let functions : net.functions ≡ other.functions = functions_one names differ d net.functions other.functions declared also.functions in
    ap (λ (ls : List Location). record { locations = ls; links = net.links; functions = net.functions }) locations
    ∙ (ap (λ (ks : List Link). record { locations = other.locations; links = ks; functions = net.functions }) links
    ∙ ap (λ (fs : List FnDecl). record { locations = other.locations; links = other.links; functions = fs }) functions)
