-- Hosts that share an address, one location after another.
use Rattle.std.proofs.Common.{◌≡◌, ◌⊎◌, inl, inr, ◌+◌, ◌<◌, ◌||◌, ℕ, Bool, true, false, nat_eq, List, [], ◌∷◌, ◌++◌, length, map, take, get_or, refl, sym, ◌∙◌, ap, subst, append-nil, arith, length-append}
use Rattle.std.specs.List.{AllByRecursion, list_any}
use Rattle.std.proofs.lemmas.Bool.{eqb-true, eq-eqb}
use Rattle.merlin_model.specs.declared.network.HostAddress.{HostAddress}
use Rattle.merlin_model.specs.declared.network.LocationKind.{LocationKind}
use Rattle.merlin_model.specs.declared.network.LocationKind.TheVariants.{Host, Switch, Middlebox}
use Rattle.merlin_model.specs.declared.network.Location.{Location}
use Rattle.merlin_model.specs.Networks.{Pairwise}
use Rattle.merlin_model.proofs.Members.{In, in_to, in_map, map_in}
use Rattle.topology_rules.specs.Counts.{host_addresses}
use Rattle.topology_rules.specs.Clashes.{HasNoClash, IsFirstClash}
use Rattle.topology_rules.specs.Rules.{ShareAddress}
use Rattle.topology_rules.proofs.Counted.{hosts_more, one_host, no_host}
use Rattle.topology_rules.proofs.KeyClashes.{any_in, one_more, stands_at}

true-false : true ≡ false → ⊥
true-false e = cc

-- a host among the addresses stands among the locations
host_back : (ls : List Location) (a : HostAddress) → In a (host_addresses ls) → (l : Location) × In l ls × (l.kind ≡ Host a)
host_back [] a i = absurd i
host_back (l ∷ ls) a i = by l.name l.kind i (host_back ls a)
  where
    by : (name : List ℕ) (kind : LocationKind) → In a (host_addresses ((record { name = name; kind = kind }) ∷ ls)) → (In a (host_addresses ls) → (l : Location) × In l ls × (l.kind ≡ Host a)) → (x : Location) × In x ((record { name = name; kind = kind }) ∷ ls) × (x.kind ≡ Host a)
    by name (Host b) (inl e) rest = (record { name = name; kind = Host b }, inl refl, ap Host (sym e))
    by name (Host b) (inr j) rest = let found = rest j in (found.0, inr found.1, found.2)
    by name Switch j rest = let found = rest j in (found.0, inr found.1, found.2)
    by name Middlebox j rest = let found = rest j in (found.0, inr found.1, found.2)

-- and the other way round
host_in : (ls : List Location) (l : Location) (a : HostAddress) → In l ls → l.kind ≡ Host a → In a (host_addresses ls)
host_in [] l a i e = absurd i
host_in (k ∷ ls) l a (inl same) e = by k.name k.kind (ap (λ x. x.kind) (sym same) ∙ e)
  where
    by : (name : List ℕ) (kind : LocationKind) → kind ≡ Host a → In a (host_addresses ((record { name = name; kind = kind }) ∷ ls))
    by name (Host b) f = inl cc
    by name Switch f = absurd (never f)
      where
        never : Switch ≡ Host a → ⊥
        never f = cc
    by name Middlebox f = absurd (never f)
      where
        never : Middlebox ≡ Host a → ⊥
        never f = cc
host_in (k ∷ ls) l a (inr i) e = by k.name k.kind (host_in ls l a i e)
  where
    by : (name : List ℕ) (kind : LocationKind) → In a (host_addresses ls) → In a (host_addresses ((record { name = name; kind = kind }) ∷ ls))
    by name (Host b) j = inr j
    by name Switch j = j
    by name Middlebox j = j

push_apart : {X : Type 0} (R : X → X → Type 0) (xs : List X) (x : X) → Pairwise R xs → ((y : X) → In y xs → R y x) → Pairwise R (xs ++ x ∷ [])
push_apart R [] x p each = (tt, tt)
push_apart {X} R (y ∷ xs) x p each = (push xs p.0, push_apart R xs x p.1 (λ z i. each z (inr i)))
  where
    push : (zs : List X) → AllByRecursion (R y) zs → AllByRecursion (R y) (zs ++ x ∷ [])
    push [] all = (each y (inl refl), tt)
    push (z ∷ zs) all = (all.0, push zs all.1)

in_any : (n : ℕ) (ns : List ℕ) (m : ℕ) → In m ns → n ≡ m → list_any (nat_eq n) ns ≡ true
in_any n [] m i e = absurd i
in_any n (k ∷ ns) m (inl same) e = ap (λ b. b || list_any (nat_eq n) ns) (eq-eqb n k (e ∙ same))
in_any n (k ∷ ns) m (inr i) e = by (nat_eq n k) (in_any n ns m i e)
  where
    by : (b : Bool) → list_any (nat_eq n) ns ≡ true → (b || list_any (nat_eq n) ns) ≡ true
    by true h = refl
    by false h = h

same_host : (a b : HostAddress) → Host a ≡ Host b → a ≡ b
same_host a b e = cc

module _ (ls : List Location) (i : ℕ) (l : Location) (within : i < length ls) (is : l ≡ get_or ls i l) (apart : HasNoClash ShareAddress (take i ls)) where
  -- a host whose address of one kind stands there already
  clash_with : (a : HostAddress) → l.kind ≡ Host a → (b : HostAddress) → In b (host_addresses (take i ls)) → (b.eth ≡ a.eth) ⊎ (b.ip ≡ a.ip) → IsFirstClash ShareAddress ls i
  clash_with a kind b there shared =
      let found = host_back (take i ls) b there in
      record {
        second = l;
        stands = stands_at ls i l within is;
        first = found.0;
        earlier = in_to (take i ls) found.0 found.1;
        clash = record { one = b; other = a; is_host = found.2; is_host_too = kind; shared = shared };
        apart = apart;
      }

  pub old_eth : (a : HostAddress) → l.kind ≡ Host a → list_any (nat_eq a.eth) (map (λ x. x.eth) (host_addresses (take i ls))) ≡ true → IsFirstClash ShareAddress ls i
  old_eth a kind any =
      let found = any_in (nat_eq a.eth) (map (λ x. x.eth) (host_addresses (take i ls))) any in
      let host = in_map (λ x. x.eth) (host_addresses (take i ls)) found.0 found.1 in
      clash_with a kind host.0 host.1 (inl (sym host.2 ∙ sym (eqb-true a.eth found.0 found.2)))

  pub old_ip : (a : HostAddress) → l.kind ≡ Host a → list_any (nat_eq a.ip) (map (λ x. x.ip) (host_addresses (take i ls))) ≡ true → IsFirstClash ShareAddress ls i
  old_ip a kind any =
      let found = any_in (nat_eq a.ip) (map (λ x. x.ip) (host_addresses (take i ls))) any in
      let host = in_map (λ x. x.ip) (host_addresses (take i ls)) found.0 found.1 in
      clash_with a kind host.0 host.1 (inr (sym host.2 ∙ sym (eqb-true a.ip found.0 found.2)))

  -- a host with new addresses
  pub new_host : (a : HostAddress) → l.kind ≡ Host a → list_any (nat_eq a.eth) (map (λ x. x.eth) (host_addresses (take i ls))) ≡ false → list_any (nat_eq a.ip) (map (λ x. x.ip) (host_addresses (take i ls))) ≡ false → HasNoClash ShareAddress (take (i + 1) ls)
  new_host a kind no_eth no_ip =
      subst (HasNoClash ShareAddress) (one_more ls i l within is) (push_apart (λ x y. ShareAddress x y → ⊥) (take i ls) l apart each)
    where
      each : (y : Location) → In y (take i ls) → ShareAddress y l → ⊥
      each y there share = by share.shared
        where
          other : share.other ≡ a
          other = same_host share.other a (sym share.is_host_too ∙ kind)

          earlier : In share.one (host_addresses (take i ls))
          earlier = host_in (take i ls) y share.one there share.is_host

          by : (share.one.eth ≡ share.other.eth) ⊎ (share.one.ip ≡ share.other.ip) → ⊥
          by (inl e) = true-false (sym (in_any a.eth (map (λ x. x.eth) (host_addresses (take i ls))) share.one.eth (map_in (λ x. x.eth) (host_addresses (take i ls)) share.one earlier) (ap (λ x. x.eth) (sym other) ∙ sym e)) ∙ no_eth)
          by (inr e) = true-false (sym (in_any a.ip (map (λ x. x.ip) (host_addresses (take i ls))) share.one.ip (map_in (λ x. x.ip) (host_addresses (take i ls)) share.one earlier) (ap (λ x. x.ip) (sym other) ∙ sym e)) ∙ no_ip)

  -- what is no host
  pub other_kind : ((x : HostAddress) → l.kind ≡ Host x → ⊥) → HasNoClash ShareAddress (take (i + 1) ls)
  other_kind none = subst (HasNoClash ShareAddress) (one_more ls i l within is) (push_apart (λ x y. ShareAddress x y → ⊥) (take i ls) l apart (λ y there share. none share.other share.is_host_too))

  pub more_keys : (f : HostAddress → ℕ) (a : HostAddress) → l.kind ≡ Host a → map f (host_addresses (take (i + 1) ls)) ≡ map f (host_addresses (take i ls)) ++ f a ∷ []
  more_keys f a kind = ap (map f) (hosts_more ls i l within is ∙ ap (λ x. host_addresses (take i ls) ++ x) (one_host l a kind)) ∙ snoc (host_addresses (take i ls))
    where
      snoc : (xs : List HostAddress) → map f (xs ++ a ∷ []) ≡ map f xs ++ f a ∷ []
      snoc [] = refl
      snoc (x ∷ xs) = ap (λ ys. f x ∷ ys) (snoc xs)

  pub same_keys : (f : HostAddress → ℕ) → ((x : HostAddress) → l.kind ≡ Host x → ⊥) → map f (host_addresses (take (i + 1) ls)) ≡ map f (host_addresses (take i ls))
  same_keys f none = ap (map f) (hosts_more ls i l within is ∙ (ap (λ x. host_addresses (take i ls) ++ x) (no_host l none) ∙ append-nil (host_addresses (take i ls))))

-- the count of hosts, one location after another
module _ (ls : List Location) (i : ℕ) (l : Location) (within : i < length ls) (is : l ≡ get_or ls i l) where
  pub one_host_more : (a : HostAddress) → l.kind ≡ Host a → length (host_addresses (take (i + 1) ls)) ≡ length (host_addresses (take i ls)) + 1
  one_host_more a kind =
      let whole : host_addresses (take (i + 1) ls) ≡ host_addresses (take i ls) ++ a ∷ [] = hosts_more ls i l within is ∙ ap (λ x. host_addresses (take i ls) ++ x) (one_host l a kind) in
      omega (arith, ap length whole, length-append (host_addresses (take i ls)) (a ∷ []))

  pub no_host_more : ((x : HostAddress) → l.kind ≡ Host x → ⊥) → length (host_addresses (take (i + 1) ls)) ≡ length (host_addresses (take i ls))
  no_host_more none = ap length (hosts_more ls i l within is ∙ (ap (λ x. host_addresses (take i ls) ++ x) (no_host l none) ∙ append-nil (host_addresses (take i ls))))
