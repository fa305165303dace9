-- Keys in order, put one by one.
use Rattle.std.proofs.Common.{◌≡◌, ◌⊎◌, ◌<◌, inl, inr, ℕ, ◌==◌, nat_lt, Bool, true, false, cond, List, [], ◌∷◌, map, Contains, Option, None, Some, Ordering, Less, Equal, Greater, refl, sym, ◌∙◌, ap, subst, arith}
use Rattle.std.specs.Ordering.{nat_cmp, ordering_then, match_ordering}
use Rattle.std.specs.Option.{option_cmp}
use Rattle.std.specs.BTreeSet.{insert_key}
use Rattle.std.specs.List.{AllByRecursion}
use Rattle.std.specs.List.Sorted.{IsStrictlySortedBy}
use Rattle.std.proofs.lemmas.Map.Keys.{sorted_head, sorted_tail}
use Rattle.merlin_model.specs.Networks.{Pairwise}
use Rattle.merlin_model.proofs.Members.{In, in_from, in_to, in_map, map_in}
use Rattle.rules_model.specs.Products.{function_place}
use Rattle.rules_model.specs.Tables.{IsBelowKey}
use Rattle.rule_tables.specs.declared.branches.TagKey.{TagKey}
use Rattle.rule_tables.specs.Branches.{key_of}
use Rattle.openflow_rules.specs.Gathered.{IsKeyPut}

-- how keys are compared: by group, state and function
abbrev pub key_cmp : TagKey → TagKey → Ordering
key_cmp a b = ordering_then (nat_cmp a.group b.group) (ordering_then (nat_cmp a.state b.state) (option_cmp nat_cmp a.fun b.fun))

then-less : (o p : Ordering) → ordering_then o p ≡ Less → (o ≡ Less) ⊎ ((o ≡ Equal) × (p ≡ Less))
then-less Less p e = inl refl
then-less Equal p e = inr (refl, e)
then-less Greater p e = let no : ⊥ = cc in absurd no

then-equal : (o p : Ordering) → ordering_then o p ≡ Equal → (o ≡ Equal) × (p ≡ Equal)
then-equal Less p e = let no : ⊥ = cc in absurd no
then-equal Equal p e = (refl, e)
then-equal Greater p e = let no : ⊥ = cc in absurd no

nat-less : (x y : ℕ) → nat_cmp x y ≡ Less → x < y
nat-less x y e = by (nat_lt x y) refl e
  where
    by : (b : Bool) → nat_lt x y ≡ b → cond b Less (cond (x == y) Equal Greater) ≡ Less → x < y
    by true lt e = grind arith
    by false ge e = other (x == y) e
      where
        other : (b : Bool) → cond b Equal Greater ≡ Less → x < y
        other true e = let no : ⊥ = cc in absurd no
        other false e = let no : ⊥ = cc in absurd no

nat-equal : (x y : ℕ) → nat_cmp x y ≡ Equal → x ≡ y
nat-equal x y e = by (nat_lt x y) e
  where
    by : (b : Bool) → cond b Less (cond (x == y) Equal Greater) ≡ Equal → x ≡ y
    by true e = let no : ⊥ = cc in absurd no
    by false e = other (x == y) refl e
      where
        other : (b : Bool) → (x == y) ≡ b → cond b Equal Greater ≡ Equal → x ≡ y
        other true same e = grind arith
        other false same e = let no : ⊥ = cc in absurd no

place-less : (a b : Option ℕ) → option_cmp nat_cmp a b ≡ Less → function_place a < function_place b
place-less None None e = let no : ⊥ = cc in absurd no
place-less None (Some y) e = omega arith
place-less (Some x) None e = let no : ⊥ = cc in absurd no
place-less (Some x) (Some y) e = let lt = nat-less x y e in omega (arith, lt)

place-equal : (a b : Option ℕ) → option_cmp nat_cmp a b ≡ Equal → a ≡ b
place-equal None None e = refl
place-equal None (Some y) e = let no : ⊥ = cc in absurd no
place-equal (Some x) None e = let no : ⊥ = cc in absurd no
place-equal (Some x) (Some y) e = ap Some (nat-equal x y e)

key-less : (a b : TagKey) → key_cmp a b ≡ Less → IsBelowKey (key_of a) (key_of b)
key-less a b e = by (then-less (nat_cmp a.group b.group) (ordering_then (nat_cmp a.state b.state) (option_cmp nat_cmp a.fun b.fun)) e)
  where
    inner : (nat_cmp a.state b.state ≡ Less) ⊎ ((nat_cmp a.state b.state ≡ Equal) × (option_cmp nat_cmp a.fun b.fun ≡ Less)) → (a.state < b.state) ⊎ ((a.state ≡ b.state) × (function_place a.fun < function_place b.fun))
    inner (inl l) = inl (nat-less a.state b.state l)
    inner (inr h) = inr (nat-equal a.state b.state h.0, place-less a.fun b.fun h.1)

    by : (nat_cmp a.group b.group ≡ Less) ⊎ ((nat_cmp a.group b.group ≡ Equal) × (ordering_then (nat_cmp a.state b.state) (option_cmp nat_cmp a.fun b.fun) ≡ Less)) → IsBelowKey (key_of a) (key_of b)
    by (inl l) = inl (nat-less a.group b.group l)
    by (inr h) = inr (nat-equal a.group b.group h.0, inner (then-less (nat_cmp a.state b.state) (option_cmp nat_cmp a.fun b.fun) h.1))

abbrev made : ℕ → ℕ → Option ℕ → TagKey
made g s f = record { group = g; state = s; fun = f }

key-equal : (a b : TagKey) → key_cmp a b ≡ Equal → a ≡ b
key-equal a b e =
    let one = then-equal (nat_cmp a.group b.group) (ordering_then (nat_cmp a.state b.state) (option_cmp nat_cmp a.fun b.fun)) e in
    let two = then-equal (nat_cmp a.state b.state) (option_cmp nat_cmp a.fun b.fun) one.1 in
    ap (λ g. made g a.state a.fun) (nat-equal a.group b.group one.0) ∙ ap (λ s. made b.group s a.fun) (nat-equal a.state b.state two.0) ∙ ap (made b.group b.state) (place-equal a.fun b.fun two.1)

-- what is put is there, and all else stays
inserted : (ks : List TagKey) (k x : TagKey) → In x (insert_key key_cmp ks k) → In x ks ⊎ (x ≡ k)
inserted [] k x (inl e) = inr e
inserted [] k x (inr h) = absurd h
inserted (y ∷ ks) k x i = by (key_cmp k y) i (inserted ks k x)
  where
    by : (o : Ordering) → In x (match_ordering o (k ∷ y ∷ ks) (y ∷ ks) (y ∷ insert_key key_cmp ks k)) → (In x (insert_key key_cmp ks k) → In x ks ⊎ (x ≡ k)) → In x (y ∷ ks) ⊎ (x ≡ k)
    by Less (inl e) rest = inr e
    by Less (inr j) rest = inl j
    by Equal j rest = inl j
    by Greater (inl e) rest = inl (inl e)
    by Greater (inr j) rest = more (rest j)
      where
        more : In x ks ⊎ (x ≡ k) → In x (y ∷ ks) ⊎ (x ≡ k)
        more (inl h) = inl (inr h)
        more (inr e) = inr e

stays : (ks : List TagKey) (k x : TagKey) → In x ks → In x (insert_key key_cmp ks k)
stays [] k x h = absurd h
stays (y ∷ ks) k x i = by (key_cmp k y) i (stays ks k x)
  where
    by : (o : Ordering) → In x (y ∷ ks) → (In x ks → In x (insert_key key_cmp ks k)) → In x (match_ordering o (k ∷ y ∷ ks) (y ∷ ks) (y ∷ insert_key key_cmp ks k))
    by Less j rest = inr j
    by Equal j rest = j
    by Greater (inl e) rest = inl e
    by Greater (inr j) rest = inr (rest j)

is-put : (ks : List TagKey) (k : TagKey) → In k (insert_key key_cmp ks k)
is-put [] k = inl refl
is-put (y ∷ ks) k = by (key_cmp k y) refl (is-put ks k)
  where
    by : (o : Ordering) → key_cmp k y ≡ o → In k (insert_key key_cmp ks k) → In k (match_ordering o (k ∷ y ∷ ks) (y ∷ ks) (y ∷ insert_key key_cmp ks k))
    by Less e rest = inl refl
    by Equal e rest = inl (key-equal k y e)
    by Greater e rest = inr rest

pub key-put : (old new : List TagKey) (k : TagKey) → new ≡ insert_key key_cmp old k → IsKeyPut (key_of k) (map key_of old) (map key_of new)
key-put old new k e x = (λ c. to (in_map key_of new x (in_from (map key_of new) x c)), λ s. in_to (map key_of new) x (from s))
  where
    to : (a : TagKey) × In a new × (x ≡ key_of a) → Contains (map key_of old) x ⊎ (x ≡ key_of k)
    to h = by (inserted old k h.0 (subst (In h.0) e h.1))
      where
        by : In h.0 old ⊎ (h.0 ≡ k) → Contains (map key_of old) x ⊎ (x ≡ key_of k)
        by (inl i) = inl (in_to (map key_of old) x (subst (λ z. In z (map key_of old)) (sym h.2) (map_in key_of old h.0 i)))
        by (inr s) = inr (h.2 ∙ ap key_of s)

    from : Contains (map key_of old) x ⊎ (x ≡ key_of k) → In x (map key_of new)
    from (inl c) =
        let h = in_map key_of old x (in_from (map key_of old) x c) in
        subst (λ z. In z (map key_of new)) (sym h.2) (map_in key_of new h.0 (subst (In h.0) (sym e) (stays old k h.0 h.1)))
    from (inr s) = subst (λ z. In z (map key_of new)) (sym s) (map_in key_of new k (subst (In k) (sym e) (is-put old k)))

pub keys-ascend : (ks : List TagKey) → IsStrictlySortedBy key_cmp ks → Pairwise IsBelowKey (map key_of ks)
keys-ascend [] h = tt
keys-ascend (k ∷ ks) h = (each ks (sorted_head key_cmp k ks h), keys-ascend ks (sorted_tail key_cmp k ks h))
  where
    each : (xs : List TagKey) → AllByRecursion (λ y. key_cmp k y ≡ Less) xs → AllByRecursion (IsBelowKey (key_of k)) (map key_of xs)
    each [] h = tt
    each (x ∷ xs) h = (key-less k x h.0, each xs h.1)
