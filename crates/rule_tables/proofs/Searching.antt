-- A binary search: the key's place is between two others.
use Rattle.std.proofs.Common.{◌≡◌, ℕ, zero, suc, ◌<◌, ◌≤◌, ◌⊎◌, inl, inr, List, [], ◌∷◌, length, map, Contains, Option, None, Some, slice_get, get_or, refl, sym, ◌∙◌, ap, subst, arith}
use Rattle.merlin_model.specs.Networks.{Pairwise}
use Rattle.merlin_model.proofs.Members.{In, in_from, all_in}
use Rattle.rules_model.specs.Products.{function_place}
use Rattle.rules_model.specs.Tables.{TagKey as Key, IsBelow, IsBelowKey}
use Rattle.rule_tables.specs.declared.branches.TagKey.{TagKey}
use Rattle.rule_tables.specs.Branches.{key_of}
use Rattle.rule_tables.specs.Searches.{IsCountBelow}
use Rattle.rule_tables.proofs.Leading.{some-same, none-some}

-- the tags before low come before the key, those from high on don't
pub record IsWithin (tags : List TagKey) (key : TagKey) (low high : ℕ) : Type 0 where
  pub below : (i : ℕ) (k : TagKey) → i < low → slice_get tags i ≡ Some k → IsBelowKey (key_of k) (key_of key)
  pub rest : (i : ℕ) (k : TagKey) → high ≤ i → slice_get tags i ≡ Some k → ¬ IsBelowKey (key_of k) (key_of key)

pub within-start : (tags : List TagKey) (key : TagKey) → IsWithin tags key 0 (length tags)
within-start tags key = record {
  below = λ i k lt e. let no_way : ⊥ = omega arith in absurd no_way;
  rest = λ i k le e. absurd (past tags i k le e);
}
  where
    past : (xs : List TagKey) (i : ℕ) (k : TagKey) → length xs ≤ i → slice_get xs i ≡ Some k → ⊥
    past [] i k le e = none-some e
    past (x ∷ xs) zero k le e = omega arith
    past (x ∷ xs) (suc i) k le e = past xs i k (omega arith) e

below-transitive : (x y z : ℕ × ℕ × ℕ) → IsBelow x y → IsBelow y z → IsBelow x z
below-transitive x y z (inl a) (inl b) = inl (omega arith)
below-transitive x y z (inl a) (inr b) = inl (let e = b.0 in omega arith)
below-transitive x y z (inr a) (inl b) = inl (let e = a.0 in omega arith)
below-transitive x y z (inr (e, inl a)) (inr (f, inl b)) = inr (e ∙ f, inl (omega arith))
below-transitive x y z (inr (e, inl a)) (inr (f, inr b)) = inr (e ∙ f, inl (let g = b.0 in omega arith))
below-transitive x y z (inr (e, inr a)) (inr (f, inl b)) = inr (e ∙ f, inl (let g = a.0 in omega arith))
below-transitive x y z (inr (e, inr a)) (inr (f, inr b)) = inr (e ∙ f, inr (a.0 ∙ b.0, (let m = a.1 in let n = b.1 in omega arith)))

key-transitive : (x y z : Key) → IsBelowKey x y → IsBelowKey y z → IsBelowKey x z
key-transitive x y z = below-transitive (x.group, x.state, function_place x.fun) (y.group, y.state, function_place y.fun) (z.group, z.state, function_place z.fun)

pub key-never : (k : Key) → ¬ IsBelowKey k k
key-never k (inl h) = omega arith
key-never k (inr (e, inl h)) = omega arith
key-never k (inr (e, inr (f, h))) = omega arith

in-map-at : (xs : List TagKey) (i : ℕ) (k : TagKey) → slice_get xs i ≡ Some k → In (key_of k) (map key_of xs)
in-map-at [] i k e = absurd (none-some e)
in-map-at (x ∷ xs) zero k e = inl (ap key_of (sym (some-same e)))
in-map-at (x ∷ xs) (suc i) k e = inr (in-map-at xs i k e)

-- tags at earlier places come before
earlier : (xs : List TagKey) → Pairwise IsBelowKey (map key_of xs) → (i j : ℕ) (k l : TagKey) → i < j → slice_get xs i ≡ Some k → slice_get xs j ≡ Some l → IsBelowKey (key_of k) (key_of l)
earlier [] up i j k l lt e f = absurd (none-some e)
earlier (x ∷ xs) up i zero k l lt e f = let no_way : ⊥ = omega arith in absurd no_way
earlier (x ∷ xs) up zero (suc j) k l lt e f = subst (λ y. IsBelowKey (key_of y) (key_of l)) (some-same e) (all_in (IsBelowKey (key_of x)) (map key_of xs) (key_of l) up.0 (in-map-at xs j l f))
earlier (x ∷ xs) up (suc i) (suc j) k l lt e f = earlier xs up.1 i j k l (omega arith) e f

module _ (tags : List TagKey) (key : TagKey) (up : Pairwise IsBelowKey (map key_of tags)) (low high middle : ℕ) (is : IsWithin tags key low high) (k : TagKey) (at : slice_get tags middle ≡ Some k) where
  pub within-right : IsBelowKey (key_of k) (key_of key) → IsWithin tags key (suc middle) high
  within-right lower = record { below = λ i j lt e. by i j lt e (cases i middle lt); rest = is.rest }
    where
      cases : (i m : ℕ) → i < suc m → (i < m) ⊎ (i ≡ m)
      cases zero zero lt = inr refl
      cases zero (suc m) lt = inl (omega arith)
      cases (suc i) zero lt = let no_way : ⊥ = omega arith in absurd no_way
      cases (suc i) (suc m) lt = on (cases i m (omega arith))
        where
          on : (i < m) ⊎ (i ≡ m) → (suc i < suc m) ⊎ (suc i ≡ suc m)
          on (inl h) = inl (omega arith)
          on (inr e) = inr (ap suc e)

      by : (i : ℕ) (j : TagKey) → i < suc middle → slice_get tags i ≡ Some j → (i < middle) ⊎ (i ≡ middle) → IsBelowKey (key_of j) (key_of key)
      by i j lt e (inl less) = key-transitive (key_of j) (key_of k) (key_of key) (earlier tags up i middle j k less e at) lower
      by i j lt e (inr same) = subst (λ x. IsBelowKey (key_of x) (key_of key)) (some-same (sym at ∙ ap (slice_get tags) (sym same) ∙ e)) lower

  pub within-left : (¬ IsBelowKey (key_of k) (key_of key)) → IsWithin tags key low middle
  within-left not = record { below = is.below; rest = λ i j le e lower. by i j e lower (cases middle i le) }
    where
      cases : (m i : ℕ) → m ≤ i → (m < i) ⊎ (m ≡ i)
      cases zero zero le = inr refl
      cases zero (suc i) le = inl (omega arith)
      cases (suc m) zero le = let no_way : ⊥ = omega arith in absurd no_way
      cases (suc m) (suc i) le = on (cases m i (omega arith))
        where
          on : (m < i) ⊎ (m ≡ i) → (suc m < suc i) ⊎ (suc m ≡ suc i)
          on (inl h) = inl (omega arith)
          on (inr e) = inr (ap suc e)

      by : (i : ℕ) (j : TagKey) → slice_get tags i ≡ Some j → IsBelowKey (key_of j) (key_of key) → (middle < i) ⊎ (middle ≡ i) → ⊥
      by i j e lower (inl more) = not (key-transitive (key_of k) (key_of j) (key_of key) (earlier tags up middle i k j more at e) lower)
      by i j e lower (inr same) = not (subst (λ x. IsBelowKey (key_of x) (key_of key)) (some-same (sym e ∙ ap (slice_get tags) (sym same) ∙ at)) lower)

pub within-one : (tags : List TagKey) (key : TagKey) (low high : ℕ) → IsWithin tags key low high → high ≤ low → low ≤ length tags → IsCountBelow tags key low
within-one tags key low high is met within = record { within = within; below = is.below; rest = λ i k le e. is.rest i k (omega arith) e }

pub get-some : {X : Type 0} (xs : List X) (k : ℕ) (d : X) → k < length xs → slice_get xs k ≡ Some (get_or xs k d)
get-some [] k d h = let no_way : ⊥ = omega arith in absurd no_way
get-some (x ∷ xs) zero d h = refl
get-some (x ∷ xs) (suc k) d h = get-some xs k d (omega arith)

map-at : (xs : List TagKey) (i : ℕ) (k : Key) → slice_get (map key_of xs) i ≡ Some k → (l : TagKey) × (slice_get xs i ≡ Some l) × (key_of l ≡ k)
map-at [] i k e = absurd (none-some e)
map-at (x ∷ xs) zero k e = (x, refl, some-same e)
map-at (x ∷ xs) (suc i) k e = map-at xs i k e

pub at-map : (xs : List TagKey) (i : ℕ) (k : TagKey) → slice_get xs i ≡ Some k → slice_get (map key_of xs) i ≡ Some (key_of k)
at-map [] i k e = absurd (none-some e)
at-map (x ∷ xs) zero k e = ap (λ y. Some (key_of y)) (some-same e)
at-map (x ∷ xs) (suc i) k e = at-map xs i k e

key-inj : (k l : TagKey) → key_of k ≡ key_of l → k ≡ l
key-inj k l e = λ i. record { group = (e i).group; state = (e i).state; fun = (e i).fun }

-- a key among the tags stands where as many come before it
pub stands-there : (tags : List TagKey) (key : TagKey) (n : ℕ) → Pairwise IsBelowKey (map key_of tags) → IsCountBelow tags key n → Contains (map key_of tags) (key_of key) → slice_get tags n ≡ Some key
stands-there tags key n up is c = by (cases place.0 n)
  where
    place : (i : ℕ) × (slice_get (map key_of tags) i ≡ Some (key_of key))
    place = in-place (map key_of tags) (key_of key) (in_from (map key_of tags) (key_of key) c)
      where
        in-place : (xs : List Key) (x : Key) → In x xs → (i : ℕ) × (slice_get xs i ≡ Some x)
        in-place [] x i = absurd i
        in-place (y ∷ ys) x (inl e) = (0, ap Some (sym e))
        in-place (y ∷ ys) x (inr i) = let m = in-place ys x i in (suc m.0, m.1)

    there : (l : TagKey) × (slice_get tags place.0 ≡ Some l) × (key_of l ≡ key_of key)
    there = map-at tags place.0 (key_of key) place.1

    same : there.0 ≡ key
    same = key-inj there.0 key there.2

    stands : slice_get tags place.0 ≡ Some key
    stands = there.1 ∙ ap Some same

    cases : (i m : ℕ) → (i < m) ⊎ ((m < i) ⊎ (i ≡ m))
    cases zero zero = inr (inr refl)
    cases zero (suc m) = inl (omega arith)
    cases (suc i) zero = inr (inl (omega arith))
    cases (suc i) (suc m) = on (cases i m)
      where
        on : (i < m) ⊎ ((m < i) ⊎ (i ≡ m)) → (suc i < suc m) ⊎ ((suc m < suc i) ⊎ (suc i ≡ suc m))
        on (inl h) = inl (omega arith)
        on (inr (inl h)) = inr (inl (omega arith))
        on (inr (inr e)) = inr (inr (ap suc e))

    by : (place.0 < n) ⊎ ((n < place.0) ⊎ (place.0 ≡ n)) → slice_get tags n ≡ Some key
    by (inl less) = absurd (key-never (key_of key) (is.below place.0 key less stands))
    by (inr (inr e)) = ap (slice_get tags) (sym e) ∙ stands
    by (inr (inl more)) = earlier-one (slice_get tags n) refl
      where
        earlier-one : (o : Option TagKey) → slice_get tags n ≡ o → slice_get tags n ≡ Some key
        earlier-one None e = absurd (gap tags n place.0 key more e stands)
          where
            gap : (xs : List TagKey) (m i : ℕ) (k : TagKey) → m < i → slice_get xs m ≡ None → slice_get xs i ≡ Some k → ⊥
            gap [] m i k lt none some = none-some some
            gap (x ∷ xs) zero i k lt none some = none-some (sym none)
            gap (x ∷ xs) (suc m) zero k lt none some = omega arith
            gap (x ∷ xs) (suc m) (suc i) k lt none some = gap xs m i k (omega arith) none some
        earlier-one (Some k) e = absurd (is.rest n k (omega arith) e (earlier tags up n place.0 k key more e stands))

pub below-length : (xs : List TagKey) (i : ℕ) (k : TagKey) → slice_get xs i ≡ Some k → i < length xs
below-length [] i k e = absurd (none-some e)
below-length (x ∷ xs) zero k e = omega arith
below-length (x ∷ xs) (suc i) k e = let lt = below-length xs i k e in omega arith
