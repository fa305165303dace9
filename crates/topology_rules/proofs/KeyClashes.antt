-- Keys that stand twice, and what clashes for having one key.
use Rattle.std.proofs.Common.{◌≡◌, ◌+◌, ◌<◌, ◌≤◌, ℕ, Bool, true, false, not, ◌||◌, List, [], ◌∷◌, ◌++◌, length, map, take, get_or, slice_get, Option, None, Some, Contains, option_map, if◌then◌else◌, inl, inr, Result, Ok, Err, IfOk, IfSome, IfNone, refl, sym, ◌∙◌, ap, subst}
use Rattle.std.specs.List.{AllByRecursion, IsDistinct, list_any}
use Rattle.std.proofs.lemmas.List.{take_more, take-map, take_all}
use Rattle.std.proofs.lemmas.Option.{slice_get_read, slice_get-map}
use Rattle.merlin_model.proofs.Members.{In, in_to, in_from, map_in}
use Rattle.indexmap.specs.IndexSet.{insert_key}
use Rattle.topology_rules.specs.Clashes.{HasNoClash, IsFirstClash, IsFirstRepeated}
use Rattle.topology_rules.proofs.Distinct.{pairwise_from, pairwise_weaken, pairwise_unmap, pairwise_map, list_any-map}

true-false : true ≡ false → ⊥
true-false e = cc

pub is_not : (b : Bool) → not b ≡ false → b ≡ true
is_not true e = refl
is_not false e = absurd (true-false e)

pub is_new : (b : Bool) → not b ≡ true → b ≡ false
is_new true e = absurd (true-false (sym e))
is_new false e = refl

-- a new key goes last
pub inserted : {K : Type 0} (eq : K → K → Bool) (ks : List K) (k : K) → list_any (eq k) ks ≡ false → insert_key eq ks k ≡ ks ++ k ∷ []
inserted eq ks k e = ap (λ b. if b then ks else ks ++ k ∷ []) e

pub one_more : {X : Type 0} (xs : List X) (i : ℕ) (x : X) → i < length xs → x ≡ get_or xs i x → take i xs ++ x ∷ [] ≡ take (i + 1) xs
one_more xs i x within is = ap (λ a. take i xs ++ a ∷ []) is ∙ sym (take_more xs i x within)

pub stands_at : {X : Type 0} (xs : List X) (i : ℕ) (x : X) → i < length xs → x ≡ get_or xs i x → slice_get xs i ≡ Some x
stands_at xs i x within is = slice_get_read xs (length xs) i x refl within is

pub any_in : {X : Type 0} (p : X → Bool) (xs : List X) → list_any p xs ≡ true → (x : X) × In x xs × (p x ≡ true)
any_in p [] e = absurd (true-false (sym e))
any_in {X} p (y ∷ xs) e = by (p y) refl e (any_in p xs)
  where
    by : (b : Bool) → p y ≡ b → (b || list_any p xs) ≡ true → (list_any p xs ≡ true → (x : X) × In x xs × (p x ≡ true)) → (x : X) × In x (y ∷ xs) × (p x ≡ true)
    by true t h rest = (y, inl refl, t)
    by false t h rest = let found = rest h in (found.0, inr found.1, found.2)

pub map_some : {X Y : Type 0} (f : X → Y) (o : Option X) (y : Y) → option_map f o ≡ Some y → (x : X) × (o ≡ Some x) × (f x ≡ y)
map_some f None y e = absurd (never y e)
  where
    never : {Y : Type 0} (y : Y) → None ≡ Some y → ⊥
    never y e = cc
map_some f (Some x) y e = (x, refl, cc)

-- what has one key clashes, and what clashes has one key
module _ {X K : Type 0} (eq : K → K → Bool) (key : X → K) (Clash : X → X → Type 0)
    (told : (x y : X) → eq (key y) (key x) ≡ true → Clash x y) (untold : (x y : X) → Clash x y → eq (key x) (key y) ≡ true) (xs : List X) where
  apart : (ys : List X) → IsDistinct eq (map key ys) → HasNoClash Clash ys
  apart ys d = pairwise_weaken (λ x y e clash. true-false (sym (untold x y clash) ∙ e)) ys (pairwise_unmap key (λ x y. eq x y ≡ false) ys (pairwise_from eq (map key ys) d))

  pub no_clash : IsDistinct eq (map key xs) → HasNoClash Clash xs
  no_clash d = apart xs d

  pub first_clash : (place : ℕ) → IsFirstRepeated eq (map key xs) place → IsFirstClash Clash xs place
  first_clash place r =
      let second = map_some key (slice_get xs place) r.key (sym (slice_get-map key xs place) ∙ r.stands) in
      let any : list_any (λ y. eq r.key (key y)) (take place xs) ≡ true = sym (list_any-map key (eq r.key) (take place xs)) ∙ (ap (list_any (eq r.key)) (sym (take-map key place xs)) ∙ r.before) in
      let first = any_in (λ y. eq r.key (key y)) (take place xs) any in
      record {
        second = second.0;
        stands = second.1;
        first = first.0;
        earlier = in_to (take place xs) first.0 first.1;
        clash = told first.0 second.0 (ap (λ k. eq k (key first.0)) second.2 ∙ first.2);
        apart = apart (take place xs) (subst (IsDistinct eq) (take-map key place xs) r.apart);
      }

-- the same where elements are told apart themselves
module _ {X : Type 0} (eq : X → X → Bool) (Clash : X → X → Type 0)
    (told : (x y : X) → eq y x ≡ true → Clash x y) (untold : (x y : X) → Clash x y → eq x y ≡ true) (xs : List X) where
  apart_itself : (ys : List X) → IsDistinct eq ys → HasNoClash Clash ys
  apart_itself ys d = pairwise_weaken (λ x y e clash. true-false (sym (untold x y clash) ∙ e)) ys (pairwise_from eq ys d)

  pub no_clash_itself : IsDistinct eq xs → HasNoClash Clash xs
  no_clash_itself d = apart_itself xs d

  pub first_clash_itself : (place : ℕ) → IsFirstRepeated eq xs place → IsFirstClash Clash xs place
  first_clash_itself place r =
      let first = any_in (eq r.key) (take place xs) r.before in
      record {
        second = r.key;
        stands = r.stands;
        first = first.0;
        earlier = in_to (take place xs) first.0 first.1;
        clash = told first.0 r.key first.2;
        apart = apart_itself (take place xs) r.apart;
      }

-- a clash of what elements have is one in the list of it
module _ {X Y : Type 0} (f : X → Y) (Clash : Y → Y → Type 0) (xs : List X) where
  pub no_clash_seen : HasNoClash (λ x y. Clash (f x) (f y)) xs → HasNoClash Clash (map f xs)
  no_clash_seen p = pairwise_map f (λ x y. Clash x y → ⊥) xs p

  pub first_clash_seen : (place : ℕ) → IsFirstClash (λ x y. Clash (f x) (f y)) xs place → IsFirstClash Clash (map f xs) place
  first_clash_seen place c = record {
    second = f c.second;
    stands = slice_get-map f xs place ∙ ap (option_map f) c.stands;
    first = f c.first;
    earlier = subst (λ ys. Contains ys (f c.first)) (sym (take-map f place xs)) (in_to (map f (take place xs)) (f c.first) (map_in f (take place xs) c.first (in_from (take place xs) c.first c.earlier)));
    clash = c.clash;
    apart = subst (HasNoClash Clash) (sym (take-map f place xs)) (pairwise_map f (λ x y. Clash x y → ⊥) (take place xs) c.apart);
  }

-- what is found, and what is so where nothing is
pub some_from : {E : Type 0} {P Q : ℕ → Type 0} → ((n : ℕ) → P n → Q n) → (r : Result (Option ℕ) E) → IfOk r (λ o. IfSome o P) → IfOk r (λ o. IfSome o Q)
some_from f (Ok None) h = tt
some_from f (Ok (Some n)) h = f n h
some_from f (Err e) h = tt

pub none_from : {E A B : Type 0} → (A → B) → (r : Result (Option ℕ) E) → IfOk r (λ o. IfNone o A) → IfOk r (λ o. IfNone o B)
none_from f (Ok None) h = f h
none_from f (Ok (Some n)) h = tt
none_from f (Err e) h = tt

-- all so far, and one more
pub all_more : {X : Type 0} (P : X → Type 0) (xs : List X) (i : ℕ) (x : X) → i < length xs → x ≡ get_or xs i x → AllByRecursion P (take i xs) → P x → AllByRecursion P (take (i + 1) xs)
all_more {X = X} P xs i x within is all holds = subst (AllByRecursion P) (one_more xs i x within is) (push (take i xs) all)
  where
    push : (ys : List X) → AllByRecursion P ys → AllByRecursion P (ys ++ x ∷ [])
    push [] all = (holds, tt)
    push (y ∷ ys) all = (all.0, push ys all.1)

pub all_whole : {X : Type 0} (P : X → Type 0) (xs : List X) (i : ℕ) → length xs ≤ i → AllByRecursion P (take i xs) → AllByRecursion P xs
all_whole P xs i past all = subst (AllByRecursion P) (take_all i xs past) all

pub found_at : {X : Type 0} (P : X → Type 0) (o : Option X) (x : X) → o ≡ Some x → IfSome o P → P x
found_at P None x e h = absurd (never x e)
  where
    never : {X : Type 0} (x : X) → None ≡ Some x → ⊥
    never x e = cc
found_at {X} P (Some y) x e h = let same : y ≡ x = cc in subst P same h

pub nothing_at : {X : Type 0} (P : Type 0) (o : Option X) → o ≡ None → IfNone o P → P
nothing_at P None e h = h
nothing_at P (Some x) e h = absurd (never x e)
  where
    never : {X : Type 0} (x : X) → Some x ≡ None → ⊥
    never x e = cc
