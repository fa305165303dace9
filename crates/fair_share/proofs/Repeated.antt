-- Names that are added one after another, and the first that stands twice.
use Rattle.std.proofs.Common.{◌≡◌, ◌≢◌, ℕ, zero, suc, ◌+◌, ◌≤◌, ◌<◌, Bool, true, false, not, ◌||◌, List, [], ◌∷◌, ◌++◌, length, take, slice_get, get_or, cond, Some, unwrap_or, nat_eq, refl, sym, ◌∙◌, ap, subst, arith}
use Rattle.std.specs.Prelude.{Vec}
use Rattle.std.specs.declared.alloc.Global.{Global}
use Rattle.std.specs.List.{AllByRecursion, IsDistinct, list_any}
use Rattle.std.specs.Cmp.Lexicographic.{pointwise}
use Rattle.std.proofs.lemmas.Slice.Eq.{bytes_eq-Decides}
use Rattle.merlin_model.specs.Networks.{AreDifferent}
use Rattle.fair_share.specs.declared.entry.NamedRate.{NamedRate}
use Rattle.fair_share.specs.Reading.{names_written, IsFirstRepeatedName}
use Rattle.fair_share.specs.declared.fault.DemandFault.{DemandFault}
use Rattle.fair_share.specs.declared.fault.DemandFault.TheVariants.{Json, Shape, TooLarge, DuplicateName, UnknownCap, OutOfMemory}
use Rattle.fair_share.specs.Failing.{key_texts, FailsAsRepeated}

abbrev Text : Type 0
Text = Vec ℕ Global

true-false : true ≡ false → ⊥
true-false e = cc

differ-all : (k : Text) (ks : List Text) → AllByRecursion (λ y. pointwise nat_eq k.items y.items ≡ false) ks → AllByRecursion (λ y. k.items ≢ y) (key_texts ks)
differ-all k [] all = tt
differ-all k (y ∷ ks) all = ((λ same. true-false (sym ((bytes_eq-Decides k.items y.items).1 same) ∙ all.0)), differ-all k ks all.1)

-- the keys of a table differ
pub keys-differ : (ks : List Text) → IsDistinct (λ (x y : Text). pointwise nat_eq x.items y.items) ks → AreDifferent (key_texts ks)
unfolding IsDistinct
keys-differ [] d = tt
keys-differ (k ∷ ks) d = (differ-all k ks d.0, keys-differ ks d.1)

-- where a name is among the keys
pub key-there : (name : List ℕ) (ks : List Text) → list_any (λ (k : Text). pointwise nat_eq name k.items) ks ≡ true → (j : ℕ) × (j < length (key_texts ks)) × (slice_get (key_texts ks) j ≡ Some name)
key-there name [] e = absurd (true-false (sym e))
key-there name (k ∷ ks) e = by (pointwise nat_eq name k.items) refl e (λ f. key-there name ks f)
  where
    by : (b : Bool) → pointwise nat_eq name k.items ≡ b → (b || list_any (λ (k : Text). pointwise nat_eq name k.items) ks) ≡ true →
        (list_any (λ (k : Text). pointwise nat_eq name k.items) ks ≡ true → (j : ℕ) × (j < length (key_texts ks)) × (slice_get (key_texts ks) j ≡ Some name)) →
        (j : ℕ) × (j < suc (length (key_texts ks))) × (slice_get (k.items ∷ key_texts ks) j ≡ Some name)
    by true same e later = (0, omega arith, ap Some (sym ((bytes_eq-Decides name k.items).0 same)))
    by false other e later = let h = later e in (suc h.0, (let l = h.1 in omega arith), h.2)

get-behind : {X : Type 0} (xs ys : List X) (i : ℕ) → slice_get (xs ++ ys) (length xs + i) ≡ slice_get ys i
get-behind [] ys i = ap (slice_get ys) (let z : 0 + i ≡ i = omega arith in z)
get-behind (x ∷ xs) ys i = ap (slice_get (x ∷ (xs ++ ys))) (let z : suc (length xs) + i ≡ suc (length xs + i) = omega arith in z) ∙ get-behind xs ys i

take-front : {X : Type 0} (xs ys : List X) → take (length xs + 0) (xs ++ ys) ≡ xs
take-front [] [] = refl
take-front [] (y ∷ ys) = refl
take-front (x ∷ xs) ys = ap (λ n. take n (x ∷ (xs ++ ys))) (let z : suc (length xs) + 0 ≡ suc (length xs + 0) = omega arith in z) ∙ ap (λ z. x ∷ z) (take-front xs ys)

take-past : {X : Type 0} (xs : List X) (n : ℕ) → length xs ≤ n → take n xs ≡ xs
take-past [] zero l = refl
take-past [] (suc n) l = refl
take-past (x ∷ xs) zero l = let no : ⊥ = omega arith in absurd no
take-past (x ∷ xs) (suc n) l = ap (λ z. x ∷ z) (take-past xs n (omega arith))

take-more : {X : Type 0} (xs : List X) (n : ℕ) (x : X) → slice_get xs n ≡ Some x → take (suc n) xs ≡ take n xs ++ x ∷ []
take-more [] n x e = let no : ⊥ = cc in absurd no
take-more (y ∷ xs) zero x e = ap (λ z. z ∷ []) (ap (λ o. unwrap_or o y) e)
take-more (y ∷ xs) (suc n) x e = ap (λ z. y ∷ z) (take-more xs n x e)

get-taken : {X : Type 0} (xs : List X) (n j : ℕ) (x : X) → slice_get (take n xs) j ≡ Some x → slice_get xs j ≡ Some x
get-taken [] zero j x e = e
get-taken [] (suc n) j x e = e
get-taken (y ∷ xs) zero j x e = let no : ⊥ = cc in absurd no
get-taken (y ∷ xs) (suc n) zero x e = e
get-taken (y ∷ xs) (suc n) (suc j) x e = get-taken xs n j x e

long-both : {X : Type 0} (xs ys : List X) → length (xs ++ ys) ≡ length xs + length ys
long-both [] ys = omega arith
long-both (x ∷ xs) ys = let h = long-both xs ys in omega arith

name-at : (es : List NamedRate) (i : ℕ) (e : NamedRate) → i < length es → e ≡ get_or es i e → slice_get (names_written es) i ≡ Some e.name
name-at [] i e l is = let no : ⊥ = omega arith in absurd no
name-at (x ∷ es) zero e l is = ap (λ (y : NamedRate). Some y.name) (sym is)
name-at (x ∷ es) (suc i) e l is = name-at es i e (omega arith) is

names-long : (es : List NamedRate) → length (names_written es) ≡ length es
names-long [] = refl
names-long (e ∷ es) = ap suc (names-long es)

-- the names so far are keys
pub record AreAdded (old : List (List ℕ)) (es : List NamedRate) (n : ℕ) (ks : List Text) : Type 0 where
  pub same : key_texts ks ≡ take (length old + n) (old ++ names_written es)
  pub apart : AreDifferent (key_texts ks)

pub added-none : (ks : List Text) (es : List NamedRate) → AreDifferent (key_texts ks) → AreAdded (key_texts ks) es 0 ks
added-none ks es apart = record { same = sym (take-front (key_texts ks) (names_written es)); apart = apart }

pub added-all : (old : List (List ℕ)) (es : List NamedRate) (n : ℕ) (ks : List Text) → AreAdded old es n ks → length es ≤ n → (key_texts ks ≡ old ++ names_written es) × AreDifferent (key_texts ks)
added-all old es n ks a l = (a.same ∙ take-past (old ++ names_written es) (length old + n) (let b = long-both old (names_written es) in let c = names-long es in omega arith), a.apart)

module _ (old : List (List ℕ)) (es : List NamedRate) (n : ℕ) (ks : List Text) (e : NamedRate) (v : Text) (a : AreAdded old es n ks) (l : n < length es) (is : e ≡ get_or es n e) (named : v.items ≡ e.name) where
  at : slice_get (old ++ names_written es) (length old + n) ≡ Some e.name
  at = get-behind old (names_written es) n ∙ name-at es n e l is

  texts-pushed : (xs : List Text) → key_texts (xs ++ v ∷ []) ≡ key_texts xs ++ v.items ∷ []
  texts-pushed [] = refl
  texts-pushed (x ∷ xs) = ap (λ z. x.items ∷ z) (texts-pushed xs)

  pub added-more : (ks' : List Text) → list_any (λ (k : Text). pointwise nat_eq v.items k.items) ks ≡ false → ks' ≡ cond (list_any (λ (k : Text). pointwise nat_eq v.items k.items) ks) ks (ks ++ v ∷ []) →
      IsDistinct (λ (x y : Text). pointwise nat_eq x.items y.items) ks' → AreAdded old es (n + 1) ks'
  added-more ks' new e' d = record {
    same = ap key_texts (e' ∙ ap (λ b. cond b ks (ks ++ v ∷ [])) new) ∙ texts-pushed ks ∙ ap (λ z. key_texts ks ++ z ∷ []) named ∙ ap (λ z. z ++ e.name ∷ []) a.same
        ∙ sym (take-more (old ++ names_written es) (length old + n) e.name at) ∙ ap (λ k. take k (old ++ names_written es)) (let z : suc (length old + n) ≡ length old + (n + 1) = omega arith in z);
    apart = keys-differ ks' d;
  }

  pub is-repeated : list_any (λ (k : Text). pointwise nat_eq v.items k.items) ks ≡ true → IsFirstRepeatedName (old ++ names_written es) e.name
  is-repeated found =
      let h = key-there v.items ks found in
      let here : slice_get (key_texts ks) h.0 ≡ Some e.name = h.2 ∙ ap Some named in record {
        place = length old + n;
        stands = at;
        earlier = h.0;
        before = (let b = ap (λ z. length z) a.same in let c = long-taken (old ++ names_written es) (length old + n) in let d = h.1 in omega arith);
        same = get-taken (old ++ names_written es) (length old + n) h.0 e.name (ap (λ z. slice_get z h.0) (sym a.same) ∙ here);
        apart = subst AreDifferent a.same a.apart;
      }
    where
      long-taken : (xs : List (List ℕ)) (k : ℕ) → length (take k xs) ≤ k
      long-taken [] zero = omega arith
      long-taken [] (suc k) = omega arith
      long-taken (x ∷ xs) zero = omega arith
      long-taken (x ∷ xs) (suc k) = let q = long-taken xs k in omega arith

-- what stands twice in the front stands twice in the whole
pub repeated-front : (xs ys : List (List ℕ)) (name : List ℕ) → IsFirstRepeatedName xs name → IsFirstRepeatedName (xs ++ ys) name
repeated-front xs ys name r = record {
  place = r.place;
  stands = get-front xs ys r.place name r.stands;
  earlier = r.earlier;
  before = r.before;
  same = get-front xs ys r.earlier name r.same;
  apart = subst AreDifferent (sym (take-in-front xs ys r.place (get-within xs r.place name r.stands))) r.apart;
}
  where
    get-front : (us vs : List (List ℕ)) (i : ℕ) (x : List ℕ) → slice_get us i ≡ Some x → slice_get (us ++ vs) i ≡ Some x
    get-front [] vs i x e = let no : ⊥ = cc in absurd no
    get-front (u ∷ us) vs zero x e = e
    get-front (u ∷ us) vs (suc i) x e = get-front us vs i x e

    get-within : (us : List (List ℕ)) (i : ℕ) (x : List ℕ) → slice_get us i ≡ Some x → i < length us
    get-within [] i x e = let no : ⊥ = cc in absurd no
    get-within (u ∷ us) zero x e = omega arith
    get-within (u ∷ us) (suc i) x e = let q = get-within us i x e in omega arith

    take-in-front : (us vs : List (List ℕ)) (n : ℕ) → n < length us → take n (us ++ vs) ≡ take n us
    take-in-front [] vs n l = let no : ⊥ = omega arith in absurd no
    take-in-front (u ∷ us) vs zero l = refl
    take-in-front (u ∷ us) vs (suc n) l = ap (λ z. u ∷ z) (take-in-front us vs n (omega arith))

pub not-new : (new there : Bool) → new ≡ not there → new ≡ false → there ≡ true
not-new new true e f = refl
not-new new false e f = sym f ∙ e

pub is-new : (new there : Bool) → new ≡ not there → new ≡ true → there ≡ false
is-new new false e f = refl
is-new new true e f = absurd (true-false (sym f ∙ e))

-- a name that stands twice among the caps
pub repeated-caps : (ks : List Text) (es caps tenants : List NamedRate) (fault : DemandFault) → ks ≡ [] → es ≡ caps → FailsAsRepeated (IsFirstRepeatedName (key_texts ks ++ names_written es)) fault → FailsAsRepeated (IsFirstRepeatedName (names_written caps ++ names_written tenants)) fault
repeated-caps ks es caps tenants Json e f h = h
repeated-caps ks es caps tenants (Shape what) e f h = h
repeated-caps ks es caps tenants (TooLarge what count) e f h = h
repeated-caps ks es caps tenants (DuplicateName name) e f h =
    repeated-front (names_written caps) (names_written tenants) name (subst (λ (xs : List NamedRate). IsFirstRepeatedName (names_written xs) name) f (subst (λ (zs : List Text). IsFirstRepeatedName (key_texts zs ++ names_written es) name) e h))
repeated-caps ks es caps tenants (UnknownCap name) e f h = h
repeated-caps ks es caps tenants OutOfMemory e f h = h
