-- Names that are added one after another, and the first that stands twice.
use Rattle.std.proofs.Common.{◌≡◌, ◌≢◌, ℕ, zero, suc, ◌+◌, ◌≤◌, ◌<◌, Bool, true, false, not, ◌||◌, List, [], ◌∷◌, ◌++◌, length, take, slice_get, get_or, cond, Some, unwrap_or, nat_eq, refl, sym, ◌∙◌, ap, subst, arith}
use Rattle.std.specs.Prelude.{Vec}
use Rattle.std.specs.declared.alloc.Global.{Global}
use Rattle.std.specs.List.{AllByRecursion, IsDistinct, list_any}
use Rattle.std.specs.Cmp.Lexicographic.{pointwise}
use Rattle.std.proofs.lemmas.Slice.Eq.{bytes_eq-Decides}
use Rattle.merlin_model.specs.Networks.{AreDifferent}
use Rattle.delegation_text.specs.declared.written.WrittenNode.{WrittenNode}
use Rattle.delegation_text.specs.Trees.{IsFirstDoubled}
use Rattle.delegation_text.specs.Alongside.{written_names, names_kept}

abbrev Text : Type 0
Text = Vec ℕ Global

true-false : true ≡ false → ⊥
true-false e = cc

differ-all : (k : Text) (ks : List Text) → AllByRecursion (λ y. pointwise nat_eq k.items y.items ≡ false) ks → AllByRecursion (λ y. k.items ≢ y) (names_kept ks)
differ-all k [] all = tt
differ-all k (y ∷ ks) all = ((λ same. true-false (sym ((bytes_eq-Decides k.items y.items).1 same) ∙ all.0)), differ-all k ks all.1)

-- the keys of a table differ
keys-differ : (ks : List Text) → IsDistinct (λ (x y : Text). pointwise nat_eq x.items y.items) ks → AreDifferent (names_kept ks)
unfolding IsDistinct
keys-differ [] d = tt
keys-differ (k ∷ ks) d = (differ-all k ks d.0, keys-differ ks d.1)

-- where a name is among the keys
key-there : (name : List ℕ) (ks : List Text) → list_any (λ (k : Text). pointwise nat_eq name k.items) ks ≡ true → (j : ℕ) × (j < length (names_kept ks)) × (slice_get (names_kept ks) j ≡ Some name)
key-there name [] e = absurd (true-false (sym e))
key-there name (k ∷ ks) e = by (pointwise nat_eq name k.items) refl e (λ f. key-there name ks f)
  where
    by : (b : Bool) → pointwise nat_eq name k.items ≡ b → (b || list_any (λ (k : Text). pointwise nat_eq name k.items) ks) ≡ true →
        (list_any (λ (k : Text). pointwise nat_eq name k.items) ks ≡ true → (j : ℕ) × (j < length (names_kept ks)) × (slice_get (names_kept ks) j ≡ Some name)) →
        (j : ℕ) × (j < suc (length (names_kept ks))) × (slice_get (k.items ∷ names_kept ks) j ≡ Some name)
    by true same e later = (0, omega arith, ap Some (sym ((bytes_eq-Decides name k.items).0 same)))
    by false other e later = let h = later e in (suc h.0, (let l = h.1 in omega arith), h.2)

take-past : {X : Type 0} (xs : List X) (n : ℕ) → length xs ≤ n → take n xs ≡ xs
take-past [] zero l = refl
take-past [] (suc n) l = refl
take-past (x ∷ xs) zero l = let no : ⊥ = omega arith in absurd no
take-past (x ∷ xs) (suc n) l = ap (λ z. x ∷ z) (take-past xs n (omega arith))

take-more : {X : Type 0} (xs : List X) (n : ℕ) (x : X) → slice_get xs n ≡ Some x → take (n + 1) xs ≡ take n xs ++ x ∷ []
take-more [] n x e = let no : ⊥ = cc in absurd no
take-more (y ∷ xs) zero x e = ap (λ z. z ∷ []) (ap (λ o. unwrap_or o y) e)
take-more (y ∷ xs) (suc n) x e = let one : suc n + 1 ≡ suc (n + 1) = omega arith in ap (λ k. take k (y ∷ xs)) one ∙ ap (λ z. y ∷ z) (take-more xs n x e)

get-taken : {X : Type 0} (xs : List X) (n j : ℕ) (x : X) → slice_get (take n xs) j ≡ Some x → slice_get xs j ≡ Some x
get-taken [] zero j x e = e
get-taken [] (suc n) j x e = e
get-taken (y ∷ xs) zero j x e = let no : ⊥ = cc in absurd no
get-taken (y ∷ xs) (suc n) zero x e = e
get-taken (y ∷ xs) (suc n) (suc j) x e = get-taken xs n j x e

long-taken : {X : Type 0} (xs : List X) (k : ℕ) → length (take k xs) ≤ k
long-taken [] zero = omega arith
long-taken [] (suc k) = omega arith
long-taken (x ∷ xs) zero = omega arith
long-taken (x ∷ xs) (suc k) = let q = long-taken xs k in omega arith

pub name-at : (ns : List WrittenNode) (i : ℕ) (n : WrittenNode) → i < length ns → n ≡ get_or ns i n → slice_get (written_names ns) i ≡ Some n.name
name-at [] i n l is = let no : ⊥ = omega arith in absurd no
name-at (x ∷ ns) zero n l is = ap (λ (y : WrittenNode). Some y.name) (sym is)
name-at (x ∷ ns) (suc i) n l is = name-at ns i n (omega arith) is

pub names-long : (ns : List WrittenNode) → length (written_names ns) ≡ length ns
names-long [] = refl
names-long (n ∷ ns) = ap suc (names-long ns)

-- the names so far are keys
pub record AreAdded (ns : List WrittenNode) (i : ℕ) (ks : List Text) : Type 0 where
  pub same : names_kept ks ≡ take i (written_names ns)
  pub apart : AreDifferent (names_kept ks)

pub added-none : (ns : List WrittenNode) (ks : List Text) → ks ≡ [] → AreAdded ns 0 ks
added-none ns ks e = subst (AreAdded ns 0) (sym e) (record { same = none ns; apart = tt })
  where
    none : (xs : List WrittenNode) → names_kept [] ≡ take 0 (written_names xs)
    none [] = refl
    none (x ∷ xs) = refl

pub added-all : (ns : List WrittenNode) (i : ℕ) (ks : List Text) → AreAdded ns i ks → length ns ≤ i → (names_kept ks ≡ written_names ns) × AreDifferent (written_names ns)
added-all ns i ks a l =
    let whole : names_kept ks ≡ written_names ns = a.same ∙ take-past (written_names ns) i (let c = names-long ns in omega arith) in
    (whole, subst AreDifferent whole a.apart)

module _ (ns : List WrittenNode) (i : ℕ) (ks : List Text) (n : WrittenNode) (v : Text) (a : AreAdded ns i ks) (l : i < length ns) (is : n ≡ get_or ns i n) (named : v.items ≡ n.name) where
  at : slice_get (written_names ns) i ≡ Some n.name
  at = name-at ns i n l is

  texts-pushed : (xs : List Text) → names_kept (xs ++ v ∷ []) ≡ names_kept xs ++ v.items ∷ []
  texts-pushed [] = refl
  texts-pushed (x ∷ xs) = ap (λ z. x.items ∷ z) (texts-pushed xs)

  pub added-more : (ks' : List Text) → list_any (λ (k : Text). pointwise nat_eq v.items k.items) ks ≡ false → ks' ≡ cond (list_any (λ (k : Text). pointwise nat_eq v.items k.items) ks) ks (ks ++ v ∷ []) →
      IsDistinct (λ (x y : Text). pointwise nat_eq x.items y.items) ks' → AreAdded ns (i + 1) ks'
  added-more ks' new e' d = record {
    same = ap names_kept (e' ∙ ap (λ b. cond b ks (ks ++ v ∷ [])) new) ∙ texts-pushed ks ∙ ap (λ z. names_kept ks ++ z ∷ []) named ∙ ap (λ z. z ++ n.name ∷ []) a.same
        ∙ sym (take-more (written_names ns) i n.name at);
    apart = keys-differ ks' d;
  }

  pub is-doubled : list_any (λ (k : Text). pointwise nat_eq v.items k.items) ks ≡ true → IsFirstDoubled (written_names ns) n.name
  is-doubled found =
      let h = key-there v.items ks found in
      let here : slice_get (names_kept ks) h.0 ≡ Some n.name = h.2 ∙ ap Some named in record {
        place = i;
        stands = at;
        earlier = h.0;
        before = (let b = ap (λ z. length z) a.same in let c = long-taken (written_names ns) i in let d = h.1 in omega arith);
        same = get-taken (written_names ns) i h.0 n.name (ap (λ z. slice_get z h.0) (sym a.same) ∙ here);
        apart = subst AreDifferent a.same a.apart;
      }

pub not-new : (new there : Bool) → new ≡ not there → new ≡ false → there ≡ true
not-new new true e f = refl
not-new new false e f = sym f ∙ e

pub is-new : (new there : Bool) → new ≡ not there → new ≡ true → there ≡ false
is-new new false e f = refl
is-new new true e f = absurd (true-false (sym f ∙ e))
