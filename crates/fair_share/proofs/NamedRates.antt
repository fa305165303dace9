-- Arrays of entries, and the first that is wrong.
use Rattle.std.proofs.Common.{◌≡◌, ℕ, zero, suc, ◌+◌, ◌≤◌, ◌<◌, inr, List, [], ◌∷◌, ◌++◌, length, map, take, slice_get, get_or, Some, unwrap_or, refl, sym, ◌∙◌, ap, subst, arith}
use Rattle.std.specs.List.{AllByRecursion, AllZip}
use Rattle.std.proofs.lemmas.List.{take_all}
use Rattle.serde_json.specs.Data.{Data}
use Rattle.fair_share.specs.declared.fault.DemandFault.{DemandFault}
use Rattle.fair_share.specs.declared.fault.DemandFault.TheVariants.{Json, Shape, TooLarge, DuplicateName, UnknownCap, OutOfMemory}
use Rattle.fair_share.specs.declared.entry.NamedRate.{NamedRate}
use Rattle.fair_share.specs.declared.entry.ElementPart.{ElementPart}
use Rattle.fair_share.specs.declared.entry.PartFault.{PartFault}
use Rattle.fair_share.specs.declared.entry.PartFault.TheVariants as part
use Rattle.topology_shape.specs.Json.{HasItems}
use Rattle.fair_share.specs.Format.{IsEntryOf, HasEntries}
use Rattle.fair_share.specs.Shape.{IsWrongPart, entry_words, IsWrongEntryArray}
use Rattle.fair_share.specs.declared.entry.NamedRates.{NamedRates}
use Rattle.fair_share.specs.Reading.{AreWritten, AreRefused, RefusesDemands}
use Rattle.fair_share.specs.Failing.{FailsAsShape, FailsAsPart, FailsAsUnknown, IsLawfulRate}

pub fails-weaker : (P Q : List ℕ → Type 0) → ((words : List ℕ) → P words → Q words) → (fault : DemandFault) → FailsAsShape P fault → FailsAsShape Q fault
fails-weaker P Q f Json h = h
fails-weaker P Q f (Shape what) h = f what h
fails-weaker P Q f (TooLarge what count) h = h
fails-weaker P Q f (DuplicateName name) h = h
fails-weaker P Q f (UnknownCap name) h = h
fails-weaker P Q f OutOfMemory h = h

zip-at : {A B : Type 0} (R : A → B → Type 0) (xs : List A) (ys : List B) (n i : ℕ) (x : A) → AllZip R (take n xs) ys → i < n → slice_get xs i ≡ Some x → (y : B) × R x y
zip-at R [] ys n i x z l e = let no : ⊥ = cc in absurd no
zip-at R (a ∷ xs) ys zero i x z l e = let no : ⊥ = omega arith in absurd no
zip-at R (a ∷ xs) [] (suc n) i x z l e = absurd z
zip-at {A} {B} R (a ∷ xs) (y ∷ ys) (suc n) zero x z l e = (y, subst (λ (b : A). R b y) (ap (λ o. unwrap_or o a) e) z.0)
zip-at R (a ∷ xs) (y ∷ ys) (suc n) (suc i) x z l e = zip-at R xs ys n i x z.1 (omega arith) e

zip-push : {A B : Type 0} (R : A → B → Type 0) (xs : List A) (ys : List B) (x : A) (y : B) → AllZip R xs ys → R x y → AllZip R (xs ++ x ∷ []) (ys ++ y ∷ [])
zip-push R [] [] x y z r = (r, tt)
zip-push R [] (b ∷ ys) x y z r = absurd z
zip-push R (a ∷ xs) [] x y z r = absurd z
zip-push R (a ∷ xs) (b ∷ ys) x y z r = (z.0, zip-push R xs ys x y z.1 r)

-- values as data
viewed-at : {V : Type 0} (view : V → Data) (vs : List V) (i : ℕ) (v : V) → i < length vs → v ≡ get_or vs i v → slice_get (map view vs) i ≡ Some (view v)
viewed-at view [] i v l e = let no : ⊥ = omega arith in absurd no
viewed-at view (w ∷ vs) zero v l e = ap (λ u. Some (view u)) (sym e)
viewed-at view (w ∷ vs) (suc i) v l e = viewed-at view vs i v (omega arith) e

viewed-more : {V : Type 0} (view : V → Data) (vs : List V) (i : ℕ) (v : V) → i < length vs → v ≡ get_or vs i v → take (i + 1) (map view vs) ≡ take i (map view vs) ++ view v ∷ []
viewed-more view vs i v l e = by vs i l e
  where
    by : (us : List _) (k : ℕ) → k < length us → v ≡ get_or us k v → take (k + 1) (map view us) ≡ take k (map view us) ++ view v ∷ []
    by [] k l e = let no : ⊥ = omega arith in absurd no
    by (u ∷ us) zero l e = ap (λ w. view w ∷ []) (sym e)
    by (u ∷ us) (suc k) l e = let one : suc k + 1 ≡ suc (k + 1) = omega arith in ap (λ n. take n (view u ∷ map view us)) one ∙ ap (λ z. view u ∷ z) (by us k (omega arith) e)

module _ {V : Type 0} (view : V → Data) (key rate_key : List ℕ) (d : Data) (vs : List V) (has : HasItems key d (map view vs)) where
  pub one-more-entry : (entries : List NamedRate) (i : ℕ) (v : V) (entry : NamedRate) → i < length vs → v ≡ get_or vs i v → AllZip (IsEntryOf rate_key) (take i (map view vs)) entries → IsEntryOf rate_key (view v) entry →
      AllZip (IsEntryOf rate_key) (take (i + 1) (map view vs)) (entries ++ entry ∷ [])
  one-more-entry entries i v entry l e z is = subst (λ (front : List Data). AllZip (IsEntryOf rate_key) front (entries ++ entry ∷ [])) (sym (viewed-more view vs i v l e)) (zip-push (IsEntryOf rate_key) (take i (map view vs)) entries (view v) entry z is)

  pub wrong-entry : (entries : List NamedRate) (i : ℕ) (v : V) (part : ElementPart) (what : List ℕ) → i < length vs → v ≡ get_or vs i v → AllZip (IsEntryOf rate_key) (take i (map view vs)) entries → IsWrongPart rate_key (view v) part →
      what ≡ entry_words key rate_key i part → IsWrongEntryArray key rate_key d what
  wrong-entry entries i v part what l e z wrong words = inr (
    map view vs,
    has,
    record {
      place = i;
      item = view v;
      stands = viewed-at view vs i v l e;
      part = part;
      wrong = wrong;
      before = λ j x lt f. zip-at (IsEntryOf rate_key) (map view vs) entries i j x z lt f;
      words = words;
    },
  )

  pub all-entries : (entries : List NamedRate) (i : ℕ) → length vs ≤ i → AllZip (IsEntryOf rate_key) (take i (map view vs)) entries → HasEntries key rate_key d entries
  all-entries entries i past z = (map view vs, has, subst (λ (front : List Data). AllZip (IsEntryOf rate_key) front entries) (take_all i (map view vs) (let s = viewed-long vs in omega arith)) z)
    where
      viewed-long : (us : List V) → length (map view us) ≡ length us
      viewed-long [] = refl
      viewed-long (u ∷ us) = ap suc (viewed-long us)

-- entries have names, and rates within the limit
pub lawful : (key rate_key : List ℕ) (d : Data) (entries : List NamedRate) → HasEntries key rate_key d entries → AllByRecursion IsLawfulRate entries
lawful key rate_key d entries has = by has.0 entries has.2
  where
    by : (items : List Data) (es : List NamedRate) → AllZip (IsEntryOf rate_key) items es → AllByRecursion IsLawfulRate es
    by [] [] z = tt
    by [] (e ∷ es) z = absurd z
    by (i ∷ items) [] z = absurd z
    by (i ∷ items) (e ∷ es) z = ((z.0.name.1, z.0.rate.form.few), by items es z.1)

pub unknown-weaker : (P Q : List ℕ → Type 0) → ((name : List ℕ) → P name → Q name) → (fault : DemandFault) → FailsAsUnknown P fault → FailsAsUnknown Q fault
unknown-weaker P Q f Json h = h
unknown-weaker P Q f (Shape what) h = h
unknown-weaker P Q f (TooLarge what count) h = h
unknown-weaker P Q f (DuplicateName name) h = h
unknown-weaker P Q f (UnknownCap name) h = f name h
unknown-weaker P Q f OutOfMemory h = h

-- what entries are refused for, their bytes are refused for
pub refuses : (bytes : List ℕ) (entries : NamedRates) → AreWritten bytes entries → (fault : DemandFault) → AreRefused entries fault → RefusesDemands bytes fault
refuses bytes entries w Json h = absurd h
refuses bytes entries w (Shape what) h = absurd h
refuses bytes entries w (TooLarge what count) h = (entries, w, h)
refuses bytes entries w (DuplicateName name) h = (entries, w, h)
refuses bytes entries w (UnknownCap name) h = (entries, w, h)
refuses bytes entries w OutOfMemory h = tt

pub wrong-part : (P : ElementPart → Type 0) (fault : PartFault) (which : ElementPart) → fault ≡ part.Wrong which → FailsAsPart P fault → P which
wrong-part P fault which e h = subst (λ (f : PartFault). FailsAsPart P f) e h
