-- Bytes stand for one list of caps and one of tenants, and are not refused besides.
use Rattle.std.proofs.Common.{◌≡◌, inl, inr, ℕ, zero, suc, List, [], ◌∷◌, ◌++◌, length, take, slice_get, codes, Option, None, Some, refl, sym, ◌∙◌, ap, ap₂, subst, arith}
use Rattle.std.specs.List.{AllZip}
use Rattle.std.proofs.lemmas.Option.{slice_get_within}
use Rattle.serde_json.specs.Data.{Data}
use Rattle.serde_json.specs.View.{items_of}
use Rattle.merlin_base.specs.Lexemes.{IsRate}
use Rattle.merlin_base.proofs.Unique.{IsRate-one}
use Rattle.merlin_model.specs.Networks.{AreDifferent}
use Rattle.fair_share.specs.declared.cap.Cap.{Cap}
use Rattle.fair_share.specs.declared.cap.Tenant.{Tenant}
use Rattle.fair_share.specs.declared.entry.NamedRate.{NamedRate}
use Rattle.fair_share.specs.declared.entry.NamedRates.{NamedRates}
use Rattle.fair_share.specs.declared.entry.ElementPart.{ElementPart}
use Rattle.fair_share.specs.declared.entry.ElementPart.TheVariants.{Itself, Name, Rate, Under}
use Rattle.fair_share.specs.declared.fault.DemandFault.{DemandFault}
use Rattle.fair_share.specs.declared.fault.DemandFault.TheVariants.{Json, Shape, TooLarge, DuplicateName, UnknownCap, OutOfMemory}
use Rattle.topology_shape.specs.Json.{IsJson, HasText, HasItems}
use Rattle.fair_share.specs.Format.{HasRate, HasUnder, IsEntryOf, HasEntries, AreEntriesOf}
use Rattle.fair_share.specs.Shape.{IsWrongPart, IsWrongEntryArray, AreMisshapenDemands}
use Rattle.fair_share.specs.Shares.{Demands, IsDemands}
use Rattle.fair_share.specs.Reading.{names_written, all_names, IsPlaceOfCap, AreCapsOf, AreTenantsOf, AreDemandsOf, AreWritten, IsDemandsText, AreFew, IsTooLarge, IsFirstRepeatedName, IsFirstUnknown, IsUnknown, names_before, all_names_of, RefusesDemands}
use Rattle.fair_share.proofs.NamedRates.{lawful}
use Rattle.fair_share.proofs.Numbering.{are-demands, get-take, there}
use Rattle.fair_share.proofs.OneDivision.{place-once}

some-one : {X : Type 0} {o : Option X} {x y : X} → o ≡ Some x → o ≡ Some y → x ≡ y
some-one {X} {o} {x} {y} e f = let g : Some x ≡ Some y = sym e ∙ f in cc

none-some : {X Y : Type 0} {o : Option X} {x : X} → o ≡ None → o ≡ Some x → Y
none-some {X} {Y} {o} {x} e f = let g : ◌≡◌ {A = Option X} None (Some x) = sym e ∙ f in absurd (by g)
  where
    by : ◌≡◌ {A = Option X} None (Some x) → ⊥
    by g = cc

-- Values of one text, and what their members describe.

json-one : (bytes : List ℕ) (a b : Data) → IsJson bytes a → IsJson bytes b → a ≡ b
json-one bytes a b p q = some-one p.1 q.1

items-same : (xs ys : List Data) → items_of xs ≡ items_of ys → xs ≡ ys
items-same [] [] e = refl
items-same [] (y ∷ ys) e = cc
items-same (x ∷ xs) [] e = cc
items-same (x ∷ xs) (y ∷ ys) e =
    let rest : xs ≡ ys = items-same xs ys cc in
    cc

array-one : (key : List ℕ) (d : Data) (xs ys : List Data) → HasItems key d xs → HasItems key d ys → xs ≡ ys
array-one key d xs ys p q = items-same xs ys (some-one p q)

rate-one : (key : List ℕ) (d : Data) (n m : ℕ) → HasRate key d n → HasRate key d m → n ≡ m
rate-one key d n m p q = IsRate-one p.text n m p.form (subst (λ (t : List ℕ). IsRate t m) (some-one q.stands p.stands) q.form)

no-text : {X : Type 0} (d : Data) (text : List ℕ) → HasUnder d None → HasText (codes "under") d text → X
no-text d text missing has = absurd (by missing has)
  where
    by : HasUnder d None → HasText (codes "under") d text → ⊥
    by missing has = cc

under-one : (d : Data) (o p : Option (List ℕ)) → HasUnder d o → HasUnder d p → o ≡ p
under-one d None None h k = refl
under-one d None (Some t) h k = no-text d t h k
under-one d (Some s) None h k = no-text d s k h
under-one d (Some s) (Some t) h k = ap Some (some-one h k)

entry-one : (key : List ℕ) (d : Data) (a b : NamedRate) → IsEntryOf key d a → IsEntryOf key d b → a ≡ b
entry-one key d a b p q =
    let name : a.name ≡ b.name = some-one p.name.0 q.name.0 in
    let rate : a.rate ≡ b.rate = rate-one key d a.rate b.rate p.rate q.rate in
    let under : a.under ≡ b.under = under-one d a.under b.under p.under q.under in
    λ i. record { name = name i; rate = rate i; under = under i }

zip-one : {A B : Type 0} (R : A → B → Type 0) → ((x : A) (y z : B) → R x y → R x z → y ≡ z) → (xs : List A) (ys zs : List B) → AllZip R xs ys → AllZip R xs zs → ys ≡ zs
zip-one R one [] [] [] p q = refl
zip-one R one [] [] (z ∷ zs) p q = absurd q
zip-one R one [] (y ∷ ys) zs p q = absurd p
zip-one R one (x ∷ xs) [] zs p q = absurd p
zip-one R one (x ∷ xs) (y ∷ ys) [] p q = absurd q
zip-one R one (x ∷ xs) (y ∷ ys) (z ∷ zs) p q = ap₂ (λ u us. u ∷ us) (one x y z p.0 q.0) (zip-one R one xs ys zs p.1 q.1)

entries-one : (key rate_key : List ℕ) (d : Data) (xs ys : List NamedRate) → HasEntries key rate_key d xs → HasEntries key rate_key d ys → xs ≡ ys
entries-one key rate_key d xs ys p q =
    zip-one (IsEntryOf rate_key) (entry-one rate_key) p.0 xs ys p.2 (subst (λ (ds : List Data). AllZip (IsEntryOf rate_key) ds ys) (array-one key d q.0 p.0 q.1 p.1) q.2)

-- the same caps and the same tenants
record AreSameEntries (a b : NamedRates) : Type 0 where
  pub caps : a.caps.items ≡ b.caps.items
  pub tenants : a.tenants.items ≡ b.tenants.items

written-one : (bytes : List ℕ) (a b : NamedRates) → AreWritten bytes a → AreWritten bytes b → AreSameEntries a b
written-one bytes a b (d, text, are) (e, text', are') =
    let here : AreEntriesOf d b = subst (λ (x : Data). AreEntriesOf x b) (json-one bytes e d text' text) are' in
    record {
      caps = entries-one (codes "caps") (codes "rate") d a.caps.items b.caps.items are.caps here.caps;
      tenants = entries-one (codes "tenants") (codes "demand") d a.tenants.items b.tenants.items are.tenants here.tenants;
    }

-- Entries are one list of caps and one of tenants.

lists-one : {X : Type 0} (xs ys : List X) → length xs ≡ length ys → ((i : ℕ) (x y : X) → slice_get xs i ≡ Some x → slice_get ys i ≡ Some y → x ≡ y) → xs ≡ ys
lists-one [] [] l h = refl
lists-one [] (y ∷ ys) l h = let no : ⊥ = omega arith in absurd no
lists-one (x ∷ xs) [] l h = let no : ⊥ = omega arith in absurd no
lists-one (x ∷ xs) (y ∷ ys) l h = ap₂ (λ u us. u ∷ us) (h 0 x y refl refl) (lists-one xs ys (omega arith) (λ i u v e f. h (suc i) u v e f))

place-one : (names : List (List ℕ)) → ((i j : ℕ) (name : List ℕ) → slice_get names i ≡ Some name → slice_get names j ≡ Some name → i ≡ j) → (under : Option (List ℕ)) (a b : Option ℕ) → IsPlaceOfCap names under a → IsPlaceOfCap names under b → a ≡ b
place-one names once None a b p q = p ∙ sym q
place-one names once (Some name) a b (i, e, at) (j, f, at') = e ∙ (ap Some (once i j name at at') ∙ sym f)

module _ (es ts : List NamedRate) (differ : AreDifferent (names_written es ++ names_written ts)) where
  front-once : (n i j : ℕ) (name : List ℕ) → slice_get (take n (names_written es)) i ≡ Some name → slice_get (take n (names_written es)) j ≡ Some name → i ≡ j
  front-once n i j name e f = place-once (names_written es) (names_written ts) i j name differ (get-take (names_written es) n i name e).1 (get-take (names_written es) n j name f).1

  caps-one : (xs ys : List Cap) → AreCapsOf es xs → AreCapsOf es ys → xs ≡ ys
  caps-one xs ys p q = lists-one xs ys (p.as_many ∙ sym q.as_many) one
    where
      one : (c : ℕ) (x y : Cap) → slice_get xs c ≡ Some x → slice_get ys c ≡ Some y → x ≡ y
      one c x y e f =
          let entry = there es c (let l = slice_get_within xs c x e in let m = p.as_many in omega arith) in
          let a = p.each c entry.0 x entry.1 e in
          let b = q.each c entry.0 y entry.1 f in
          let name : x.name ≡ y.name = a.name ∙ sym b.name in
          let rate : x.rate ≡ y.rate = a.rate ∙ sym b.rate in
          let under : x.under ≡ y.under = place-one (take c (names_written es)) (front-once c) entry.0.under x.under y.under a.under b.under in
          λ i. record { name = name i; rate = rate i; under = under i }

  tenants-one : (xs ys : List Tenant) → AreTenantsOf (names_written es) ts xs → AreTenantsOf (names_written es) ts ys → xs ≡ ys
  tenants-one xs ys p q = lists-one xs ys (p.as_many ∙ sym q.as_many) one
    where
      one : (i : ℕ) (x y : Tenant) → slice_get xs i ≡ Some x → slice_get ys i ≡ Some y → x ≡ y
      one i x y e f =
          let entry = there ts i (let l = slice_get_within xs i x e in let m = p.as_many in omega arith) in
          let a = p.each i entry.0 x entry.1 e in
          let b = q.each i entry.0 y entry.1 f in
          let name : x.name ≡ y.name = a.name ∙ sym b.name in
          let demand : x.demand ≡ y.demand = a.demand ∙ sym b.demand in
          let under : x.under ≡ y.under = place-one (names_written es) (λ u v n g h. place-once (names_written es) (names_written ts) u v n differ g h) entry.0.under x.under y.under a.under b.under in
          λ k. record { name = name k; demand = demand k; under = under k }

pub demands-one : (bytes : List ℕ) (d e : Demands) → IsDemandsText bytes d → IsDemandsText bytes e → d ≡ e
demands-one bytes d e (a, written, are) (b, written', are') =
    let same = written-one bytes b a written' written in
    let caps : d.caps ≡ e.caps = caps-one a.caps.items a.tenants.items are.differ d.caps e.caps are.caps (subst (λ (es : List NamedRate). AreCapsOf es e.caps) same.caps are'.caps) in
    let moved : AreTenantsOf (names_written a.caps.items) b.tenants.items e.tenants = subst (λ (es : List NamedRate). AreTenantsOf (names_written es) b.tenants.items e.tenants) same.caps are'.tenants in
    let tenants : d.tenants ≡ e.tenants = tenants-one a.caps.items a.tenants.items are.differ d.tenants e.tenants are.tenants (subst (λ (ts : List NamedRate). AreTenantsOf (names_written a.caps.items) ts e.tenants) same.tenants moved) in
    λ i. record { caps = caps i; tenants = tenants i }

-- what bytes stand for keeps the rules
pub demands-kept : (bytes : List ℕ) (d : Demands) → IsDemandsText bytes d → IsDemands d
demands-kept bytes d (entries, (value, text, are), is) =
    are-demands entries d (lawful (codes "caps") (codes "rate") value entries.caps.items are.caps, lawful (codes "tenants") (codes "demand") value entries.tenants.items are.tenants) is

-- What describes entries is not misshapen.

right-entry : (key : List ℕ) (d : Data) (entry : NamedRate) (part : ElementPart) → IsEntryOf key d entry → IsWrongPart key d part → ⊥
right-entry key d entry Itself is wrong = wrong is.object
right-entry key d entry Name is wrong = wrong.1 entry.name is.name
right-entry key d entry Rate is wrong = wrong.2 entry.rate is.rate
right-entry key d entry Under is wrong = wrong.3 entry.under is.under

zip-there : {A B : Type 0} (R : A → B → Type 0) (xs : List A) (ys : List B) (i : ℕ) (x : A) → AllZip R xs ys → slice_get xs i ≡ Some x → (y : B) × R x y
zip-there R [] ys i x z e = let no : ⊥ = cc in absurd no
zip-there R (a ∷ xs) [] i x z e = absurd z
zip-there {A} R (a ∷ xs) (y ∷ ys) zero x z e = let same : a ≡ x = cc in (y, subst (λ (b : A). R b y) same z.0)
zip-there R (a ∷ xs) (y ∷ ys) (suc i) x z e = zip-there R xs ys i x z.1 e

right-array : (key rate_key : List ℕ) (d : Data) (entries : List NamedRate) (what : List ℕ) → HasEntries key rate_key d entries → IsWrongEntryArray key rate_key d what → ⊥
right-array key rate_key d entries what has (inl (e, none)) = none has.0 has.1
right-array key rate_key d entries what has (inr (items, is, wrong)) =
    let zipped : AllZip (IsEntryOf rate_key) items entries = subst (λ (ds : List Data). AllZip (IsEntryOf rate_key) ds entries) (array-one key d has.0 items has.1 is) has.2 in
    let found = zip-there (IsEntryOf rate_key) items entries wrong.place wrong.item zipped wrong.stands in
    right-entry rate_key wrong.item found.0 wrong.part found.1 wrong.wrong

right-value : (d : Data) (entries : NamedRates) (what : List ℕ) → AreEntriesOf d entries → AreMisshapenDemands d what → ⊥
right-value d entries what are (inl (e, none)) = none are.object
right-value d entries what are (inr (object, inl wrong)) = right-array (codes "caps") (codes "rate") d entries.caps.items what are.caps wrong
right-value d entries what are (inr (object, inr (caps, wrong))) = right-array (codes "tenants") (codes "demand") d entries.tenants.items what are.tenants wrong

-- Entries that are demands break no rule.

not-large : (a b : NamedRates) (what : List ℕ) (count : ℕ) → AreSameEntries a b → AreFew a → IsTooLarge b what count → ⊥
not-large a b what count same few (inl large) = omega (arith, few.0, large.0, ap length same.caps)
not-large a b what count same few (inr large) = omega (arith, few.1, large.1, ap length same.tenants)

not-repeated : (xs : List (List ℕ)) (name : List ℕ) → AreDifferent (xs ++ []) → IsFirstRepeatedName xs name → ⊥
not-repeated xs name differ first =
    let same = place-once xs [] first.place first.earlier name differ first.stands first.same in
    let before = first.before in
    omega arith

not-unknown-cap : (es : List NamedRate) (caps : List Cap) (name : List ℕ) → AreCapsOf es caps → IsFirstUnknown (names_before es) es name → ⊥
not-unknown-cap es caps name are first =
    let cap = there caps first.place (let l = slice_get_within es first.place first.entry first.stands in let m = are.as_many in omega arith) in
    first.unknown (cap.0.under, (are.each first.place first.entry cap.0 first.stands cap.1).under)

not-unknown-tenant : (es ts : List NamedRate) (tenants : List Tenant) (name : List ℕ) → AreTenantsOf (names_written es) ts tenants → IsFirstUnknown (all_names_of es) ts name → ⊥
not-unknown-tenant es ts tenants name are first =
    let tenant = there tenants first.place (let l = slice_get_within ts first.place first.entry first.stands in let m = are.as_many in omega arith) in
    first.unknown (tenant.0.under, (are.each first.place first.entry tenant.0 first.stands tenant.1).under)

not-unknown : (a b : NamedRates) (d : Demands) (name : List ℕ) → AreSameEntries b a → AreDemandsOf a d → IsUnknown b name → ⊥
not-unknown a b d name same are (inl first) = not-unknown-cap a.caps.items d.caps name are.caps (subst (λ (es : List NamedRate). IsFirstUnknown (names_before es) es name) same.caps first)
not-unknown a b d name same are (inr (known, first)) =
    not-unknown-tenant a.caps.items a.tenants.items d.tenants name are.tenants
    (subst (λ (ts : List NamedRate). IsFirstUnknown (all_names_of a.caps.items) ts name) same.tenants (subst (λ (es : List NamedRate). IsFirstUnknown (all_names_of es) b.tenants.items name) same.caps first))

names-same : (a b : NamedRates) → AreSameEntries a b → all_names a ≡ all_names b
names-same a b same = ap₂ (λ es ts. names_written es ++ names_written ts) same.caps same.tenants

-- what bytes stand for is not refused
pub demands-apart : (bytes : List ℕ) (d : Demands) (fault : DemandFault) → IsDemandsText bytes d → RefusesDemands bytes fault → fault ≡ OutOfMemory
demands-apart bytes d Json (a, (value, text, are), is) refused = absurd (refused value text)
demands-apart bytes d (Shape what) (a, (value, text, are), is) (other, text', wrong) =
    absurd (right-value value a what are (subst (λ (v : Data). AreMisshapenDemands v what) (json-one bytes other value text' text) wrong))
demands-apart bytes d (TooLarge what count) (a, written, is) (b, written', wrong) = absurd (not-large a b what count (written-one bytes a b written written') is.few wrong)
demands-apart bytes d (DuplicateName name) (a, written, is) (b, written', wrong) =
    let same = names-same a b (written-one bytes a b written written') in
    absurd (not-repeated (all_names b) name (subst AreDifferent (same ∙ sym (append-none (all_names b))) is.differ) wrong.1)
  where
    append-none : (xs : List (List ℕ)) → xs ++ [] ≡ xs
    append-none [] = refl
    append-none (x ∷ xs) = ap (λ z. x ∷ z) (append-none xs)
demands-apart bytes d (UnknownCap name) (a, written, is) (b, written', wrong) = absurd (not-unknown a b d name (written-one bytes b a written' written) is wrong.2)
demands-apart bytes d OutOfMemory is refused = refl
