-- Arrays, and the elements that they describe.
use Rattle.std.proofs.Common.{◌≡◌, ◌+◌, ◌<◌, ◌≤◌, ℕ, zero, suc, List, [], ◌∷◌, ◌++◌, length, take, map, get_or, slice_get, option_map, Some, None, refl, sym, ◌∙◌, ap, subst, inl, inr}
use Rattle.std.specs.List.{AllZip}
use Rattle.std.proofs.lemmas.List.{take_more, take_all, take-map, map_more}
use Rattle.std.proofs.lemmas.Option.{slice_get_read, slice_get-map}
use Rattle.serde_json.specs.Data.{Data}
use Rattle.serde_json.specs.View.{items_of}
use Rattle.topology_shape.specs.Json.{HasItems, HasElements}
use Rattle.topology_shape.specs.Wrong.{IsWrongArray, element_words}
use Rattle.topology_shape.specs.Faults.{FailsAs, FailsAsElement, FailsAt}
use Rattle.topology_shape.specs.declared.fault.ElementFault.{ElementFault}
use Rattle.topology_shape.specs.declared.fault.ElementFault.TheVariants.{WrongMember, NoMemory}
use Rattle.topology_shape.specs.declared.fault.ShapeFault.{ShapeFault}
use Rattle.topology_shape.specs.declared.fault.ShapeFault.TheVariants.{Json, Wrong, OutOfMemory}
use Rattle.topology_shape.proofs.Told.{some_one}

-- what is wrong with a part is wrong with the whole
pub fails_from : {P Q : List ℕ → Type 0} → ((w : List ℕ) → P w → Q w) → (fault : ShapeFault) → FailsAs P fault → FailsAs Q fault
fails_from f Json fails = fails
fails_from f (Wrong what) fails = f what fails
fails_from f OutOfMemory fails = tt

items_same : (xs ys : List Data) → items_of xs ≡ items_of ys → xs ≡ ys
items_same [] [] e = refl
items_same [] (y ∷ ys) e = cc
items_same (x ∷ xs) [] e = cc
items_same (x ∷ xs) (y ∷ ys) e =
    let rest : xs ≡ ys = items_same xs ys cc in
    cc

pub items_one : (key : List ℕ) (d : Data) (xs ys : List Data) → HasItems key d xs → HasItems key d ys → xs ≡ ys
items_one key d xs ys p q = items_same xs ys (some_one p q)

pub zip_long : {A B : Type 0} (R : A → B → Type 0) (xs : List A) (ys : List B) → AllZip R xs ys → length ys ≡ length xs
zip_long R [] [] z = refl
zip_long R [] (y ∷ ys) z = absurd z
zip_long R (x ∷ xs) [] z = absurd z
zip_long R (x ∷ xs) (y ∷ ys) z = ap suc (zip_long R xs ys z.1)

zip_at : {A B : Type 0} (R : A → B → Type 0) (xs : List A) (ys : List B) (i : ℕ) (x : A) → AllZip R xs ys → slice_get xs i ≡ Some x → (y : B) × R x y
zip_at R [] ys i x z e = absurd (never x e)
  where
    never : {A : Type 0} (x : A) → None ≡ Some x → ⊥
    never x e = cc
zip_at R (x' ∷ xs) [] i x z e = absurd z
zip_at {A} {B} R (x' ∷ xs) (y ∷ ys) zero x z e = let same : x' ≡ x = cc in (y, subst (λ (a : A). R a y) same z.0)
zip_at R (x' ∷ xs) (y ∷ ys) (suc i) x z e = zip_at R xs ys i x z.1 e

zip_push : {A B : Type 0} (R : A → B → Type 0) (xs : List A) (ys : List B) (x : A) (y : B) → AllZip R xs ys → R x y → AllZip R (xs ++ x ∷ []) (ys ++ y ∷ [])
zip_push R [] [] x y z r = (r, tt)
zip_push R [] (b ∷ ys) x y z r = absurd z
zip_push R (a ∷ xs) [] x y z r = absurd z
zip_push R (a ∷ xs) (b ∷ ys) x y z r = (z.0, zip_push R xs ys x y z.1 r)

pub zip_more : {A B : Type 0} (R : A → B → Type 0) (xs : List A) (ys : List B) (i : ℕ) (x : A) (y : B) → i < length xs → x ≡ get_or xs i x → AllZip R (take i xs) ys → R x y → AllZip R (take (i + 1) xs) (ys ++ y ∷ [])
zip_more {A} {B} R xs ys i x y within is z r =
    subst (λ (front : List A). AllZip R front (ys ++ y ∷ [])) (ap (λ a. take i xs ++ a ∷ []) is ∙ sym (take_more xs i x within)) (zip_push R (take i xs) ys x y z r)

pub zip_whole : {A B : Type 0} (R : A → B → Type 0) (xs : List A) (ys : List B) (i : ℕ) → length xs ≤ i → AllZip R (take i xs) ys → AllZip R xs ys
zip_whole {A} {B} R xs ys i past z = subst (λ (front : List A). AllZip R front ys) (take_all i xs past) z

pub zip_one : {A B : Type 0} (R : A → B → Type 0) → ((x : A) (y z : B) → R x y → R x z → y ≡ z) → (xs : List A) (ys zs : List B) → AllZip R xs ys → AllZip R xs zs → ys ≡ zs
zip_one R one [] [] [] p q = refl
zip_one R one [] [] (z ∷ zs) p q = absurd q
zip_one R one [] (y ∷ ys) zs p q = absurd p
zip_one R one (x ∷ xs) [] zs p q = absurd p
zip_one R one (x ∷ xs) (y ∷ ys) [] p q = absurd q
zip_one R one (x ∷ xs) (y ∷ ys) (z ∷ zs) p q =
    let head : y ≡ z = one x y z p.0 q.0 in
    let tail : ys ≡ zs = zip_one R one xs ys zs p.1 q.1 in
    cc

module _ {X : Type 0} (R : Data → X → Type 0) (key : List ℕ) (d : Data) (items : List Data) (has : HasItems key d items) where
  the_zip : (xs : List X) → HasElements R key d xs → AllZip R items xs
  the_zip xs (others, has', z) = subst (λ (ds : List Data). AllZip R ds xs) (items_one key d others items has' has) z

  pub elements_long : (xs : List X) → HasElements R key d xs → length xs ≡ length items
  elements_long xs e = zip_long R items xs (the_zip xs e)

  pub elements_at : (i : ℕ) (x : Data) → slice_get items i ≡ Some x → (xs : List X) → HasElements R key d xs → (y : X) × R x y
  elements_at i x at xs e = zip_at R items xs i x (the_zip xs e) at

pub elements_one : {X : Type 0} (R : Data → X → Type 0) → ((x : Data) (y z : X) → R x y → R x z → y ≡ z) → (key : List ℕ) (d : Data) (ys zs : List X) → HasElements R key d ys → HasElements R key d zs → ys ≡ zs
elements_one R one key d ys zs (items, has, z) e = zip_one R one items ys zs z (the_zip R key d items has zs e)

-- the same where the values are seen under a map
pub zip_more_seen : {A B C : Type 0} (R : A → B → Type 0) (f : C → A) (cs : List C) (ys : List B) (i : ℕ) (c : C) (y : B) → i < length cs → c ≡ get_or cs i c → AllZip R (take i (map f cs)) ys → R (f c) y → AllZip R (take (i + 1) (map f cs)) (ys ++ y ∷ [])
zip_more_seen {A} {B} R f cs ys i c y within is z r =
    subst (λ (front : List A). AllZip R front (ys ++ y ∷ [])) longer (zip_push R (take i (map f cs)) ys (f c) y z r)
  where
    longer : take i (map f cs) ++ f c ∷ [] ≡ take (i + 1) (map f cs)
    longer = ap (λ front. front ++ f c ∷ []) (take-map f i cs) ∙ (ap (λ x. map f (take i cs) ++ f x ∷ []) is ∙ (sym (map_more f cs i c within) ∙ sym (take-map f (i + 1) cs)))

pub seen_at : {A C : Type 0} (f : C → A) (cs : List C) (i : ℕ) (c : C) → i < length cs → c ≡ get_or cs i c → slice_get (map f cs) i ≡ Some (f c)
seen_at f cs i c within is = slice_get-map f cs i ∙ ap (option_map f) (slice_get_read cs (length cs) i c refl within is)

-- an array that is missing, or none
pub missing_array : {X : Type 0} (IsRight : Data → X → Type 0) (IsWrong : Data → List ℕ → Type 0) (key : List ℕ) (d : Data) → ((items : List Data) → HasItems key d items → ⊥) → (what : List ℕ) → what ≡ key → IsWrongArray IsRight IsWrong key d what
missing_array IsRight IsWrong key d none what e = inl (e, none)

-- an element that is wrong after right ones
pub wrong_item : {X C : Type 0} (IsRight : Data → X → Type 0) (IsWrong : Data → List ℕ → Type 0) (f : C → Data) (key : List ℕ) (d : Data) (cs : List C) (xs : List X) (i : ℕ) (c : C) (member : List ℕ) → HasItems key d (map f cs) → i < length cs → c ≡ get_or cs i c → AllZip IsRight (take i (map f cs)) xs → IsWrong (f c) member → (what : List ℕ) → what ≡ element_words key i member → IsWrongArray IsRight IsWrong key d what
wrong_item IsRight IsWrong f key d cs xs i c member has within is before wrong what words =
    inr (map f cs, has, record { place = i; item = f c; stands = seen_at f cs i c within is; member = member; wrong = wrong; right = xs; before = before; words = words })

-- what is wrong with an element is wrong with its array
pub fails_at : {P Q : List ℕ → Type 0} (key : List ℕ) (place : ℕ) → ((member : List ℕ) → P member → (what : List ℕ) → what ≡ element_words key place member → Q what) → (fault : ElementFault) (result : ShapeFault) → FailsAsElement P fault → FailsAt key place fault result → FailsAs Q result
fails_at key place f (WrongMember member) result fails at = fails_from (f member.now fails) result at
fails_at {Q = Q} key place f NoMemory result fails at = subst (FailsAs Q) (sym at) tt
