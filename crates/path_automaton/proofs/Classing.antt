-- Classes of symbols, symbol by symbol.
use Rattle.std.proofs.Common.{◌≡◌, ◌⊎◌, inl, inr, ◌<◌, ℕ, suc, zero, List, [], ◌∷◌, ◌++◌, length, ◌+◌, map, slice_get, Some, Contains, take, get_or, add-one, length-append, refl, sym, ◌∙◌, ap, ap₂, subst}
use Rattle.std.specs.List.{AllByRecursion}
use Rattle.merlin_model.specs.declared.policy.Symbol.{Symbol}
use Rattle.merlin_model.specs.declared.policy.Path.{Path}
use Rattle.merlin_model.proofs.Members.{In, in_from, in_to, map_in, in_append-left, in_append-right}
use Rattle.std.proofs.Math.Seq.{take-suc}
use Rattle.path_automaton.specs.declared.classes.Classes.{Classes}
use Rattle.path_automaton.specs.declared.classes.SeenSymbol.{SeenSymbol}
use Rattle.path_automaton.specs.SeenSymbols.{seen_by}
use Rattle.path_automaton.specs.Classes.{AreClasses}
use Rattle.path_automaton.specs.States.{with_new, with_all_new}
use Rattle.path_automaton.proofs.Noting.{with_all_new-last, with_all_new-place, with_new-again}
use Rattle.path_automaton.proofs.Building.{get-in}

-- Lists with one more at the end.

pub get-more : {X : Type 0} (xs ys : List X) (k : ℕ) (a : X) → slice_get xs k ≡ Some a → slice_get (xs ++ ys) k ≡ Some a
get-more [] ys k a e = cc
get-more (x ∷ xs) ys zero a e = e
get-more (x ∷ xs) ys (suc k) a e = get-more xs ys k a e

pub get-end : {X : Type 0} (xs : List X) (a : X) → slice_get (xs ++ a ∷ []) (length xs) ≡ Some a
get-end [] a = refl
get-end (x ∷ xs) a = get-end xs a

pub get-snoc : {X : Type 0} (xs : List X) (x : X) (k : ℕ) (a : X) → slice_get (xs ++ x ∷ []) k ≡ Some a → (slice_get xs k ≡ Some a) ⊎ ((k ≡ length xs) × (x ≡ a))
get-snoc [] x zero a e = inr (refl, cc)
get-snoc [] x (suc k) a e = cc
get-snoc (y ∷ xs) x zero a e = inl e
get-snoc (y ∷ xs) x (suc k) a e = by (get-snoc xs x k a e)
  where
    by : (slice_get xs k ≡ Some a) ⊎ ((k ≡ length xs) × (x ≡ a)) → (slice_get xs k ≡ Some a) ⊎ ((suc k ≡ suc (length xs)) × (x ≡ a))
    by (inl h) = inl h
    by (inr h) = inr (ap suc h.0, h.1)

pub map-snoc : {X Y : Type 0} (f : X → Y) (xs : List X) (x : X) → map f (xs ++ x ∷ []) ≡ map f xs ++ f x ∷ []
map-snoc f [] x = refl
map-snoc f (y ∷ xs) x = ap (λ l. f y ∷ l) (map-snoc f xs x)

pub get-map : {X Y : Type 0} (f : X → Y) (xs : List X) (k : ℕ) (a : X) → slice_get xs k ≡ Some a → slice_get (map f xs) k ≡ Some (f a)
get-map f [] k a e = cc
get-map f (x ∷ xs) zero a e = let same : x ≡ a = cc in ap (λ y. Some (f y)) same
get-map f (x ∷ xs) (suc k) a e = get-map f xs k a e

all-weaker : {X : Type 0} (P Q : X → Type 0) → ((x : X) → P x → Q x) → (xs : List X) → AllByRecursion P xs → AllByRecursion Q xs
all-weaker P Q f [] h = tt
all-weaker P Q f (x ∷ xs) h = (f x h.0, all-weaker P Q f xs h.1)

all-snoc : {X : Type 0} (P : X → Type 0) (xs : List X) (x : X) → AllByRecursion P xs → P x → AllByRecursion P (xs ++ x ∷ [])
all-snoc P [] x h p = (p, tt)
all-snoc P (y ∷ xs) x h p = (h.0, all-snoc P xs x h.1 p)

-- The next symbol.

module _ (path : Path) (symbols : List Symbol) (c : Classes) (h : AreClasses path symbols c) (x : Symbol) where
  among-more : (y : Symbol) → Contains symbols y → Contains (symbols ++ x ∷ []) y
  among-more y i = in_to (symbols ++ x ∷ []) y (in_append-left symbols (x ∷ []) y (in_from symbols y i))

  among-last : Contains (symbols ++ x ∷ []) x
  among-last = in_to (symbols ++ x ∷ []) x (in_append-right symbols (x ∷ []) x (inl refl))

  longer : (n : ℕ) → length (c.numbers ++ n ∷ []) ≡ length (symbols ++ x ∷ [])
  longer n = length-append c.numbers (n ∷ []) ∙ ap (λ k. k + 1) h.each ∙ sym (length-append symbols (x ∷ []))

  abbrev Alike : Classes → ℕ → Symbol → Type 0
  Alike d k z = (class : ℕ) × (y : Symbol) × (slice_get d.numbers k ≡ Some class) × (slice_get d.firsts class ≡ Some y) × (seen_by path y ≡ seen_by path z)

  -- it is seen as the first of a class
  pub class-old : (n : ℕ) (y : Symbol) → slice_get c.firsts n ≡ Some y → seen_by path y ≡ seen_by path x → AreClasses path (symbols ++ x ∷ []) (record { numbers = c.numbers ++ n ∷ []; firsts = c.firsts })
  class-old n y ey same = record {
    each = longer n;
    alike = λ k z e. by k z (get-snoc symbols x k z e);
    apart = h.apart;
    among = all-weaker (λ z. Contains symbols z) (λ z. Contains (symbols ++ x ∷ []) z) among-more c.firsts h.among;
    order = λ f blind others.
        ap (with_all_new others) (map-snoc f symbols x)
        ∙ with_all_new-last others (map f symbols) (f x)
        ∙ ap₂ with_new (h.order f blind others) (blind x y (sym same))
        ∙ (let at = with_all_new-place others (map f c.firsts) n (f y) (get-map f c.firsts n y ey) in with_new-again (f y) (with_all_new others (map f c.firsts)) at.0 at.1);
  }
    where
      new : Classes
      new = record { numbers = c.numbers ++ n ∷ []; firsts = c.firsts }

      by : (k : ℕ) (z : Symbol) → (slice_get symbols k ≡ Some z) ⊎ ((k ≡ length symbols) × (x ≡ z)) → Alike new k z
      by k z (inl e) = let old = h.alike k z e in (old.0, old.1, get-more c.numbers (n ∷ []) k old.0 old.2, old.3, old.4)
      by k z (inr e) = (n, y, ap (slice_get (c.numbers ++ n ∷ [])) (e.0 ∙ sym h.each) ∙ get-end c.numbers n, ey, same ∙ ap (seen_by path) e.1)

  -- it is the first of a class
  pub class-new : ((j : ℕ) (y : Symbol) → slice_get c.firsts j ≡ Some y → seen_by path y ≡ seen_by path x → ⊥) → AreClasses path (symbols ++ x ∷ []) (record { numbers = c.numbers ++ length c.firsts ∷ []; firsts = c.firsts ++ x ∷ [] })
  class-new fresh = record {
    each = longer (length c.firsts);
    alike = λ k z e. by k z (get-snoc symbols x k z e);
    apart = λ i j y z e f same. by-place i j y z (get-snoc c.firsts x i y e) (get-snoc c.firsts x j z f) same;
    among = all-snoc (λ z. Contains (symbols ++ x ∷ []) z) c.firsts x (all-weaker (λ z. Contains symbols z) (λ z. Contains (symbols ++ x ∷ []) z) among-more c.firsts h.among) among-last;
    order = λ f blind others.
        ap (with_all_new others) (map-snoc f symbols x)
        ∙ with_all_new-last others (map f symbols) (f x)
        ∙ ap (λ l. with_new l (f x)) (h.order f blind others)
        ∙ sym (ap (with_all_new others) (map-snoc f c.firsts x) ∙ with_all_new-last others (map f c.firsts) (f x));
  }
    where
      new : Classes
      new = record { numbers = c.numbers ++ length c.firsts ∷ []; firsts = c.firsts ++ x ∷ [] }

      by-place : (i j : ℕ) (y z : Symbol) → (slice_get c.firsts i ≡ Some y) ⊎ ((i ≡ length c.firsts) × (x ≡ y)) → (slice_get c.firsts j ≡ Some z) ⊎ ((j ≡ length c.firsts) × (x ≡ z)) →
          seen_by path y ≡ seen_by path z → i ≡ j
      by-place i j y z (inl e) (inl f) same = h.apart i j y z e f same
      by-place i j y z (inl e) (inr f) same = absurd (fresh i y e (same ∙ ap (seen_by path) (sym f.1)))
      by-place i j y z (inr e) (inl f) same = absurd (fresh j z f (sym same ∙ ap (seen_by path) (sym e.1)))
      by-place i j y z (inr e) (inr f) same = e.0 ∙ sym f.0

      by : (k : ℕ) (z : Symbol) → (slice_get symbols k ≡ Some z) ⊎ ((k ≡ length symbols) × (x ≡ z)) → Alike new k z
      by k z (inl e) = let old = h.alike k z e in (old.0, old.1, get-more c.numbers (length c.firsts ∷ []) k old.0 old.2, get-more c.firsts (x ∷ []) old.0 old.1 old.3, old.4)
      by k z (inr e) = (length c.firsts, x, ap (slice_get (c.numbers ++ length c.firsts ∷ [])) (e.0 ∙ sym h.each) ∙ get-end c.numbers (length c.firsts), get-end c.firsts x, ap (seen_by path) e.1)

-- The next symbol of a loop.

get-unmap : {X Y : Type 0} (f : X → Y) (xs : List X) (k : ℕ) (b : Y) → slice_get (map f xs) k ≡ Some b → (a : X) × (slice_get xs k ≡ Some a) × (f a ≡ b)
get-unmap f [] k b e = cc
get-unmap f (x ∷ xs) zero b e = (x, refl, cc)
get-unmap f (x ∷ xs) (suc k) b e = get-unmap f xs k b e

abbrev pub made : List ℕ → List Symbol → Classes
made numbers firsts = record { numbers = numbers; firsts = firsts }

pub take-next : (symbols : List Symbol) (i : ℕ) (d : Symbol) → i < length symbols → take (i + 1) symbols ≡ take i symbols ++ get_or symbols i d ∷ []
take-next symbols i d lt = ap (λ k. take k symbols) (add-one i) ∙ take-suc symbols i d lt

pub next-old : (path : Path) (symbols : List Symbol) (i : ℕ) (d : Symbol) (numbers : List ℕ) (firsts : List Symbol) (kinds : List SeenSymbol) (n : ℕ) (kind : SeenSymbol) →
    i < length symbols → AreClasses path (take i symbols) (made numbers firsts) → kinds ≡ map (seen_by path) firsts → slice_get kinds n ≡ Some kind → kind ≡ seen_by path (get_or symbols i d) →
    AreClasses path (take (i + 1) symbols) (made (numbers ++ n ∷ []) firsts)
next-old path symbols i d numbers firsts kinds n kind lt h are at is =
    let y = get-unmap (seen_by path) firsts n kind (ap (λ ks. slice_get ks n) (sym are) ∙ at) in
    subst (λ l. AreClasses path l (made (numbers ++ n ∷ []) firsts)) (sym (take-next symbols i d lt))
    (class-old path (take i symbols) (made numbers firsts) h (get_or symbols i d) n y.0 y.1 (y.2 ∙ is))

map-length : {X Y : Type 0} (f : X → Y) (xs : List X) → length (map f xs) ≡ length xs
map-length f [] = refl
map-length f (x ∷ xs) = ap suc (map-length f xs)

pub next-new : (path : Path) (symbols : List Symbol) (i : ℕ) (d : Symbol) (numbers : List ℕ) (firsts : List Symbol) (kinds : List SeenSymbol) (n : ℕ) →
    i < length symbols → AreClasses path (take i symbols) (made numbers firsts) → kinds ≡ map (seen_by path) firsts → n ≡ length kinds → (¬ Contains kinds (seen_by path (get_or symbols i d))) →
    AreClasses path (take (i + 1) symbols) (made (numbers ++ n ∷ []) (firsts ++ get_or symbols i d ∷ []))
next-new path symbols i d numbers firsts kinds n lt h are long none =
    let many : n ≡ length firsts = long ∙ ap length are ∙ map-length (seen_by path) firsts in
    subst (λ k. AreClasses path (take (i + 1) symbols) (made (numbers ++ k ∷ []) (firsts ++ get_or symbols i d ∷ []))) (sym many)
    (subst (λ l. AreClasses path l (made (numbers ++ length firsts ∷ []) (firsts ++ get_or symbols i d ∷ []))) (sym (take-next symbols i d lt))
    (class-new path (take i symbols) (made numbers firsts) h (get_or symbols i d) fresh))
  where
    fresh : (j : ℕ) (y : Symbol) → slice_get firsts j ≡ Some y → seen_by path y ≡ seen_by path (get_or symbols i d) → ⊥
    fresh j y e same = none (in_to kinds (seen_by path (get_or symbols i d)) (subst (λ ks. In (seen_by path (get_or symbols i d)) ks) (sym are) (subst (λ k. In k (map (seen_by path) firsts)) same (map_in (seen_by path) firsts y (get-in firsts j y e)))))
