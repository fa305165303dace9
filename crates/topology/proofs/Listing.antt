-- How the list of symbols grows, and that it has each symbol, and each once.
use Rattle.std.proofs.Common.{◌≡◌, ◌≢◌, ◌⊎◌, inl, inr, ◌+◌, ◌<◌, ◌≤◌, ◌==◌, ◌||◌, ℕ, zero, suc, Bool, true, false, cond, List, [], ◌∷◌, ◌++◌, length, take, map, filter, get_or, slice_get, Option, Some, None, Contains, MatchOption, option_map, refl, sym, ◌∙◌, ap, subst, arith, append-nil, zero-add}
use Rattle.std.specs.Prelude.{⊤}
use Rattle.std.specs.List.{AllByRecursion, enumerate_from, flat_map, list_any, range_with_len}
use Rattle.std.proofs.lemmas.Bool.{eqb-true, eq-eqb}
use Rattle.std.proofs.lemmas.List.{take_more, take_all, append_assoc, map-append, length-take}
use Rattle.std.proofs.lemmas.List.Elements.{filter-append}
use Rattle.std.proofs.lemmas.List.Concat.{flat_map-append}
use Rattle.std.proofs.lemmas.Option.{slice_get_within, slice_get_cases}
use Rattle.merlin_model.specs.declared.network.FnDecl.{FnDecl}
use Rattle.merlin_model.specs.declared.network.Location.{Location}
use Rattle.merlin_model.specs.declared.network.LocationKind.{LocationKind}
use Rattle.merlin_model.specs.declared.policy.Symbol.{Symbol}
use Rattle.merlin_model.specs.Networks.{Network, Pairwise, AreDifferent, kind_of, places_of}
use Rattle.merlin_model.specs.Words.{at, IsSymbol}
use Rattle.merlin_model.proofs.Members.{In, in_from, in_to, all_in, in_append, in_map, map_in, in_flat_map, flat_map_in, in_filter, filter_in}
use Rattle.topology_rules.proofs.Distinct.{pairwise_weaken, pairwise_map}
use Rattle.topology.specs.Symbols.{is_placed_at, functions_placed_at, at_with, symbols_at, symbols_among, network_symbols}

-- One function more, and one location more.

numbered_more : (n : ℕ) (fs : List FnDecl) (f : FnDecl) → enumerate_from n (fs ++ f ∷ []) ≡ enumerate_from n fs ++ (n + length fs, f) ∷ []
numbered_more n [] f = let e : n ≡ n + 0 = omega arith in ap (λ (k : ℕ). (k, f) ∷ []) e
numbered_more n (g ∷ fs) f =
    let e : n + 1 + length fs ≡ n + suc (length fs) = omega arith in
    ap (λ (rest : List (ℕ × FnDecl)). (n, g) ∷ rest) (numbered_more (n + 1) fs f ∙ ap (λ (k : ℕ). enumerate_from (n + 1) fs ++ (k, f) ∷ []) e)

abbrev placed : ℕ → ℕ × FnDecl → Bool
placed loc numbered = is_placed_at loc numbered.1

abbrev number : ℕ × FnDecl → ℕ
number numbered = numbered.0

-- the symbols at a location that have a function
abbrev pub with_functions : List FnDecl → ℕ → List Symbol
with_functions fs loc = map (at_with loc) (functions_placed_at fs loc)

functions_more : (fs : List FnDecl) (f : FnDecl) (loc : ℕ) (b : Bool) → is_placed_at loc f ≡ b → functions_placed_at (fs ++ f ∷ []) loc ≡ functions_placed_at fs loc ++ cond b (length fs ∷ []) []
functions_more fs f loc b is =
    ap (λ (ps : List (ℕ × FnDecl)). map number (filter (placed loc) ps)) (numbered_more 0 fs f ∙ ap (λ (k : ℕ). enumerate_from 0 fs ++ (k, f) ∷ []) (zero-add (length fs)))
    ∙ (ap (map number) (filter-append (placed loc) (enumerate_from 0 fs) ((length fs, f) ∷ []))
    ∙ (map-append number (filter (placed loc) (enumerate_from 0 fs)) (filter (placed loc) ((length fs, f) ∷ []))
    ∙ ap (λ (ks : List ℕ). functions_placed_at fs loc ++ ks) (by b is)))
  where
    by : (b : Bool) → is_placed_at loc f ≡ b → map number (filter (placed loc) ((length fs, f) ∷ [])) ≡ cond b (length fs ∷ []) []
    by b is = ap (λ (c : Bool). map number (cond c ((length fs, f) ∷ []) [])) is ∙ each b
      where
        each : (c : Bool) → map number (cond c ((length fs, f) ∷ []) []) ≡ cond c (length fs ∷ []) []
        each true = refl
        each false = refl

module _ (fs : List FnDecl) (i : ℕ) (f : FnDecl) (loc : ℕ) (within : i < length fs) (is : f ≡ get_or fs i f) where
  longer : take (i + 1) fs ≡ take i fs ++ f ∷ []
  longer = take_more fs i f within ∙ ap (λ (g : FnDecl). take i fs ++ g ∷ []) (sym is)

  so_long : length (take i fs) ≡ i
  so_long = omega (arith, length-take i fs)

  pub one_more_placed : is_placed_at loc f ≡ true → (front : List Symbol) → (front ++ with_functions (take i fs) loc) ++ at_with loc i ∷ [] ≡ front ++ with_functions (take (i + 1) fs) loc
  one_more_placed there front =
      append_assoc front (with_functions (take i fs) loc) (at_with loc i ∷ [])
      ∙ ap (λ (ss : List Symbol). front ++ ss) (sym (ap (λ (gs : List FnDecl). with_functions gs loc) longer
      ∙ (ap (map (at_with loc)) (functions_more (take i fs) f loc true there)
      ∙ (map-append (at_with loc) (functions_placed_at (take i fs) loc) (length (take i fs) ∷ [])
      ∙ ap (λ (k : ℕ). with_functions (take i fs) loc ++ at_with loc k ∷ []) so_long))))

  pub one_more_elsewhere : is_placed_at loc f ≡ false → with_functions (take i fs) loc ≡ with_functions (take (i + 1) fs) loc
  one_more_elsewhere away =
      sym (ap (λ (gs : List FnDecl). with_functions gs loc) longer
      ∙ ap (map (at_with loc)) (functions_more (take i fs) f loc false away ∙ append-nil (functions_placed_at (take i fs) loc)))

-- all functions, after the location alone
pub all_functions : (fs : List FnDecl) (i loc : ℕ) → length fs ≤ i → (front : List Symbol) → (front ++ at loc ∷ []) ++ with_functions (take i fs) loc ≡ front ++ symbols_at fs loc
all_functions fs i loc past front = append_assoc front (at loc ∷ []) (with_functions (take i fs) loc) ∙ ap (λ (gs : List FnDecl). front ++ at loc ∷ with_functions gs loc) (take_all i fs past)

range-more : (a n : ℕ) → range_with_len a (suc n) ≡ range_with_len a n ++ (a + n) ∷ []
range-more a zero = let e : a ≡ a + 0 = omega arith in ap (λ (k : ℕ). k ∷ []) e
range-more a (suc n) =
    let e : a + 1 + n ≡ a + suc n = omega arith in
    ap (λ (xs : List ℕ). a ∷ xs) (range-more (a + 1) n ∙ ap (λ (k : ℕ). range_with_len (a + 1) n ++ k ∷ []) e)

pub one_more_location : (fs : List FnDecl) (loc : ℕ) → symbols_among fs (loc + 1) ≡ symbols_among fs loc ++ symbols_at fs loc
one_more_location fs loc =
    ap (symbols_among fs) (let e : loc + 1 ≡ suc loc = omega arith in e)
    ∙ ap (flat_map (symbols_at fs)) (range-more 0 loc ∙ ap (λ (k : ℕ). range_with_len 0 loc ++ k ∷ []) (zero-add loc))
    ∙ flat_map-append (symbols_at fs) (range_with_len 0 loc) (loc ∷ [])
    ∙ ap (λ (ss : List Symbol). symbols_among fs loc ++ ss) (append-nil (symbols_at fs loc))

-- What is in the list.

range-from : (a n k : ℕ) → In k (range_with_len a n) → (a ≤ k) × (k < a + n)
range-from a zero k i = absurd i
range-from a (suc n) k (inl e) = (omega arith, omega arith)
range-from a (suc n) k (inr i) = let within = range-from (a + 1) n k i in (omega (arith, within.0), omega (arith, within.1))

range-in : (a n k : ℕ) → a ≤ k → k < a + n → In k (range_with_len a n)
range-in a zero k from below = absurd (omega (arith, from, below))
range-in a (suc n) k from below = by (a == k) refl (λ later. range-in (a + 1) n k later (omega (arith, below)))
  where
    never : false ≡ true → ⊥
    never x = cc

    apart : (a == k) ≡ false → a ≢ k
    apart e same = never (sym e ∙ eq-eqb a k same)

    by : (b : Bool) → (a == k) ≡ b → (a + 1 ≤ k → In k (range_with_len (a + 1) n)) → In k (a ∷ range_with_len (a + 1) n)
    by true e rest = inl (sym (eqb-true a k e))
    by false e rest = let differ = apart e in inr (rest (omega (arith, from, differ)))

numbered-from : (n : ℕ) (fs : List FnDecl) (p : ℕ × FnDecl) → In p (enumerate_from n fs) → (i : ℕ) × (p.0 ≡ n + i) × (slice_get fs i ≡ Some p.1)
numbered-from n [] p i = absurd i
numbered-from n (f ∷ fs) p (inl e) =
    let number : p.0 ≡ n = ap (λ (q : ℕ × FnDecl). q.0) e in
    let same : p.1 ≡ f = ap (λ (q : ℕ × FnDecl). q.1) e in
    (0, omega (arith, number), ap Some (sym same))
numbered-from n (f ∷ fs) p (inr i) =
    let found = numbered-from (n + 1) fs p i in
    (suc found.0, omega (arith, found.1), found.2)

numbered-in : (n : ℕ) (fs : List FnDecl) (i : ℕ) (f : FnDecl) → slice_get fs i ≡ Some f → In (n + i, f) (enumerate_from n fs)
numbered-in n [] i f stands = absurd (never f stands)
  where
    never : (f : FnDecl) → None ≡ Some f → ⊥
    never f e = cc
numbered-in n (g ∷ fs) zero f stands = let same : g ≡ f = cc in let e : n + 0 ≡ n = omega arith in inl (ap (λ (k : ℕ). (k, f)) e ∙ ap (λ (h : FnDecl). (n, h)) (sym same))
numbered-in n (g ∷ fs) (suc i) f stands = let e : n + 1 + i ≡ n + suc i = omega arith in inr (subst (λ (k : ℕ). In (k, f) (enumerate_from (n + 1) fs)) e (numbered-in (n + 1) fs i f stands))

-- a place that is among places passes, and the other way round
any-from : (loc : ℕ) (places : List ℕ) → list_any (λ place. place == loc) places ≡ true → In loc places
any-from loc [] e = absurd (never e)
  where
    never : false ≡ true → ⊥
    never e = cc
any-from loc (place ∷ places) e = by (place == loc) refl e (any-from loc places)
  where
    by : (b : Bool) → (place == loc) ≡ b → (b || list_any (λ p. p == loc) places) ≡ true → (list_any (λ p. p == loc) places ≡ true → In loc places) → In loc (place ∷ places)
    by true same h rest = inl (sym (eqb-true place loc same))
    by false other h rest = inr (rest h)

any-to : (loc : ℕ) (places : List ℕ) → In loc places → list_any (λ place. place == loc) places ≡ true
any-to loc [] i = absurd i
any-to loc (place ∷ places) (inl e) = ap (λ (b : Bool). b || list_any (λ place. place == loc) places) (eq-eqb place loc (sym e))
any-to loc (place ∷ places) (inr i) = ap (λ (b : Bool). (place == loc) || b) (any-to loc places i) ∙ each (place == loc)
  where
    each : (b : Bool) → (b || true) ≡ true
    each true = refl
    each false = refl

-- the numbers of the functions at a location
function-from : (fs : List FnDecl) (loc fun : ℕ) → In fun (functions_placed_at fs loc) → (f : FnDecl) × (slice_get fs fun ≡ Some f) × Contains f.places loc
function-from fs loc fun i =
    let mapped = in_map number (filter (placed loc) (enumerate_from 0 fs)) fun i in
    let kept = in_filter (placed loc) (enumerate_from 0 fs) mapped.0 mapped.1 in
    let found = numbered-from 0 fs mapped.0 kept.0 in
    let same : found.0 ≡ fun = omega (arith, found.1, mapped.2) in
    (mapped.0.1, subst (λ (k : ℕ). slice_get fs k ≡ Some mapped.0.1) same found.2, in_to mapped.0.1.places loc (any-from loc mapped.0.1.places kept.1))

function-to : (fs : List FnDecl) (loc fun : ℕ) (f : FnDecl) → slice_get fs fun ≡ Some f → Contains f.places loc → In fun (functions_placed_at fs loc)
function-to fs loc fun f stands there =
    let numbered = numbered-in 0 fs fun f stands in
    let kept = filter_in (placed loc) (enumerate_from 0 fs) (0 + fun, f) numbered (any-to loc f.places (in_from f.places loc there)) in
    subst (λ (k : ℕ). In k (functions_placed_at fs loc)) (zero-add fun) (map_in number (filter (placed loc) (enumerate_from 0 fs)) (0 + fun, f) kept)

-- a symbol at a location of a network is one of the symbols there, and the other way round
module _ (net : Network) where
  abbrev Runs : ℕ → Option ℕ → Type 0
  Runs loc fun = MatchOption fun ⊤ (λ f. MatchOption (places_of net f) ⊥ (λ places. Contains places loc))

  runs-to : (loc : ℕ) (fun : Option ℕ) → Runs loc fun → In (record { loc = loc; fun = fun }) (symbols_at net.functions loc)
  runs-to loc None runs = inl refl
  runs-to loc (Some f) runs = inr (map_in (at_with loc) (functions_placed_at net.functions loc) f (by (slice_get net.functions f) refl runs))
    where
      by : (o : Option FnDecl) → slice_get net.functions f ≡ o → MatchOption (option_map (λ g. g.places) o) ⊥ (λ places. Contains places loc) → In f (functions_placed_at net.functions loc)
      by None e h = absurd h
      by (Some g) e h = function-to net.functions loc f g e h

  runs-from : (loc fun : ℕ) → In fun (functions_placed_at net.functions loc) → Runs loc (Some fun)
  runs-from loc fun i =
      let found = function-from net.functions loc fun i in
      subst (λ (o : Option FnDecl). MatchOption (option_map (λ g. g.places) o) ⊥ (λ places. Contains places loc)) (sym found.1) found.2

  there-to : (loc : ℕ) (fun : Option ℕ) (kind : Option LocationKind) → kind_of net loc ≡ kind → MatchOption kind ⊥ (λ _. Runs loc fun) → (loc < length net.locations) × Runs loc fun
  there-to loc fun None e h = absurd h
  there-to loc fun (Some kind) e h = (by (slice_get net.locations loc) refl e, h)
    where
      by : (o : Option Location) → slice_get net.locations loc ≡ o → option_map (λ l. l.kind) o ≡ Some kind → loc < length net.locations
      by None s e = absurd (never kind e)
        where
          never : (k : LocationKind) → None ≡ Some k → ⊥
          never k e = cc
      by (Some l) s e = slice_get_within net.locations loc l s

  there-from : (loc : ℕ) (fun : Option ℕ) → loc < length net.locations → Runs loc fun → IsSymbol net (record { loc = loc; fun = fun })
  there-from loc fun within runs = by (slice_get_cases net.locations loc).1
    where
      by : ((l : Location) × (loc < length net.locations) × (slice_get net.locations loc ≡ Some l) × (get_or net.locations loc l ≡ l)) ⊎ ((length net.locations ≤ loc) × (slice_get net.locations loc ≡ None)) → IsSymbol net (record { loc = loc; fun = fun })
      by (inl there) = subst (λ (o : Option Location). MatchOption (option_map (λ l. l.kind) o) ⊥ (λ _. Runs loc fun)) (sym there.2) runs
      by (inr past) = absurd (omega (arith, within, past.0))

  pub symbol-in : (x : Symbol) → IsSymbol net x → In x (network_symbols net)
  symbol-in x is =
      let there = there-to x.loc x.fun (kind_of net x.loc) refl is in
      flat_map_in (symbols_at net.functions) (range_with_len 0 (length net.locations)) x.loc x
      (range-in 0 (length net.locations) x.loc (omega arith) (omega (arith, there.0))) (runs-to x.loc x.fun there.1)

  pub in-symbol : (x : Symbol) → In x (network_symbols net) → IsSymbol net x
  in-symbol x i =
      let found = in_flat_map (symbols_at net.functions) (range_with_len 0 (length net.locations)) x i in
      let within = range-from 0 (length net.locations) found.0 found.1 in
      by found.0 (omega (arith, within.1)) found.2
    where
      by : (loc : ℕ) → loc < length net.locations → In x (symbols_at net.functions loc) → IsSymbol net x
      by loc within (inl e) = subst (IsSymbol net) (sym e) (there-from loc None within tt)
      by loc within (inr i) =
          let mapped = in_map (at_with loc) (functions_placed_at net.functions loc) x i in
          subst (IsSymbol net) (sym mapped.2) (there-from loc (Some mapped.0) within (runs-from loc mapped.0 mapped.1))

-- No symbol stands twice.

all_from : {X : Type 0} (P : X → Type 0) (xs : List X) → ((x : X) → In x xs → P x) → AllByRecursion P xs
all_from P [] h = tt
all_from P (x ∷ xs) h = (h x (inl refl), all_from P xs (λ y i. h y (inr i)))

pairwise-append : {X : Type 0} (R : X → X → Type 0) (xs ys : List X) → Pairwise R xs → Pairwise R ys → ((x y : X) → In x xs → In y ys → R x y) → Pairwise R (xs ++ ys)
pairwise-append R [] ys p q between = q
pairwise-append R (x ∷ xs) ys p q between = (all_from (R x) (xs ++ ys) (λ y i. by y (in_append xs ys y i)), pairwise-append R xs ys p.1 q (λ a b i j. between a b (inr i) j))
  where
    by : (y : _) → In y xs ⊎ In y ys → R x y
    by y (inl i) = all_in (R x) xs y p.0 i
    by y (inr i) = between x y (inl refl) i

pairwise-filter : {X : Type 0} (R : X → X → Type 0) (t : X → Bool) (xs : List X) → Pairwise R xs → Pairwise R (filter t xs)
pairwise-filter R t [] p = tt
pairwise-filter R t (x ∷ xs) p = by (t x) (pairwise-filter R t xs p.1)
  where
    by : (b : Bool) → Pairwise R (filter t xs) → Pairwise R (cond b (x ∷ filter t xs) (filter t xs))
    by true rest = (all_from (R x) (filter t xs) (λ y i. all_in (R x) xs y p.0 (in_filter t xs y i).0), rest)
    by false rest = rest

numbers-apart : (n : ℕ) (fs : List FnDecl) → Pairwise (λ p q. p.0 ≢ q.0) (enumerate_from n fs)
numbers-apart n [] = tt
numbers-apart n (f ∷ fs) = (all_from (λ q. n ≢ q.0) (enumerate_from (n + 1) fs) (λ q i. later q (numbered-from (n + 1) fs q i)), numbers-apart (n + 1) fs)
  where
    later : (q : ℕ × FnDecl) → (i : ℕ) × (q.0 ≡ n + 1 + i) × (slice_get fs i ≡ Some q.1) → n ≢ q.0
    later q found e = let no : ⊥ = omega (arith, found.1, e) in no

functions-apart : (fs : List FnDecl) (loc : ℕ) → AreDifferent (functions_placed_at fs loc)
functions-apart fs loc = pairwise_map number (λ u v. u ≢ v) (filter (placed loc) (enumerate_from 0 fs)) (pairwise-filter (λ p q. p.0 ≢ q.0) (placed loc) (enumerate_from 0 fs) (numbers-apart 0 fs))

symbols-apart : (fs : List FnDecl) (loc : ℕ) → AreDifferent (symbols_at fs loc)
symbols-apart fs loc = (
  all_from (λ x. at loc ≢ x) (map (at_with loc) (functions_placed_at fs loc)) (λ x i. let mapped = in_map (at_with loc) (functions_placed_at fs loc) x i in bare x mapped.0 mapped.2),
  pairwise_map (at_with loc) (λ x y. x ≢ y) (functions_placed_at fs loc) (pairwise_weaken (λ f g differ same. differ (one f g same)) (functions_placed_at fs loc) (functions-apart fs loc)),
)
  where
    never : (f : ℕ) → None ≡ Some f → ⊥
    never f e = cc

    bare : (x : Symbol) (f : ℕ) → x ≡ at_with loc f → at loc ≢ x
    bare x f e same = never f (ap (λ (y : Symbol). y.fun) (same ∙ e))

    one : (f g : ℕ) → at_with loc f ≡ at_with loc g → f ≡ g
    one f g same = let e : Some f ≡ Some g = ap (λ (y : Symbol). y.fun) same in cc

its_location : (fs : List FnDecl) (loc : ℕ) (x : Symbol) → In x (symbols_at fs loc) → x.loc ≡ loc
its_location fs loc x (inl e) = ap (λ (y : Symbol). y.loc) e
its_location fs loc x (inr i) = let mapped = in_map (at_with loc) (functions_placed_at fs loc) x i in ap (λ (y : Symbol). y.loc) mapped.2

among-apart : (fs : List FnDecl) (a n : ℕ) → AreDifferent (flat_map (symbols_at fs) (range_with_len a n))
among-apart fs a zero = tt
among-apart fs a (suc n) = pairwise-append (λ x y. x ≢ y) (symbols_at fs a) (flat_map (symbols_at fs) (range_with_len (a + 1) n)) (symbols-apart fs a) (among-apart fs (a + 1) n)
    (λ x y i j same.
    let found = in_flat_map (symbols_at fs) (range_with_len (a + 1) n) y j in
    let past = range-from (a + 1) n found.0 found.1 in
    let first : x.loc ≡ a = its_location fs a x i in
    let second : y.loc ≡ found.0 = its_location fs found.0 y found.2 in
    let one : x.loc ≡ y.loc = ap (λ (z : Symbol). z.loc) same in
    absurd (omega (arith, past.0, first, second, one)))

pub symbols-differ : (net : Network) → AreDifferent (network_symbols net)
symbols-differ net = among-apart net.functions 0 (length net.locations)
