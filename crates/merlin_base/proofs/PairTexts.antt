-- Lists of pairs, read from the front.
use Rattle.std.proofs.Common.{◌≡◌, ◌≢◌, ℕ, ◌+◌, ◌^◌, ◌<◌, ◌≤◌, ◌⊎◌, inl, inr, ℤ, pos, nat_abs, nat_lt, Bool, true, false, List, [], ◌∷◌, ◌++◌, map, length, length-append, get_or, refl, sym, ◌∙◌, ap, subst, append_assoc, append-nil, arith}
use Rattle.std.proofs.lemmas.List.{get_or-map, length-map, map-append, get_or_append_left, get_or_at}
use Rattle.std.specs.List.{AllByRecursion}
use Rattle.std.specs.List.Sorted.{IsStrictlyIncreasing}
use Rattle.std.specs.Fmt.{decimal, signed_decimal}
use Rattle.merlin_base.specs.Pairs.{pair_text, pairs_text, ArePairs, IsEmptyOrBegins}
use Rattle.merlin_base.specs.Lexemes.{Lacks}
use Rattle.merlin_base.proofs.Cutting.{Free, free, free_append, free_middle, AreSame, cut_once, cut_before_once}
use Rattle.merlin_base.proofs.Decimals.{decimal_free, decimal_free_colon, decimal_same, signed_free, signed_same}

-- numbers that a text can have
abbrev pub IsSmallPair : ℕ × ℤ → Type 0
IsSmallPair pair = (pair.0 < 10 ^ 19) × (nat_abs pair.1 ≤ 2 ^ 60)

pub record IsSamePair (p q : ℕ × ℤ) (x y : List ℕ) : Type 0 where
  pub pair : p ≡ q
  pub rest : x ≡ y

pub pair_once : (p q : ℕ × ℤ) (x y : List ℕ) → IsSmallPair p → IsSmallPair q → IsEmptyOrBegins 32 x → IsEmptyOrBegins 32 y → pair_text p ++ x ≡ pair_text q ++ y → IsSamePair p q x y
pair_once p q x y f g b d e = record { pair = (λ i. (first i, second i)); rest = two.rest }
  where
    regroup : (r : ℕ × ℤ) (z : List ℕ) → pair_text r ++ z ≡ 32 ∷ (decimal r.0 ++ 58 ∷ (signed_decimal r.1 ++ z))
    regroup r z = ap (λ t. 32 ∷ t) (append_assoc (decimal r.0) (58 ∷ signed_decimal r.1) z)

    tails : decimal p.0 ++ 58 ∷ (signed_decimal p.1 ++ x) ≡ decimal q.0 ++ 58 ∷ (signed_decimal q.1 ++ y)
    tails = let h = sym (regroup p x) ∙ e ∙ regroup q y in cc

    one : AreSame (decimal p.0) (decimal q.0) (signed_decimal p.1 ++ x) (signed_decimal q.1 ++ y)
    one = cut_once 58 (decimal p.0) (decimal q.0) _ _ (decimal_free_colon p.0 f.0) (decimal_free_colon q.0 g.0) tails

    two : AreSame (signed_decimal p.1) (signed_decimal q.1) x y
    two = cut_before_once 32 (signed_decimal p.1) (signed_decimal q.1) x y (signed_free 32 p.1 f.1 (omega arith)) (signed_free 32 q.1 g.1 (omega arith)) b d one.rest

    first : p.0 ≡ q.0
    first = decimal_same p.0 q.0 f.0 g.0 one.front

    second : p.1 ≡ q.1
    second = signed_same p.1 q.1 f.1 g.1 two.front

pub pairs_begin : (pairs : List (ℕ × ℤ)) → IsEmptyOrBegins 32 (pairs_text pairs)
pairs_begin [] = tt
pairs_begin (p ∷ ps) = refl

-- What was read, and what any list of pairs with this text has behind it.
pub record AreRead (done pairs : List (ℕ × ℤ)) (rest : List ℕ) : Type 0 where
  pub more : List (ℕ × ℤ)
  pub is : pairs ≡ done ++ more
  pub left : pairs_text more ≡ rest

begins_later : (d : List (ℕ × ℤ)) (rest : List ℕ) → IsEmptyOrBegins 32 rest → IsEmptyOrBegins 32 (pairs_text d ++ rest)
begins_later [] rest b = b
begins_later (p ∷ d) rest b = refl

pub are-read : (done pairs : List (ℕ × ℤ)) (rest : List ℕ) → AllByRecursion IsSmallPair done → AllByRecursion IsSmallPair pairs → (done ≡ []) ⊎ IsEmptyOrBegins 32 rest → pairs_text pairs ≡ pairs_text done ++ rest → AreRead done pairs rest
are-read [] pairs rest f g b e = record { more = pairs; is = refl; left = e }
are-read (p ∷ d) [] rest f g b e = absurd (let no_way : [] ≡ 32 ∷ (((decimal p.0 ++ 58 ∷ signed_decimal p.1) ++ pairs_text d) ++ rest) → ⊥ = λ h. cc in no_way e)
are-read (p ∷ d) (q ∷ qs) rest f g (inl none) e = absurd (let no_way : p ∷ d ≡ [] → ⊥ = λ h. cc in no_way none)
are-read (p ∷ d) (q ∷ qs) rest f g (inr b) e =
    let same = pair_once q p (pairs_text qs) (pairs_text d ++ rest) g.0 f.0 (pairs_begin qs) (begins_later d rest b) (e ∙ append_assoc (pair_text p) (pairs_text d) rest) in
    let later = are-read d qs rest f.1 g.1 (inr b) same.rest in
    record { more = later.more; is = (let h = same.pair in let k = later.is in cc); left = later.left }

pub pairs_once : (ps qs : List (ℕ × ℤ)) → AllByRecursion IsSmallPair ps → AllByRecursion IsSmallPair qs → pairs_text ps ≡ pairs_text qs → ps ≡ qs
pairs_once ps qs f g e = by (are-read qs ps [] g f (inr tt) (e ∙ sym (append-nil (pairs_text qs))))
  where
    none : (more : List (ℕ × ℤ)) → pairs_text more ≡ [] → more ≡ []
    none [] h = refl
    none (m ∷ ms) h = absurd (let no_way : 32 ∷ ((decimal m.0 ++ 58 ∷ signed_decimal m.1) ++ pairs_text ms) ≡ [] → ⊥ = λ k. cc in no_way h)

    by : AreRead qs ps [] → ps ≡ qs
    by r = r.is ∙ ap (λ m. qs ++ m) (none r.more r.left) ∙ append-nil qs

-- pairs within the limits are small
pub small_pairs : (bound limit : ℕ) (pairs : List (ℕ × ℤ)) → bound ≤ 10 ^ 19 → limit ≤ 2 ^ 60 → ArePairs bound limit pairs → AllByRecursion IsSmallPair pairs
small_pairs bound limit pairs b l are = by pairs are.below are.small
  where
    by : (ps : List (ℕ × ℤ)) → AllByRecursion (λ p. p.0 < bound) ps → AllByRecursion (λ p. nat_abs p.1 ≤ limit) ps → AllByRecursion IsSmallPair ps
    by [] f g = tt
    by (p ∷ ps) f g = ((let h = f.0 in omega arith, let h = g.0 in omega arith), by ps f.1 g.1)

-- no list of pairs has a byte such as the newline
pub pairs_free : (byte : ℕ) (pairs : List (ℕ × ℤ)) → byte < 32 → AllByRecursion IsSmallPair pairs → Free byte (pairs_text pairs)
pairs_free byte [] low f = tt
pairs_free byte (p ∷ ps) low f = (
  (λ e. omega arith),
  free_append byte (decimal p.0 ++ 58 ∷ signed_decimal p.1) (pairs_text ps)
      (free_append byte (decimal p.0) (58 ∷ signed_decimal p.1) (decimal_free byte p.0 f.0.0 (omega arith)) ((λ e. omega arith), signed_free byte p.1 f.0.1 (omega arith)))
      (pairs_free byte ps low f.1),
)

-- One pair more.

pub record ArePairsTo (bound limit : ℕ) (pairs : List (ℕ × ℤ)) (next : ℕ) : Type 0 where
  pub are : ArePairs bound limit pairs
  pub first : length pairs ≡ 0 → next ≡ 0
  pub last : (k : ℕ) → k + 1 ≡ length pairs → next ≡ (get_or pairs k (0, pos 0)).0 + 1

pub pairs_none : (bound limit : ℕ) → ArePairsTo bound limit [] 0
pairs_none bound limit = record {
  are = record { ascend = λ k h. absurd (omega arith); below = tt; small = tt; nonzero = tt };
  first = λ e. refl;
  last = λ k e. absurd (omega arith);
}

all_push : {X : Type 0} (P : X → Type 0) (xs : List X) (x : X) → AllByRecursion P xs → P x → AllByRecursion P (xs ++ x ∷ [])
all_push P [] x f g = (g, tt)
all_push P (y ∷ xs) x f g = (f.0, all_push P xs x f.1 g)

ascend_push : (xs : List ℕ) (x : ℕ) → IsStrictlyIncreasing xs → ((k : ℕ) → k + 1 ≡ length xs → get_or xs k 0 < x) → IsStrictlyIncreasing (xs ++ x ∷ [])
ascend_push xs x up last k h = by (nat_lt (k + 1) (length xs)) refl
  where
    size : length (xs ++ x ∷ []) ≡ length xs + 1
    size = let n = length-append xs (x ∷ []) in omega arith

    by : (b : Bool) → nat_lt (k + 1) (length xs) ≡ b → get_or (xs ++ x ∷ []) k 0 < get_or (xs ++ x ∷ []) (k + 1) 0
    by true e =
        let in_xs : k + 1 < length xs = grind arith in
        let a = get_or_append_left xs (x ∷ []) 0 k (omega arith) in
        let b = get_or_append_left xs (x ∷ []) 0 (k + 1) in_xs in
        let step = up k in_xs in
        omega (arith, b)
    by false e =
        let at : k + 1 ≡ length xs = (let out : length xs ≤ k + 1 = grind arith in let s = size in omega arith) in
        let a = get_or_append_left xs (x ∷ []) 0 k (omega arith) in
        let b = get_or_at xs x [] 0 (k + 1) (sym at) in
        let l = last k at in
        omega (arith, b)

pub pairs_push : (bound limit : ℕ) (pairs : List (ℕ × ℤ)) (next : ℕ) (pair : ℕ × ℤ) → ArePairsTo bound limit pairs next → next ≤ pair.0 → pair.0 < bound → nat_abs pair.1 ≤ limit → pair.1 ≢ pos 0 →
    ArePairsTo bound limit (pairs ++ pair ∷ []) (pair.0 + 1)
pairs_push bound limit pairs next pair to low below small nonzero = record {
  are = record {
    ascend = subst IsStrictlyIncreasing (sym (map-append (λ p. p.0) pairs (pair ∷ []))) (ascend_push (map (λ p. p.0) pairs) pair.0 to.are.ascend before);
    below = all_push (λ p. p.0 < bound) pairs pair to.are.below below;
    small = all_push (λ p. nat_abs p.1 ≤ limit) pairs pair to.are.small small;
    nonzero = all_push (λ p. p.1 ≢ pos 0) pairs pair to.are.nonzero nonzero;
  };
  first = λ e. absurd (let n = length-append pairs (pair ∷ []) in omega arith);
  last = λ k e.
      let n = length-append pairs (pair ∷ []) in
      let at = get_or_at pairs pair [] (0, pos 0) k (omega arith) in
      sym (ap (λ (p : ℕ × ℤ). p.0 + 1) at);
}
  where
    before : (k : ℕ) → k + 1 ≡ length (map (λ (p : ℕ × ℤ). p.0) pairs) → get_or (map (λ (p : ℕ × ℤ). p.0) pairs) k 0 < pair.0
    before k e =
        let size = length-map pairs (λ (p : ℕ × ℤ). p.0) in
        let l = to.last k (omega arith) in
        let m = get_or-map (λ (p : ℕ × ℤ). p.0) pairs k (0, pos 0) 0 (omega arith) in
        omega arith

-- Where the next pair can't follow, the list is none.

append_at : (xs ys : List (ℕ × ℤ)) (y : ℕ × ℤ) (k : ℕ) → k ≡ length xs → get_or (xs ++ y ∷ ys) k (0, pos 0) ≡ y
append_at xs ys y k e = get_or_at xs y ys (0, pos 0) k (sym e)

all_middle : {X : Type 0} (P : X → Type 0) (xs ys : List X) (y : X) → AllByRecursion P (xs ++ y ∷ ys) → P y
all_middle P [] ys y f = f.0
all_middle P (x ∷ xs) ys y f = all_middle P xs ys y f.1

pub cannot_follow : (bound limit : ℕ) (done more : List (ℕ × ℤ)) (next : ℕ) (pair : ℕ × ℤ) → ArePairsTo bound limit done next → pair.0 < next → ArePairs bound limit (done ++ pair ∷ more) → ⊥
cannot_follow bound limit [] more next pair to low are = let f = to.first refl in omega arith
cannot_follow bound limit (p ∷ d) more next pair to low are =
    let n = length-append (p ∷ d) (pair ∷ more) in
    let l = to.last (length d) (omega arith) in
    let size = length-map ((p ∷ d) ++ pair ∷ more) (λ (q : ℕ × ℤ). q.0) in
    let step = are.ascend (length d) (omega arith) in
    let a = get_or-map (λ (q : ℕ × ℤ). q.0) ((p ∷ d) ++ pair ∷ more) (length d) (0, pos 0) 0 (omega arith) in
    let b = get_or-map (λ (q : ℕ × ℤ). q.0) ((p ∷ d) ++ pair ∷ more) (length d + 1) (0, pos 0) 0 (omega arith) in
    let c = ap (λ (q : ℕ × ℤ). q.0) (append_at (p ∷ d) more pair (length d + 1) (omega arith)) in
    let e = ap (λ (q : ℕ × ℤ). q.0) (get_or_append_left (p ∷ d) (pair ∷ more) (0, pos 0) (length d) (omega arith)) in
    omega arith

pub out_of_bound : (bound limit : ℕ) (done more : List (ℕ × ℤ)) (pair : ℕ × ℤ) → bound ≤ pair.0 → ArePairs bound limit (done ++ pair ∷ more) → ⊥
out_of_bound bound limit done more pair past are = let h = all_middle (λ p. p.0 < bound) done more pair are.below in omega arith

pub is_zero : (bound limit : ℕ) (done more : List (ℕ × ℤ)) (pair : ℕ × ℤ) → pair.1 ≡ pos 0 → ArePairs bound limit (done ++ pair ∷ more) → ⊥
is_zero bound limit done more pair e are = all_middle (λ p. p.1 ≢ pos 0) done more pair are.nonzero e

-- The parts of a pair, as they are cut.
pub record HasParts (first second rest : List ℕ) (pair : ℕ × ℤ) (behind : List ℕ) : Type 0 where
  pub number : first ≡ decimal pair.0
  pub whole : second ≡ signed_decimal pair.1
  pub behind_is : rest ≡ behind

pub has-parts : (text numbers first behind second rest : List ℕ) (pair : ℕ × ℤ) (more : List ℕ) → text ≡ 32 ∷ numbers → numbers ≡ first ++ 58 ∷ behind → Lacks 58 first → behind ≡ second ++ rest → Lacks 32 second → IsEmptyOrBegins 32 rest →
    IsSmallPair pair → IsEmptyOrBegins 32 more → text ≡ pair_text pair ++ more → HasParts first second rest pair more
has-parts text numbers first behind second rest pair more e f lf g ls b small bm h = record { number = one.front; whole = two.front; behind_is = two.rest }
  where
    tails : first ++ 58 ∷ behind ≡ decimal pair.0 ++ 58 ∷ (signed_decimal pair.1 ++ more)
    tails = let k = sym e ∙ h ∙ ap (λ t. 32 ∷ t) (append_assoc (decimal pair.0) (58 ∷ signed_decimal pair.1) more) in sym f ∙ (let m : numbers ≡ decimal pair.0 ++ 58 ∷ (signed_decimal pair.1 ++ more) = cc in m)

    one : AreSame first (decimal pair.0) behind (signed_decimal pair.1 ++ more)
    one = cut_once 58 first (decimal pair.0) behind _ (free 58 first lf) (decimal_free_colon pair.0 small.0) tails

    two : AreSame second (signed_decimal pair.1) rest more
    two = cut_before_once 32 second (signed_decimal pair.1) rest more (free 32 second ls) (signed_free 32 pair.1 small.1 (omega arith)) b bm (sym g ∙ one.rest)

pub no_colon : (text numbers : List ℕ) (pair : ℕ × ℤ) (more : List ℕ) → text ≡ 32 ∷ numbers → Lacks 58 numbers → text ≡ pair_text pair ++ more → ⊥
no_colon text numbers pair more e l h =
    let k = sym e ∙ h ∙ ap (λ t. 32 ∷ t) (append_assoc (decimal pair.0) (58 ∷ signed_decimal pair.1) more) in
    let m : numbers ≡ decimal pair.0 ++ 58 ∷ (signed_decimal pair.1 ++ more) = cc in
    free_middle 58 (decimal pair.0) (signed_decimal pair.1 ++ more) (subst (Free 58) m (free 58 numbers l))

pub pair_is : (text numbers first behind second rest : List ℕ) (number : ℕ) (whole same : ℤ) (limit : ℕ) → same ≡ whole → text ≡ 32 ∷ numbers → numbers ≡ first ++ 58 ∷ behind → behind ≡ second ++ rest →
    (first ≡ decimal number) × (number < 10 ^ 19) → (second ≡ signed_decimal whole) × (nat_abs whole ≤ limit) → IsEmptyOrBegins 32 rest →
    (text ≡ pair_text (number, same) ++ rest) × (number < 10 ^ 19) × (nat_abs same ≤ limit) × IsEmptyOrBegins 32 rest
pair_is text numbers first behind second rest number whole same limit z e f g n w b = (
  e ∙ ap (λ t. 32 ∷ t) (f ∙ ap (λ t. t ++ 58 ∷ behind) n.0 ∙ ap (λ t. decimal number ++ 58 ∷ t) (g ∙ ap (λ t. t ++ rest) (w.0 ∙ ap signed_decimal (sym z))) ∙ sym (append_assoc (decimal number) (58 ∷ signed_decimal same) rest)),
  n.1,
  subst (λ x. nat_abs x ≤ limit) (sym z) w.1,
  b,
)

-- What any list of pairs with this text has next.

nonempty : (rest : List ℕ) → (rest ≡ [] → ⊥) → (more : List (ℕ × ℤ)) → pairs_text more ≡ rest → (pair : ℕ × ℤ) × (later : List (ℕ × ℤ)) × (more ≡ pair ∷ later) × (rest ≡ pair_text pair ++ pairs_text later)
nonempty rest some [] e = absurd (some (sym e))
nonempty rest some (p ∷ ps) e = (p, ps, refl, sym e)

pub record HasNext (done pairs : List (ℕ × ℤ)) (rest : List ℕ) : Type 0 where
  pub pair : ℕ × ℤ
  pub later : List (ℕ × ℤ)
  pub is : pairs ≡ done ++ pair ∷ later
  pub text : rest ≡ pair_text pair ++ pairs_text later
  pub small : IsSmallPair pair

pub has-next : (bound limit : ℕ) (text : List ℕ) (done : List (ℕ × ℤ)) (next : ℕ) (rest : List ℕ) (pairs : List (ℕ × ℤ)) → bound ≤ 10 ^ 19 → limit ≤ 2 ^ 60 → text ≡ pairs_text done ++ rest → ArePairsTo bound limit done next →
    (done ≡ []) ⊎ IsEmptyOrBegins 32 rest → (rest ≡ [] → ⊥) → ArePairs bound limit pairs → text ≡ pairs_text pairs → HasNext done pairs rest
has-next bound limit text done next rest pairs b l e to begins some are h = record {
  pair = n.0;
  later = n.1;
  is = is;
  text = n.3;
  small = all_middle IsSmallPair done n.1 n.0 (subst (AllByRecursion IsSmallPair) is small);
}
  where
    small : AllByRecursion IsSmallPair pairs
    small = small_pairs bound limit pairs b l are

    read : AreRead done pairs rest
    read = are-read done pairs rest (small_pairs bound limit done b l to.are) small begins (sym h ∙ e)

    n : (pair : ℕ × ℤ) × (later : List (ℕ × ℤ)) × (read.more ≡ pair ∷ later) × (rest ≡ pair_text pair ++ pairs_text later)
    n = nonempty rest some read.more read.left

    is : pairs ≡ done ++ n.0 ∷ n.1
    is = read.is ∙ ap (λ m. done ++ m) n.2

pub none_next : (bound limit : ℕ) (text : List ℕ) (done : List (ℕ × ℤ)) (next : ℕ) (rest : List ℕ) → bound ≤ 10 ^ 19 → limit ≤ 2 ^ 60 → text ≡ pairs_text done ++ rest → ArePairsTo bound limit done next →
    (done ≡ []) ⊎ IsEmptyOrBegins 32 rest → (rest ≡ [] → ⊥) → ((pair : ℕ × ℤ) (more : List ℕ) → pair.0 < 10 ^ 19 → nat_abs pair.1 ≤ limit → IsEmptyOrBegins 32 more → rest ≡ pair_text pair ++ more → ⊥) →
    (pairs : List (ℕ × ℤ)) → ArePairs bound limit pairs → text ≡ pairs_text pairs → ⊥
none_next bound limit text done next rest b l e to begins some none pairs are h =
    let n = has-next bound limit text done next rest pairs b l e to begins some are h in
    none n.pair (pairs_text n.later) n.small.0 (all_middle (λ p. nat_abs p.1 ≤ limit) done n.later n.pair (subst (AllByRecursion (λ p. nat_abs p.1 ≤ limit)) n.is are.small)) (pairs_begin n.later) n.text

-- the pair that was read is that one
pub follows : (bound limit : ℕ) (text : List ℕ) (done : List (ℕ × ℤ)) (next : ℕ) (rest : List ℕ) (pair : ℕ × ℤ) (others : List ℕ) → bound ≤ 10 ^ 19 → limit ≤ 2 ^ 60 → text ≡ pairs_text done ++ rest → ArePairsTo bound limit done next →
    (done ≡ []) ⊎ IsEmptyOrBegins 32 rest → (rest ≡ [] → ⊥) → (rest ≡ pair_text pair ++ others) × (pair.0 < 10 ^ 19) × (nat_abs pair.1 ≤ limit) × IsEmptyOrBegins 32 others →
    (pairs : List (ℕ × ℤ)) → ArePairs bound limit pairs → text ≡ pairs_text pairs → (later : List (ℕ × ℤ)) × ArePairs bound limit (done ++ pair ∷ later)
follows bound limit text done next rest pair others b l e to begins some read pairs are h =
    let n = has-next bound limit text done next rest pairs b l e to begins some are h in
    let small : IsSmallPair pair = (read.1, let s = read.2 in omega arith) in
    let same = pair_once n.pair pair (pairs_text n.later) others n.small small (pairs_begin n.later) read.3 (sym n.text ∙ read.0) in
    (n.later, subst (ArePairs bound limit) (n.is ∙ ap (λ p. done ++ p ∷ n.later) same.pair) are)

pairs_text-push : (pairs : List (ℕ × ℤ)) (pair : ℕ × ℤ) → pairs_text (pairs ++ pair ∷ []) ≡ pairs_text pairs ++ pair_text pair
pairs_text-push [] pair = append-nil (pair_text pair)
pairs_text-push (p ∷ ps) pair = ap (λ t. pair_text p ++ t) (pairs_text-push ps pair) ∙ sym (append_assoc (pair_text p) (pairs_text ps) (pair_text pair))

pub more_text : (text : List ℕ) (pairs after : List (ℕ × ℤ)) (pair : ℕ × ℤ) (rest others : List ℕ) → text ≡ pairs_text pairs ++ rest → rest ≡ pair_text pair ++ others → after ≡ pairs ++ pair ∷ [] → text ≡ pairs_text after ++ others
more_text text pairs after pair rest others e f g =
    e ∙ ap (λ t. pairs_text pairs ++ t) f ∙ sym (append_assoc (pairs_text pairs) (pair_text pair) others) ∙ ap (λ t. t ++ others) (sym (ap pairs_text g ∙ pairs_text-push pairs pair))
