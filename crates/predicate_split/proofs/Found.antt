-- What halving finds, over both halves and as a whole.
use Rattle.std.proofs.Common.{◌≡◌, ◌≢◌, ◌≤◌, ◌<◌, ◌⊎◌, inl, inr, ℕ, zero, suc, ◌+◌, ◌-◌, ◌^◌, Bool, true, false, not, ◌||◌, cond, List, [], ◌∷◌, ◌++◌, filter, Option, None, Some, refl, sym, ◌∙◌, ap, ap₂, subst, arith}
use Rattle.std.specs.List.{list_any}
use Rattle.std.specs.Option.{option_or}
use Rattle.std.proofs.lemmas.Nat.{pow_below}
use Rattle.merlin_model.specs.Networks.{Pairwise}
use Rattle.merlin_model.proofs.Members.{In, in_append, in_append-left, in_append-right, in_filter, filter_in}
use Rattle.predicate_logic.specs.Mentions.{is_within}
use Rattle.predicate_logic.proofs.Unmentioned.{AreTogether}
use Rattle.predicate_split.specs.Parts.{least_within, is_whole, begins_below, has_none, joined_findings, closed_finding, find_others}
use Rattle.predicate_split.proofs.Halving.{twice, inner}
use Rattle.predicate_split.proofs.Numbers.{within-not, IsMultiple, finer, next_multiple, ends_before, exponents}
use Rattle.predicate_split.proofs.Parting.{IsAmong, IsOutside, IsInside, IsIn, IsLeastOutside, IsLeastInside, AreFound, found-plain, found-closed, found-same}

abbrev Finding : Type 0
Finding = Option ℕ × List ℕ

-- the blocks of both halves
pub record AreHalves (k low : ℕ) (blocks left right : List (ℕ × ℕ)) : Type 0 where
  pub left_in : (b : ℕ × ℕ) → In b left → IsIn k low b
  pub right_in : (b : ℕ × ℕ) → In b right → IsIn k (low + 2 ^ k) b
  pub left_of : (b : ℕ × ℕ) → In b left → In b blocks
  pub right_of : (b : ℕ × ℕ) → In b right → In b blocks
  pub either : (b : ℕ × ℕ) → In b blocks → In b left ⊎ In b right

found-joined : (k low : ℕ) (blocks left right : List (ℕ × ℕ)) (named : List ℕ) (l r : Finding) → AreHalves k low blocks left right →
    AreFound k low left named l.0 l.1 → AreFound k (low + 2 ^ k) right named r.0 r.1 → AreFound (suc k) low blocks named (option_or l.0 r.0) (l.1 ++ r.1)
found-joined k low blocks left right named l r halves fl fr = record {
  own_least = own l.0 refl;
  own_none = none l.0 refl;
  others_least = λ u i. least u (in_append l.1 r.1 u i);
  others_all = λ v among new inside. covered v (side v) among new inside;
}
  where
    side : (v : ℕ) → (v < low + 2 ^ k) ⊎ (low + 2 ^ k ≤ v)
    side v = by v (low + 2 ^ k)
      where
        by : (a b : ℕ) → (a < b) ⊎ (b ≤ a)
        by a b = grind arith

    -- the blocks of the one half have no value of the other
    far_right : (v : ℕ) → v < low + 2 ^ k → IsOutside right v
    far_right v lt b i = let is = halves.right_in b i in let from = is.from in within-not b v is.block (λ range. let low_end = range.0 in omega arith)

    far_left : (v : ℕ) → low + 2 ^ k ≤ v → IsOutside left v
    far_left v le b i = let is = halves.left_in b i in let to = is.to in within-not b v is.block (λ range. let high_end = range.1 in omega arith)

    all_out : (v : ℕ) → IsOutside left v → IsOutside right v → IsOutside blocks v
    all_out v a c b i = by (halves.either b i)
      where
        by : In b left ⊎ In b right → is_within b v ≡ false
        by (inl j) = a b j
        by (inr j) = c b j

    wide : 2 ^ suc k ≡ 2 ^ k + 2 ^ k
    wide = twice k

    own_left : (x : ℕ) → l.0 ≡ Some x → IsLeastOutside (suc k) low blocks named x
    own_left x e = let f = fl.own_least x e in let a = f.among.0 in let b = f.among.1 in let w = wide in record {
      among = (a, omega arith);
      new = f.new;
      out = all_out x f.out (far_right x b);
      least = λ v le new out. f.least v le new (λ c i. out c (halves.left_of c i));
    }

    own_right : l.0 ≡ None → (x : ℕ) → r.0 ≡ Some x → IsLeastOutside (suc k) low blocks named x
    own_right none x e = let f = fr.own_least x e in let a = f.among.0 in let b = f.among.1 in let w = wide in record {
      among = (omega arith, omega arith);
      new = f.new;
      out = all_out x (far_left x a) f.out;
      least = λ v le new out. by v le new out (side v);
    }
      where
        by : (v : ℕ) → low ≤ v → (¬ In v named) → IsOutside blocks v → (v < low + 2 ^ k) ⊎ (low + 2 ^ k ≤ v) → x ≤ v
        by v le new out (inl lt) = absurd (fl.own_none none v (le, lt) new (λ c i. out c (halves.left_of c i)))
        by v le new out (inr far) = (fr.own_least x e).least v far new (λ c i. out c (halves.right_of c i))

    own : (o : Option ℕ) → l.0 ≡ o → (x : ℕ) → option_or o r.0 ≡ Some x → IsLeastOutside (suc k) low blocks named x
    own None e x same = own_right e x same
    own (Some y) e x same = own_left x (e ∙ same)

    some_none : (y : ℕ) → Some y ≡ None → ⊥
    some_none y e = cc

    none : (o : Option ℕ) → l.0 ≡ o → option_or o r.0 ≡ None → (v : ℕ) → IsAmong (suc k) low v → (¬ In v named) → IsOutside blocks v → ⊥
    none (Some y) e same v among new out = some_none y same
    none None e same v among new out = by (side v)
      where
        by : (v < low + 2 ^ k) ⊎ (low + 2 ^ k ≤ v) → ⊥
        by (inl lt) = fl.own_none e v (among.0, lt) new (λ c i. out c (halves.left_of c i))
        by (inr far) = let w = wide in let end = among.1 in fr.own_none same v (far, omega arith) new (λ c i. out c (halves.right_of c i))

    least : (u : ℕ) → In u l.1 ⊎ In u r.1 → IsLeastInside (suc k) low blocks named u
    least u (inl i) = let f = fl.others_least u i in let a = f.among.0 in let b = f.among.1 in let w = wide in record {
      among = (a, omega arith);
      new = f.new;
      inside = (f.inside.0, halves.left_of f.inside.0 f.inside.1, f.inside.2);
      least = λ v new same. f.least v new (λ c j. same c (halves.left_of c j));
    }
    least u (inr i) = let f = fr.others_least u i in let a = f.among.0 in let b = f.among.1 in let w = wide in record {
      among = (omega arith, omega arith);
      new = f.new;
      inside = (f.inside.0, halves.right_of f.inside.0 f.inside.1, f.inside.2);
      least = λ v new same. f.least v new (λ c j. same c (halves.right_of c j));
    }

    clash : (b : Bool) → b ≡ true → b ≡ false → ⊥
    clash true e f = cc
    clash false e f = cc

    together : (u v : ℕ) → AreTogether left u v → AreTogether right u v → AreTogether blocks u v
    together u v a c b i = by (halves.either b i)
      where
        by : In b left ⊎ In b right → is_within b u ≡ is_within b v
        by (inl j) = a b j
        by (inr j) = c b j

    covered : (v : ℕ) → (v < low + 2 ^ k) ⊎ (low + 2 ^ k ≤ v) → IsAmong (suc k) low v → (¬ In v named) → IsInside blocks v → (u : ℕ) × In u (l.1 ++ r.1) × AreTogether blocks u v
    covered v (inl lt) among new inside = by (halves.either inside.0 inside.1)
      where
        by : In inside.0 left ⊎ In inside.0 right → (u : ℕ) × In u (l.1 ++ r.1) × AreTogether blocks u v
        by (inl i) =
            let m = fl.others_all v (among.0, lt) new (inside.0, i, inside.2) in
            let here = (fl.others_least m.0 m.1).among.1 in
            (m.0, in_append-left l.1 r.1 m.0 m.1, together m.0 v m.2 (λ b j. far_right m.0 here b j ∙ sym (far_right v lt b j)))
        by (inr i) = absurd (clash (is_within inside.0 v) inside.2 (far_right v lt inside.0 i))
    covered v (inr far) among new inside = by (halves.either inside.0 inside.1)
      where
        by : In inside.0 left ⊎ In inside.0 right → (u : ℕ) × In u (l.1 ++ r.1) × AreTogether blocks u v
        by (inr i) =
            let w = wide in let end = among.1 in
            let m = fr.others_all v (far, omega arith) new (inside.0, i, inside.2) in
            let here = (fr.others_least m.0 m.1).among.0 in
            (m.0, in_append-right l.1 r.1 m.0 m.1, together m.0 v (λ b j. far_left m.0 here b j ∙ sym (far_left v far b j)) m.2)
        by (inl i) = absurd (clash (is_within inside.0 v) inside.2 (far_left v far inside.0 i))

-- The halves of blocks that do not have all values.

are_halves : (k low : ℕ) (blocks : List (ℕ × ℕ)) → IsMultiple low (suc k) → ((b : ℕ × ℕ) → In b blocks → IsIn (suc k) low b) →
    AreHalves k low (inner (suc k) blocks) (filter (begins_below (low + 2 ^ k)) (inner (suc k) blocks)) (filter (λ b. not (begins_below (low + 2 ^ k) b)) (inner (suc k) blocks))
are_halves k low blocks multiple are = record {
  left_in = λ b i. let m = in_filter (begins_below middle) (inner (suc k) blocks) b i in left b m.0 m.1;
  right_in = λ b i. let m = in_filter (λ c. not (begins_below middle c)) (inner (suc k) blocks) b i in right b m.0 m.1;
  left_of = λ b i. (in_filter (begins_below middle) (inner (suc k) blocks) b i).0;
  right_of = λ b i. (in_filter (λ c. not (begins_below middle c)) (inner (suc k) blocks) b i).0;
  either = λ b i. by b i (begins_below middle b) refl;
}
  where
    middle : ℕ
    middle = low + 2 ^ k

    not_true : (t : Bool) → not t ≡ true → t ≡ false
    not_true true e = cc
    not_true false e = refl

    small : (b : ℕ × ℕ) → In b (inner (suc k) blocks) → IsIn (suc k) low b × (32 - b.1 ≤ k)
    small b i =
        let m = in_filter (λ c. not (is_whole (suc k) c)) blocks b i in
        let is = are b m.0 in let from = is.from in let to = is.to in let length = is.block.0 in
        let le : 32 - b.1 ≤ suc k = exponents (32 - b.1) (suc k) (omega arith) in
        let other : b.1 + suc k ≢ 32 = (λ e. apart (not_true (is_whole (suc k) b) m.1) e) in
        (is, omega (arith, le, other, length))
      where
        apart : is_whole (suc k) b ≡ false → b.1 + suc k ≡ 32 → ⊥
        apart e f = grind (arith, e, f)

    left : (b : ℕ × ℕ) → In b (inner (suc k) blocks) → begins_below middle b ≡ true → IsIn k low b
    left b i e =
        let s = small b i in
        let lt : b.0 < low + 2 ^ k = grind (arith, e) in
        record { block = s.0.block; from = s.0.from; to = ends_before b (low + 2 ^ k) s.0.block (finer (low + 2 ^ k) k (32 - b.1) s.1 (next_multiple low k (finer low (suc k) k (omega arith) multiple))) lt }

    right : (b : ℕ × ℕ) → In b (inner (suc k) blocks) → not (begins_below middle b) ≡ true → IsIn k (low + 2 ^ k) b
    right b i e =
        let s = small b i in
        let f : begins_below middle b ≡ false = not_true (begins_below middle b) e in
        let le : low + 2 ^ k ≤ b.0 = grind (arith, f) in
        let to = s.0.to in let w = twice k in
        record { block = s.0.block; from = le; to = omega arith }

    by : (b : ℕ × ℕ) → In b (inner (suc k) blocks) → (t : Bool) → begins_below middle b ≡ t → In b (filter (begins_below middle) (inner (suc k) blocks)) ⊎ In b (filter (λ c. not (begins_below middle c)) (inner (suc k) blocks))
    by b i true e = inl (filter_in (begins_below middle) (inner (suc k) blocks) b i e)
    by b i false e = inr (filter_in (λ c. not (begins_below middle c)) (inner (suc k) blocks) b i (ap not e))

-- a single value has no block
no_block : (low : ℕ) (b : ℕ × ℕ) → IsIn 0 low b → ⊥
no_block low b is =
    let length = is.block.0 in let from = is.from in let to = is.to in
    let more : 2 ^ 0 < 2 ^ (32 - b.1) = pow_below 0 (32 - b.1) (omega arith) in
    omega arith

empty_blocks : (blocks : List (ℕ × ℕ)) → ((b : ℕ × ℕ) → In b blocks → ⊥) → blocks ≡ []
empty_blocks [] h = refl
empty_blocks (b ∷ rest) h = absurd (h b (inl refl))

-- some block has all values, or none has
whole_or_not : (k : ℕ) (blocks : List (ℕ × ℕ)) → (t : Bool) → list_any (is_whole k) blocks ≡ t → ((w : ℕ × ℕ) × In w blocks × (is_whole k w ≡ true) × (t ≡ true)) ⊎ (((b : ℕ × ℕ) → In b blocks → In b (inner k blocks)) × (t ≡ false))
whole_or_not k blocks t e = by (search_in blocks) t e
  where
    Has : List (ℕ × ℕ) → Type 0
    Has bs = (w : ℕ × ℕ) × In w bs × (is_whole k w ≡ true) × (list_any (is_whole k) bs ≡ true)

    Lacks : List (ℕ × ℕ) → Type 0
    Lacks bs = ((b : ℕ × ℕ) → In b bs → is_whole k b ≡ false) × (list_any (is_whole k) bs ≡ false)

    or_true : (a : Bool) → (a || true) ≡ true
    or_true true = refl
    or_true false = refl

    search_in : (bs : List (ℕ × ℕ)) → Has bs ⊎ Lacks bs
    search_in [] = inr (λ b i. absurd i, refl)
    search_in (c ∷ bs) = here (is_whole k c) refl (search_in bs)
      where
        here : (t : Bool) → is_whole k c ≡ t → Has bs ⊎ Lacks bs → Has (c ∷ bs) ⊎ Lacks (c ∷ bs)
        here true e h = inl (c, inl refl, e, ap (λ s. s || list_any (is_whole k) bs) e)
        here false e (inl h) = inl (h.0, inr h.1, h.2, ap (λ s. is_whole k c || s) h.3 ∙ or_true (is_whole k c))
        here false e (inr h) = inr (none, ap₂ (λ s u. s || u) e h.1)
          where
            none : (b : ℕ × ℕ) → In b (c ∷ bs) → is_whole k b ≡ false
            none b (inl same) = ap (is_whole k) same ∙ e
            none b (inr i) = h.0 b i

    by : Has blocks ⊎ Lacks blocks → (t : Bool) → list_any (is_whole k) blocks ≡ t → ((w : ℕ × ℕ) × In w blocks × (is_whole k w ≡ true) × (t ≡ true)) ⊎ (((b : ℕ × ℕ) → In b blocks → In b (inner k blocks)) × (t ≡ false))
    by (inl h) t e = inl (h.0, h.1, h.2, sym e ∙ h.3)
    by (inr h) t e = inr (λ b i. filter_in (λ c. not (is_whole k c)) blocks b i (ap not (h.0 b i)), sym e ∙ h.1)

found-whole : (k low : ℕ) (blocks left right : List (ℕ × ℕ)) (named : List ℕ) (both : Finding) → Pairwise (λ a b. a < b) named → ((b : ℕ × ℕ) → In b blocks → IsIn (suc k) low b) →
    AreFound (suc k) low (inner (suc k) blocks) named both.0 both.1 →
    AreFound (suc k) low blocks named (closed_finding (list_any (is_whole (suc k)) blocks) (cond (has_none (inner (suc k) blocks)) (least_within (suc k) low named, []) both)).0
    (closed_finding (list_any (is_whole (suc k)) blocks) (cond (has_none (inner (suc k) blocks)) (least_within (suc k) low named, []) both)).1
found-whole k low blocks left right named both up are joined = whole (list_any (is_whole (suc k)) blocks) (whole_or_not (suc k) blocks (list_any (is_whole (suc k)) blocks) refl)
  where
    plain : Finding
    plain = (least_within (suc k) low named, [])

    inside : (bs : List (ℕ × ℕ)) → inner (suc k) blocks ≡ bs → AreFound (suc k) low (inner (suc k) blocks) named (cond (has_none bs) plain both).0 (cond (has_none bs) plain both).1
    inside [] e = subst (λ bs. AreFound (suc k) low bs named plain.0 plain.1) (sym e) (found-plain (suc k) low named up)
    inside (b ∷ bs) e = joined

    within : Finding
    within = cond (has_none (inner (suc k) blocks)) plain both

    is_within_found : AreFound (suc k) low (inner (suc k) blocks) named within.0 within.1
    is_within_found = inside (inner (suc k) blocks) refl

    whole : (t : Bool) → ((w : ℕ × ℕ) × In w blocks × (is_whole (suc k) w ≡ true) × (t ≡ true)) ⊎ (((b : ℕ × ℕ) → In b blocks → In b (inner (suc k) blocks)) × (t ≡ false)) →
        AreFound (suc k) low blocks named (closed_finding t within).0 (closed_finding t within).1
    whole true (inl h) = found-closed (suc k) low blocks named within.0 within.1 are h.0 h.1 h.2 is_within_found
    whole true (inr h) = cc
    whole false (inl h) = cc
    whole false (inr h) = found-same (suc k) low blocks named within.0 within.1 h.0 is_within_found

abbrev lefts : ℕ → ℕ → List (ℕ × ℕ) → List (ℕ × ℕ)
lefts k low blocks = filter (begins_below (low + 2 ^ k)) (inner (suc k) blocks)

abbrev rights : ℕ → ℕ → List (ℕ × ℕ) → List (ℕ × ℕ)
rights k low blocks = filter (λ b. not (begins_below (low + 2 ^ k) b)) (inner (suc k) blocks)

pub found : (k low : ℕ) (blocks : List (ℕ × ℕ)) (named : List ℕ) → Pairwise (λ a b. a < b) named → IsMultiple low k → ((b : ℕ × ℕ) → In b blocks → IsIn k low b) →
    AreFound k low blocks named (find_others k low blocks named).0 (find_others k low blocks named).1
found zero low blocks named up multiple are =
    subst (λ bs. AreFound 0 low bs named (least_within 0 low named) []) (sym (empty_blocks blocks (λ b i. no_block low b (are b i)))) (found-plain 0 low named up)
found (suc k) low blocks named up multiple are =
    let halves = are_halves k low blocks multiple are in
    let aligned : IsMultiple low k = finer low (suc k) k (omega arith) multiple in
    let l : Finding = find_others k low (lefts k low blocks) named in
    let r : Finding = find_others k (low + 2 ^ k) (rights k low blocks) named in
    found-whole k low blocks (lefts k low blocks) (rights k low blocks) named (joined_findings l r) up are
    (found-joined k low (inner (suc k) blocks) (lefts k low blocks) (rights k low blocks) named l r halves
    (found k low (lefts k low blocks) named up aligned halves.left_in)
    (found k (low + 2 ^ k) (rights k low blocks) named up (next_multiple low k aligned) halves.right_in))
