-- What halving finds: of all values that are not mentioned, the least of each part.
use Rattle.std.proofs.Common.{◌≡◌, ◌≤◌, ◌<◌, ◌⊎◌, inl, inr, ℕ, ◌+◌, ◌-◌, ◌^◌, nat_lt, Bool, true, false, not, cond, List, [], ◌∷◌, ◌++◌, Option, None, Some, option_to_list, refl, sym, ◌∙◌, ap, subst, arith}
use Rattle.merlin_model.specs.Networks.{Pairwise}
use Rattle.merlin_model.proofs.Members.{In, in_append, in_append-left, in_append-right, in_filter, filter_in}
use Rattle.merlin_model.proofs.Traces.{Some-inj}
use Rattle.predicate_logic.specs.Mentions.{is_within}
use Rattle.predicate_logic.proofs.Unmentioned.{AreTogether}
use Rattle.predicate_split.specs.Parts.{least_from, least_within, is_whole}
use Rattle.predicate_split.proofs.Halving.{inner}
use Rattle.predicate_split.proofs.Numbers.{IsBlock, within-from, within-to}
use Rattle.predicate_split.proofs.LeastNumbers.{least_from-above, least_from-least, least_from-out}

abbrev pub IsAmong : ℕ → ℕ → ℕ → Type 0
IsAmong k low v = (low ≤ v) × (v < low + 2 ^ k)

abbrev pub IsOutside : List (ℕ × ℕ) → ℕ → Type 0
IsOutside blocks v = (b : ℕ × ℕ) → In b blocks → is_within b v ≡ false

abbrev pub IsInside : List (ℕ × ℕ) → ℕ → Type 0
IsInside blocks v = (b : ℕ × ℕ) × In b blocks × (is_within b v ≡ true)

-- the block is among these values
pub record IsIn (k low : ℕ) (b : ℕ × ℕ) : Type 0 where
  pub block : IsBlock b
  pub from : low ≤ b.0
  pub to : b.0 + 2 ^ (32 - b.1) ≤ low + 2 ^ k

-- the least value of those that are in no block
pub record IsLeastOutside (k low : ℕ) (blocks : List (ℕ × ℕ)) (named : List ℕ) (x : ℕ) : Type 0 where
  pub among : IsAmong k low x
  pub new : ¬ In x named
  pub out : IsOutside blocks x
  pub least : (v : ℕ) → low ≤ v → (¬ In v named) → IsOutside blocks v → x ≤ v

-- the least value of those that are in the same blocks, of which there is one
pub record IsLeastInside (k low : ℕ) (blocks : List (ℕ × ℕ)) (named : List ℕ) (u : ℕ) : Type 0 where
  pub among : IsAmong k low u
  pub new : ¬ In u named
  pub inside : IsInside blocks u
  pub least : (v : ℕ) → (¬ In v named) → AreTogether blocks u v → u ≤ v

pub record AreFound (k low : ℕ) (blocks : List (ℕ × ℕ)) (named : List ℕ) (own : Option ℕ) (others : List ℕ) : Type 0 where
  pub own_least : (x : ℕ) → own ≡ Some x → IsLeastOutside k low blocks named x
  pub own_none : own ≡ None → (v : ℕ) → IsAmong k low v → (¬ In v named) → IsOutside blocks v → ⊥
  pub others_least : (u : ℕ) → In u others → IsLeastInside k low blocks named u
  pub others_all : (v : ℕ) → IsAmong k low v → (¬ In v named) → IsInside blocks v → (u : ℕ) × In u others × AreTogether blocks u v

true_false : (b : Bool) → b ≡ true → b ≡ false → ⊥
true_false true e f = cc
true_false false e f = cc

pub inside_or_outside : (blocks : List (ℕ × ℕ)) (v : ℕ) → IsInside blocks v ⊎ IsOutside blocks v
inside_or_outside [] v = inr (λ b i. absurd i)
inside_or_outside (c ∷ blocks) v = by (is_within c v) refl (inside_or_outside blocks v)
  where
    by : (t : Bool) → is_within c v ≡ t → IsInside blocks v ⊎ IsOutside blocks v → IsInside (c ∷ blocks) v ⊎ IsOutside (c ∷ blocks) v
    by true e h = inl (c, inl refl, e)
    by false e (inl h) = inl (h.0, inr h.1, h.2)
    by false e (inr h) = inr neither
      where
        neither : IsOutside (c ∷ blocks) v
        neither b (inl same) = ap (λ d. is_within d v) same ∙ e
        neither b (inr i) = h b i

-- Without a block.

no_some : (x : ℕ) → None ≡ Some x → ⊥
no_some x e = cc

some_none : (x : ℕ) → Some x ≡ None → ⊥
some_none x e = cc

pub found-plain : (k low : ℕ) (named : List ℕ) → Pairwise (λ a b. a < b) named → AreFound k low [] named (least_within k low named) []
found-plain k low named up = record {
  own_least = own (nat_lt (least_from low named) (low + 2 ^ k)) refl;
  own_none = none (nat_lt (least_from low named) (low + 2 ^ k)) refl;
  others_least = λ u i. absurd i;
  others_all = λ v among new inside. absurd inside.1;
}
  where
    own : (t : Bool) → nat_lt (least_from low named) (low + 2 ^ k) ≡ t → (x : ℕ) → cond t (Some (least_from low named)) None ≡ Some x → IsLeastOutside k low [] named x
    own true e x same = subst (IsLeastOutside k low [] named) (Some-inj same) (record {
      among = (least_from-above low named, grind (arith, e));
      new = least_from-out low named up;
      out = λ b i. absurd i;
      least = λ v le new out. least_from-least low v named le new;
    })
    own false e x same = absurd (no_some x same)

    none : (t : Bool) → nat_lt (least_from low named) (low + 2 ^ k) ≡ t → cond t (Some (least_from low named)) None ≡ None → (v : ℕ) → IsAmong k low v → (¬ In v named) → IsOutside [] v → ⊥
    none true e same v among new out = some_none (least_from low named) same
    none false e same v among new out = let le = least_from-least low v named among.0 new in let lt = among.1 in grind (arith, e, le, lt)

-- Where one block has all values.

whole_in : (k low : ℕ) (b : ℕ × ℕ) (v : ℕ) → IsIn k low b → is_whole k b ≡ true → IsAmong k low v → is_within b v ≡ true
whole_in k low b v is e among =
    let size : 32 - b.1 ≡ k = (let sum : b.1 + k ≡ 32 = grind (arith, e) in omega arith) in
    let powers : 2 ^ (32 - b.1) ≡ 2 ^ k = ap (λ n. 2 ^ n) size in
    let to = is.to in let from = is.from in let above = among.0 in let below = among.1 in
    within-to b v is.block (omega arith) (omega arith)

-- a value of a block is among the values
in_among : (k low : ℕ) (b : ℕ × ℕ) (v : ℕ) → IsIn k low b → is_within b v ≡ true → IsAmong k low v
in_among k low b v is e = let range = within-from b v is.block e in let low_end = range.0 in let high_end = range.1 in let to = is.to in let from = is.from in (omega arith, omega arith)

kept_or_whole : (k : ℕ) (blocks : List (ℕ × ℕ)) (b : ℕ × ℕ) → In b blocks → In b (inner k blocks) ⊎ (is_whole k b ≡ true)
kept_or_whole k blocks b i = by (is_whole k b) refl
  where
    by : (t : Bool) → is_whole k b ≡ t → In b (inner k blocks) ⊎ (is_whole k b ≡ true)
    by true e = inr e
    by false e = inl (filter_in (λ c. not (is_whole k c)) blocks b i (ap not e))

pub found-closed : (k low : ℕ) (blocks : List (ℕ × ℕ)) (named : List ℕ) (own : Option ℕ) (others : List ℕ) → ((b : ℕ × ℕ) → In b blocks → IsIn k low b) → (w : ℕ × ℕ) → In w blocks → is_whole k w ≡ true →
    AreFound k low (inner k blocks) named own others → AreFound k low blocks named None (others ++ option_to_list own)
found-closed k low blocks named own others are w is_in whole found = record {
  own_least = λ x e. absurd (no_some x e);
  own_none = λ e v among new out. true_false (is_within w v) (whole_in k low w v (are w is_in) whole among) (out w is_in);
  others_least = λ u i. least u (in_append others (option_to_list own) u i);
  others_all = λ v among new inside. covered v among new (inside_or_outside (inner k blocks) v);
}
  where
    inward : (b : ℕ × ℕ) → In b (inner k blocks) → In b blocks
    inward b i = (in_filter (λ c. not (is_whole k c)) blocks b i).0

    together : (u v : ℕ) → IsAmong k low u → IsAmong k low v → AreTogether (inner k blocks) u v → AreTogether blocks u v
    together u v a c same b i = by (kept_or_whole k blocks b i)
      where
        by : In b (inner k blocks) ⊎ (is_whole k b ≡ true) → is_within b u ≡ is_within b v
        by (inl j) = same b j
        by (inr e) = whole_in k low b u (are b i) e a ∙ sym (whole_in k low b v (are b i) e c)

    own_is : (o : Option ℕ) (u : ℕ) → In u (option_to_list o) → o ≡ Some u
    own_is None u i = absurd i
    own_is (Some x) u (inl e) = ap Some (sym e)
    own_is (Some x) u (inr i) = absurd i

    least : (u : ℕ) → In u others ⊎ In u (option_to_list own) → IsLeastInside k low blocks named u
    least u (inl i) = let l = found.others_least u i in record {
      among = l.among;
      new = l.new;
      inside = (l.inside.0, inward l.inside.0 l.inside.1, l.inside.2);
      least = λ v new same. l.least v new (λ b j. same b (inward b j));
    }
    least u (inr i) = let l = found.own_least u (own_is own u i) in record {
      among = l.among;
      new = l.new;
      inside = (w, is_in, whole_in k low w u (are w is_in) whole l.among);
      least = λ v new same.
          let here : is_within w v ≡ true = sym (same w is_in) ∙ whole_in k low w u (are w is_in) whole l.among in
          l.least v (in_among k low w v (are w is_in) here).0 new (λ b j. sym (same b (inward b j)) ∙ l.out b j);
    }

    covered : (v : ℕ) → IsAmong k low v → (¬ In v named) → IsInside (inner k blocks) v ⊎ IsOutside (inner k blocks) v → (u : ℕ) × In u (others ++ option_to_list own) × AreTogether blocks u v
    covered v among new (inl inside) =
        let m = found.others_all v among new inside in
        (m.0, in_append-left others (option_to_list own) m.0 m.1, together m.0 v (found.others_least m.0 m.1).among among m.2)
    covered v among new (inr out) = by own refl
      where
        by : (o : Option ℕ) → own ≡ o → (u : ℕ) × In u (others ++ option_to_list own) × AreTogether blocks u v
        by None e = absurd (found.own_none e v among new out)
        by (Some x) e =
            let l = found.own_least x e in
            (x, in_append-right others (option_to_list own) x (subst (λ o. In x (option_to_list o)) (sym e) (inl refl)), together x v l.among among (λ b i. l.out b i ∙ sym (out b i)))

-- where no block has all values, none is left out
pub found-same : (k low : ℕ) (blocks : List (ℕ × ℕ)) (named : List ℕ) (own : Option ℕ) (others : List ℕ) → ((b : ℕ × ℕ) → In b blocks → In b (inner k blocks)) →
    AreFound k low (inner k blocks) named own others → AreFound k low blocks named own others
found-same k low blocks named own others keep found = record {
  own_least = λ x e. let l = found.own_least x e in record { among = l.among; new = l.new; out = λ b i. l.out b (keep b i); least = λ v le new out. l.least v le new (λ b i. out b (inward b i)) };
  own_none = λ e v among new out. found.own_none e v among new (λ b i. out b (inward b i));
  others_least = λ u i. let l = found.others_least u i in record { among = l.among; new = l.new; inside = (l.inside.0, inward l.inside.0 l.inside.1, l.inside.2); least = λ v new same. l.least v new (λ b j. same b (inward b j)) };
  others_all = λ v among new inside. let m = found.others_all v among new (inside.0, keep inside.0 inside.1, inside.2) in (m.0, m.1, λ b i. m.2 b (keep b i));
}
  where
    inward : (b : ℕ × ℕ) → In b (inner k blocks) → In b blocks
    inward b i = (in_filter (λ c. not (is_whole k c)) blocks b i).0
