-- Values that a predicate does not mention, and that are in the same of its blocks, give it one residue. A residue has no test on its field, and no new ones.
use Rattle.std.proofs.Common.{◌≡◌, ℕ, ◌⊎◌, inl, inr, Bool, true, false, not, ◌==◌, cond, List, [], ◌∷◌, ◌++◌, filter, refl, sym, ◌∙◌, ap, ap₂, subst, arith}
use Rattle.std.specs.List.{AllByRecursion, list_any, flat_map}
use Rattle.merlin_model.specs.declared.policy.Field.{Field}
use Rattle.merlin_model.specs.declared.policy.Field.TheVariants.{Proto}
use Rattle.merlin_model.specs.declared.policy.Test.{Test}
use Rattle.merlin_model.specs.declared.policy.Test.TheVariants.{Is, Port, Within}
use Rattle.merlin_model.specs.declared.policy.Pred.{Pred, Yes, No, Test as Tests, All, AnyOf, Not}
use Rattle.merlin_model.proofs.Members.{In, in_append-left, in_append-right, in_flat_map, in_filter}
use Rattle.predicate_logic.specs.Members.{by_members}
use Rattle.predicate_logic.specs.Residues.{same_field, verdict, is_yes, is_no, all_together, any_together, folded_all, folded_any, folded_not, test_residue, residue, residues}
use Rattle.predicate_logic.specs.Mentions.{tests_of, test_mentions, mentions, test_prefixes, prefixes, is_within}
use Rattle.predicate_logic.proofs.Shapes.{residue-All, residue-AnyOf, residue-Not, tests_of-All, tests_of-AnyOf, tests_of-Not, mentions-All, mentions-AnyOf, mentions-Not, prefixes-All, prefixes-AnyOf, prefixes-Not}

apart : (v n : ℕ) → ¬ (v ≡ n) → (v == n) ≡ false
apart v n h = grind (arith, h)

-- Values that are not mentioned.

-- the values are in the same of these blocks
abbrev pub AreTogether : List (ℕ × ℕ) → ℕ → ℕ → Type 0
AreTogether blocks v w = (b : ℕ × ℕ) → In b blocks → is_within b v ≡ is_within b w

abbrev Alone : Field → ℕ → ℕ → Pred → Type 0
Alone f v w pred = (¬ In v (mentions f pred)) → (¬ In w (mentions f pred)) → AreTogether (prefixes f pred) v w → residue f v pred ≡ residue f w pred

test_alone : (f : Field) (v w : ℕ) (t : Test) → (¬ In v (test_mentions f t ++ [])) → (¬ In w (test_mentions f t ++ [])) → AreTogether (test_prefixes f t ++ []) v w → test_residue f v t ≡ test_residue f w t
test_alone f v w (Is g n) a b _ = by (same_field f g) a b
  where
    by : (s : Bool) → (¬ In v (cond s (n ∷ []) [] ++ [])) → (¬ In w (cond s (n ∷ []) [] ++ [])) → cond s (verdict (v == n)) (Tests (Is g n)) ≡ cond s (verdict (w == n)) (Tests (Is g n))
    by true a b = ap verdict (apart v n (λ e. a (inl e)) ∙ sym (apart w n (λ e. b (inl e))))
    by false a b = refl
test_alone f v w (Port q g n) a b _ = by (same_field f Proto) (same_field f g) a b
  where
    by : (s r : Bool) → (¬ In v (cond s (q ∷ []) (cond r (n ∷ []) []) ++ [])) → (¬ In w (cond s (q ∷ []) (cond r (n ∷ []) []) ++ [])) →
        cond s (cond (v == q) (Tests (Is g n)) No) (cond r (cond (v == n) (Tests (Is Proto q)) No) (Tests (Port q g n)))
        ≡ cond s (cond (w == q) (Tests (Is g n)) No) (cond r (cond (w == n) (Tests (Is Proto q)) No) (Tests (Port q g n)))
    by true r a b = ap (λ c. cond c (Tests (Is g n)) No) (apart v q (λ e. a (inl e)) ∙ sym (apart w q (λ e. b (inl e))))
    by false true a b = ap (λ c. cond c (Tests (Is Proto q)) No) (apart v n (λ e. a (inl e)) ∙ sym (apart w n (λ e. b (inl e))))
    by false false a b = refl
test_alone f v w (Within g n length) a b same = by (same_field f g) same
  where
    by : (s : Bool) → AreTogether (cond s ((n, length) ∷ []) [] ++ []) v w →
        cond s (verdict (is_within (n, length) v)) (Tests (Within g n length)) ≡ cond s (verdict (is_within (n, length) w)) (Tests (Within g n length))
    by true same = ap verdict (same (n, length) (inl refl))
    by false same = refl

residues-alone : (f : Field) (v w : ℕ) (preds : List Pred) → AllByRecursion (Alone f v w) preds → (¬ In v (flat_map (mentions f) preds)) → (¬ In w (flat_map (mentions f) preds)) →
    AreTogether (flat_map (prefixes f) preds) v w → residues f v preds ≡ residues f w preds
residues-alone f v w [] h a b same = refl
residues-alone f v w (pred ∷ rest) h a b same =
    ap₂ (λ (q : Pred) qs. q ∷ qs)
    (h.0 (λ i. a (in_append-left (mentions f pred) (flat_map (mentions f) rest) v i)) (λ i. b (in_append-left (mentions f pred) (flat_map (mentions f) rest) w i)) (λ c i. same c (in_append-left (prefixes f pred) (flat_map (prefixes f) rest) c i)))
    (residues-alone f v w rest h.1 (λ i. a (in_append-right (mentions f pred) (flat_map (mentions f) rest) v i)) (λ i. b (in_append-right (mentions f pred) (flat_map (mentions f) rest) w i))
    (λ c i. same c (in_append-right (prefixes f pred) (flat_map (prefixes f) rest) c i)))

pub residue-alone : (f : Field) (v w : ℕ) (pred : Pred) → (¬ In v (mentions f pred)) → (¬ In w (mentions f pred)) → AreTogether (prefixes f pred) v w → residue f v pred ≡ residue f w pred
residue-alone f v w = by_members (Alone f v w) (λ a b c. refl) (λ a b c. refl) (λ t a b c. test_alone f v w t a b c) all any neg
  where
    all : (preds : List Pred) → AllByRecursion (Alone f v w) preds → Alone f v w (All preds)
    all preds h a b c =
        residue-All f v preds
        ∙ ap folded_all (residues-alone f v w preds h (subst (λ l. ¬ In v l) (mentions-All f preds) a) (subst (λ l. ¬ In w l) (mentions-All f preds) b) (subst (λ l. AreTogether l v w) (prefixes-All f preds) c))
        ∙ sym (residue-All f w preds)

    any : (preds : List Pred) → AllByRecursion (Alone f v w) preds → Alone f v w (AnyOf preds)
    any preds h a b c =
        residue-AnyOf f v preds
        ∙ ap folded_any (residues-alone f v w preds h (subst (λ l. ¬ In v l) (mentions-AnyOf f preds) a) (subst (λ l. ¬ In w l) (mentions-AnyOf f preds) b) (subst (λ l. AreTogether l v w) (prefixes-AnyOf f preds) c))
        ∙ sym (residue-AnyOf f w preds)

    neg : (pred : Pred) → Alone f v w pred → Alone f v w (Not pred)
    neg pred h a b c =
        residue-Not f v pred
        ∙ ap folded_not (h (subst (λ l. ¬ In v l) (mentions-Not f pred) a) (subst (λ l. ¬ In w l) (mentions-Not f pred) b) (subst (λ l. AreTogether l v w) (prefixes-Not f pred) c))
        ∙ sym (residue-Not f w pred)

-- Where the tests of a residue come from.

abbrev From : List Pred → Test → Type 0
From preds t = (pred : Pred) × In pred preds × In t (tests_of pred)

from_flat : (preds : List Pred) (t : Test) → In t (flat_map tests_of preds) → From preds t
from_flat preds t h = in_flat_map tests_of preds t h

all_together-tests : (preds : List Pred) (t : Test) → In t (tests_of (all_together preds)) → From preds t
all_together-tests [] t h = absurd h
all_together-tests (pred ∷ []) t h = (pred, inl refl, h)
all_together-tests (pred ∷ next ∷ rest) t h = from_flat (pred ∷ next ∷ rest) t (subst (In t) (tests_of-All (pred ∷ next ∷ rest)) h)

any_together-tests : (preds : List Pred) (t : Test) → In t (tests_of (any_together preds)) → From preds t
any_together-tests [] t h = absurd h
any_together-tests (pred ∷ []) t h = (pred, inl refl, h)
any_together-tests (pred ∷ next ∷ rest) t h = from_flat (pred ∷ next ∷ rest) t (subst (In t) (tests_of-AnyOf (pred ∷ next ∷ rest)) h)

folded_all-tests : (preds : List Pred) (t : Test) → In t (tests_of (folded_all preds)) → From preds t
folded_all-tests preds t h = by (list_any is_no preds) h
  where
    by : (b : Bool) → In t (tests_of (cond b No (all_together (filter (λ pred. not (is_yes pred)) preds)))) → From preds t
    by true i = absurd i
    by false i = let m = all_together-tests (filter (λ pred. not (is_yes pred)) preds) t i in (m.0, (in_filter (λ pred. not (is_yes pred)) preds m.0 m.1).0, m.2)

folded_any-tests : (preds : List Pred) (t : Test) → In t (tests_of (folded_any preds)) → From preds t
folded_any-tests preds t h = by (list_any is_yes preds) h
  where
    by : (b : Bool) → In t (tests_of (cond b Yes (any_together (filter (λ pred. not (is_no pred)) preds)))) → From preds t
    by true i = absurd i
    by false i = let m = any_together-tests (filter (λ pred. not (is_no pred)) preds) t i in (m.0, (in_filter (λ pred. not (is_no pred)) preds m.0 m.1).0, m.2)

folded_not-tests : (pred : Pred) (t : Test) → In t (tests_of (folded_not pred)) → In t (tests_of pred)
folded_not-tests Yes t h = absurd h
folded_not-tests No t h = absurd h
folded_not-tests pred t h = subst (In t) (tests_of-Not pred) h

-- a test of a residue is what is left of a test of the predicate
abbrev pub IsLeft : Field → ℕ → Pred → Test → Type 0
IsLeft f v pred t = (s : Test) × In s (tests_of pred) × In t (tests_of (test_residue f v s))

pub residue-tests : (f : Field) (v : ℕ) (pred : Pred) (t : Test) → In t (tests_of (residue f v pred)) → IsLeft f v pred t
residue-tests f v = by_members (λ pred. (t : Test) → In t (tests_of (residue f v pred)) → IsLeft f v pred t) (λ t h. absurd h) (λ t h. absurd h) (λ s t h. (s, inl refl, h)) all any neg
  where
    some : (preds : List Pred) → AllByRecursion (λ pred. (t : Test) → In t (tests_of (residue f v pred)) → IsLeft f v pred t) preds → (t : Test) → From (residues f v preds) t →
        (s : Test) × In s (flat_map tests_of preds) × In t (tests_of (test_residue f v s))
    some [] h t m = absurd m.1
    some (pred ∷ rest) h t m = by m.1 (λ i. some rest h.1 t (m.0, i, m.2))
      where
        by : (m.0 ≡ residue f v pred) ⊎ In m.0 (residues f v rest) → (In m.0 (residues f v rest) → (s : Test) × In s (flat_map tests_of rest) × In t (tests_of (test_residue f v s))) →
            (s : Test) × In s (flat_map tests_of (pred ∷ rest)) × In t (tests_of (test_residue f v s))
        by (inl e) later = let l = h.0 t (subst (λ q. In t (tests_of q)) e m.2) in (l.0, in_append-left (tests_of pred) (flat_map tests_of rest) l.0 l.1, l.2)
        by (inr i) later = let l = later i in (l.0, in_append-right (tests_of pred) (flat_map tests_of rest) l.0 l.1, l.2)

    all : (preds : List Pred) → AllByRecursion (λ pred. (t : Test) → In t (tests_of (residue f v pred)) → IsLeft f v pred t) preds → (t : Test) → In t (tests_of (residue f v (All preds))) → IsLeft f v (All preds) t
    all preds h t i =
        let l = some preds h t (folded_all-tests (residues f v preds) t (subst (λ q. In t (tests_of q)) (residue-All f v preds) i)) in
        (l.0, subst (In l.0) (sym (tests_of-All preds)) l.1, l.2)

    any : (preds : List Pred) → AllByRecursion (λ pred. (t : Test) → In t (tests_of (residue f v pred)) → IsLeft f v pred t) preds → (t : Test) → In t (tests_of (residue f v (AnyOf preds))) → IsLeft f v (AnyOf preds) t
    any preds h t i =
        let l = some preds h t (folded_any-tests (residues f v preds) t (subst (λ q. In t (tests_of q)) (residue-AnyOf f v preds) i)) in
        (l.0, subst (In l.0) (sym (tests_of-AnyOf preds)) l.1, l.2)

    neg : (pred : Pred) → ((t : Test) → In t (tests_of (residue f v pred)) → IsLeft f v pred t) → (t : Test) → In t (tests_of (residue f v (Not pred))) → IsLeft f v (Not pred) t
    neg pred h t i =
        let l = h t (folded_not-tests (residue f v pred) t (subst (λ q. In t (tests_of q)) (residue-Not f v pred) i)) in
        (l.0, subst (In l.0) (sym (tests_of-Not pred)) l.1, l.2)
