-- Predicates that are Yes or No do not count.
use Rattle.std.proofs.Common.{Option, None, Some, MatchOption, ◌⊎◌, inl, inr, add-one, ◌-◌, ◌≡◌, ◌≤◌, ◌<◌, ℕ, zero, suc, ◌+◌, Bool, true, false, not, ◌&&◌, cond, List, [], ◌∷◌, ◌++◌, length, filter, take, get_or, sum_by, refl, sym, ◌∙◌, ap, ap₂, subst, arith}
use Rattle.std.specs.List.{flat_map, list_all}
use Rattle.std.proofs.lemmas.List.Sums.{sum_by-cons}
use Rattle.merlin_model.specs.declared.policy.Field.{Field}
use Rattle.merlin_model.specs.declared.policy.Pred.{Pred, Yes, No, Test as Tests, All', AnyOf', Not'}
use Rattle.predicate_logic.specs.Residues.{residue, residues}
use Rattle.predicate_logic.specs.Mentions.{mentions, prefixes, ascending}
use Rattle.predicate_split.specs.declared.count.Counted.{Counted}
use Rattle.predicate_split.specs.Parts.{bits_of, has_field, parts_within, field_parts}
use Rattle.predicate_split.specs.Classes.{is_decided, proto_with, class_count}

abbrev pub opened : List Pred → List Pred
opened preds = filter (λ pred. not (is_decided pred)) preds

decided-mentions : (f : Field) (pred : Pred) → is_decided pred ≡ true → mentions f pred ≡ []
decided-mentions f Yes e = refl
decided-mentions f No e = refl
decided-mentions f (Tests t) e = cc
decided-mentions f (All' _ _) e = cc
decided-mentions f (AnyOf' _ _) e = cc
decided-mentions f (Not' _ _) e = cc

decided-prefixes : (f : Field) (pred : Pred) → is_decided pred ≡ true → prefixes f pred ≡ []
decided-prefixes f Yes e = refl
decided-prefixes f No e = refl
decided-prefixes f (Tests t) e = cc
decided-prefixes f (All' _ _) e = cc
decided-prefixes f (AnyOf' _ _) e = cc
decided-prefixes f (Not' _ _) e = cc

decided-residue : (f : Field) (v : ℕ) (pred : Pred) → is_decided pred ≡ true → is_decided (residue f v pred) ≡ true
decided-residue f v Yes e = refl
decided-residue f v No e = refl
decided-residue f v (Tests t) e = cc
decided-residue f v (All' _ _) e = cc
decided-residue f v (AnyOf' _ _) e = cc
decided-residue f v (Not' _ _) e = cc

opened-decided : (preds : List Pred) → list_all is_decided (opened preds) ≡ list_all is_decided preds
opened-decided [] = refl
opened-decided (pred ∷ rest) = by (is_decided pred) refl (opened-decided rest)
  where
    by : (b : Bool) → is_decided pred ≡ b → list_all is_decided (opened rest) ≡ list_all is_decided rest → list_all is_decided (cond (not b) (pred ∷ opened rest) (opened rest)) ≡ (b && list_all is_decided rest)
    by true e ih = ih
    by false e ih = ap (λ b. b && list_all is_decided (opened rest)) e

opened-lists : {X : Type 0} (g : Pred → List X) → ((pred : Pred) → is_decided pred ≡ true → g pred ≡ []) → (preds : List Pred) → flat_map g (opened preds) ≡ flat_map g preds
opened-lists g none [] = refl
opened-lists {X} g none (pred ∷ rest) = by (is_decided pred) refl (opened-lists g none rest)
  where
    by : (b : Bool) → is_decided pred ≡ b → flat_map g (opened rest) ≡ flat_map g rest → flat_map g (cond (not b) (pred ∷ opened rest) (opened rest)) ≡ g pred ++ flat_map g rest
    by true e ih = ih ∙ ap (λ (l : List X). l ++ flat_map g rest) (sym (none pred e))
    by false e ih = ap (λ (l : List X). g pred ++ l) ih

opened-parts : (f : Field) (proto : ℕ) (preds : List Pred) → field_parts f proto (opened preds) ≡ field_parts f proto preds
opened-parts f proto preds =
    ap₂ (λ blocks named. cond (has_field f proto) (parts_within (bits_of f) blocks (ascending named)) (0 ∷ []))
    (opened-lists (prefixes f) (decided-prefixes f) preds) (opened-lists (mentions f) (decided-mentions f) preds)

opened-residues : (f : Field) (v : ℕ) (preds : List Pred) → opened (residues f v (opened preds)) ≡ opened (residues f v preds)
opened-residues f v [] = refl
opened-residues f v (pred ∷ rest) = by (is_decided pred) refl (opened-residues f v rest)
  where
    by : (b : Bool) → is_decided pred ≡ b → opened (residues f v (opened rest)) ≡ opened (residues f v rest) →
        opened (residues f v (cond (not b) (pred ∷ opened rest) (opened rest))) ≡ cond (not (is_decided (residue f v pred))) (residue f v pred ∷ opened (residues f v rest)) (opened (residues f v rest))
    by true e ih = ih ∙ ap (λ b. cond (not b) (residue f v pred ∷ opened (residues f v rest)) (opened (residues f v rest))) (sym (decided-residue f v pred e))
    by false e ih = ap (λ l. cond (not (is_decided (residue f v pred))) (residue f v pred ∷ l) l) ih

sums : (g h : ℕ → ℕ) (ns : List ℕ) → ((n : ℕ) → g n ≡ h n) → sum_by g ns ≡ sum_by h ns
sums g h ns same = ap (λ k. sum_by k ns) (λ i n. same n i)

pub opened-count : (fs : List Field) (proto : ℕ) (preds : List Pred) → class_count fs proto (opened preds) ≡ class_count fs proto preds
opened-count [] proto preds = refl
opened-count (f ∷ fs) proto preds =
    ap₂ (λ b ns. cond b 1 (sum_by (λ v. class_count fs (proto_with f v proto) (residues f v (opened preds))) ns)) (opened-decided preds) (opened-parts f proto preds)
    ∙ ap (λ n. cond (list_all is_decided preds) 1 n)
    (sums (λ v. class_count fs (proto_with f v proto) (residues f v (opened preds))) (λ v. class_count fs (proto_with f v proto) (residues f v preds)) (field_parts f proto preds)
    (λ v. sym (opened-count fs (proto_with f v proto) (residues f v (opened preds))) ∙ ap (class_count fs (proto_with f v proto)) (opened-residues f v preds) ∙ opened-count fs (proto_with f v proto) (residues f v preds)))

pub decided-count : (fs : List Field) (proto : ℕ) (preds : List Pred) → list_all is_decided preds ≡ true → class_count fs proto preds ≡ 1
decided-count [] proto preds e = refl
decided-count (f ∷ fs) proto preds e = ap (λ b. cond b 1 (sum_by (λ v. class_count fs (proto_with f v proto) (residues f v preds)) (field_parts f proto preds))) e

pub split-count : (f : Field) (fs : List Field) (proto : ℕ) (preds : List Pred) → list_all is_decided preds ≡ false →
    class_count (f ∷ fs) proto preds ≡ sum_by (λ v. class_count fs (proto_with f v proto) (residues f v preds)) (field_parts f proto preds)
split-count f fs proto preds e = ap (λ b. cond b 1 (sum_by (λ v. class_count fs (proto_with f v proto) (residues f v preds)) (field_parts f proto preds))) e

-- the first parts of a sum are at most the whole
pub sum-take : (g : ℕ → ℕ) (ns : List ℕ) (k v : ℕ) → k < length ns → v ≡ get_or ns k 0 → sum_by g (take k ns) + g v ≤ sum_by g ns
sum-take g [] k v lt e = absurd (omega arith)
sum-take g (n ∷ ns) zero v lt e = let same : g v ≡ g n = ap g e in omega (arith, sum_by-cons g n ns)
sum-take g (n ∷ ns) (suc k) v lt e = let rest = sum-take g ns k v (omega arith) e in omega (arith, sum_by-cons g n ns, sum_by-cons g n (take k ns))

-- The count of one part.

abbrev pub part_count : Field → List Field → ℕ → List Pred → ℕ → ℕ
part_count f fs proto preds v = class_count fs (proto_with f v proto) (residues f v preds)

pub counted_part : (f : Field) (fs : List Field) (proto v q : ℕ) (preds left : List Pred) → left ≡ opened (residues f v preds) → q ≡ proto_with f v proto → class_count fs q left ≡ part_count f fs proto preds v
counted_part f fs proto v q preds left is at = ap₂ (class_count fs) at is ∙ opened-count fs (proto_with f v proto) (residues f v preds)

pub some-part : (f : Field) (fs : List Field) (proto v q room more : ℕ) (preds left : List Pred) (o : Option ℕ) → left ≡ opened (residues f v preds) → q ≡ proto_with f v proto → o ≡ Some more →
    MatchOption o (room < class_count fs q left) (λ n. (n ≡ class_count fs q left) × (n ≤ room)) → (more ≡ part_count f fs proto preds v) × (more ≤ room)
some-part f fs proto v q room more preds left o is at e h =
    let m : (more ≡ class_count fs q left) × (more ≤ room) = subst (λ (p : Option ℕ). MatchOption p (room < class_count fs q left) (λ n. (n ≡ class_count fs q left) × (n ≤ room))) e h in
    (m.0 ∙ counted_part f fs proto v q preds left is at, m.1)

pub none-part : (f : Field) (fs : List Field) (proto v q room : ℕ) (preds left : List Pred) (o : Option ℕ) → left ≡ opened (residues f v preds) → q ≡ proto_with f v proto → o ≡ None →
    MatchOption o (room < class_count fs q left) (λ n. (n ≡ class_count fs q left) × (n ≤ room)) → room < part_count f fs proto preds v
none-part f fs proto v q room preds left o is at e h =
    let m : room < class_count fs q left = subst (λ (p : Option ℕ). MatchOption p (room < class_count fs q left) (λ n. (n ≡ class_count fs q left) × (n ≤ room))) e h in
    subst (λ n. room < n) (counted_part f fs proto v q preds left is at) m

pub too-many : (f : Field) (fs : List Field) (proto room count : ℕ) (preds : List Pred) (ns : List ℕ) (k v : ℕ) → list_all is_decided preds ≡ false → ns ≡ field_parts f proto preds → k < length ns → v ≡ get_or ns k 0 →
    count ≡ sum_by (part_count f fs proto preds) (take k ns) → count ≤ room → room - count < part_count f fs proto preds v → room < class_count (f ∷ fs) proto preds
too-many f fs proto room count preds ns k v undecided is lt e sum le past =
    let whole : class_count (f ∷ fs) proto preds ≡ sum_by (part_count f fs proto preds) ns = split-count f fs proto preds undecided ∙ ap (sum_by (part_count f fs proto preds)) (sym is) in
    let part = sum-take (part_count f fs proto preds) ns k v lt e in
    omega arith

pub sum-more : (g : ℕ → ℕ) (ns : List ℕ) (k v : ℕ) → k < length ns → v ≡ get_or ns k 0 → sum_by g (take k ns) + g v ≡ sum_by g (take (k + 1) ns)
sum-more g [] k v lt e = absurd (omega arith)
sum-more g (n ∷ ns) zero v lt e = let same : g v ≡ g n = ap g e in omega (arith, sum_by-cons g n [])
sum-more g (n ∷ ns) (suc k) v lt e =
    let rest = sum-more g ns k v (omega arith) e in
    let far : sum_by g (take (suc k + 1) (n ∷ ns)) ≡ g n + sum_by g (take (k + 1) ns) = ap (λ j. sum_by g (take j (n ∷ ns))) (add-one (suc k)) ∙ sum_by-cons g n (take (suc k) ns) ∙ ap (λ j. g n + sum_by g (take j ns)) (sym (add-one k)) in
    let near : sum_by g (take (suc k) (n ∷ ns)) ≡ g n + sum_by g (take k ns) = sum_by-cons g n (take k ns) in
    omega arith

-- What was counted.

pub nothing_is_one : (fs : List Field) (count proto : ℕ) (preds : List Pred) → preds ≡ [] → count ≡ 1 → count ≡ class_count fs proto preds
nothing_is_one fs count proto preds none one = one ∙ sym (ap (class_count fs proto) none ∙ decided-count fs proto [] refl)

abbrev IsCounted : List Field → Counted → Type 0
IsCounted fs c = c.count ≡ class_count fs c.proto c.preds

pub recent_is_counted : (fs : List Field) (c first second : Counted) → (c ≡ first) ⊎ (c ≡ second) → IsCounted fs first → IsCounted fs second → IsCounted fs c
recent_is_counted fs c first second (inl e) h k = subst (IsCounted fs) (sym e) h
recent_is_counted fs c first second (inr e) h k = subst (IsCounted fs) (sym e) k
