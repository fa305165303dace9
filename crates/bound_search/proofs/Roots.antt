-- The boxes at the root.
use Rattle.std.proofs.Common.{◌≡◌, ◌≢◌, ℕ, zero, suc, ◌+◌, ◌<◌, ◌≤◌, nat_eq, Bool, true, false, List, [], ◌∷◌, map, length, replicate, Option, None, Some, get_or, slice_set, length-set, get_or-set_same, get_or-set_other, refl, sym, ◌∙◌, ap, arith}
use Rattle.std.proofs.lemmas.List.{length-replicate}
use Rattle.merlin_model.specs.Programs.{Program, variables, is_chosen}
use Rattle.bound_search.specs.Boxes.{AreBoxes, shut_at}
use Rattle.merlin_model.specs.Trees.{root_box, fixed_at}

none_some : {X : Type 0} {x : X} → None ≡ Some x → ⊥
none_some e = cc

pub none-mapped : {X : Type 0} (xs : List X) (k : ℕ) → get_or (map (λ (x : X). let o : Option Bool = None in o) xs) k None ≡ None
none-mapped [] k = refl
none-mapped (x ∷ xs) zero = refl
none-mapped (x ∷ xs) (suc k) = none-mapped xs k

pub length-mapped : {X Y : Type 0} (f : X → Y) (xs : List X) → length (map f xs) ≡ length xs
length-mapped f [] = refl
length-mapped f (x ∷ xs) = ap suc (length-mapped f xs)

pub all-none : {X : Type 0} (xs : List X) → replicate (length xs) (let o : Option Bool = None in o) ≡ map (λ (x : X). let o : Option Bool = None in o) xs
all-none [] = refl
all-none (x ∷ xs) = ap (λ ys. None ∷ ys) (all-none xs)

pub none-replicated : (n k : ℕ) → get_or (replicate n (let o : Option Bool = None in o)) k None ≡ None
none-replicated zero k = refl
none-replicated (suc n) zero = refl
none-replicated (suc n) (suc k) = none-replicated n k

-- a box whose first variables are shut, where that is to be
pub record IsShutTo (program : Program) (n : ℕ) (shut : List (Option Bool)) : Type 0 where
  pub size : length shut ≡ variables program
  pub before : (v : ℕ) → v < n → fixed_at shut v ≡ shut_at (is_chosen program.upper v) None
  pub after : (v : ℕ) → n ≤ v → fixed_at shut v ≡ None

pub none-shut : (program : Program) (shut : List (Option Bool)) → shut ≡ replicate (variables program) None → IsShutTo program 0 shut
none-shut program shut e = record {
  size = ap length e ∙ length-replicate (variables program) None;
  before = λ v h. let bad : ⊥ = omega arith in absurd bad;
  after = λ v h. ap (λ s. fixed_at s v) e ∙ none-replicated (variables program) v;
}

pub one-shut : (program : Program) (n : ℕ) (shut after : List (Option Bool)) (to : Option Bool) → n < variables program → IsShutTo program n shut → after ≡ slice_set shut n to → to ≡ shut_at (is_chosen program.upper n) None → IsShutTo program (n + 1) after
one-shut program n shut after to h was set is = record {
  size = ap length set ∙ length-set shut n to ∙ was.size;
  before = λ v l. ap (λ s. fixed_at s v) set ∙ by v l (nat_eq v n) refl;
  after = λ v l. ap (λ s. fixed_at s v) set ∙ get_or-set_other shut n v to None (omega arith) ∙ was.after v (omega arith);
}
  where
    within : n < length shut
    within = let s = was.size in omega arith

    by : (v : ℕ) → v < n + 1 → (b : Bool) → nat_eq v n ≡ b → fixed_at (slice_set shut n to) v ≡ shut_at (is_chosen program.upper v) None
    by v l true e =
        let at : v ≡ n = grind arith in
        ap (fixed_at (slice_set shut n to)) at ∙ get_or-set_same shut n to None within ∙ is ∙ ap (λ u. shut_at (is_chosen program.upper u) None) (sym at)
    by v l false e =
        let other : v ≢ n = grind arith in
        get_or-set_other shut n v to None other ∙ was.before v (omega arith)

-- the boxes that a loop over all variables has made
pub made_boxes : (program : Program) (plain shut : List (Option Bool)) (n : ℕ) → n ≡ variables program → plain ≡ replicate (variables program) None → IsShutTo program n shut →
    (plain ≡ root_box program) × AreBoxes program (record { plain = plain; shut = shut })
made_boxes program plain shut n e p s = (
  root,
  record {
    box = record {
      size = ap length p ∙ length-replicate (variables program) None;
      within = λ v f. absurd (none_some (sym (ap (λ b. fixed_at b v) p ∙ none-replicated (variables program) v) ∙ f));
    };
    shut = record {
      size = s.size;
      same = λ v h. s.before v (omega arith) ∙ ap (shut_at (is_chosen program.upper v)) (sym (ap (λ b. fixed_at b v) p ∙ none-replicated (variables program) v));
    };
  },
)
  where
    root : plain ≡ root_box program
    root = p ∙ all-none program.upper
