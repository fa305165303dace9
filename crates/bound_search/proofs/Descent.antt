-- Each better point leaves fewer points whose cutoff is below the best, and what a tree at the best cutoff shows.
use Rattle.std.proofs.Common.{◌≡◌, ℕ, zero, suc, ◌-◌, ◌≤◌, ◌<◌, Bool, true, false, IsTrue, ℤ, ◌≤ℤ◌, List, [], ◌∷◌, length, Option, None, Some, refl, sym, ◌∙◌, ap, subst, arith}
use Rattle.std.proofs.lemmas.Int.{ints}
use Rattle.std.specs.List.{AllByRecursion, AllZip}
use Rattle.merlin_model.specs.Programs.{Program, Row, variables, left_side, Compares, IsSolution, IsNarrowerRow, IsNarrower, is_lower, Takes, HasCutoffs}
use Rattle.merlin_model.specs.Trees.{Refutes, IsInBox, nodes_of, root_box, has_open_end}
use Rattle.merlin_model.specs.declared.certificate.Tree.{Tree}
use Rattle.bound_search.specs.declared.outcome.Best.{Best}
use Rattle.bound_search.specs.declared.boxes.Boxes.{Boxes}
use Rattle.bound_search.proofs.Roots.{none-mapped}
use Rattle.bound_search.specs.Descent.{IsBest, IsBestSoFar, IsRootTree, count_points, cutoff_of_best, one_if}
use Rattle.bound_search.specs.Growing.{IsGrownTree, IsWhole}
use Rattle.bound_search.specs.Outcomes.{HasNone, IsLeastPoint}
use Rattle.bound_search.proofs.Trees.{kept_refutes}

false-true : false ≡ true → ⊥
false-true e = cc

-- Counts.

one_if-le : (a b : Bool) → (a ≡ true → b ≡ true) → one_if a ≤ one_if b
one_if-le true true h = omega arith
one_if-le true false h = absurd (false-true (h refl))
one_if-le false true h = omega arith
one_if-le false false h = omega arith

pub count-le : (n : ℕ) (f g : List Bool → Bool) → ((point : List Bool) → length point ≡ n → f point ≡ true → g point ≡ true) → count_points n f ≤ count_points n g
unfolding count_points
count-le zero f g h = one_if-le (f []) (g []) (h [] refl)
count-le (suc n) f g h =
    let low = count-le n (λ p. f (false ∷ p)) (λ p. g (false ∷ p)) (λ p e. h (false ∷ p) (ap suc e)) in
    let high = count-le n (λ p. f (true ∷ p)) (λ p. g (true ∷ p)) (λ p e. h (true ∷ p) (ap suc e)) in
    omega arith

pub count-lt : (n : ℕ) (f g : List Bool → Bool) → ((point : List Bool) → length point ≡ n → f point ≡ true → g point ≡ true) →
    (point : List Bool) → length point ≡ n → f point ≡ false → g point ≡ true → count_points n f < count_points n g
unfolding count_points
count-lt zero f g h [] size out inside = rw (out, inside) (omega arith)
count-lt zero f g h (x ∷ xs) size out inside = let bad : ⊥ = omega arith in absurd bad
count-lt (suc n) f g h [] size out inside = let bad : ⊥ = omega arith in absurd bad
count-lt (suc n) f g h (false ∷ xs) size out inside =
    let low = count-lt n (λ p. f (false ∷ p)) (λ p. g (false ∷ p)) (λ p e. h (false ∷ p) (ap suc e)) xs (omega arith) out inside in
    let high = count-le n (λ p. f (true ∷ p)) (λ p. g (true ∷ p)) (λ p e. h (true ∷ p) (ap suc e)) in
    omega arith
count-lt (suc n) f g h (true ∷ xs) size out inside =
    let low = count-le n (λ p. f (false ∷ p)) (λ p. g (false ∷ p)) (λ p e. h (false ∷ p) (ap suc e)) in
    let high = count-lt n (λ p. f (true ∷ p)) (λ p. g (true ∷ p)) (λ p e. h (true ∷ p) (ap suc e)) xs (omega arith) out inside in
    omega arith

-- A solution of a narrower program is one of the wider.

compares : (a b : Bool) (left r s : ℤ) → a ≡ b → r ≤ℤ s → (b ≡ true → r ≡ s) → Compares a left r → Compares b left s
compares true true left r s e le eq h = h ∙ eq refl
compares false false left r s e le eq h = omega (arith, ints)
compares true false left r s e le eq h = absurd (false-true (sym e))
compares false true left r s e le eq h = absurd (false-true e)

meets-wider : (point : List Bool) (narrow wide : List Row) → AllZip IsNarrowerRow narrow wide →
    AllByRecursion (λ row. Compares row.is_equality (left_side row.entries point) row.right) narrow → AllByRecursion (λ row. Compares row.is_equality (left_side row.entries point) row.right) wide
meets-wider point [] [] are meets = tt
meets-wider point (n ∷ narrow) (w ∷ wide) are meets = (
  subst (λ entries. Compares w.is_equality (left_side entries point) w.right) are.0.entries
      (compares n.is_equality w.is_equality (left_side n.entries point) n.right w.right are.0.is_equality are.0.right are.0.still meets.0),
  meets-wider point narrow wide are.1 meets.1,
)
meets-wider point [] (w ∷ wide) are meets = absurd are
meets-wider point (n ∷ narrow) [] are meets = absurd are

pub solution-wider : (narrow wide : Program) (point : List Bool) → IsNarrower narrow wide → IsSolution narrow point → IsSolution wide point
solution-wider narrow wide point is solution = record {
  size = solution.size ∙ is.size;
  within = λ variable chosen. is.upper variable (solution.within variable chosen);
  meets = meets-wider point narrow.rows wide.rows is.rows solution.meets;
}

-- Over a program with cutoffs.

pub solution-plain : (K : Type 0) (instance : Option K → Program) (takes : K → Bool) (below : K → K → Bool) (value : List Bool → K) (cutoff : Option K) (point : List Bool) →
    HasCutoffs K instance takes below value → Takes takes cutoff → IsSolution (instance cutoff) point → IsSolution (instance None) point
solution-plain K instance takes below value None point laws t solution = solution
solution-plain K instance takes below value (Some z) point laws t solution =
    solution-wider (instance (Some z)) (instance None) point (laws.narrows (Some z) None t tt refl) solution

pub fewer_below : (K : Type 0) (instance : Option K → Program) (takes : K → Bool) (below : K → K → Bool) (value : List Bool → K) (cutoff : Option K) (point : List Bool) →
    HasCutoffs K instance takes below value → Takes takes cutoff → ((q : List Bool) → length q ≡ variables (instance None) → IsTrue (takes (value q))) → IsSolution (instance cutoff) point →
    count_points (variables (instance None)) (λ q. is_lower below (Some (value q)) (Some (value point))) < count_points (variables (instance None)) (λ q. is_lower below (Some (value q)) cutoff)
fewer_below K instance takes below value cutoff point laws t taken solution =
    count-lt (variables (instance None)) _ _ (λ q e h. less cutoff t solution q e h) point plain.size (laws.irreflexive (value point) (taken point plain.size)) (own cutoff t solution)
  where
    plain : IsSolution (instance None) point
    plain = solution-plain K instance takes below value cutoff point laws t solution

    own : (cutoff : Option K) → Takes takes cutoff → IsSolution (instance cutoff) point → is_lower below (Some (value point)) cutoff ≡ true
    own None t s = refl
    own (Some z) t s = laws.lowers z point t s

    less : (cutoff : Option K) → Takes takes cutoff → IsSolution (instance cutoff) point → (q : List Bool) → length q ≡ variables (instance None) → below (value q) (value point) ≡ true → is_lower below (Some (value q)) cutoff ≡ true
    less None t s q e h = refl
    less (Some z) t s q e h = laws.transitive (value q) (value point) z (taken q e) (taken point plain.size) t h (own (Some z) t s)

pub variables-same : (K : Type 0) (instance : Option K → Program) (takes : K → Bool) (below : K → K → Bool) (value : List Bool → K) (cutoff : Option K) →
    HasCutoffs K instance takes below value → Takes takes cutoff → variables (instance cutoff) ≡ variables (instance None)
variables-same K instance takes below value None laws t = refl
variables-same K instance takes below value (Some z) laws t = (laws.narrows (Some z) None t tt refl).size

-- What a whole tree shows.

abbrev pub Refuted : Type 0
Refuted = (program : Program) (tree : Tree) (box : List (Option Bool)) → Refutes program tree box → (point : List Bool) → IsSolution program point → IsInBox box point → ⊥

none_some : {X : Type 0} {x : X} → None ≡ Some x → ⊥
none_some e = cc

in_root : (program : Program) (point : List Bool) → IsInBox (root_box program) point
in_root program point v to e = absurd (none_some (sym (none-mapped program.upper v) ∙ e))

pub least-point : (K : Type 0) (instance : Option K → Program) (easy : Option K → List (Option Bool) → Type 0) (neat : List Bool → Type 0) (takes : K → Bool) (below : K → K → Bool) (value : List Bool → K)
    (chose : List (Option Bool) → ℕ → Type 0) (budget : ℕ) (best : Best K) (tree : Tree) → HasCutoffs K instance takes below value → Refuted → IsBest K instance neat takes value best →
    IsRootTree (instance (Some best.cutoff)) (easy (Some best.cutoff)) chose budget tree → has_open_end (nodes_of tree (root_box (instance (Some best.cutoff)))) ≡ false →
    IsLeastPoint K instance neat below value chose budget best.point best.cutoff tree
least-point K instance easy neat takes below value chose budget best tree laws refuted is grown whole = record {
  solution = is.solution;
  is_neat = is.is_neat;
  own = is.own;
  least = λ other solution. by other solution (below (value other) best.cutoff) refl;
  refutes = refutes;
  chosen = grown.chosen;
  in_budget = grown.in_budget;
}
  where
    refutes : Refutes (instance (Some best.cutoff)) tree (root_box (instance (Some best.cutoff)))
    refutes = kept_refutes (instance (Some best.cutoff)) (easy (Some best.cutoff)) _ grown.kept whole

    by : (other : List Bool) → IsSolution (instance None) other → (b : Bool) → below (value other) best.cutoff ≡ b → b ≡ false
    by other solution false e = refl
    by other solution true e =
        absurd (refuted (instance (Some best.cutoff)) tree _ refutes other (laws.reaches best.cutoff other is.taken solution e) (in_root (instance (Some best.cutoff)) other))

pub has-none : (K : Type 0) (instance : Option K → Program) (easy : List (Option Bool) → Type 0) (chose : List (Option Bool) → ℕ → Type 0) (budget : ℕ) (tree : Tree) → Refuted →
    IsRootTree (instance None) easy chose budget tree → has_open_end (nodes_of tree (root_box (instance None))) ≡ false → HasNone K instance chose budget tree
has-none K instance easy chose budget tree refuted grown whole = record {
  none = λ point solution. refuted (instance None) tree _ refutes point solution (in_root (instance None) point);
  refutes = refutes;
  chosen = grown.chosen;
  in_budget = grown.in_budget;
}
  where
    refutes : Refutes (instance None) tree (root_box (instance None))
    refutes = kept_refutes (instance None) easy _ grown.kept whole

-- A better point.
pub better : (K : Type 0) (instance : Option K → Program) (neat : List Bool → Type 0) (takes : K → Bool) (below : K → K → Bool) (value : List Bool → K) (cutoff : Option K) (point : List Bool) (z : K) →
    HasCutoffs K instance takes below value → Takes takes cutoff → ((q : List Bool) → length q ≡ variables (instance None) → IsTrue (takes (value q))) →
    IsSolution (instance cutoff) point × neat point → z ≡ value point → IsBest K instance neat takes value (record { point = point; cutoff = z })
better K instance neat takes below value cutoff point z laws t taken solution own = record {
  solution = plain;
  is_neat = solution.1;
  own = own;
  taken = subst (λ x. IsTrue (takes x)) (sym own) (taken point plain.size);
}
  where
    plain : IsSolution (instance None) point
    plain = solution-plain K instance takes below value cutoff point laws t solution.0

pub takes-best : (K : Type 0) (instance : Option K → Program) (neat : List Bool → Type 0) (takes : K → Bool) (value : List Bool → K) (best : Option (Best K)) → IsBestSoFar K instance neat takes value best → Takes takes (cutoff_of_best best)
takes-best K instance neat takes value None is = tt
takes-best K instance neat takes value (Some best) is = is.taken

-- a tree that was grown at the root with the whole budget
pub root-tree : (program : Program) (easy : List (Option Bool) → Type 0) (chose : List (Option Bool) → ℕ → Type 0) (budget left : ℕ) (boxes after : Boxes) (tree : Tree) → 0 < budget → boxes.plain ≡ root_box program → IsWhole program easy chose boxes after (budget - 1) left tree →
    IsRootTree program easy chose budget tree
root-tree program easy chose budget left boxes after tree some root w = record {
  kept = grown.kept;
  chosen = grown.chosen;
  in_budget = let s = grown.size in omega arith;
  spent = λ e. let s = grown.size in let l = grown.spent e in omega arith;
}
  where
    grown : IsGrownTree program easy chose (root_box program) (budget - 1) left tree
    grown = subst (λ box. IsGrownTree program easy chose box (budget - 1) left tree) root w.grown

pub falls : (K : Type 0) (instance : Option K → Program) (neat : List Bool → Type 0) (takes : K → Bool) (below : K → K → Bool) (value : List Bool → K) (cutoff old : Option K) (point : List Bool) (z : K) →
    HasCutoffs K instance takes below value → cutoff ≡ old → Takes takes old → ((q : List Bool) → length q ≡ variables (instance None) → IsTrue (takes (value q))) →
    IsSolution (instance cutoff) point × neat point → z ≡ value point →
    count_points (variables (instance None)) (λ q. is_lower below (Some (value q)) (Some z)) < count_points (variables (instance None)) (λ q. is_lower below (Some (value q)) old)
falls K instance neat takes below value cutoff old point z laws same t taken solution own =
    subst (λ x. count_points (variables (instance None)) (λ q. is_lower below (Some (value q)) (Some x)) < count_points (variables (instance None)) (λ q. is_lower below (Some (value q)) old)) (sym own)
    (fewer_below K instance takes below value old point laws t taken (subst (λ o. IsSolution (instance o) point) same solution.0))

pub tree-at : (K : Type 0) (instance : Option K → Program) (easy : Option K → List (Option Bool) → Type 0) (chose : List (Option Bool) → ℕ → Type 0) (first second cutoff : Option K) (budget left : ℕ) (boxes after : Boxes) (tree : Tree) →
    first ≡ cutoff → second ≡ cutoff → 0 < budget → boxes.plain ≡ root_box (instance first) → IsWhole (instance second) (easy second) chose boxes after (budget - 1) left tree →
    IsRootTree (instance cutoff) (easy cutoff) chose budget tree
tree-at K instance easy chose first second cutoff budget left boxes after tree e f some root w =
    subst (λ o. IsRootTree (instance o) (easy o) chose budget tree) f
    (root-tree (instance second) (easy second) chose budget left boxes after tree some (root ∙ ap (λ o. root_box (instance o)) (e ∙ sym f)) w)
