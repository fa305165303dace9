-- A tree whose splits name open variables is small, and an open end leaves room for two nodes more.
use Rattle.std.proofs.Common.{◌≡◌, ℕ, zero, suc, ◌+◌, ◌*◌, ◌^◌, ◌≤◌, ◌<◌, Bool, true, false, ◌||◌, List, [], ◌∷◌, ◌++◌, length, length-append, length-set, slice_set, Option, None, Some, sym, ◌∙◌, ap, arith}
use Rattle.std.proofs.Math.Nat.{pow-succ'}
use Rattle.std.specs.List.{AllByRecursion}
use Rattle.merlin_model.specs.declared.certificate.Tree.{Tree, Leaf, Split', Unclosed, end_of-Tree, more_of-Tree}
use Rattle.merlin_model.specs.Programs.{Program, variables, is_chosen}
use Rattle.merlin_model.specs.Trees.{fix, fixed_at, nodes_of, root_box, IsKeptNode, has_open_end}
use Rattle.merlin_model.proofs.Members.{all_left, all_right}
use Rattle.bound_search.proofs.Trees.{open_append}
use Rattle.bound_search.specs.Growing.{AreKept}
use Rattle.bound_search.specs.Outcomes.{IsSpent}
use Rattle.bound_search.specs.Descent.{IsRootTree, one_if}
use Rattle.bound_search.proofs.Roots.{length-mapped}

some_none : {X : Type 0} {x : X} → Some x ≡ None → ⊥
some_none e = cc

true-false : true ≡ false → ⊥
true-false e = cc

abbrev open_here : Bool → Option Bool → ℕ
open_here true None = 1
open_here true (Some b) = 0
open_here false fixed = 0

abbrev count_open : List Bool → List (Option Bool) → ℕ
count_open [] box = 0
count_open (u ∷ us) [] = 0
count_open (u ∷ us) (f ∷ fs) = open_here u f + count_open us fs

fewer_open : (upper : List Bool) (box : List (Option Bool)) (v : ℕ) (to : Bool) → length box ≡ length upper → v < length upper → fixed_at box v ≡ None → is_chosen upper v ≡ true →
    count_open upper (slice_set box v (Some to)) + 1 ≡ count_open upper box
fewer_open [] box v to s h f u = let bad : ⊥ = omega arith in absurd bad
fewer_open (x ∷ us) [] v to s h f u = let bad : ⊥ = omega arith in absurd bad
fewer_open (true ∷ us) (None ∷ fs) zero to s h f u = omega arith
fewer_open (true ∷ us) (Some b ∷ fs) zero to s h f u = absurd (some_none f)
fewer_open (false ∷ us) (b ∷ fs) zero to s h f u = absurd (true-false (sym u))
fewer_open (x ∷ us) (b ∷ fs) (suc v) to s h f u =
    let ih = fewer_open us fs v to (omega arith) (omega arith) f u in
    omega arith

at_most : (upper : List Bool) (box : List (Option Bool)) → count_open upper box ≤ length upper
at_most [] box = omega arith
at_most (u ∷ us) [] = omega arith
at_most (true ∷ us) (None ∷ fs) = let ih = at_most us fs in omega arith
at_most (true ∷ us) (Some b ∷ fs) = let ih = at_most us fs in omega arith
at_most (false ∷ us) (f ∷ fs) = let ih = at_most us fs in omega arith

double : (n : ℕ) → 2 ^ (n + 1) ≡ 2 ^ n + 2 ^ n
double n = let e : n + 1 ≡ suc n = omega arith in let p = pow-succ' 2 n in ap (λ k. 2 ^ k) e ∙ (omega arith)

some_power : (n : ℕ) → 1 ≤ 2 ^ n
some_power zero = omega arith
some_power (suc n) = let ih = some_power n in let d = double n in let e : suc n ≡ n + 1 = omega arith in let p = ap (λ k. 2 ^ k) e in omega arith

more_power : (m n : ℕ) → m ≤ n → 2 ^ m ≤ 2 ^ n
more_power m zero h = let e : m ≡ zero = omega arith in let p = ap (λ k. 2 ^ k) e in omega arith
more_power zero (suc n) h = some_power (suc n)
more_power (suc m) (suc n) h =
    let ih = more_power m n (omega arith) in
    let a = double m in let b = double n in
    let e : suc m ≡ m + 1 = omega arith in let f : suc n ≡ n + 1 = omega arith in
    let p = ap (λ k. 2 ^ k) e in let q = ap (λ k. 2 ^ k) f in omega arith

or-le : (a b : Bool) → one_if (a || b) ≤ one_if a + one_if b
or-le true b = omega arith
or-le false b = omega arith

small : (program : Program) (easy : List (Option Bool) → Type 0) (tree : Tree) (box : List (Option Bool)) → length box ≡ variables program → AreKept program easy (nodes_of tree box) →
    length (nodes_of tree box) + 1 + 2 * one_if (has_open_end (nodes_of tree box)) ≤ 2 ^ (count_open program.upper box + 1)
small program easy (Leaf weights) box size kept =
    let p = some_power (count_open program.upper box) in let d = double (count_open program.upper box) in omega arith
small program easy Unclosed box size kept =
    let o = kept.0.0.is_open in
    let f = fewer_open program.upper box kept.0.0.variable true size o.exists o.free o.may_be_one in
    let p = some_power (count_open program.upper (slice_set box kept.0.0.variable (Some true))) in
    let d = double (count_open program.upper (slice_set box kept.0.0.variable (Some true))) in
    let e = ap (λ k. 2 ^ k) f in
    let d' = double (count_open program.upper box) in omega arith
small program easy (Split' variable _ (more_of-Tree low end_of-Tree) _ (more_of-Tree high end_of-Tree)) box size kept =
    let o = kept.0.0 in
    let ls = nodes_of low (fix box variable false) in
    let hs = nodes_of high (fix box variable true) in
    let l = small program easy low (fix box variable false) (length-set box variable (Some false) ∙ size) (all_left (λ node. IsKeptNode program easy node.0 node.1) ls hs kept.1) in
    let h = small program easy high (fix box variable true) (length-set box variable (Some true) ∙ size) (all_right (λ node. IsKeptNode program easy node.0 node.1) ls hs kept.1) in
    let f = ap (λ k. 2 ^ k) (fewer_open program.upper box variable false size o.exists o.free o.may_be_one) in
    let g = ap (λ k. 2 ^ k) (fewer_open program.upper box variable true size o.exists o.free o.may_be_one) in
    let d = double (count_open program.upper box) in
    let n = length-append ls hs in
    let a = ap one_if (open_append ls hs) in
    let r = or-le (has_open_end ls) (has_open_end hs) in
    omega arith

pub spent_is_small : (program : Program) (easy : List (Option Bool) → Type 0) (chose : List (Option Bool) → ℕ → Type 0) (budget : ℕ) (tree : Tree) → IsRootTree program easy chose budget tree → has_open_end (nodes_of tree (root_box program)) ≡ true →
    budget + 1 < 2 ^ (variables program + 1)
spent_is_small program easy chose budget tree grown open_end =
    let s = small program easy tree (root_box program) (length-mapped (λ u. None) program.upper) grown.kept in
    let e = ap one_if open_end in
    let b = grown.spent open_end in
    let m = at_most program.upper (root_box program) in
    let p = more_power (count_open program.upper (root_box program) + 1) (variables program + 1) (omega arith) in
    omega arith

pub is-spent : (program : Program) (easy : List (Option Bool) → Type 0) (chose : List (Option Bool) → ℕ → Type 0) (budget : ℕ) (tree : Tree) → IsRootTree program easy chose budget tree → has_open_end (nodes_of tree (root_box program)) ≡ true → IsSpent program easy chose budget tree
is-spent program easy chose budget tree grown open_end = record {
  in_budget = grown.in_budget;
  spent = grown.spent open_end;
  open_end = open_end;
  kept = grown.kept;
  chosen = grown.chosen;
  small = spent_is_small program easy chose budget tree grown open_end;
}
