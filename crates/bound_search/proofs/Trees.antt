-- Trees that are grown from their two halves.
use Rattle.std.proofs.Common.{◌≡◌, ℕ, suc, ◌+◌, ◌-◌, ◌≤◌, ◌<◌, Bool, true, false, ◌||◌, List, [], ◌∷◌, ◌++◌, length, length-append, Option, None, Some, refl, sym, ◌∙◌, ap, subst, arith}
use Rattle.std.specs.List.{AllByRecursion}
use Rattle.merlin_model.specs.declared.certificate.Tree.{Tree, Leaf, Split, Split', Unclosed, end_of-Tree, more_of-Tree}
use Rattle.merlin_model.specs.Programs.{Program}
use Rattle.merlin_model.specs.Trees.{fix, IsOpen, IsSoundNode, Node, Leaf_node, Split_node, Open_end, nodes_of, nodes_of-Split, IsKeptNode, has_open_end, is_open_end}
use Rattle.bound_search.specs.declared.boxes.Boxes.{Boxes}
use Rattle.bound_search.specs.Growing.{AreKept, AreChosen, IsChosenAt, IsGrownTree, IsWhole}
use Rattle.bound_search.specs.Boxes.{AreBoxes, with_place}
use Rattle.bound_search.proofs.BoxLaws.{refix, unfix}

true-false : true ≡ false → ⊥
true-false e = cc

pub all_append : {X : Type 0} (P : X → Type 0) (xs ys : List X) → AllByRecursion P xs → AllByRecursion P ys → AllByRecursion P (xs ++ ys)
all_append P [] ys a b = b
all_append P (x ∷ xs) ys a b = (a.0, all_append P xs ys a.1 b)

pub open_append : (xs ys : List (List (Option Bool) × Node)) → has_open_end (xs ++ ys) ≡ has_open_end xs || has_open_end ys
open_append [] ys = refl
open_append (x ∷ xs) ys = by (is_open_end x.1) (open_append xs ys)
  where
    by : (b : Bool) → has_open_end (xs ++ ys) ≡ (has_open_end xs || has_open_end ys) → (b || has_open_end (xs ++ ys)) ≡ ((b || has_open_end xs) || has_open_end ys)
    by true ih = refl
    by false ih = ih

-- a tree has a node
pub has_node : (tree : Tree) (box : List (Option Bool)) → 0 < length (nodes_of tree box)
has_node (Leaf weights) box = omega arith
has_node (Split' variable _ (more_of-Tree zero' end_of-Tree) _ (more_of-Tree one end_of-Tree)) box = omega arith
has_node Unclosed box = omega arith

pub grown-split : (program : Program) (easy : List (Option Bool) → Type 0) (chose : List (Option Bool) → ℕ → Type 0) (box : List (Option Bool)) (variable before between after : ℕ) (low high : Tree) →
    IsOpen program box variable → (easy box → ⊥) → IsChosenAt program chose box variable → 2 ≤ before →
    IsGrownTree program easy chose (fix box variable false) (before - 2) between low → IsGrownTree program easy chose (fix box variable true) between after high →
    IsGrownTree program easy chose box before after (Split variable low high)
grown-split program easy chose box variable before between after low high is_open hard choice room l h = record {
  kept = subst (AreKept program easy) (sym nodes) ((is_open, hard), all_append _ (nodes_of low (fix box variable false)) (nodes_of high (fix box variable true)) l.kept h.kept);
  chosen = subst (AreChosen program chose) (sym nodes) (choice, all_append _ (nodes_of low (fix box variable false)) (nodes_of high (fix box variable true)) l.chosen h.chosen);
  size = let n : length (nodes_of (Split variable low high) box) ≡ length (nodes_of low (fix box variable false)) + length (nodes_of high (fix box variable true)) + 1 = ap length nodes ∙ counted in
      let a = l.size in let b = h.size in omega arith;
  spent = λ e. spent (has_open_end (nodes_of low (fix box variable false))) refl (sym (open_append (nodes_of low (fix box variable false)) (nodes_of high (fix box variable true))) ∙ sym (ap has_open_end nodes) ∙ e);
}
  where
    nodes : nodes_of (Split variable low high) box ≡ (box, Split_node variable) ∷ (nodes_of low (fix box variable false) ++ nodes_of high (fix box variable true))
    nodes = nodes_of-Split variable low high box

    counted : suc (length (nodes_of low (fix box variable false) ++ nodes_of high (fix box variable true))) ≡ length (nodes_of low (fix box variable false)) + length (nodes_of high (fix box variable true)) + 1
    counted = let n = length-append (nodes_of low (fix box variable false)) (nodes_of high (fix box variable true)) in omega arith

    spent : (b : Bool) → has_open_end (nodes_of low (fix box variable false)) ≡ b → (b || has_open_end (nodes_of high (fix box variable true))) ≡ true → after < 2
    spent true e o =
        let early : between < 2 = l.spent e in
        let some = has_node high (fix box variable true) in
        let s = h.size in omega arith
    spent false e o = h.spent o

-- without an open end each kept node is sound
pub kept_refutes : (program : Program) (easy : List (Option Bool) → Type 0) (nodes : List (List (Option Bool) × Node)) → AreKept program easy nodes → has_open_end nodes ≡ false →
    AllByRecursion (λ node. IsSoundNode program node.0 node.1) nodes
kept_refutes program easy [] kept none = tt
kept_refutes program easy (n ∷ nodes) kept none = by n.1 kept.0 none (kept_refutes program easy nodes kept.1)
  where
    by : (node : Node) → IsKeptNode program easy n.0 node → (is_open_end node || has_open_end nodes) ≡ false → (has_open_end nodes ≡ false → AllByRecursion (λ node. IsSoundNode program node.0 node.1) nodes) →
        IsSoundNode program n.0 node × AllByRecursion (λ node. IsSoundNode program node.0 node.1) nodes
    by (Leaf_node weights) k e rest = (k, rest e)
    by (Split_node variable) k e rest = (k.0, rest e)
    by Open_end k e rest = absurd (true-false e)

-- The steps of a split, over the boxes as they come: b1 and b3 are the halves, b2 and b4 what the halves leave, b5 the end.

pub second_half : (program : Program) (easy : List (Option Bool) → Type 0) (chose : List (Option Bool) → ℕ → Type 0) (b b1 b2 b3 : Boxes) (variable before between : ℕ) (low : Tree) →
    b1 ≡ with_place b variable (Some false) → IsWhole program easy chose b1 b2 before between low → b3 ≡ with_place b2 variable (Some true) → b3 ≡ with_place b variable (Some true)
second_half program easy chose b b1 b2 b3 variable before between low e1 w e3 =
    e3 ∙ ap (λ x. with_place x variable (Some true)) (w.same ∙ e1) ∙ refix b variable (Some false) (Some true)

pub fewer : (program : Program) (easy : List (Option Bool) → Type 0) (chose : List (Option Bool) → ℕ → Type 0) (b1 b2 : Boxes) (before between : ℕ) (low : Tree) → IsWhole program easy chose b1 b2 before between low → between ≤ before
fewer program easy chose b1 b2 before between low w =
    let n = has_node low b1.plain in
    let s = w.grown.size in omega arith

pub whole-split : (program : Program) (easy : List (Option Bool) → Type 0) (chose : List (Option Bool) → ℕ → Type 0) (b b1 b2 b3 b4 b5 : Boxes) (variable before between after : ℕ) (low high tree : Tree) →
    AreBoxes program b → IsOpen program b.plain variable → (easy b.plain → ⊥) → chose b.shut variable → 2 ≤ before →
    b1 ≡ with_place b variable (Some false) → IsWhole program easy chose b1 b2 (before - 2) between low →
    b3 ≡ with_place b2 variable (Some true) → IsWhole program easy chose b3 b4 between after high →
    b5 ≡ with_place b4 variable None → tree ≡ Split variable low high → IsWhole program easy chose b b5 before after tree
whole-split program easy chose b b1 b2 b3 b4 b5 variable before between after low high tree are is_open hard answered room e1 l e3 h e5 is = record {
  grown = subst (IsGrownTree program easy chose b.plain before after) (sym is)
      (grown-split program easy chose b.plain variable before between after low high is_open hard (record { shut = b.shut; is_shut = are.shut; answered = answered }) room
      (subst (λ x. IsGrownTree program easy chose x.plain (before - 2) between low) e1 l.grown)
      (subst (λ x. IsGrownTree program easy chose x.plain between after high) half h.grown));
  same = e5 ∙ ap (λ x. with_place x variable None) (h.same ∙ half) ∙ unfix program b variable (Some true) are is_open;
}
  where
    half : b3 ≡ with_place b variable (Some true)
    half = second_half program easy chose b b1 b2 b3 variable (before - 2) between low e1 l e3

pub open-split : (variable : ℕ) (low high : Tree) (box : List (Option Bool)) →
    has_open_end (nodes_of (Split variable low high) box) ≡ (has_open_end (nodes_of low (fix box variable false)) || has_open_end (nodes_of high (fix box variable true)))
open-split variable low high box =
    ap has_open_end (nodes_of-Split variable low high box) ∙ open_append (nodes_of low (fix box variable false)) (nodes_of high (fix box variable true))

pub or-then : (r a b : Bool) → r ≡ a → r ≡ true → r ≡ (a || b)
or-then r true b e t = t
or-then r false b e t = absurd (true-false (sym t ∙ e))

pub or-else : (r s a b : Bool) → r ≡ a → r ≡ false → s ≡ b → s ≡ (a || b)
or-else r s true b e t h = absurd (true-false (sym e ∙ t))
or-else r s false b e t h = h

pub first_open : (tree low low' high : Tree) (variable : ℕ) (r : Bool) → tree ≡ Split variable low high → low' ≡ low → ((box : List (Option Bool)) → r ≡ has_open_end (nodes_of low' box)) → r ≡ true →
    (box : List (Option Bool)) → r ≡ has_open_end (nodes_of tree box)
first_open tree low low' high variable r is same e t box =
    or-then r (has_open_end (nodes_of low (fix box variable false))) (has_open_end (nodes_of high (fix box variable true))) (e (fix box variable false) ∙ ap (λ x. has_open_end (nodes_of x (fix box variable false))) same) t
    ∙ sym (open-split variable low high box) ∙ sym (ap (λ x. has_open_end (nodes_of x box)) is)

pub second_open : (tree low low' high high' : Tree) (variable : ℕ) (r s : Bool) → tree ≡ Split variable low high → low' ≡ low → high' ≡ high → ((box : List (Option Bool)) → r ≡ has_open_end (nodes_of low' box)) → r ≡ false →
    ((box : List (Option Bool)) → s ≡ has_open_end (nodes_of high' box)) → (box : List (Option Bool)) → s ≡ has_open_end (nodes_of tree box)
second_open tree low low' high high' variable r s is same same' e t e' box =
    or-else r s (has_open_end (nodes_of low (fix box variable false))) (has_open_end (nodes_of high (fix box variable true))) (e (fix box variable false) ∙ ap (λ x. has_open_end (nodes_of x (fix box variable false))) same) t (e' (fix box variable true) ∙ ap (λ x. has_open_end (nodes_of x (fix box variable true))) same')
    ∙ sym (open-split variable low high box) ∙ sym (ap (λ x. has_open_end (nodes_of x box)) is)
