-- The lines of trees are told apart.
use Rattle.std.proofs.Common.{◌≡◌, ℕ, ◌+◌, ◌^◌, ◌<◌, inl, inr, Bool, true, false, List, [], ◌∷◌, ◌++◌, map, length, length-append, refl, sym, ◌∙◌, ap, subst, append_assoc, append-nil, Option, arith}
use Rattle.std.proofs.lemmas.List.{map-append}
use Rattle.std.specs.List.{AllByRecursion, flat_map}
use Rattle.merlin_model.specs.declared.certificate.Tree.TheBlock.{hidden-the_row-Tree-0}
use denote.Hole.Carrier.{hidden}
use Rattle.merlin_model.specs.declared.certificate.Tree.{Tree, Leaf, Split, Split', Unclosed, end_of-Tree, more_of-Tree}
use Rattle.merlin_model.specs.Trees.{Node, Leaf_node, Split_node, Open_end, nodes_of, nodes_of-Split, fix}
use Rattle.merlin_model.proofs.Members.{all_left, all_right, all_both}
use Rattle.merlin_base.specs.Faults.{IsWholeLines}
use Rattle.merlin_base.specs.NodeTexts.{node_line, IsNodeLine, nodes_in, node_lines}
use Rattle.merlin_base.proofs.NodeLines.{node_front, IsSameLine, line_once}

flat_map-append : {X : Type 0} (f : X → List ℕ) (xs ys : List X) → flat_map f (xs ++ ys) ≡ flat_map f xs ++ flat_map f ys
flat_map-append f [] ys = refl
flat_map-append f (x ∷ xs) ys = ap (λ t. f x ++ t) (flat_map-append f xs ys) ∙ sym (append_assoc (f x) (flat_map f xs) (flat_map f ys))

pub nodes_in-Split : (v : ℕ) (low high : Tree) → nodes_in (Split v low high) ≡ Split_node v ∷ (nodes_in low ++ nodes_in high)
nodes_in-Split v low high = ap (map (λ node. node.1)) (nodes_of-Split v low high []) ∙ ap (λ ns. Split_node v ∷ ns) (map-append (λ node. node.1) (nodes_of low []) (nodes_of high []))

pub node_lines-Split : (v : ℕ) (low high : Tree) → node_lines (Split v low high) ≡ node_line (Split_node v) ++ (node_lines low ++ node_lines high)
node_lines-Split v low high = ap (flat_map node_line) (nodes_in-Split v low high) ∙ ap (λ t. node_line (Split_node v) ++ t) (flat_map-append node_line (nodes_in low) (nodes_in high))

pub split_is : (v : ℕ) (low high : Tree) (s t : _) → Split' v s (more_of-Tree low end_of-Tree) t (more_of-Tree high end_of-Tree) ≡ Split v low high
unfolding hidden-the_row-Tree-0 hidden
split_is v low high s t = refl

-- the first node, and the text behind its line
abbrev pub root : Tree → Node
root (Leaf ws) = Leaf_node ws
root (Split' v _ (more_of-Tree low end_of-Tree) _ (more_of-Tree high end_of-Tree)) = Split_node v
root Unclosed = Open_end

abbrev pub later : Tree → List ℕ
later (Leaf ws) = []
later (Split' v _ (more_of-Tree low end_of-Tree) _ (more_of-Tree high end_of-Tree)) = node_lines low ++ node_lines high
later Unclosed = []

pub lines_are : (tree : Tree) → node_lines tree ≡ node_line (root tree) ++ later tree
lines_are (Leaf ws) = refl
lines_are (Split' v s (more_of-Tree low end_of-Tree) t (more_of-Tree high end_of-Tree)) = ap node_lines (split_is v low high s t) ∙ node_lines-Split v low high
lines_are Unclosed = refl

abbrev pub AreLines : Tree → Type 0
AreLines tree = AllByRecursion IsNodeLine (nodes_in tree)

pub split_lines : (v : ℕ) (low high : Tree) → v < 10 ^ 19 → AreLines low → AreLines high → AreLines (Split v low high)
split_lines v low high is l h = subst (AllByRecursion IsNodeLine) (sym (nodes_in-Split v low high)) (is, all_both IsNodeLine (nodes_in low) (nodes_in high) l h)

pub record AreHalves (v : ℕ) (low high : Tree) : Type 0 where
  pub is_low : AreLines low
  pub is_high : AreLines high

pub halves : (v : ℕ) (low high : Tree) → AreLines (Split v low high) → AreHalves v low high
halves v low high all = record { is_low = all_left IsNodeLine (nodes_in low) (nodes_in high) parts.1; is_high = all_right IsNodeLine (nodes_in low) (nodes_in high) parts.1 }
  where
    parts : AllByRecursion IsNodeLine (Split_node v ∷ (nodes_in low ++ nodes_in high))
    parts = subst (AllByRecursion IsNodeLine) (nodes_in-Split v low high) all

pub root_line : (tree : Tree) → AreLines tree → IsNodeLine (root tree)
root_line (Leaf ws) all = all.0
root_line (Split' v s (more_of-Tree low end_of-Tree) t (more_of-Tree high end_of-Tree)) all = (subst (AllByRecursion IsNodeLine) (ap nodes_in (split_is v low high s t) ∙ nodes_in-Split v low high) all).0
root_line Unclosed all = tt

pub some_node : (tree : Tree) → 0 < length (nodes_in tree)
some_node (Leaf ws) = omega arith
some_node (Split' v s (more_of-Tree low end_of-Tree) t (more_of-Tree high end_of-Tree)) = subst (λ ns. 0 < length ns) (sym (ap nodes_in (split_is v low high s t) ∙ nodes_in-Split v low high)) (omega arith)
some_node Unclosed = omega arith

pub split_count : (v : ℕ) (low high : Tree) → length (nodes_in (Split v low high)) ≡ 1 + length (nodes_in low) + length (nodes_in high)
split_count v low high = ap length (nodes_in-Split v low high) ∙ (let n = length-append (nodes_in low) (nodes_in high) in omega arith)

-- A text is the lines of one tree.
pub record IsSameTree (a b : Tree) (x y : List ℕ) : Type 0 where
  pub tree : a ≡ b
  pub rest : x ≡ y

first_line : (a b : Tree) (x y : List ℕ) → AreLines a → AreLines b → node_lines a ++ x ≡ node_lines b ++ y → IsSameLine (root a) (root b) (later a ++ x) (later b ++ y)
first_line a b x y f g e = line_once (root a) (root b) (later a ++ x) (later b ++ y) (root_line a f) (root_line b g) (sym (regroup a x) ∙ e ∙ regroup b y)
  where
    regroup : (t : Tree) (z : List ℕ) → node_lines t ++ z ≡ node_line (root t) ++ (later t ++ z)
    regroup t z = ap (λ w. w ++ z) (lines_are t) ∙ append_assoc (node_line (root t)) (later t) z

pub tree_once : (a b : Tree) (x y : List ℕ) → AreLines a → AreLines b → node_lines a ++ x ≡ node_lines b ++ y → IsSameTree a b x y
tree_once (Leaf ws) (Leaf vs) x y f g e = let l = first_line (Leaf ws) (Leaf vs) x y f g e in record { tree = (let same : ws ≡ vs = (let n = l.node in cc) in ap Leaf same); rest = l.rest }
tree_once (Leaf ws) (Split' v s (more_of-Tree low end_of-Tree) t (more_of-Tree high end_of-Tree)) x y f g e =
    let l = first_line (Leaf ws) (Split' v s (more_of-Tree low end_of-Tree) t (more_of-Tree high end_of-Tree)) x y f g e in absurd (let no_way : Leaf_node ws ≡ Split_node v → ⊥ = λ h. cc in no_way l.node)
tree_once (Leaf ws) Unclosed x y f g e = let l = first_line (Leaf ws) Unclosed x y f g e in absurd (let no_way : Leaf_node ws ≡ Open_end → ⊥ = λ h. cc in no_way l.node)
tree_once Unclosed (Leaf vs) x y f g e = let l = first_line Unclosed (Leaf vs) x y f g e in absurd (let no_way : Open_end ≡ Leaf_node vs → ⊥ = λ h. cc in no_way l.node)
tree_once Unclosed (Split' v s (more_of-Tree low end_of-Tree) t (more_of-Tree high end_of-Tree)) x y f g e =
    let l = first_line Unclosed (Split' v s (more_of-Tree low end_of-Tree) t (more_of-Tree high end_of-Tree)) x y f g e in absurd (let no_way : Open_end ≡ Split_node v → ⊥ = λ h. cc in no_way l.node)
tree_once Unclosed Unclosed x y f g e = record { tree = refl; rest = (first_line Unclosed Unclosed x y f g e).rest }
tree_once (Split' v s (more_of-Tree low end_of-Tree) t (more_of-Tree high end_of-Tree)) (Leaf vs) x y f g e =
    let l = first_line (Split' v s (more_of-Tree low end_of-Tree) t (more_of-Tree high end_of-Tree)) (Leaf vs) x y f g e in absurd (let no_way : Split_node v ≡ Leaf_node vs → ⊥ = λ h. cc in no_way l.node)
tree_once (Split' v s (more_of-Tree low end_of-Tree) t (more_of-Tree high end_of-Tree)) Unclosed x y f g e =
    let l = first_line (Split' v s (more_of-Tree low end_of-Tree) t (more_of-Tree high end_of-Tree)) Unclosed x y f g e in absurd (let no_way : Split_node v ≡ Open_end → ⊥ = λ h. cc in no_way l.node)
tree_once (Split' v s (more_of-Tree low end_of-Tree) t (more_of-Tree high end_of-Tree)) (Split' u q (more_of-Tree low' end_of-Tree) r (more_of-Tree high' end_of-Tree)) x y f g e =
    let l = first_line (Split' v s (more_of-Tree low end_of-Tree) t (more_of-Tree high end_of-Tree)) (Split' u q (more_of-Tree low' end_of-Tree) r (more_of-Tree high' end_of-Tree)) x y f g e in
    let same : v ≡ u = (let n = l.node in cc) in
    let fs = halves v low high (subst AreLines (split_is v low high s t) f) in
    let gs = halves u low' high' (subst AreLines (split_is u low' high' q r) g) in
    let one = tree_once low low' (node_lines high ++ x) (node_lines high' ++ y) fs.is_low gs.is_low (sym (append_assoc (node_lines low) (node_lines high) x) ∙ l.rest ∙ append_assoc (node_lines low') (node_lines high') y) in
    let two = tree_once high high' x y fs.is_high gs.is_high one.rest in
    record { tree = split_is v low high s t ∙ (λ i. Split (same i) (one.tree i) (two.tree i)) ∙ sym (split_is u low' high' q r); rest = two.rest }

-- the lines of a tree are whole
pub lines_whole : (tree : Tree) → IsWholeLines (node_lines tree)
lines_whole tree = by (nodes_in tree)
  where
    one : (n : Node) → node_line n ≡ node_front n ++ 10 ∷ []
    one (Leaf_node ws) = refl
    one (Split_node v) = refl
    one Open_end = refl

    by : (ns : List Node) → IsWholeLines (flat_map node_line ns)
    by [] = inl refl
    by (n ∷ ns) = more (by ns)
      where
        more : IsWholeLines (flat_map node_line ns) → IsWholeLines (node_line n ++ flat_map node_line ns)
        more (inl none) = inr (node_front n, ap (λ t. node_line n ++ t) none ∙ append-nil (node_line n) ∙ one n)
        more (inr (front, e)) = inr (node_line n ++ front, ap (λ t. node_line n ++ t) e ∙ sym (append_assoc (node_line n) front (10 ∷ [])))

-- how many nodes there are doesn't hang on the box
pub counted : (tree : Tree) (box other : List (Option Bool)) → length (nodes_of tree box) ≡ length (nodes_of tree other)
counted (Leaf ws) box other = refl
counted (Split' v s (more_of-Tree low end_of-Tree) t (more_of-Tree high end_of-Tree)) box other =
    let a = counted low (fix box v false) (fix other v false) in
    let b = counted high (fix box v true) (fix other v true) in
    let m = length-append (nodes_of low (fix box v false)) (nodes_of high (fix box v true)) in
    let n = length-append (nodes_of low (fix other v false)) (nodes_of high (fix other v true)) in
    omega arith
counted Unclosed box other = refl
