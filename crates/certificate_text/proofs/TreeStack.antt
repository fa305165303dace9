-- Trees on a stack, of which the last is written first.
use Rattle.std.proofs.Common.{◌≡◌, ℕ, ◌+◌, ◌<◌, List, [], ◌∷◌, ◌++◌, Option, Result, Ok, Err, IsOk, OnOk, map, length, refl, sym, ◌∙◌, ap, subst, append_assoc, append-nil, arith}
use Rattle.std.proofs.lemmas.List.{map-append}
use Rattle.merlin_model.specs.declared.certificate.Tree.TheBlock.{hidden-the_row-Tree-0}
use denote.Hole.Carrier.{hidden}
use Rattle.merlin_model.specs.declared.certificate.Tree.{Tree, Leaf, Split, Split', Unclosed, end_of-Tree, more_of-Tree}
use Rattle.merlin_model.specs.Trees.{Split_node}
use Rattle.merlin_base.specs.Outside.{Grows, GrowsByPrefix}
use Rattle.merlin_base.specs.NodeTexts.{node_line, nodes_in, node_lines}
use Rattle.merlin_base.proofs.NodeTexts.{lines_are, split_is, split_count, some_node}
use Rattle.merlin_base.proofs.Taking.{Grows-none, Grows-join, GrowsByPrefix-join}
use Rattle.certificate_text.specs.Preorder.{first_node, subtrees, lines_from_last}

pub last_first : (ts : List Tree) (t : Tree) → lines_from_last (ts ++ t ∷ []) ≡ node_lines t ++ lines_from_last ts
last_first [] t = sym (append-nil (node_lines t))
last_first (u ∷ us) t = ap (λ z. z ++ node_lines u) (last_first us t) ∙ append_assoc (node_lines t) (lines_from_last us) (node_lines u)

-- the last tree, by its first node and the trees behind it
pub node_first : (ts : List Tree) (t : Tree) → lines_from_last (ts ++ t ∷ []) ≡ node_line (first_node t) ++ lines_from_last (ts ++ subtrees t)
node_first ts (Leaf ws) = last_first ts (Leaf ws) ∙ ap (λ z. z ++ lines_from_last ts) (lines_are (Leaf ws)) ∙ append_assoc (node_line (first_node (Leaf ws))) [] (lines_from_last ts) ∙ ap (λ (us : List Tree). node_line (first_node (Leaf ws)) ++ lines_from_last us) (sym (append-nil ts))
node_first ts Unclosed = last_first ts Unclosed ∙ ap (λ z. z ++ lines_from_last ts) (lines_are Unclosed) ∙ append_assoc (node_line (first_node Unclosed)) [] (lines_from_last ts) ∙ ap (λ (us : List Tree). node_line (first_node Unclosed) ++ lines_from_last us) (sym (append-nil ts))
node_first ts (Split' v s (more_of-Tree zero end_of-Tree) u (more_of-Tree one end_of-Tree)) =
    let t = Split' v s (more_of-Tree zero end_of-Tree) u (more_of-Tree one end_of-Tree) in
    last_first ts t ∙ ap (λ z. z ++ lines_from_last ts) (lines_are t) ∙ append_assoc (node_line (first_node t)) (node_lines zero ++ node_lines one) (lines_from_last ts)
    ∙ ap (λ z. node_line (first_node t) ++ z) (append_assoc (node_lines zero) (node_lines one) (lines_from_last ts) ∙ sym both)
  where
    both : lines_from_last (ts ++ one ∷ zero ∷ []) ≡ node_lines zero ++ (node_lines one ++ lines_from_last ts)
    both = ap lines_from_last (sym (append_assoc ts (one ∷ []) (zero ∷ []))) ∙ last_first (ts ++ one ∷ []) zero ∙ ap (λ z. node_lines zero ++ z) (last_first ts one)

-- how many nodes are left
abbrev pub nodes_left : List Tree → ℕ
nodes_left [] = 0
nodes_left (t ∷ ts) = length (nodes_in t) + nodes_left ts

left_together : (ts us : List Tree) → nodes_left (ts ++ us) ≡ nodes_left ts + nodes_left us
left_together [] us = omega arith
left_together (t ∷ ts) us = let n = left_together ts us in omega arith

fewer_below : (t : Tree) → nodes_left (subtrees t) < length (nodes_in t)
fewer_below (Leaf ws) = some_node (Leaf ws)
fewer_below Unclosed = some_node Unclosed
fewer_below (Split' v s (more_of-Tree zero end_of-Tree) u (more_of-Tree one end_of-Tree)) =
    let n = split_count v zero one in
    let e = ap (λ t. length (nodes_in t)) (split_is v zero one s u) in
    omega arith

pub fewer_left : (ts : List Tree) (t : Tree) → nodes_left (ts ++ subtrees t) < nodes_left (ts ++ t ∷ [])
fewer_left ts t = let a = left_together ts (subtrees t) in let b = left_together ts (t ∷ []) in let c = fewer_below t in omega arith

-- What was taken since the beginning, and what is left of the whole.
pub record IsWriting (from now : Option (List ℕ)) (whole : List ℕ) (left : List Tree) : Type 0 where
  pub done : List ℕ
  pub taken : Grows from now done
  pub rest : whole ≡ done ++ lines_from_last left

pub none_taken : (from : Option (List ℕ)) (left : List Tree) → IsWriting from from (lines_from_last left) left
none_taken from left = record { done = []; taken = Grows-none from; rest = refl }

-- One more node, over whatever stands for the trees.
module _ {X : Type 0} (f : X → Tree) (from before now : Option (List ℕ)) (whole : List ℕ) (left old : List X) (t : X) (popped : left ≡ old ++ t ∷ []) where
  split_whole : (done : List ℕ) → whole ≡ done ++ lines_from_last (map f left) → whole ≡ done ++ (node_line (first_node (f t)) ++ lines_from_last (map f old ++ subtrees (f t)))
  split_whole done e = e ∙ ap (λ z. done ++ lines_from_last z) (ap (map f) popped ∙ map-append f old (t ∷ [])) ∙ ap (λ z. done ++ z) (node_first (map f old) (f t))

  pub node_taken : (new : List X) → IsWriting from before whole (map f left) → Grows before now (node_line (first_node (f t))) → map f new ≡ map f old ++ subtrees (f t) → IsWriting from now whole (map f new)
  node_taken new w one pushed =
      let line = node_line (first_node (f t)) in
      record {
        done = w.done ++ line;
        taken = Grows-join from before now w.done line w.taken one;
        rest = split_whole w.done w.rest ∙ sym (append_assoc w.done line (lines_from_last (map f old ++ subtrees (f t)))) ∙ ap (λ z. (w.done ++ line) ++ lines_from_last z) (sym pushed);
      }

  pub node_broken : IsWriting from before whole (map f left) → GrowsByPrefix before now (node_line (first_node (f t))) → GrowsByPrefix from now whole
  node_broken w part =
      subst (GrowsByPrefix from now) (sym (split_whole w.done w.rest))
      (GrowsByPrefix-join from before now w.done (node_line (first_node (f t))) (lines_from_last (map f old ++ subtrees (f t))) w.taken part)

pub fewer_now : {X : Type 0} (f : X → Tree) (left old new : List X) (t : X) → left ≡ old ++ t ∷ [] → map f new ≡ map f old ++ subtrees (f t) → nodes_left (map f new) < nodes_left (map f left)
fewer_now f left old new t popped pushed =
    let a = ap nodes_left pushed in
    let b = ap nodes_left (ap (map f) popped ∙ map-append f old (t ∷ [])) in
    let c = fewer_left (map f old) (f t) in
    omega arith

pub first_split : (v : ℕ) (zero one : Tree) → first_node (Split v zero one) ≡ Split_node v
unfolding hidden-the_row-Tree-0 hidden
first_split v zero one = refl

pub behind_split : (v : ℕ) (zero one : Tree) → subtrees (Split v zero one) ≡ one ∷ zero ∷ []
unfolding hidden-the_row-Tree-0 hidden
behind_split v zero one = refl

pub two_pushed : {X : Type 0} (f : X → Tree) (old mid new : List X) (a b : X) (v : ℕ) (tree zero one : Tree) → mid ≡ old ++ a ∷ [] → new ≡ mid ++ b ∷ [] → f a ≡ one → f b ≡ zero → tree ≡ Split v zero one → map f new ≡ map f old ++ subtrees tree
two_pushed f old mid new a b v tree zero one first second is_one is_zero is =
    ap (map f) (second ∙ ap (λ z. z ++ b ∷ []) first ∙ append_assoc old (a ∷ []) (b ∷ [])) ∙ map-append f old (a ∷ b ∷ [])
    ∙ ap (λ z. map f old ++ z) ((λ i. is_one i ∷ is_zero i ∷ []) ∙ sym (ap subtrees is ∙ behind_split v zero one))

pub from_ok : {T E P : Type 0} (r : Result T E) → IsOk r → OnOk r P → P
from_ok (Ok x) is h = h
from_ok (Err e) is h = cc

-- Of three parts, those before one were taken, and of it a prefix.
module _ (from now : Option (List ℕ)) (a b c : List ℕ) where
  pub in_first : GrowsByPrefix from now a → GrowsByPrefix from now (a ++ (b ++ c))
  in_first part = GrowsByPrefix-join from from now [] a (b ++ c) (Grows-none from) part

  pub in_second : (one : Option (List ℕ)) → Grows from one a → GrowsByPrefix one now b → GrowsByPrefix from now (a ++ (b ++ c))
  in_second one first part = GrowsByPrefix-join from one now a b c first part

  pub in_third : (one two : Option (List ℕ)) → Grows from one a → Grows one two b → GrowsByPrefix two now c → GrowsByPrefix from now (a ++ (b ++ c))
  in_third one two first second part =
      subst (GrowsByPrefix from now) (ap (λ z. (a ++ b) ++ z) (append-nil c) ∙ append_assoc a b c)
      (GrowsByPrefix-join from two now (a ++ b) c [] (Grows-join from one two a b first second) part)
