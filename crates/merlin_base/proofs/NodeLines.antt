-- The lines of nodes are told apart.
use Rattle.std.proofs.Common.{◌≡◌, ℕ, ◌^◌, ◌<◌, ℤ, List, [], ◌∷◌, ◌++◌, map, refl, sym, ◌∙◌, ap, subst, append_assoc, arith}
use Rattle.std.proofs.lemmas.List.{append_cancel_left}
use Rattle.std.specs.List.{AllByRecursion}
use Rattle.std.specs.Prelude.{codes}
use Rattle.std.specs.Fmt.{decimal}
use Rattle.merlin_model.specs.declared.certificate.Weight.{Weight}
use Rattle.merlin_model.specs.Trees.{Node, Leaf_node, Split_node, Open_end}
use Rattle.merlin_base.specs.Pairs.{pairs_text, ArePairs}
use Rattle.merlin_base.specs.NodeTexts.{pair_of, node_line, IsNodeLine}
use Rattle.merlin_base.proofs.Cutting.{Free, free, free_middle, AreSame, cut_once}
use Rattle.merlin_base.specs.Lexemes.{Lacks}
use Rattle.merlin_base.proofs.Decimals.{decimal_free, decimal_same}
use Rattle.merlin_base.proofs.PairTexts.{IsSmallPair, small_pairs, pairs_free, pairs_once}

-- a line without its newline
abbrev pub node_front : Node → List ℕ
node_front (Split_node variable) = codes "split " ++ decimal variable
node_front (Leaf_node weights) = codes "leaf" ++ pairs_text (map pair_of weights)
node_front Open_end = codes "open"

pub line_is : (node : Node) → node_line node ≡ node_front node ++ 10 ∷ []
line_is (Split_node variable) = refl
line_is (Leaf_node weights) = refl
line_is Open_end = refl

weights_small : (weights : List Weight) → ArePairs (10 ^ 19) (2 ^ 60) (map pair_of weights) → AllByRecursion IsSmallPair (map pair_of weights)
weights_small weights are = small_pairs (10 ^ 19) (2 ^ 60) (map pair_of weights) (omega arith) (omega arith) are

pub front_free : (node : Node) → IsNodeLine node → Free 10 (node_front node)
front_free (Split_node variable) is = ((λ e. omega arith), ((λ e. omega arith), ((λ e. omega arith), ((λ e. omega arith), ((λ e. omega arith), ((λ e. omega arith), decimal_free 10 variable is (omega arith)))))))
front_free (Leaf_node weights) is = ((λ e. omega arith), ((λ e. omega arith), ((λ e. omega arith), ((λ e. omega arith), pairs_free 10 (map pair_of weights) (omega arith) (weights_small weights is)))))
front_free Open_end is = ((λ e. omega arith), ((λ e. omega arith), ((λ e. omega arith), ((λ e. omega arith), tt))))

same_weights : (ws vs : List Weight) → map pair_of ws ≡ map pair_of vs → ws ≡ vs
same_weights [] [] e = refl
same_weights [] (v ∷ vs) e = absurd (let no_way : [] ≡ (v.row, v.weight) ∷ map pair_of vs → ⊥ = λ h. cc in no_way e)
same_weights (w ∷ ws) [] e = absurd (let no_way : (w.row, w.weight) ∷ map pair_of ws ≡ [] → ⊥ = λ h. cc in no_way e)
same_weights (w ∷ ws) (v ∷ vs) e =
    let pair : ◌≡◌ {A = ℕ × ℤ} (w.row, w.weight) (v.row, v.weight) = cc in
    let row = ap (λ (p : ℕ × ℤ). p.0) pair in
    let weight = ap (λ (p : ℕ × ℤ). p.1) pair in
    let first : w ≡ v = λ i. record { row = row i; weight = weight i } in
    let rest : map pair_of ws ≡ map pair_of vs = cc in
    let later = same_weights ws vs rest in cc

heads : (a b : ℕ) (x y : List ℕ) → a ∷ x ≡ b ∷ y → a ≡ b
heads a b x y e = cc

pub front_once : (m n : Node) → IsNodeLine m → IsNodeLine n → node_front m ≡ node_front n → m ≡ n
front_once (Split_node u) (Split_node v) f g e = ap Split_node (decimal_same u v f g (append_cancel_left (codes "split ") (decimal u) (decimal v) e))
front_once (Leaf_node ws) (Leaf_node vs) f g e =
    ap Leaf_node (same_weights ws vs (pairs_once (map pair_of ws) (map pair_of vs) (weights_small ws f) (weights_small vs g) (append_cancel_left (codes "leaf") _ _ e)))
front_once Open_end Open_end f g e = refl
front_once (Split_node u) (Leaf_node vs) f g e = absurd (let h = heads 115 108 _ _ e in omega arith)
front_once (Split_node u) Open_end f g e = absurd (let h = heads 115 111 _ _ e in omega arith)
front_once (Leaf_node ws) (Split_node v) f g e = absurd (let h = heads 108 115 _ _ e in omega arith)
front_once (Leaf_node ws) Open_end f g e = absurd (let h = heads 108 111 _ _ e in omega arith)
front_once Open_end (Split_node v) f g e = absurd (let h = heads 111 115 _ _ e in omega arith)
front_once Open_end (Leaf_node vs) f g e = absurd (let h = heads 111 108 _ _ e in omega arith)

pub record IsSameLine (m n : Node) (x y : List ℕ) : Type 0 where
  pub node : m ≡ n
  pub rest : x ≡ y

behind : (n : Node) (x : List ℕ) → node_line n ++ x ≡ node_front n ++ 10 ∷ x
behind n x = ap (λ t. t ++ x) (line_is n) ∙ append_assoc (node_front n) (10 ∷ []) x

pub line_once : (m n : Node) (x y : List ℕ) → IsNodeLine m → IsNodeLine n → node_line m ++ x ≡ node_line n ++ y → IsSameLine m n x y
line_once m n x y f g e = record { node = front_once m n f g same.front; rest = same.rest }
  where
    same : AreSame (node_front m) (node_front n) x y
    same = cut_once 10 (node_front m) (node_front n) x y (front_free m f) (front_free n g) (sym (behind m x) ∙ e ∙ behind n y)

pub line_behind : (n : Node) (x : List ℕ) → node_line n ++ x ≡ node_front n ++ 10 ∷ x
line_behind n x = behind n x

-- What is the line of no node.

pub no_node : (text : List ℕ) → ((rest : List ℕ) → text ≡ codes "split " ++ rest → ⊥) → ((rest : List ℕ) → text ≡ codes "leaf" ++ rest → ⊥) → ((rest : List ℕ) → text ≡ (codes "open" ++ 10 ∷ []) ++ rest → ⊥) →
    (node : Node) (rest : List ℕ) → IsNodeLine node → text ≡ node_line node ++ rest → ⊥
no_node text split leaf open_end (Split_node v) rest is e = split ((decimal v ++ 10 ∷ []) ++ rest) e
no_node text split leaf open_end (Leaf_node ws) rest is e = leaf ((pairs_text (map pair_of ws) ++ 10 ∷ []) ++ rest) e
no_node text split leaf open_end Open_end rest is e = open_end rest e

pub bad_split : (text digits : List ℕ) → text ≡ codes "split " ++ digits → ((n : ℕ) (rest : List ℕ) → n < 10 ^ 19 → digits ≡ decimal n ++ 10 ∷ rest → ⊥) → (node : Node) (rest : List ℕ) → IsNodeLine node → text ≡ node_line node ++ rest → ⊥
bad_split text digits f none (Split_node v) rest is e = none v rest is (append_cancel_left (codes "split ") digits ((decimal v ++ 10 ∷ []) ++ rest) (sym f ∙ e) ∙ append_assoc (decimal v) (10 ∷ []) rest)
bad_split text digits f none (Leaf_node ws) rest is e = let h = heads 115 108 _ _ (sym f ∙ e) in omega arith
bad_split text digits f none Open_end rest is e = let h = heads 115 111 _ _ (sym f ∙ e) in omega arith

pub bad_leaf : (text pairs : List ℕ) → text ≡ codes "leaf" ++ pairs → ((weights : List Weight) (rest : List ℕ) → ArePairs (10 ^ 19) (2 ^ 60) (map pair_of weights) → pairs ≡ pairs_text (map pair_of weights) ++ 10 ∷ rest → ⊥) →
    (node : Node) (rest : List ℕ) → IsNodeLine node → text ≡ node_line node ++ rest → ⊥
bad_leaf text pairs f none (Leaf_node ws) rest is e = none ws rest is (append_cancel_left (codes "leaf") pairs ((pairs_text (map pair_of ws) ++ 10 ∷ []) ++ rest) (sym f ∙ e) ∙ append_assoc (pairs_text (map pair_of ws)) (10 ∷ []) rest)
bad_leaf text pairs f none (Split_node v) rest is e = let h = heads 108 115 _ _ (sym f ∙ e) in omega arith
bad_leaf text pairs f none Open_end rest is e = let h = heads 108 111 _ _ (sym f ∙ e) in omega arith

-- the text of a line that was read
pub split_text : (text digits rest : List ℕ) (v : ℕ) → text ≡ codes "split " ++ digits → digits ≡ decimal v ++ 10 ∷ rest → text ≡ node_line (Split_node v) ++ rest
split_text text digits rest v e f = e ∙ ap (λ t. codes "split " ++ t) (f ∙ sym (append_assoc (decimal v) (10 ∷ []) rest))

pub leaf_text : (text pairs rest : List ℕ) (weights : List Weight) → text ≡ codes "leaf" ++ pairs → pairs ≡ pairs_text (map pair_of weights) ++ 10 ∷ rest → text ≡ node_line (Leaf_node weights) ++ rest
leaf_text text pairs rest weights e f = e ∙ ap (λ t. codes "leaf" ++ t) (f ∙ sym (append_assoc (pairs_text (map pair_of weights)) (10 ∷ []) rest))

-- Lines of numbers and of pairs.

pub no_number : (text line rest : List ℕ) → text ≡ line ++ 10 ∷ rest → Lacks 10 line → ((n : ℕ) → n < 10 ^ 19 → line ≡ decimal n → ⊥) → (n : ℕ) (more : List ℕ) → n < 10 ^ 19 → text ≡ decimal n ++ 10 ∷ more → ⊥
no_number text line rest e l none n more small f = none n small (cut_once 10 line (decimal n) rest more (free 10 line l) (decimal_free 10 n small (omega arith)) (sym e ∙ f)).front

pub no_weights : (text line rest : List ℕ) → text ≡ line ++ 10 ∷ rest → Lacks 10 line → ((pairs : List (ℕ × ℤ)) → ArePairs (10 ^ 19) (2 ^ 60) pairs → line ≡ pairs_text pairs → ⊥) →
    (weights : List Weight) (more : List ℕ) → ArePairs (10 ^ 19) (2 ^ 60) (map pair_of weights) → text ≡ pairs_text (map pair_of weights) ++ 10 ∷ more → ⊥
no_weights text line rest e l none weights more are f =
    none (map pair_of weights) are (cut_once 10 line (pairs_text (map pair_of weights)) rest more (free 10 line l) (pairs_free 10 (map pair_of weights) (omega arith) (weights_small weights are)) (sym e ∙ f)).front

pub no_end : (text front rest : List ℕ) → Lacks 10 text → text ≡ front ++ 10 ∷ rest → ⊥
no_end text front rest l e = free_middle 10 front rest (subst (Free 10) e (free 10 text l))
