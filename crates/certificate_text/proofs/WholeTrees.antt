-- The text of a tree, from the first line to the last.
use Rattle.std.proofs.Common.{◌≡◌, ℕ, ◌+◌, ◌-◌, ◌≤◌, inr, Bool, Option, List, [], ◌∷◌, ◌++◌, length, refl, sym, ◌∙◌, ap, append_assoc, append-nil, arith}
use Rattle.std.proofs.lemmas.List.{append_cancel_left, length-map}
use Rattle.std.specs.Prelude.{codes}
use Rattle.merlin_model.specs.declared.certificate.Tree.{Tree, Unclosed}
use Rattle.merlin_model.specs.Trees.{nodes_of}
use Rattle.certificate_text.specs.declared.fault.LineFault.{LineFault}
use Rattle.certificate_text.specs.declared.fault.LineFault.TheVariants.{Wrong, Memory}
use Rattle.merlin_base.specs.Faults.{IsFirstWrongLine, GoesWrong}
use Rattle.merlin_base.specs.NodeTexts.{nodes_in, node_lines, IsWithin}
use Rattle.certificate_text.specs.TreeTexts.{tree_text, IsTreeText}
use Rattle.certificate_text.specs.Outcomes.{IsLineFault}
use Rattle.merlin_base.proofs.Cutting.{Free}
use Rattle.merlin_base.proofs.NodeTexts.{AreLines, tree_once, lines_whole, counted}
use Rattle.certificate_text.proofs.NodeReads.{one_end}
use Rattle.merlin_base.proofs.WrongLines.{line_wrong, lift_wrong, whole_wrong, whole_lines, past_end}

abbrev pub start : List ℕ
start = codes "tree" ++ 10 ∷ []

abbrev pub finish : List ℕ
finish = codes "end" ++ 10 ∷ []

abbrev pub IsWrongWhole : List ℕ → ℕ → Type 0
IsWrongWhole text left = (left ≤ length text) × IsFirstWrongLine tree_text IsTreeText text (length text - left)

start_free : Free 10 (codes "tree")
start_free = ((λ e. omega arith), ((λ e. omega arith), ((λ e. omega arith), ((λ e. omega arith), tt))))

finish_free : Free 10 (codes "end")
finish_free = ((λ e. omega arith), ((λ e. omega arith), ((λ e. omega arith), tt)))

pub no_start : (text : List ℕ) → ((rest : List ℕ) → text ≡ start ++ rest → ⊥) → IsWrongWhole text (length text)
no_start text none = whole_wrong tree_text IsTreeText text (length text)
    (line_wrong tree_text IsTreeText (λ t. codes "tree") (λ t. node_lines t ++ finish) text Unclosed (one_end 4095) (λ t. refl) (λ t is. start_free) (λ t rest is e. none rest e))

pub bad_nodes : (text nodes : List ℕ) (f : LineFault) → text ≡ start ++ nodes → IsLineFault (GoesWrong node_lines (IsWithin 4096) nodes) f → IsLineFault (IsWrongWhole text) f
bad_nodes text nodes Memory e h = tt
bad_nodes text nodes (Wrong left) e h = whole_wrong tree_text IsTreeText text left
    (lift_wrong tree_text IsTreeText node_lines (IsWithin 4096) start nodes text left (inr (codes "tree", refl)) e (λ w k. (w, k, finish, refl)) down h)
  where
    down : (t : Tree) (x u : List ℕ) → IsTreeText t → tree_text t ++ x ≡ start ++ u → (w : Tree) × IsWithin 4096 w × (y : List ℕ) × (node_lines w ++ y ≡ u)
    down t x u k g = (t, k, finish ++ x, sym (append_assoc (node_lines t) finish x) ∙ append_cancel_left start ((node_lines t ++ finish) ++ x) u g)

pub no_finish : (text nodes rest : List ℕ) (tree : Tree) → text ≡ start ++ nodes → nodes ≡ node_lines tree ++ rest → IsTreeText tree → ((more : List ℕ) → rest ≡ finish ++ more → ⊥) → IsWrongWhole text (length rest)
no_finish text nodes rest tree e f is none = whole_wrong tree_text IsTreeText text (length rest)
    (lift_wrong tree_text IsTreeText (λ (w : Unit {0}). finish) (λ w. Unit {0}) (start ++ node_lines tree) rest text (length rest)
    (whole_lines start (node_lines tree) (inr (codes "tree", refl)) (lines_whole tree)) (e ∙ ap (λ z. start ++ z) f ∙ sym (append_assoc start (node_lines tree) rest)) up down
    (line_wrong (λ (w : Unit {0}). finish) (λ w. Unit {0}) (λ w. codes "end") (λ w. []) rest tt tt (λ w. refl) (λ w k. finish_free) (λ w more k h. none more h)))
  where
    up : (w : Unit {0}) → Unit {0} → (t : Tree) × IsTreeText t × (more : List ℕ) × (tree_text t ≡ (start ++ node_lines tree) ++ (finish ++ more))
    up w k = (tree, is, [], ap (λ z. start ++ (node_lines tree ++ z)) (sym (append-nil finish)) ∙ sym (append_assoc start (node_lines tree) (finish ++ [])))

    down : (t : Tree) (x u : List ℕ) → IsTreeText t → tree_text t ++ x ≡ (start ++ node_lines tree) ++ u → (w : Unit {0}) × Unit {0} × (y : List ℕ) × (finish ++ y ≡ u)
    down t x u k g =
        let inner : node_lines t ++ (finish ++ x) ≡ node_lines tree ++ u =
        sym (append_assoc (node_lines t) finish x) ∙ append_cancel_left start ((node_lines t ++ finish) ++ x) (node_lines tree ++ u) (g ∙ append_assoc start (node_lines tree) u) in
        (tt, tt, x, (tree_once t tree (finish ++ x) u k.each is.each inner).rest)

pub tree_whole : (text nodes rest more : List ℕ) (tree : Tree) → text ≡ start ++ nodes → nodes ≡ node_lines tree ++ rest → rest ≡ finish ++ more → text ≡ tree_text tree ++ more
tree_whole text nodes rest more tree e f g = e ∙ ap (λ z. start ++ z) (f ∙ ap (λ z. node_lines tree ++ z) g ∙ sym (append_assoc (node_lines tree) finish more)) ∙ sym (append_assoc start (node_lines tree ++ finish) more)

-- one text stands for one tree
pub text_once : (a b : Tree) (x : List ℕ) → IsTreeText a → IsTreeText b → tree_text a ≡ tree_text b ++ x → (a ≡ b) × (x ≡ [])
text_once a b x f g e =
    let inner : node_lines a ++ finish ≡ node_lines b ++ (finish ++ x) = append_cancel_left start (node_lines a ++ finish) (node_lines b ++ (finish ++ x)) (e ∙ ap (λ z. start ++ z) (append_assoc (node_lines b) finish x)) in
    let same = tree_once a b finish (finish ++ x) f.each g.each inner in
    (same.tree, sym (append_cancel_left finish [] x (append-nil finish ∙ same.rest)))

pub extra : (text nodes rest more : List ℕ) (tree : Tree) → text ≡ start ++ nodes → nodes ≡ node_lines tree ++ rest → rest ≡ finish ++ more → IsTreeText tree → (more ≡ [] → ⊥) → IsWrongWhole text (length more)
extra text nodes rest more tree e f g is some =
    past_end tree_text IsTreeText text more tree (length more) is (tree_whole text nodes rest more tree e f g)
    (whole_lines start (node_lines tree ++ finish) (inr (codes "tree", refl)) (whole_lines (node_lines tree) finish (lines_whole tree) (inr (codes "end", refl)))) some refl
    (λ v x k h. (text_once v tree x k is h).1)

pub is_tree_text : (tree : Tree) (spare : ℕ) → spare + length (nodes_in tree) ≡ 4096 → AreLines tree → IsTreeText tree
is_tree_text tree spare e lines = record { few = omega arith; each = lines }

pub few_nodes : (tree : Tree) → IsTreeText tree → (box : List (Option Bool)) → length (nodes_of tree box) ≤ 4096
few_nodes tree is box =
    let c = counted tree box [] in let few = is.few in
    let n = length-map (nodes_of tree []) (λ node. node.1) in omega arith
