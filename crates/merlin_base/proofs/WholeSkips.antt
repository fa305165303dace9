-- The nodes of a tree with the line `end`.
use Rattle.std.proofs.Common.{◌≡◌, ℕ, inl, Bool, List, [], ◌++◌, length, refl, sym, ◌∙◌, ap, append_assoc, append-nil, arith}
use Rattle.std.specs.Prelude.{codes}
use Rattle.merlin_model.specs.declared.certificate.Tree.{Tree}
use Rattle.merlin_base.specs.Faults.{GoesWrong}
use Rattle.merlin_base.specs.NodeTexts.{node_lines, end_line, nodes_text, IsTakenTree}
use Rattle.merlin_base.specs.Skipping.{BeginsTree}
use Rattle.merlin_base.proofs.Cutting.{Free}
use Rattle.merlin_base.proofs.NodeTexts.{tree_once, lines_whole}
use Rattle.merlin_base.proofs.WrongLines.{line_wrong, lift_wrong}

taken : (unclosed : Bool) (text rest : List ℕ) (over : ℕ) → (b : BeginsTree unclosed 4095 text rest over) → IsTakenTree unclosed 4096 b.tree
taken unclosed text rest over b = record { within = record { few = let c = b.count in omega arith; each = b.each }; stand = b.stand }

pub bad_tree : (unclosed : Bool) (text : List ℕ) (left : ℕ) → GoesWrong node_lines (IsTakenTree unclosed 4096) text left → GoesWrong nodes_text (IsTakenTree unclosed 4096) text left
bad_tree unclosed text left h =
    lift_wrong nodes_text (IsTakenTree unclosed 4096) node_lines (IsTakenTree unclosed 4096) [] text text left (inl refl) refl (λ w k. (w, k, end_line, refl)) down h
  where
    down : (t : Tree) (x u : List ℕ) → IsTakenTree unclosed 4096 t → nodes_text t ++ x ≡ [] ++ u → (w : Tree) × IsTakenTree unclosed 4096 w × (y : List ℕ) × (node_lines w ++ y ≡ u)
    down t x u k g = (t, k, end_line ++ x, sym (append_assoc (node_lines t) end_line x) ∙ g)

end_free : Free 10 (codes "end")
end_free = ((λ e. omega arith), ((λ e. omega arith), ((λ e. omega arith), tt)))

pub no_end_line : (unclosed : Bool) (text rest : List ℕ) (over : ℕ) → BeginsTree unclosed 4095 text rest over → ((more : List ℕ) → rest ≡ end_line ++ more → ⊥) → GoesWrong nodes_text (IsTakenTree unclosed 4096) text (length rest)
no_end_line unclosed text rest over b none =
    lift_wrong nodes_text (IsTakenTree unclosed 4096) (λ (w : Unit {0}). end_line) (λ w. Unit {0}) (node_lines b.tree) rest text (length rest) (lines_whole b.tree) b.whole up down
    (line_wrong (λ (w : Unit {0}). end_line) (λ w. Unit {0}) (λ w. codes "end") (λ w. []) rest tt tt (λ w. refl) (λ w k. end_free) (λ w more k h. none more h))
  where
    up : (w : Unit {0}) → Unit {0} → (t : Tree) × IsTakenTree unclosed 4096 t × (more : List ℕ) × (nodes_text t ≡ node_lines b.tree ++ (end_line ++ more))
    up w k = (b.tree, taken unclosed text rest over b, [], ap (λ z. node_lines b.tree ++ z) (sym (append-nil end_line)))

    down : (t : Tree) (x u : List ℕ) → IsTakenTree unclosed 4096 t → nodes_text t ++ x ≡ node_lines b.tree ++ u → (w : Unit {0}) × Unit {0} × (y : List ℕ) × (end_line ++ y ≡ u)
    down t x u k g = (tt, tt, x, (tree_once t b.tree (end_line ++ x) u k.within.each b.each (sym (append_assoc (node_lines t) end_line x) ∙ g)).rest)
