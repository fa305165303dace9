-- Reading the nodes of a tree, and where it goes wrong.
use Rattle.std.proofs.Common.{◌≡◌, ℕ, ◌+◌, ◌-◌, ◌^◌, ◌≤◌, ◌<◌, List, [], ◌++◌, length, Result, Ok, Err, IfErr, IsErrAnd, sym, ◌∙◌, ap, subst, append_assoc, append-nil, arith}
use Rattle.merlin_model.specs.declared.certificate.Tree.{Tree, Split, Unclosed}
use Rattle.merlin_model.specs.Trees.{Node, Split_node}
use Rattle.certificate_text.specs.declared.fault.LineFault.{LineFault}
use Rattle.certificate_text.specs.declared.fault.LineFault.TheVariants.{Wrong, Memory}
use Rattle.merlin_base.specs.Faults.{GoesWrong}
use Rattle.merlin_base.specs.NodeTexts.{node_line, IsNodeLine, nodes_in, node_lines, IsWithin}
use Rattle.certificate_text.specs.Outcomes.{IsLineFault}
use Rattle.merlin_base.proofs.NodeLines.{node_front, front_free, line_behind, line_once}
use Rattle.merlin_base.proofs.NodeTexts.{root, later, AreLines, root_line, split_lines, halves, some_node, split_count, node_lines-Split, tree_once, lines_whole}
use Rattle.merlin_base.proofs.TreeSkips.{first_line, three, split_down, line_whole}
use Rattle.merlin_base.proofs.WrongLines.{line_wrong, lift_wrong, whole_lines}

-- the error of a `?`
pub err_to : {X : Type 0} (P : LineFault → Type 0) (r : Result X LineFault) (f : LineFault) → IsErrAnd r (λ e. e ≡ f) → P f → IfErr r P
err_to P (Ok x) f h p = tt
err_to P (Err e) f h p = subst P (sym h) p

pub one_end : (spare : ℕ) → IsWithin (spare + 1) Unclosed
one_end spare = record { few = omega arith; each = (tt, tt) }

pub line_fault : (spare : ℕ) (text : List ℕ) (f : LineFault) → IsLineFault (λ left. (left ≡ length text) × ((node : Node) (rest : List ℕ) → IsNodeLine node → text ≡ node_line node ++ rest → ⊥)) f → IsLineFault (GoesWrong node_lines (IsWithin (spare + 1)) text) f
line_fault spare text (Wrong left) h = subst (GoesWrong node_lines (IsWithin (spare + 1)) text) (sym h.0)
    (line_wrong node_lines (IsWithin (spare + 1)) (λ t. node_front (root t)) later text Unclosed (one_end spare) first_line (λ t is. front_free (root t) (root_line t is.each))
    (λ t rest is e. h.1 (root t) rest (root_line t is.each) (e ∙ sym (line_behind (root t) rest))))
line_fault spare text Memory h = tt

pub too_many : (spare v : ℕ) (text rest : List ℕ) → spare < 2 → v < 10 ^ 19 → text ≡ node_line (Split_node v) ++ rest → GoesWrong node_lines (IsWithin (spare + 1)) text (length text)
too_many spare v text rest few is e =
    line_wrong node_lines (IsWithin (spare + 1)) (λ t. node_front (root t)) later text Unclosed (one_end spare) first_line (λ t w. front_free (root t) (root_line t w.each))
    (λ t r w h.
    let same = line_once (root t) (Split_node v) r rest (root_line t w.each) is (line_behind (root t) r ∙ sym h ∙ e) in
    let n = three t v same.node in let m = w.few in omega arith)

pub low_wrong : (spare v : ℕ) (text rest : List ℕ) (f : LineFault) → 2 ≤ spare → v < 10 ^ 19 → text ≡ node_line (Split_node v) ++ rest → IsLineFault (GoesWrong node_lines (IsWithin (spare - 2 + 1)) rest) f →
    IsLineFault (GoesWrong node_lines (IsWithin (spare + 1)) text) f
low_wrong spare v text rest Memory room is e h = tt
low_wrong spare v text rest (Wrong left) room is e h =
    lift_wrong node_lines (IsWithin (spare + 1)) node_lines (IsWithin (spare - 2 + 1)) (node_line (Split_node v)) rest text left (line_whole (Split_node v)) e up down h
  where
    up : (w : Tree) → IsWithin (spare - 2 + 1) w → (t : Tree) × IsWithin (spare + 1) t × (more : List ℕ) × (node_lines t ≡ node_line (Split_node v) ++ (node_lines w ++ more))
    up w k = (
      Split v w Unclosed,
      record { few = let n = split_count v w Unclosed in let m = k.few in omega arith; each = split_lines v w Unclosed is k.each (tt, tt) },
      node_lines Unclosed,
      node_lines-Split v w Unclosed,
    )

    down : (t : Tree) (x u : List ℕ) → IsWithin (spare + 1) t → node_lines t ++ x ≡ node_line (Split_node v) ++ u → (w : Tree) × IsWithin (spare - 2 + 1) w × (y : List ℕ) × (node_lines w ++ y ≡ u)
    down t x u k g =
        let s = split_down t v x u k.each is g in
        let hs = halves v s.low s.high (subst AreLines s.is k.each) in
        (s.low, record { few = (let n = split_count v s.low s.high in let m = k.few in let c = ap (λ z. length (nodes_in z)) s.is in let b = some_node s.high in omega arith); each = hs.is_low }, node_lines s.high ++ x, s.rest)

pub high_wrong : (spare left_over v : ℕ) (zero' : Tree) (text rest behind : List ℕ) (f : LineFault) → 2 ≤ spare → v < 10 ^ 19 → text ≡ node_line (Split_node v) ++ rest → rest ≡ node_lines zero' ++ behind → left_over + length (nodes_in zero') ≡ spare - 2 + 1 → AreLines zero' →
    IsLineFault (GoesWrong node_lines (IsWithin (left_over + 1)) behind) f → IsLineFault (GoesWrong node_lines (IsWithin (spare + 1)) text) f
high_wrong spare left_over v zero' text rest behind Memory room is e g count lines h = tt
high_wrong spare left_over v zero' text rest behind (Wrong left) room is e g count lines h =
    lift_wrong node_lines (IsWithin (spare + 1)) node_lines (IsWithin (left_over + 1)) (node_line (Split_node v) ++ node_lines zero') behind text left
    (whole_lines (node_line (Split_node v)) (node_lines zero') (line_whole (Split_node v)) (lines_whole zero')) (e ∙ ap (λ z. node_line (Split_node v) ++ z) g ∙ sym (append_assoc (node_line (Split_node v)) (node_lines zero') behind)) up down h
  where
    up : (w : Tree) → IsWithin (left_over + 1) w → (t : Tree) × IsWithin (spare + 1) t × (more : List ℕ) × (node_lines t ≡ (node_line (Split_node v) ++ node_lines zero') ++ (node_lines w ++ more))
    up w k = (
      Split v zero' w,
      record { few = let n = split_count v zero' w in let m = k.few in omega arith; each = split_lines v zero' w is lines k.each },
      [],
      node_lines-Split v zero' w ∙ sym (append_assoc (node_line (Split_node v)) (node_lines zero') (node_lines w)) ∙ ap (λ z. (node_line (Split_node v) ++ node_lines zero') ++ z) (sym (append-nil (node_lines w))),
    )

    down : (t : Tree) (x u : List ℕ) → IsWithin (spare + 1) t → node_lines t ++ x ≡ (node_line (Split_node v) ++ node_lines zero') ++ u → (w : Tree) × IsWithin (left_over + 1) w × (y : List ℕ) × (node_lines w ++ y ≡ u)
    down t x u k p =
        let s = split_down t v x (node_lines zero' ++ u) k.each is (p ∙ append_assoc (node_line (Split_node v)) (node_lines zero') u) in
        let hs = halves v s.low s.high (subst AreLines s.is k.each) in
        let same = tree_once s.low zero' (node_lines s.high ++ x) u hs.is_low lines s.rest in
        (s.high, record { few = (let n = split_count v s.low s.high in let m = k.few in let c = ap (λ z. length (nodes_in z)) s.is in let b = ap (λ z. length (nodes_in z)) same.tree in omega arith); each = hs.is_high }, x, same.rest)

-- the whole split
pub split_text : (v : ℕ) (low high tree : Tree) (text rest behind more : List ℕ) → text ≡ node_line (Split_node v) ++ rest → rest ≡ node_lines low ++ behind → behind ≡ node_lines high ++ more → tree ≡ Split v low high → text ≡ node_lines tree ++ more
split_text v low high tree text rest behind more e f g h =
    e ∙ ap (λ z. node_line (Split_node v) ++ z) (f ∙ ap (λ z. node_lines low ++ z) g ∙ sym (append_assoc (node_lines low) (node_lines high) more)) ∙ sym (append_assoc (node_line (Split_node v)) (node_lines low ++ node_lines high) more)
    ∙ ap (λ z. z ++ more) (sym (ap node_lines h ∙ node_lines-Split v low high))
