-- Trees that are passed over, and where a text goes wrong.
use Rattle.std.proofs.Common.{◌≡◌, ℕ, ◌+◌, ◌-◌, ◌^◌, ◌≤◌, ◌<◌, inr, Bool, true, false, List, [], ◌∷◌, ◌++◌, length, refl, sym, ◌∙◌, ap, subst, append_assoc, append-nil, arith}
use Rattle.std.specs.List.{AllByRecursion}
use Rattle.merlin_model.specs.declared.certificate.Tree.{Tree, Leaf, Split, Split', Unclosed, end_of-Tree, more_of-Tree}
use Rattle.merlin_model.specs.Trees.{Node, Leaf_node, Split_node, Open_end}
use Rattle.merlin_base.specs.Faults.{IsWholeLines, GoesWrong}
use Rattle.merlin_base.specs.NodeTexts.{node_line, IsNodeLine, nodes_in, node_lines, MayStand, IsTakenTree}
use Rattle.merlin_base.specs.Skipping.{is_split, BeginsNodeLine, BeginsTree}
use Rattle.merlin_base.proofs.NodeLines.{node_front, front_free, line_behind, line_once, line_is}
use Rattle.merlin_model.proofs.Members.{all_left, all_right, all_both}
use Rattle.merlin_base.proofs.NodeTexts.{nodes_in-Split, root, later, lines_are, AreLines, root_line, split_lines, halves, some_node, split_count, node_lines-Split, tree_once, lines_whole, split_is}
use Rattle.merlin_base.proofs.WrongLines.{line_wrong, lift_wrong, whole_lines}

abbrev pub AreTaken : Bool → Tree → Type 0
AreTaken unclosed tree = AllByRecursion (MayStand unclosed) (nodes_in tree)

split_stands : (unclosed : Bool) (v : ℕ) → MayStand unclosed (Split_node v)
split_stands unclosed v = λ _ h. (let no_way : Split_node v ≡ Open_end → ⊥ = λ k. cc in no_way h)

leaf_stands : (unclosed : Bool) → MayStand unclosed (Leaf_node [])
leaf_stands unclosed = λ _ h. (let no_way : Leaf_node [] ≡ Open_end → ⊥ = λ k. cc in no_way h)

taken_split : (unclosed : Bool) (v : ℕ) (low high : Tree) → AreTaken unclosed low → AreTaken unclosed high → AreTaken unclosed (Split v low high)
taken_split unclosed v low high a b =
    subst (AllByRecursion (MayStand unclosed)) (sym (nodes_in-Split v low high)) (split_stands unclosed v, all_both (MayStand unclosed) (nodes_in low) (nodes_in high) a b)

record TakenHalves (unclosed : Bool) (low high : Tree) : Type 0 where
  is_low : AreTaken unclosed low
  is_high : AreTaken unclosed high

taken_halves : (unclosed : Bool) (v : ℕ) (low high : Tree) → AreTaken unclosed (Split v low high) → TakenHalves unclosed low high
taken_halves unclosed v low high all = record {
  is_low = all_left (MayStand unclosed) (nodes_in low) (nodes_in high) parts.1;
  is_high = all_right (MayStand unclosed) (nodes_in low) (nodes_in high) parts.1;
}
  where
    parts : AllByRecursion (MayStand unclosed) (Split_node v ∷ (nodes_in low ++ nodes_in high))
    parts = subst (AllByRecursion (MayStand unclosed)) (nodes_in-Split v low high) all

root_stands : (unclosed : Bool) (tree : Tree) → AreTaken unclosed tree → MayStand unclosed (root tree)
root_stands unclosed (Leaf ws) all = all.0
root_stands unclosed (Split' v s (more_of-Tree low end_of-Tree) t (more_of-Tree high end_of-Tree)) all =
    (subst (AllByRecursion (MayStand unclosed)) (ap nodes_in (split_is v low high s t) ∙ nodes_in-Split v low high) all).0
root_stands unclosed Unclosed all = all.0

-- One node.

pub one_leaf : (unclosed : Bool) (spare : ℕ) → IsTakenTree unclosed (spare + 1) (Leaf [])
one_leaf unclosed spare = record {
  within = record { few = omega arith; each = (record { ascend = λ k h. absurd (omega arith); below = tt; small = tt; nonzero = tt }, tt) };
  stand = (leaf_stands unclosed, tt);
}

pub first_line : (t : Tree) → node_lines t ≡ node_front (root t) ++ 10 ∷ later t
first_line t = lines_are t ∙ line_behind (root t) (later t)

pub no_first : (unclosed : Bool) (spare : ℕ) (text : List ℕ) → ((split : Bool) (rest : List ℕ) → ¬ BeginsNodeLine unclosed text split rest) → GoesWrong node_lines (IsTakenTree unclosed (spare + 1)) text (length text)
no_first unclosed spare text none =
    line_wrong node_lines (IsTakenTree unclosed (spare + 1)) (λ t. node_front (root t)) later text (Leaf []) (one_leaf unclosed spare) first_line (λ t is. front_free (root t) (root_line t is.within.each))
    (λ t rest is e. none (is_split (root t)) rest (record {
      node = root t;
      whole = e ∙ sym (line_behind (root t) rest);
      line = root_line t is.within.each;
      stands = root_stands unclosed t is.stand;
      split_is = refl;
    }))

pub single : (unclosed : Bool) (spare : ℕ) (text rest : List ℕ) (split : Bool) → split ≡ false → BeginsNodeLine unclosed text split rest → BeginsTree unclosed spare text rest spare
single unclosed spare text rest split ends is = by is.node is.whole is.line is.stands (sym is.split_is ∙ ends)
  where
    by : (node : Node) → text ≡ node_line node ++ rest → IsNodeLine node → MayStand unclosed node → is_split node ≡ false → BeginsTree unclosed spare text rest spare
    by (Leaf_node ws) e line stands leaf = record {
      tree = Leaf ws;
      whole = e ∙ ap (λ t. t ++ rest) (sym (append-nil (node_line (Leaf_node ws))));
      count = refl;
      each = (line, tt);
      stand = (stands, tt);
    }
    by (Split_node v) e line stands leaf = absurd (let no_way : true ≡ false → ⊥ = λ h. cc in no_way leaf)
    by Open_end e line stands leaf = record { tree = Unclosed; whole = e ∙ ap (λ t. t ++ rest) (sym (append-nil (node_line Open_end))); count = refl; each = (line, tt); stand = (stands, tt) }

-- A split.

pub record IsSplitLine (text rest : List ℕ) : Type 0 where
  pub variable : ℕ
  pub short : variable < 10 ^ 19
  pub whole : text ≡ node_line (Split_node variable) ++ rest

pub split_line_of : (unclosed : Bool) (text rest : List ℕ) (split : Bool) → split ≡ true → BeginsNodeLine unclosed text split rest → IsSplitLine text rest
split_line_of unclosed text rest split splits is = by is.node is.whole is.line (sym is.split_is ∙ splits)
  where
    by : (node : Node) → text ≡ node_line node ++ rest → IsNodeLine node → is_split node ≡ true → IsSplitLine text rest
    by (Split_node v) e line h = record { variable = v; short = line; whole = e }
    by (Leaf_node ws) e line h = absurd (let no_way : false ≡ true → ⊥ = λ k. cc in no_way h)
    by Open_end e line h = absurd (let no_way : false ≡ true → ⊥ = λ k. cc in no_way h)

pub three : (t : Tree) (v : ℕ) → root t ≡ Split_node v → 3 ≤ length (nodes_in t)
three (Leaf ws) v e = absurd (let no_way : Leaf_node ws ≡ Split_node v → ⊥ = λ h. cc in no_way e)
three (Split' u s (more_of-Tree low end_of-Tree) t (more_of-Tree high end_of-Tree)) v e =
    subst (λ w. 3 ≤ length (nodes_in w)) (sym (split_is u low high s t)) (let n = split_count u low high in let a = some_node low in let b = some_node high in omega arith)
three Unclosed v e = absurd (let no_way : Open_end ≡ Split_node v → ⊥ = λ h. cc in no_way e)

pub too_many : (unclosed : Bool) (spare : ℕ) (text rest : List ℕ) → spare < 2 → IsSplitLine text rest → GoesWrong node_lines (IsTakenTree unclosed (spare + 1)) text (length text)
too_many unclosed spare text rest few split =
    line_wrong node_lines (IsTakenTree unclosed (spare + 1)) (λ t. node_front (root t)) later text (Leaf []) (one_leaf unclosed spare) first_line (λ t w. front_free (root t) (root_line t w.within.each))
    (λ t r w h.
    let same = line_once (root t) (Split_node split.variable) r rest (root_line t w.within.each) split.short (line_behind (root t) r ∙ sym h ∙ split.whole) in
    let n = three t split.variable same.node in let m = w.within.few in omega arith)

-- A tree whose text begins with a split's line is a split.
pub record IsSplitTree (t : Tree) (v : ℕ) (x u : List ℕ) : Type 0 where
  pub low : Tree
  pub high : Tree
  pub is : t ≡ Split v low high
  pub rest : node_lines low ++ (node_lines high ++ x) ≡ u

pub split_down : (t : Tree) (v : ℕ) (x u : List ℕ) → AreLines t → v < 10 ^ 19 → node_lines t ++ x ≡ node_line (Split_node v) ++ u → IsSplitTree t v x u
split_down (Leaf ws) v x u all is e =
    let l = line_once (Leaf_node ws) (Split_node v) x u all.0 is (sym (append_assoc (node_line (Leaf_node ws)) [] x) ∙ e) in absurd (let no_way : Leaf_node ws ≡ Split_node v → ⊥ = λ h. cc in no_way l.node)
split_down Unclosed v x u all is e =
    let l = line_once Open_end (Split_node v) x u tt is (sym (append_assoc (node_line Open_end) [] x) ∙ e) in absurd (let no_way : Open_end ≡ Split_node v → ⊥ = λ h. cc in no_way l.node)
split_down (Split' w s (more_of-Tree low end_of-Tree) r (more_of-Tree high end_of-Tree)) v x u all is e =
    let l = line_once (Split_node w) (Split_node v) ((node_lines low ++ node_lines high) ++ x) u (root_line (Split' w s (more_of-Tree low end_of-Tree) r (more_of-Tree high end_of-Tree)) all) is
    (sym (append_assoc (node_line (Split_node w)) (node_lines low ++ node_lines high) x) ∙ ap (λ z. z ++ x) (sym (lines_are (Split' w s (more_of-Tree low end_of-Tree) r (more_of-Tree high end_of-Tree)))) ∙ e) in
    let same : w ≡ v = (let n = l.node in cc) in
    record { low = low; high = high; is = split_is w low high s r ∙ ap (λ k. Split k low high) same; rest = sym (append_assoc (node_lines low) (node_lines high) x) ∙ l.rest }

pub line_whole : (n : Node) → IsWholeLines (node_line n)
line_whole n = inr (node_front n, line_is n)

pub low_wrong : (unclosed : Bool) (spare : ℕ) (text rest : List ℕ) (left : ℕ) → 2 ≤ spare → IsSplitLine text rest → GoesWrong node_lines (IsTakenTree unclosed (spare - 2 + 1)) rest left →
    GoesWrong node_lines (IsTakenTree unclosed (spare + 1)) text left
low_wrong unclosed spare text rest left room split h =
    lift_wrong node_lines (IsTakenTree unclosed (spare + 1)) node_lines (IsTakenTree unclosed (spare - 2 + 1)) (node_line (Split_node v)) rest text left (line_whole (Split_node v)) split.whole up down h
  where
    v : ℕ
    v = split.variable

    leaf : IsTakenTree unclosed 1 (Leaf [])
    leaf = one_leaf unclosed 0

    up : (w : Tree) → IsTakenTree unclosed (spare - 2 + 1) w → (t : Tree) × IsTakenTree unclosed (spare + 1) t × (more : List ℕ) × (node_lines t ≡ node_line (Split_node v) ++ (node_lines w ++ more))
    up w k = (
      Split v w (Leaf []),
      record {
        within = record { few = let n = split_count v w (Leaf []) in let m = k.within.few in omega arith; each = split_lines v w (Leaf []) split.short k.within.each leaf.within.each };
        stand = taken_split unclosed v w (Leaf []) k.stand leaf.stand;
      },
      node_lines (Leaf []),
      node_lines-Split v w (Leaf []),
    )

    down : (t : Tree) (x u : List ℕ) → IsTakenTree unclosed (spare + 1) t → node_lines t ++ x ≡ node_line (Split_node v) ++ u → (w : Tree) × IsTakenTree unclosed (spare - 2 + 1) w × (y : List ℕ) × (node_lines w ++ y ≡ u)
    down t x u k g =
        let s = split_down t v x u k.within.each split.short g in
        let hs = halves v s.low s.high (subst AreLines s.is k.within.each) in
        let ts = taken_halves unclosed v s.low s.high (subst (AreTaken unclosed) s.is k.stand) in (
          s.low,
          record {
            within = record { few = (let n = split_count v s.low s.high in let m = k.within.few in let c = ap (λ z. length (nodes_in z)) s.is in let b = some_node s.high in omega arith); each = hs.is_low };
            stand = ts.is_low;
          },
          node_lines s.high ++ x,
          s.rest,
        )

pub high_wrong : (unclosed : Bool) (spare : ℕ) (text rest behind : List ℕ) (over left : ℕ) → 2 ≤ spare → IsSplitLine text rest → BeginsTree unclosed (spare - 2) rest behind over → GoesWrong node_lines (IsTakenTree unclosed (over + 1)) behind left →
    GoesWrong node_lines (IsTakenTree unclosed (spare + 1)) text left
high_wrong unclosed spare text rest behind over left room split first h =
    lift_wrong node_lines (IsTakenTree unclosed (spare + 1)) node_lines (IsTakenTree unclosed (over + 1)) (node_line (Split_node v) ++ node_lines zero') behind text left
    (whole_lines (node_line (Split_node v)) (node_lines zero') (line_whole (Split_node v)) (lines_whole zero'))
    (split.whole ∙ ap (λ z. node_line (Split_node v) ++ z) first.whole ∙ sym (append_assoc (node_line (Split_node v)) (node_lines zero') behind)) up down h
  where
    v : ℕ
    v = split.variable

    zero' : Tree
    zero' = first.tree

    up : (w : Tree) → IsTakenTree unclosed (over + 1) w → (t : Tree) × IsTakenTree unclosed (spare + 1) t × (more : List ℕ) × (node_lines t ≡ (node_line (Split_node v) ++ node_lines zero') ++ (node_lines w ++ more))
    up w k = (
      Split v zero' w,
      record {
        within = record { few = let n = split_count v zero' w in let m = k.within.few in let c = first.count in omega arith; each = split_lines v zero' w split.short first.each k.within.each };
        stand = taken_split unclosed v zero' w first.stand k.stand;
      },
      [],
      node_lines-Split v zero' w ∙ sym (append_assoc (node_line (Split_node v)) (node_lines zero') (node_lines w)) ∙ ap (λ z. (node_line (Split_node v) ++ node_lines zero') ++ z) (sym (append-nil (node_lines w))),
    )

    down : (t : Tree) (x u : List ℕ) → IsTakenTree unclosed (spare + 1) t → node_lines t ++ x ≡ (node_line (Split_node v) ++ node_lines zero') ++ u → (w : Tree) × IsTakenTree unclosed (over + 1) w × (y : List ℕ) × (node_lines w ++ y ≡ u)
    down t x u k p =
        let s = split_down t v x (node_lines zero' ++ u) k.within.each split.short (p ∙ append_assoc (node_line (Split_node v)) (node_lines zero') u) in
        let hs = halves v s.low s.high (subst AreLines s.is k.within.each) in
        let ts = taken_halves unclosed v s.low s.high (subst (AreTaken unclosed) s.is k.stand) in
        let same = tree_once s.low zero' (node_lines s.high ++ x) u hs.is_low first.each s.rest in (
          s.high,
          record {
            within = record {
              few = (let n = split_count v s.low s.high in let m = k.within.few in let c = ap (λ z. length (nodes_in z)) s.is in let b = ap (λ z. length (nodes_in z)) same.tree in let d = first.count in omega arith);
              each = hs.is_high;
            };
            stand = ts.is_high;
          },
          x,
          same.rest,
        )

-- the whole split
pub joined : (unclosed : Bool) (spare : ℕ) (text rest behind more : List ℕ) (over left : ℕ) → 2 ≤ spare → IsSplitLine text rest → BeginsTree unclosed (spare - 2) rest behind over → BeginsTree unclosed over behind more left →
    BeginsTree unclosed spare text more left
joined unclosed spare text rest behind more over left room split first second = record {
  tree = Split v first.tree second.tree;
  whole = split.whole ∙ ap (λ z. node_line (Split_node v) ++ z) (first.whole ∙ ap (λ z. node_lines first.tree ++ z) second.whole ∙ sym (append_assoc (node_lines first.tree) (node_lines second.tree) more))
      ∙ sym (append_assoc (node_line (Split_node v)) (node_lines first.tree ++ node_lines second.tree) more) ∙ ap (λ z. z ++ more) (sym (node_lines-Split v first.tree second.tree));
  count = (let n = split_count v first.tree second.tree in let a = first.count in let b = second.count in omega arith);
  each = split_lines v first.tree second.tree split.short first.each second.each;
  stand = taken_split unclosed v first.tree second.tree first.stand second.stand;
}
  where
    v : ℕ
    v = split.variable
