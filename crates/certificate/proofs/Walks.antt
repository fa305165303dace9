-- The answers of the halves of a split give that of the split.
use Rattle.std.proofs.Common.{◌≡◌, ℕ, zero, suc, ◌+◌, ◌-◌, ◌≤◌, ◌<◌, ◌^◌, Bool, true, false, List, [], ◌∷◌, ◌++◌, map, length, length-append, length-set, min, take, replicate, Option, None, Some, Result, Ok, Err, get_or, slice_set, refl, sym, ◌∙◌, ap, subst, arith}
use Rattle.std.proofs.lemmas.List.{set-set, set-get_or}
use Rattle.std.proofs.lemmas.Option.{slice_get_within}
use Rattle.std.specs.List.{AllByRecursion, slice_get}
use Rattle.merlin_model.specs.declared.certificate.Weight.{Weight}
use Rattle.merlin_model.specs.declared.certificate.Tree.{Tree, Leaf, Split, Unclosed}
use Rattle.merlin_model.specs.Programs.{Program, variables}
use Rattle.merlin_model.specs.Trees.{fixed_at, fix, IsOpen, IsInBox, RefutesBox, Node, Leaf_node, Split_node, Open_end, nodes_of, nodes_of-Split, IsSoundNode, Refutes, FailsAt, root_box}
use Rattle.certificate.specs.Checks.{IsTreeCheck}
use Rattle.certificate.proofs.Narrowing.{split_refutes}

abbrev Nodes : Type 0
Nodes = List (List (Option Bool) × Node)

abbrev IsSound : Program → List (Option Bool) × Node → Type 0
IsSound program node = IsSoundNode program node.0 node.1

-- A node of a list that fails, with those before it sound.
pub record FailsIn (program : Program) (nodes : Nodes) (k : ℕ) : Type 0 where
  pub node : List (Option Bool) × Node
  pub stands : slice_get nodes k ≡ Some node
  pub fails : ¬ IsSoundNode program node.0 node.1
  pub before : AllByRecursion (IsSound program) (take k nodes)

fails_in : (program : Program) (tree : Tree) (box : List (Option Bool)) (k : ℕ) → FailsAt program tree box k → FailsIn program (nodes_of tree box) k
fails_in program tree box k f = record { node = f.node; stands = f.stands; fails = f.fails; before = f.before }

fails_at : (program : Program) (tree : Tree) (box : List (Option Bool)) (nodes : Nodes) (k : ℕ) → nodes_of tree box ≡ nodes → FailsIn program nodes k → FailsAt program tree box k
fails_at program tree box nodes k e f = record {
  node = f.node;
  stands = ap (λ ns. slice_get ns k) e ∙ f.stands;
  fails = f.fails;
  before = subst (λ ns. AllByRecursion (IsSound program) (take k ns)) (sym e) f.before;
}

fails_after : (program : Program) (node : List (Option Bool) × Node) (nodes : Nodes) (k : ℕ) → IsSound program node → FailsIn program nodes k → FailsIn program (node ∷ nodes) (suc k)
fails_after program node nodes k sound f = record { node = f.node; stands = f.stands; fails = f.fails; before = (sound, f.before) }

fails_in_front : (program : Program) (xs ys : Nodes) (k : ℕ) → FailsIn program xs k → FailsIn program (xs ++ ys) k
fails_in_front program [] ys k f = absurd (let no_way : None ≡ Some f.node → ⊥ = λ e. cc in no_way f.stands)
fails_in_front program (x ∷ xs) ys zero f = record { node = f.node; stands = f.stands; fails = f.fails; before = tt }
fails_in_front program (x ∷ xs) ys (suc k) f =
    fails_after program x (xs ++ ys) k f.before.0 (fails_in_front program xs ys k (record { node = f.node; stands = f.stands; fails = f.fails; before = f.before.1 }))

fails_behind : (program : Program) (xs ys : Nodes) (k : ℕ) → AllByRecursion (IsSound program) xs → FailsIn program ys k → FailsIn program (xs ++ ys) (length xs + k)
fails_behind program [] ys k sound f = subst (FailsIn program ys) (let e : k ≡ 0 + k = omega arith in e) f
fails_behind program (x ∷ xs) ys k sound f =
    subst (FailsIn program (x ∷ (xs ++ ys))) (let e : suc (length xs + k) ≡ suc (length xs) + k = omega arith in e)
    (fails_after program x (xs ++ ys) (length xs + k) sound.0 (fails_behind program xs ys k sound.1 f))

-- a list with a node that fails isn't all sound
all_sound : (program : Program) (nodes : Nodes) (k : ℕ) → FailsIn program nodes k → AllByRecursion (IsSound program) nodes → ⊥
all_sound program [] k f sound = let no_way : None ≡ Some f.node → ⊥ = λ e. cc in no_way f.stands
all_sound program (x ∷ xs) zero f sound = let same : x ≡ f.node = cc in f.fails (subst (IsSound program) same sound.0)
all_sound program (x ∷ xs) (suc k) f sound = all_sound program xs k (record { node = f.node; stands = f.stands; fails = f.fails; before = f.before.1 }) sound.1

-- The answers, case by case.

pub leaf_sound : (program : Program) (tree : Tree) (weights : List Weight) (box : List (Option Bool)) (at next : ℕ) → tree ≡ Leaf weights → RefutesBox program box weights → (at + 1 < 2 ^ 64 → next ≡ at + 1) → IsTreeCheck program tree box at (Ok next)
leaf_sound program tree weights box at next e refutes counts = subst (λ t. IsTreeCheck program t box at (Ok next)) (sym e) ((refutes, tt), λ h. counts h)

pub leaf_fails : (program : Program) (tree : Tree) (weights : List Weight) (box : List (Option Bool)) (at : ℕ) → tree ≡ Leaf weights → (RefutesBox program box weights → ⊥) → IsTreeCheck program tree box at (Err at)
leaf_fails program tree weights box at e fails = subst (λ t. IsTreeCheck program t box at (Err at)) (sym e)
    (0, record { node = (box, Leaf_node weights); stands = refl; fails = fails; before = tt }, λ h. omega arith)

pub end_fails : (program : Program) (tree : Tree) (box : List (Option Bool)) (at : ℕ) → tree ≡ Unclosed → IsTreeCheck program tree box at (Err at)
end_fails program tree box at e = subst (λ t. IsTreeCheck program t box at (Err at)) (sym e)
    (0, record { node = (box, Open_end); stands = refl; fails = λ h. h; before = tt }, λ h. omega arith)

pub split_fails : (program : Program) (tree low high : Tree) (variable : ℕ) (box : List (Option Bool)) (at : ℕ) → tree ≡ Split variable low high → (IsOpen program box variable → ⊥) → IsTreeCheck program tree box at (Err at)
split_fails program tree low high variable box at e fails = subst (λ t. IsTreeCheck program t box at (Err at)) (sym e)
    (0, fails_at program (Split variable low high) box _ 0 (nodes_of-Split variable low high box) (record { node = (box, Split_node variable); stands = refl; fails = fails; before = tt }), λ h. omega arith)

pub low_fails : (program : Program) (tree low high : Tree) (variable : ℕ) (box : List (Option Bool)) (at first node : ℕ) → tree ≡ Split variable low high → IsOpen program box variable → (at + 1 < 2 ^ 64 → first ≡ at + 1) →
    IsTreeCheck program low (fix box variable false) first (Err node) → IsTreeCheck program tree box at (Err node)
low_fails program tree low high variable box at first node e o counts answer = subst (λ t. IsTreeCheck program t box at (Err node)) (sym e) (
  suc answer.0,
  fails_at program (Split variable low high) box _ (suc answer.0) (nodes_of-Split variable low high box)
      (fails_after program (box, Split_node variable) _ answer.0 o (fails_in_front program (nodes_of low (fix box variable false)) (nodes_of high (fix box variable true)) answer.0 (fails_in program low (fix box variable false) answer.0 answer.1))),
  λ h. let a = counts (omega arith) in let b = answer.2 (omega arith) in omega arith,
)

pub high_answers : (program : Program) (tree low high : Tree) (variable : ℕ) (box : List (Option Bool)) (at first next : ℕ) (answer : Result ℕ ℕ) → tree ≡ Split variable low high → IsOpen program box variable → (at + 1 < 2 ^ 64 → first ≡ at + 1) →
    IsTreeCheck program low (fix box variable false) first (Ok next) → IsTreeCheck program high (fix box variable true) next answer → IsTreeCheck program tree box at answer
high_answers program tree low high variable box at first next (Ok last) e o counts l h = subst (λ t. IsTreeCheck program t box at (Ok last)) (sym e) (
  split_refutes program variable low high box o l.0 h.0,
  λ small.
      let size : length (nodes_of (Split variable low high) box) ≡ 1 + length (nodes_of low (fix box variable false)) + length (nodes_of high (fix box variable true)) =
      ap length (nodes_of-Split variable low high box) ∙ (let n = length-append (nodes_of low (fix box variable false)) (nodes_of high (fix box variable true)) in omega arith) in
      let a = counts (omega arith) in let b = l.1 (omega arith) in let c = h.1 (omega arith) in omega arith,
)
high_answers program tree low high variable box at first next (Err node) e o counts l h = subst (λ t. IsTreeCheck program t box at (Err node)) (sym e) (
  suc (length (nodes_of low (fix box variable false)) + h.0),
  fails_at program (Split variable low high) box _ (suc (length (nodes_of low (fix box variable false)) + h.0)) (nodes_of-Split variable low high box)
      (fails_after program (box, Split_node variable) _ (length (nodes_of low (fix box variable false)) + h.0) o
      (fails_behind program (nodes_of low (fix box variable false)) (nodes_of high (fix box variable true)) h.0 l.0 (fails_in program high (fix box variable true) h.0 h.1))),
  λ small. let a = counts (omega arith) in let b = l.1 (omega arith) in let c = h.2 (omega arith) in omega arith,
)

-- At the root.

pub answer_refutes : (program : Program) (tree : Tree) (box : List (Option Bool)) (k : ℕ) → FailsAt program tree box k → ¬ Refutes program tree box
answer_refutes program tree box k f refutes = all_sound program (nodes_of tree box) k (fails_in program tree box k f) refutes

pub first_fault : (program : Program) (tree : Tree) (box : List (Option Bool)) (node : ℕ) → IsTreeCheck program tree box 0 (Err node) → length (nodes_of tree box) ≤ 2 ^ 64 → FailsAt program tree box node
first_fault program tree box node answer few =
    let within = slice_get_within (nodes_of tree box) answer.0 answer.1.node answer.1.stands in
    let named : node ≡ answer.0 = let e = answer.2 (omega arith) in omega arith in
    subst (FailsAt program tree box) (sym named) answer.1

-- Boxes.

pub root_is : (program : Program) (n : ℕ) → n ≡ variables program → replicate n None ≡ root_box program
root_is program n e = ap (λ k. replicate k None) e ∙ by program.upper
  where
    by : (us : List Bool) → replicate (length us) None ≡ map (λ (u : Bool). let o : Option Bool = None in o) us
    by [] = refl
    by (u ∷ us) = ap (λ xs. None ∷ xs) (by us)

pub set_back : (box : List (Option Bool)) (variable : ℕ) (to : Option Bool) → fixed_at box variable ≡ None → slice_set (slice_set box variable to) variable None ≡ box
set_back box variable to none = set-set box variable to None ∙ ap (slice_set box variable) (sym none) ∙ set-get_or box variable None

some_none : {X : Type 0} {x : X} → None ≡ Some x → ⊥
some_none e = cc

none_at : (us : List Bool) (v : ℕ) → get_or (map (λ (u : Bool). let o : Option Bool = None in o) us) v None ≡ None
none_at [] v = refl
none_at (u ∷ us) zero = refl
none_at (u ∷ us) (suc v) = none_at us v

pub in_root : (program : Program) (point : List Bool) → IsInBox (root_box program) point
in_root program point v to e = absurd (some_none (sym (none_at program.upper v) ∙ e))

-- a variable is fixed, the box comes back, and the variable is set free
pub back : (box fixed after freed : List (Option Bool)) (variable : ℕ) (to : Option Bool) → fixed_at box variable ≡ None → fixed ≡ slice_set box variable to → after ≡ fixed → freed ≡ slice_set after variable None → freed ≡ box
back box fixed after freed variable to none e f g = g ∙ ap (λ xs. slice_set xs variable None) (f ∙ e) ∙ set_back box variable to none

pub long : (box fixed after : List (Option Bool)) (variable : ℕ) (to : Option Bool) → fixed ≡ slice_set box variable to → after ≡ fixed → variable < length box → variable < length after
long box fixed after variable to e f h = subst (λ xs. variable < length xs) (sym (f ∙ e)) (let n = length-set box variable to in omega arith)

-- counting stops at the greatest number
pub counts_on : (at next : ℕ) → next ≡ min (at + 1) (2 ^ 64 - 1) → at + 1 < 2 ^ 64 → next ≡ at + 1
counts_on at next e h = omega arith
