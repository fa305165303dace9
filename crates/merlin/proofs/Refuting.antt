-- What is replied to a program and a tree: what is read, refuses or refutes is one.
use Rattle.std.proofs.Common.{◌≡◌, ℕ, zero, suc, List, [], ◌∷◌, Option, None, Some, slice_get, refl, subst}
use Rattle.std.specs.List.{AllByRecursion}
use Rattle.merlin_base.specs.declared.status.Status.TheVariants as status
use Rattle.merlin_model.specs.Programs.{Program}
use Rattle.merlin_model.specs.Trees.{Refutes, FailsAt, nodes_of, root_box}
use Rattle.merlin_model.specs.declared.certificate.Tree.{Tree}
use Rattle.merlin.specs.Refute.{IsProgramOf, IsTreeOf, AreRead, Checks, IsRefuteReply, refute_status}
use Rattle.merlin.specs.declared.refute.RefuteReply.{RefuteReply}
use Rattle.merlin.specs.declared.refute.RefuteReply.TheVariants.{BadProgram, BadTree, Refuted, NotRefuted}
use Rattle.merlin.proofs.Compiling.{of_two}

none_is : {X : Type 0} (x : X) → None ≡ Some x → ⊥
none_is x e = cc

at : {X : Type 0} (P : X → Type 0) (xs : List X) (k : ℕ) (x : X) → AllByRecursion P xs
    → slice_get xs k ≡ Some x → P x
at P [] k x all e = absurd (none_is x e)
at P (y ∷ xs) zero x all e = let same : y ≡ x = cc in subst P same all.0
at P (y ∷ xs) (suc k) x all e = at P xs k x all.1 e

-- a tree with a node that fails does not refute
fails_not : (program : Program) (tree : Tree) (box : List (Option _)) (k : ℕ)
    → FailsAt program tree box k → Refutes program tree box → ⊥
fails_not program tree box k fails refutes = fails.fails (at _ (nodes_of tree box) k fails.node refutes fails.stands)

-- what is true of the program and the tree that texts stand for is true of what was read
of_read : (P : Program → Tree → Type 0) (p t : List ℕ) (program other : Program) (tree twin : Tree)
    → IsProgramOf p program → IsTreeOf t tree → AreRead p t other twin → P program tree → P other twin
of_read P p t program other tree twin is_program is_tree read h =
    subst (λ x. P x twin) (read.one_program program is_program) (subst (λ y. P program y) (read.one_tree tree is_tree) h)

pub Checks-refuted : (p t : List ℕ) (program : Program) (tree : Tree) → IsProgramOf p program
    → IsTreeOf t tree → Refutes program tree (root_box program) → (r : RefuteReply) → Checks p t r
    → r ≡ Refuted
Checks-refuted p t program tree is_program is_tree refutes (BadProgram place) h = absurd (h.none program is_program.0 is_program.1)
Checks-refuted p t program tree is_program is_tree refutes (BadTree place) h = absurd (h.1.none tree is_tree.0 is_tree.1)
Checks-refuted p t program tree is_program is_tree refutes Refuted h = refl
Checks-refuted p t program tree is_program is_tree refutes (NotRefuted node) h =
    absurd (fails_not h.program h.tree (root_box h.program) node h.fails (of_read (λ x y. Refutes x y (root_box x)) p t program h.program tree h.tree is_program is_tree h.read refutes))

pub Checks-short : (p t : List ℕ) (program : Program) (tree : Tree) → IsProgramOf p program
    → IsTreeOf t tree → ¬ Refutes program tree (root_box program) → (r : RefuteReply) → Checks p t r
    → refute_status r ≡ status.CheckNo
Checks-short p t program tree is_program is_tree short (BadProgram place) h = absurd (h.none program is_program.0 is_program.1)
Checks-short p t program tree is_program is_tree short (BadTree place) h = absurd (h.1.none tree is_tree.0 is_tree.1)
Checks-short p t program tree is_program is_tree short Refuted h = absurd (of_read (λ x y. ¬ Refutes x y (root_box x)) p t program h.program tree h.tree is_program is_tree h.read short h.refutes)
Checks-short p t program tree is_program is_tree short (NotRefuted node) h = refl

-- two replies have one status

of_refuted : (p t : List ℕ) (r : RefuteReply) (refuted : Checks p t Refuted) → Checks p t r
    → r ≡ Refuted
of_refuted p t r h = Checks-refuted p t h.program h.tree h.read.is_program h.read.is_tree h.refutes r

of_not_refuted : (p t : List ℕ) (node : ℕ) (r : RefuteReply) → Checks p t (NotRefuted node)
    → Checks p t r → refute_status r ≡ status.CheckNo
of_not_refuted p t node r h = Checks-short p t h.program h.tree h.read.is_program h.read.is_tree (λ refutes. fails_not h.program h.tree (root_box h.program) node h.fails refutes) r

no_program : (p t : List ℕ) (place : ℕ) (r : RefuteReply) → Checks p t (BadProgram place)
    → Checks p t r → refute_status r ≡ status.Refused
no_program p t place (BadProgram other) wrong h = refl
no_program p t place (BadTree other) wrong h = refl
no_program p t place Refuted wrong h = absurd (wrong.none h.program h.read.is_program.0 h.read.is_program.1)
no_program p t place (NotRefuted node) wrong h = absurd (wrong.none h.program h.read.is_program.0 h.read.is_program.1)

no_tree : (p t : List ℕ) (place : ℕ) (r : RefuteReply) → Checks p t (BadTree place) → Checks p t r
    → refute_status r ≡ status.Refused
no_tree p t place (BadProgram other) wrong h = refl
no_tree p t place (BadTree other) wrong h = refl
no_tree p t place Refuted wrong h = absurd (wrong.1.none h.tree h.read.is_tree.0 h.read.is_tree.1)
no_tree p t place (NotRefuted node) wrong h = absurd (wrong.1.none h.tree h.read.is_tree.0 h.read.is_tree.1)

Checks-one : (p t : List ℕ) (r s : RefuteReply) → Checks p t r → Checks p t s
    → refute_status s ≡ refute_status r
Checks-one p t (BadProgram place) s h other = no_program p t place s h other
Checks-one p t (BadTree place) s h other = no_tree p t place s h other
Checks-one p t Refuted s h other = let same : s ≡ Refuted = of_refuted p t s h other in rw same refl
Checks-one p t (NotRefuted node) s h other = of_not_refuted p t node s h other

-- the same of what the files hold

pub IsRefuteReply-one : (contents : List (List ℕ)) (r s : RefuteReply) → IsRefuteReply contents r
    → IsRefuteReply contents s → refute_status s ≡ refute_status r
IsRefuteReply-one contents r s (p, t, e, h) (q, u, e', k) = Checks-one p t r s h (of_two (λ x y. Checks x y s) contents p t q u e e' k)

pub IsRefuteReply-checks : (p t : List ℕ) (r : RefuteReply) → IsRefuteReply (p ∷ t ∷ []) r
    → Checks p t r
IsRefuteReply-checks p t r (q, u, e, h) = of_two (λ x y. Checks x y r) (p ∷ t ∷ []) p t q u refl e h
