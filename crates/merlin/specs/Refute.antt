-- The command `refute`.
use Rattle.std.specs.Prelude.{◌≡◌, ◌++◌, ℕ, Bool, List, [], ◌∷◌, codes}
use Rattle.std.specs.Fmt.{decimal}
use Rattle.merlin_base.specs.declared.status.Status.{Status}
use Rattle.merlin_base.specs.declared.status.Status.TheVariants as status
use Rattle.merlin_model.specs.Programs.{Program, IsSolution}
use Rattle.merlin_model.specs.Trees.{Refutes, FailsAt, root_box}
use Rattle.merlin_model.specs.declared.certificate.Tree.{Tree}
use Rattle.config_text.specs.Words.{line}
use Rattle.merlin_base.specs.Faults.{IsFirstWrongLine}
use Rattle.certificate_text.specs.ProgramTexts.{program_text, IsProgramText}
use Rattle.certificate_text.specs.TreeTexts.{tree_text, IsTreeText}
use Rattle.merlin.specs.declared.reading.TheConstants.{TEXT_LIMIT}
use Rattle.merlin.specs.declared.refute.TheConstants.{TREE_LIMIT}
use Rattle.merlin.specs.declared.refute.Refute.{Refute}
use Rattle.merlin.specs.declared.refute.RefuteReply.{RefuteReply}
use Rattle.merlin.specs.declared.refute.RefuteReply.TheVariants.{BadProgram, BadTree, Refuted, NotRefuted}

-- Its words and its files.

pub record RefuteForm : Type 0 where
  pub program : List ℕ
  pub tree : List ℕ

abbrev pub refute_form : Refute → RefuteForm
refute_form words = record { program = words.program.now; tree = words.tree.now }

abbrev pub IsRefuteForm : List (List ℕ) → RefuteForm → Type 0
IsRefuteForm words form = words ≡ codes "refute" ∷ form.program ∷ form.tree ∷ []

abbrev pub refute_files : RefuteForm → List (List ℕ × ℕ)
refute_files form = (form.program, TEXT_LIMIT) ∷ (form.tree, TREE_LIMIT) ∷ []

-- What each reply means of the program and the tree.

-- the text stands for this program, or for this tree
abbrev pub IsProgramOf : List ℕ → Program → Type 0
IsProgramOf text program = IsProgramText program × (text ≡ program_text program)

abbrev pub IsTreeOf : List ℕ → Tree → Type 0
IsTreeOf text tree = IsTreeText tree × (text ≡ tree_text tree)

-- the texts stand for this program and this tree, and for no others
pub record AreRead (program_bytes tree_bytes : List ℕ) (program : Program) (tree : Tree)
    : Type 0 where
  pub is_program : IsProgramOf program_bytes program
  pub is_tree : IsTreeOf tree_bytes tree
  pub one_program : (other : Program) → IsProgramOf program_bytes other → other ≡ program
  pub one_tree : (other : Tree) → IsTreeOf tree_bytes other → other ≡ tree

-- The tree of the one text refutes the program of the other, and that program has no solution.
pub record IsRefuted (program_bytes tree_bytes : List ℕ) : Type 0 where
  pub program : Program
  pub tree : Tree
  pub read : AreRead program_bytes tree_bytes program tree
  pub refutes : Refutes program tree (root_box program)
  pub none : (point : List Bool) → ¬ IsSolution program point

-- This node of the tree is the first, in preorder, that fails.
pub record IsNotRefuted (program_bytes tree_bytes : List ℕ) (node : ℕ) : Type 0 where
  pub program : Program
  pub tree : Tree
  pub read : AreRead program_bytes tree_bytes program tree
  pub fails : FailsAt program tree (root_box program) node

-- the first wrong line of the program, or else of the tree; then the verdict
abbrev pub Checks : List ℕ → List ℕ → RefuteReply → Type 0
Checks program tree (BadProgram at) = IsFirstWrongLine program_text IsProgramText program at
Checks program tree (BadTree at) =
    ((stated : Program) × IsProgramOf program stated) × IsFirstWrongLine tree_text IsTreeText tree at
Checks program tree Refuted = IsRefuted program tree
Checks program tree (NotRefuted node) = IsNotRefuted program tree node

abbrev pub IsRefuteReply : List (List ℕ) → RefuteReply → Type 0
IsRefuteReply contents reply = (program tree : List ℕ)
    × (contents ≡ program ∷ tree ∷ []) × Checks program tree reply

-- Its lines and its status.

abbrev pub refute_lines : RefuteReply → List (List ℕ)
refute_lines (BadProgram at) = line (codes "refused: program at " ++ decimal at) ∷ []
refute_lines (BadTree at) = line (codes "refused: tree at " ++ decimal at) ∷ []
refute_lines Refuted = line (codes "refuted") ∷ []
refute_lines (NotRefuted node) = line (codes "no " ++ decimal node) ∷ []

abbrev pub refute_status : RefuteReply → Status
refute_status (BadProgram at) = status.Refused
refute_status (BadTree at) = status.Refused
refute_status Refuted = status.Done
refute_status (NotRefuted node) = status.CheckNo
