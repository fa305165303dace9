-- What a check of a tree answers.
use Rattle.std.specs.Prelude.{ℕ, ◌≡◌, ◌+◌, ◌<◌, ◌^◌, Bool, List, length, Option, Result, Ok, Err}
use Rattle.merlin_model.specs.Programs.{Program}
use Rattle.merlin_model.specs.Trees.{Refutes, FailsAt, nodes_of}
use Rattle.merlin_model.specs.declared.certificate.Tree.{Tree}

-- Each node is sound, or one is the first that fails. The number is that of the node after the tree, or of the one that fails, where it
-- can be counted.
abbrev pub IsTreeCheck : Program → Tree → List (Option Bool) → ℕ → Result ℕ ℕ → Type 0
IsTreeCheck program tree box at (Ok next) = Refutes program tree box × (at + length (nodes_of tree box) < 2 ^ 64 → next ≡ at + length (nodes_of tree box))
IsTreeCheck program tree box at (Err node) = (k : ℕ) × FailsAt program tree box k × (at + k < 2 ^ 64 → node ≡ at + k)
