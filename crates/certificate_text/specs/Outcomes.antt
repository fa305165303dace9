-- What the readers of parts of a text answer.
use Rattle.std.specs.Prelude.{ℕ}
use Rattle.merlin_model.specs.Trees.{Node, Leaf_node, Split_node, Open_end}
use Rattle.certificate_text.specs.declared.fault.LineFault.{LineFault}
use Rattle.certificate_text.specs.declared.fault.LineFault.TheVariants.{Wrong, Memory}
use Rattle.certificate_text.specs.declared.line.Line.{Line}
use Rattle.certificate_text.specs.declared.line.Line.TheVariants.{Split, Leaf, Open}

-- nothing is said of want of memory
abbrev pub IsLineFault : (ℕ → Type 0) → LineFault → Type 0
IsLineFault IsWrong (Wrong left) = IsWrong left
IsLineFault IsWrong Memory = Unit {0}

abbrev pub node_of : Line → Node
node_of (Split variable) = Split_node variable
node_of (Leaf weights) = Leaf_node weights
node_of Open = Open_end
