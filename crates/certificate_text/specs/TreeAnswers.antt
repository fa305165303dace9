-- Why a text is no tree.
use Rattle.std.specs.Prelude.{ℕ, List}
use Rattle.certificate_text.specs.declared.tree.TreeTextFault.{TreeTextFault}
use Rattle.certificate_text.specs.declared.tree.TreeTextFault.TheVariants.{BadTree, OutOfMemory}
use Rattle.merlin_base.specs.Faults.{IsFirstWrongLine}
use Rattle.certificate_text.specs.TreeTexts.{tree_text, IsTreeText}

-- the first wrong line; nothing is said of want of memory
abbrev pub IsTreeFault : List ℕ → TreeTextFault → Type 0
IsTreeFault text (BadTree at) = IsFirstWrongLine tree_text IsTreeText text at
IsTreeFault text OutOfMemory = Unit {0}
