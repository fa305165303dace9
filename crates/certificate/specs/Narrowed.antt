-- A tree at a smaller cutoff.
use Rattle.std.specs.Prelude.{if◌then◌else◌}
use Rattle.merlin_model.specs.Programs.{Program, is_chosen}
use Rattle.merlin_model.specs.declared.certificate.Tree.{Tree, Leaf, Split, Split', Unclosed, end_of-Tree, more_of-Tree}

-- each split of a variable that may not be 1 is replaced by its part `zero`
abbrev pub narrowed : Program → Tree → Tree
narrowed program (Leaf weights) = Leaf weights
narrowed program (Split' variable _ (more_of-Tree low end_of-Tree) _ (more_of-Tree high end_of-Tree)) =
    if is_chosen program.upper variable then Split variable (narrowed program low) (narrowed program high) else narrowed program low
narrowed program Unclosed = Unclosed
