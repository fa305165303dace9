use Rattle.std.proofs.Common.{sym, ◌∙◌, ap, arith}
use Rattle.path_regex.specs.Normal.{not_of}
use Rattle.path_regex.proofs.Shapes.{not_of-Not}
use Rattle.path_regex.proofs.Joined.{is-Not, part-Not}
use Rattle.path_regex.proofs.forms.Forms.not_of.Goals as goal

pub returns-in-Not-clause-value : goal.returns-in-Not-clause-value
returns-in-Not-clause-value c =
    let inner = part-Not _ _ _ c.node.ensures _ c.in-Not.is in
    let form = c.requires in
    (omega arith, sym (ap not_of (is-Not _ _ _ c.node.ensures _ c.in-Not.is) ∙ not_of-Not _))
