use Rattle.std.proofs.Common.{sym, ◌∙◌, ap}
use Rattle.path_regex.specs.Normal.{star_of}
use Rattle.path_regex.proofs.Shapes.{star_of-Star}
use Rattle.path_regex.proofs.Joined.{is-Star}
use Rattle.path_regex.proofs.forms.Forms.star_of.Goals as goal

pub returns-in-Star-clause-value : goal.returns-in-Star-clause-value
returns-in-Star-clause-value c =
    let is = is-Star _ _ _ c.node.ensures _ c.in-Star.is in
    (c.requires, is ∙ sym (ap star_of is ∙ star_of-Star _))
