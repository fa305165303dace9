use Rattle.std.proofs.Common.{◌+◌, ◌*◌}
use Rattle.path_regex.proofs.forms.Forms.+stepping.Given as goal

abbrev pub decreases-derivative : goal.decreases-derivative
decreases-derivative l = l.form * 2 + 1

abbrev pub decreases-derivatives : goal.decreases-derivatives
decreases-derivatives l = l.all * 2
